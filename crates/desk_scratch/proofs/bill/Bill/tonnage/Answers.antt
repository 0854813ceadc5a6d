use Rattle.std.proofs.Common.{◌≡◌, ◌*◌, ◌^◌, ◌<◌, ◌∙◌, true, sym, ap, subst, sum_by}
use Rattle.std.specs.List.{AllByRecursion}
use Rattle.std.specs.Ordering.{nat_cmp}
use Rattle.desk_rows.specs.Runs.{IsOneRun}
use Rattle.desk_model.specs.Lists.{is_part}
use Rattle.desk_findings.specs.Carried.{carried}
use Rattle.desk_findings.specs.Tonnage.{shipments_in, tonnage}
use Rattle.desk_findings.proofs.Groups.{shipments_together}
use Rattle.desk_tables.proofs.HeavyYears.{products_of_year}
use Rattle.desk_scratch.proofs.Years.{tonnage_light}
use Rattle.desk_scratch.proofs.bill.Bill.tonnage.Goals as goal

pub tonnage_of-requires-clause-loads : goal.tonnage_of-requires-clause-loads
tonnage_of-requires-clause-loads c =
    let t = c.args.self.now in
    let s = c.tables.ensures.sound in
    let together = subst (λ rows. IsOneRun (λ shipment. shipment.year) nat_cmp c.args.year rows (shipments_in t c.args.year)) (sym (c.shipments.ensures ∙ ap (λ u. u.shipments) c.tables.ensures.lists)) (shipments_together t s.consistent.ordered c.args.year) in
    let run = c.run_of.ensures (shipments_in t c.args.year) together in
    (c.requires.0, c.requires.1, subst (λ rows. sum_by (λ shipment. shipment.units * carried t c.requires.0 shipment.product) rows < 2 ^ 128) (sym run) (tonnage_light t s c.args.year c.requires.0))

pub tonnage_of-requires-clause-products : goal.tonnage_of-requires-clause-products
tonnage_of-requires-clause-products c =
    let t = c.args.self.now in
    let s = c.tables.ensures.sound in
    let together = subst (λ rows. IsOneRun (λ shipment. shipment.year) nat_cmp c.args.year rows (shipments_in t c.args.year)) (sym (c.shipments.ensures ∙ ap (λ u. u.shipments) c.tables.ensures.lists)) (shipments_together t s.consistent.ordered c.args.year) in
    subst (AllByRecursion (λ shipment. is_part t shipment.product ≡ true)) (sym (c.run_of.ensures (shipments_in t c.args.year) together)) (products_of_year t s.consistent c.args.year)

pub returns : goal.returns
unfolding tonnage
returns c = λ substance are.
    let t = c.args.self.now in
    let s = c.tables.ensures.sound in
    let together = subst (λ rows. IsOneRun (λ shipment. shipment.year) nat_cmp c.args.year rows (shipments_in t c.args.year)) (sym (c.shipments.ensures ∙ ap (λ u. u.shipments) c.tables.ensures.lists)) (shipments_together t s.consistent.ordered c.args.year) in
    c.tonnage_of.ensures substance are ∙ ap (sum_by (λ shipment. shipment.units * carried t substance shipment.product)) (c.run_of.ensures (shipments_in t c.args.year) together)
