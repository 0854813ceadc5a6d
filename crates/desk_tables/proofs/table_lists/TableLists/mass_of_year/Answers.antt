use Rattle.std.proofs.Common.{◌≡◌, ◌∙◌, ◌*◌, true, ap, sym, subst, sum_by}
use Rattle.std.specs.List.{AllByRecursion}
use Rattle.std.specs.Ordering.{nat_cmp}
use Rattle.desk_rows.specs.Runs.{IsOneRun}
use Rattle.desk_model.specs.Lists.{is_part}
use Rattle.desk_findings.specs.Mass.{mass}
use Rattle.desk_findings.specs.Tonnage.{shipments_in}
use Rattle.desk_findings.proofs.Groups.{shipments_together}
use Rattle.desk_totals.specs.Fit.{fit}
use Rattle.desk_tables.proofs.HeavyYears.{products_of_year}
use Rattle.desk_tables.proofs.table_lists.TableLists.mass_of_year.Goals as goal

pub mass_of_shipments-requires-clause-products : goal.mass_of_shipments-requires-clause-products
mass_of_shipments-requires-clause-products c =
    let t = c.args.self.now in
    let year = c.args.year in
    let together = subst (λ rows. IsOneRun (λ shipment. shipment.year) nat_cmp year rows (shipments_in t year)) (sym c.shipments.ensures) (shipments_together t c.requires.consistent.ordered year) in
    subst (AllByRecursion (λ shipment. is_part t shipment.product ≡ true)) (sym (c.run_of.ensures (shipments_in t year) together)) (products_of_year t c.requires.consistent year)

pub returns : goal.returns
returns c =
    let t = c.args.self.now in
    let year = c.args.year in
    let together = subst (λ rows. IsOneRun (λ shipment. shipment.year) nat_cmp year rows (shipments_in t year)) (sym c.shipments.ensures) (shipments_together t c.requires.consistent.ordered year) in
    c.mass_of_shipments.ensures ∙ ap (λ shipments. fit (sum_by (λ shipment. shipment.units * mass t shipment.product) shipments)) (c.run_of.ensures (shipments_in t year) together)
