use Rattle.std.proofs.Common.{◌≡◌, ◌*◌, ◌^◌, ◌<◌, ◌∙◌, length, true, sym, ap, arith, subst, sum_by}
use Rattle.std.specs.Prelude.{slice_index_or}
use Rattle.std.specs.List.{AllByRecursion}
use Rattle.std.specs.Ordering.{nat_cmp}
use Rattle.desk_rows.specs.Runs.{IsOneRun}
use Rattle.desk_graph.specs.Graph.{label_of}
use Rattle.desk_model.specs.Lists.{is_part}
use Rattle.desk_findings.specs.Carried.{carried}
use Rattle.desk_findings.specs.Tonnage.{shipments_in, tonnage}
use Rattle.desk_findings.proofs.Groups.{shipments_together}
use Rattle.desk_tables.proofs.HeavyYears.{products_of_year}
use Rattle.desk_scratch.proofs.Years.{tonnage_light}
use Rattle.desk_engine.proofs.Sums.{written}
use Rattle.desk_engine.proofs.stored_loads.named_tonnages.Goals as goal

pub add_shipments-requires-clause-products : goal.add_shipments-requires-clause-products
add_shipments-requires-clause-products c =
    let t = c.args.tables.now.lists in
    let s = c.requires.sound in
    let together = subst (λ rows. IsOneRun (λ shipment. shipment.year) nat_cmp c.args.year rows (shipments_in t c.args.year)) (sym c.shipments.ensures) (shipments_together t s.consistent.ordered c.args.year) in
    subst (AllByRecursion (λ shipment. is_part t shipment.product ≡ true)) (sym (c.run_of.ensures (shipments_in t c.args.year) together)) (products_of_year t s.consistent c.args.year)

pub add_shipments-requires-clause-light : goal.add_shipments-requires-clause-light
add_shipments-requires-clause-light c = λ substance.
    let t = c.args.tables.now.lists in
    let s = c.requires.sound in
    let together = subst (λ rows. IsOneRun (λ shipment. shipment.year) nat_cmp c.args.year rows (shipments_in t c.args.year)) (sym c.shipments.ensures) (shipments_together t s.consistent.ordered c.args.year) in
    subst (λ rows. sum_by (λ shipment. shipment.units * carried t substance shipment.product) rows < 2 ^ 128) (sym (c.run_of.ensures (shipments_in t c.args.year) together)) (tonnage_light t s c.args.year substance)

pub returns-clause-sums : goal.returns-clause-sums
unfolding tonnage
returns-clause-sums c = λ place low.
    let t = c.args.tables.now.lists in
    let s = c.requires.sound in
    let together = subst (λ rows. IsOneRun (λ shipment. shipment.year) nat_cmp c.args.year rows (shipments_in t c.args.year)) (sym c.shipments.ensures) (shipments_together t s.consistent.ordered c.args.year) in
    let long : c.in_ok-sums.sums.len ≡ length c.in_ok-sums.sums.items = sym c.as_mut_slice.ensures.len ∙ ap length c.as_mut_slice.ensures.value in
    ap (λ sums. slice_index_or sums place 0)
    (written c.add_shipments.new.sums c.in_ok-sums.sums.items c.in_ok-sums.sums.len long (omega (arith, long, c.add_shipments.ensures.size, c.in_ok-sums.ensures.len, ap length c.as_slice.ensures)))
    ∙ c.add_shipments.ensures.sums place low
    ∙ ap (sum_by (λ shipment. shipment.units * carried t (label_of c.args.stored.now.names place) shipment.product)) (c.run_of.ensures (shipments_in t c.args.year) together)
