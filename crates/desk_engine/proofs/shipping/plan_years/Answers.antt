use Rattle.std.proofs.Common.{◌∙◌, ℕ, IfErr, IfOk, ap, arith, subst, sym}
use Rattle.std.specs.Prelude.{if◌then◌else◌}
use Rattle.desk_model.specs.Effect.{with_edit_entered}
use Rattle.desk_tonnage.specs.Edits.{HasMass, with_entry_units}
use Rattle.desk_tonnage.specs.Masses.{with_masses}
use Rattle.desk_bridge.specs.Bridge.{IsBillOf}
use Rattle.desk_engine.specs.Masses.{AreAllWeighed, AreWeights}
use Rattle.desk_engine.specs.Years.{IsYearsFault, LeavesEntries}
use Rattle.desk_engine.proofs.Planned.{planned_codes, planned_labels}
use Rattle.desk_engine.proofs.Shipped.{adds_change, adds_units, leaves_shipments, takes_units}
use Rattle.desk_engine.proofs.Weights.{reweighed, stored_masses}
use Rattle.desk_engine.proofs.shipping.plan_years.Goals as goal

pub mass_of-mass-requires-clause-masses : goal.mass_of-mass-requires-clause-masses
mass_of-mass-requires-clause-masses g c = stored_masses c.args.new.now.tables.now.lists c.requires.sound c.args.stored.now c.node_count.ensures.bill c.requires.stored

pub mass_of-mass-requires-clause-kept : goal.mass_of-mass-requires-clause-kept
mass_of-mass-requires-clause-kept g c = (adds_units c.args.new.now.tables.now.lists c.requires.sound c.args.new.now.edit.now c.in-Adds.year c.in-Adds.product c.in-Adds.units (sym c.shipping_of.ensures ∙ c.in-Adds.is) c.requires.passes c.args.stored.now.years.entries c.requires.stored.of.years).kept

pub plan_adding-requires-clause-some : goal.plan_adding-requires-clause-some
plan_adding-requires-clause-some g c = (adds_units c.args.new.now.tables.now.lists c.requires.sound c.args.new.now.edit.now c.in-Adds.year c.in-Adds.product c.in-Adds.units (sym c.shipping_of.ensures ∙ c.in-Adds.is) c.requires.passes c.args.stored.now.years.entries c.requires.stored.of.years).some

pub plan_adding-requires-clause-mass : goal.plan_adding-requires-clause-mass
plan_adding-requires-clause-mass g c =
    subst (λ mass. HasMass c.in-Adds.year c.in-Adds.product mass c.args.stored.now.years.entries) (sym c.mass_of-mass.ensures.mass) (adds_units c.args.new.now.tables.now.lists c.requires.sound c.args.new.now.edit.now c.in-Adds.year c.in-Adds.product c.in-Adds.units (sym c.shipping_of.ensures ∙ c.in-Adds.is) c.requires.passes c.args.stored.now.years.entries c.requires.stored.of.years).weighs

pub plan_adding-requires-clause-fits : goal.plan_adding-requires-clause-fits
plan_adding-requires-clause-fits g c = (adds_units c.args.new.now.tables.now.lists c.requires.sound c.args.new.now.edit.now c.in-Adds.year c.in-Adds.product c.in-Adds.units (sym c.shipping_of.ensures ∙ c.in-Adds.is) c.requires.passes c.args.stored.now.years.entries c.requires.stored.of.years).fits

pub plan_taking-requires : goal.plan_taking-requires
plan_taking-requires g c = (takes_units c.args.new.now.tables.now.lists c.requires.sound c.args.new.now.edit.now c.in-Takes.year c.in-Takes.product c.in-Takes.units (sym c.shipping_of.ensures ∙ c.in-Takes.is) c.requires.passes c.args.stored.now.years.entries c.requires.stored.of.years).enough

pub masses_of-requires-clause-grows : goal.masses_of-requires-clause-grows
masses_of-requires-clause-grows g c = (c.args.plan.now.labels, ap (λ bill. bill.labels) c.new-after.ensures ∙ planned_labels c.args.plan.now c.args.stored.now.bill)

pub masses_of-requires-clause-codes : goal.masses_of-requires-clause-codes
masses_of-requires-clause-codes g c =
    planned_codes c.args.new.now.tables.now.lists c.args.new.now.edit.now c.requires.sound c.requires.passes c.new-after.result
    (subst (IsBillOf (with_edit_entered c.args.new.now.tables.now.lists c.args.new.now.edit.now)) (sym c.new-after.ensures) c.requires.rolled.1.values.bridge.of)

pub returns-in-Adds-clause-plan : goal.returns-in-Adds-clause-plan
returns-in-Adds-clause-plan g c =
    subst (λ entries. IfOk c.plan_adding.result (λ plan. LeavesEntries c.args.stored.now.years entries plan))
    (ap (λ mass. with_entry_units c.in-Adds.year c.in-Adds.product c.in-Adds.units mass c.args.stored.now.years.entries) c.mass_of-mass.ensures.mass ∙ sym (adds_units c.args.new.now.tables.now.lists c.requires.sound c.args.new.now.edit.now c.in-Adds.year c.in-Adds.product c.in-Adds.units (sym c.shipping_of.ensures ∙ c.in-Adds.is) c.requires.passes c.args.stored.now.years.entries c.requires.stored.of.years).after)
    c.plan_adding.ensures.plan

pub returns-in-Adds-clause-fault : goal.returns-in-Adds-clause-fault
returns-in-Adds-clause-fault g c =
    subst (λ entries. IfErr c.plan_adding.result (λ fault. IsYearsFault entries fault))
    (ap (λ mass. with_entry_units c.in-Adds.year c.in-Adds.product c.in-Adds.units mass c.args.stored.now.years.entries) c.mass_of-mass.ensures.mass ∙ sym (adds_units c.args.new.now.tables.now.lists c.requires.sound c.args.new.now.edit.now c.in-Adds.year c.in-Adds.product c.in-Adds.units (sym c.shipping_of.ensures ∙ c.in-Adds.is) c.requires.passes c.args.stored.now.years.entries c.requires.stored.of.years).after)
    c.plan_adding.ensures.fault

pub returns-in-Takes-clause-plan : goal.returns-in-Takes-clause-plan
returns-in-Takes-clause-plan g c =
    subst (λ entries. LeavesEntries c.args.stored.now.years entries c.plan_taking.result) (sym (takes_units c.args.new.now.tables.now.lists c.requires.sound c.args.new.now.edit.now c.in-Takes.year c.in-Takes.product c.in-Takes.units (sym c.shipping_of.ensures ∙ c.in-Takes.is) c.requires.passes c.args.stored.now.years.entries c.requires.stored.of.years).after) c.plan_taking.ensures

pub returns-in_ok-masses-in-Leaves-clause-plan : goal.returns-in_ok-masses-in-Leaves-clause-plan
returns-in_ok-masses-in-Leaves-clause-plan g c =
    subst (λ entries. IfOk c.plan_weighing.result (λ plan. LeavesEntries c.args.stored.now.years entries plan)) (sym (reweighed c.args.new.now.tables.now.lists c.args.new.now.edit.now c.requires.sound c.requires.passes c.args.stored.now c.requires.stored c.args.plan.now c.requires.rolled.0 c.args.rollups.now c.requires.rolled.1 c.in_ok-masses-in-Leaves.masses.rows
    (subst (λ bill. AreWeights bill.labels c.args.rollups.now c.in_ok-masses-in-Leaves.masses.rows) c.new-after.ensures c.in_ok-masses-in-Leaves.ensures.weights)
    (subst (λ bill. AreAllWeighed c.args.new.now.tables.now.lists bill.labels c.args.rollups.now.nodes c.in_ok-masses-in-Leaves.masses.rows) c.new-after.ensures c.in_ok-masses-in-Leaves.ensures.all)
    (leaves_shipments c.args.new.now.edit.now (sym c.shipping_of.ensures ∙ c.in-Leaves.is)) ∙ ap (with_masses c.in_ok-masses-in-Leaves.masses.rows) (sym c.requires.stored.of.years)))
    c.plan_weighing.ensures.plan

pub returns-in_ok-masses-in-Leaves-clause-fault : goal.returns-in_ok-masses-in-Leaves-clause-fault
returns-in_ok-masses-in-Leaves-clause-fault g c =
    subst (λ entries. IfErr c.plan_weighing.result (λ fault. IsYearsFault entries fault)) (sym (reweighed c.args.new.now.tables.now.lists c.args.new.now.edit.now c.requires.sound c.requires.passes c.args.stored.now c.requires.stored c.args.plan.now c.requires.rolled.0 c.args.rollups.now c.requires.rolled.1 c.in_ok-masses-in-Leaves.masses.rows
    (subst (λ bill. AreWeights bill.labels c.args.rollups.now c.in_ok-masses-in-Leaves.masses.rows) c.new-after.ensures c.in_ok-masses-in-Leaves.ensures.weights)
    (subst (λ bill. AreAllWeighed c.args.new.now.tables.now.lists bill.labels c.args.rollups.now.nodes c.in_ok-masses-in-Leaves.masses.rows) c.new-after.ensures c.in_ok-masses-in-Leaves.ensures.all)
    (leaves_shipments c.args.new.now.edit.now (sym c.shipping_of.ensures ∙ c.in-Leaves.is)) ∙ ap (with_masses c.in_ok-masses-in-Leaves.masses.rows) (sym c.requires.stored.of.years)))
    c.plan_weighing.ensures.fault

pub returns-in-Adds-clause-steps : goal.returns-in-Adds-clause-steps
returns-in-Adds-clause-steps g c =
    let one = ap {B = ℕ} (λ b. if b then 1 else 0) (adds_change c.args.new.now.edit.now c.in-Adds.year c.in-Adds.product c.in-Adds.units (sym c.shipping_of.ensures ∙ c.in-Adds.is)) in
    omega (arith, c.mass_of-mass.ensures.steps, one)
