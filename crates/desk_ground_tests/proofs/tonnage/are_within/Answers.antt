use Rattle.std.proofs.Common.{◌≤◌, List, sym, subst, arith}
use Rattle.std.specs.List.{AllByRecursion}
use Rattle.std.proofs.lemmas.List.{at_drop_all, at_drop_more}
use Rattle.desk_tonnage.specs.declared.entry.Entry.{Entry}
use Rattle.desk_tonnage.specs.declared.product_load.ProductLoad.{ProductLoad}
use Rattle.desk_tonnage.specs.Tonnage.{carried_by}
use Rattle.desk_ground_tests.proofs.tonnage.are_within.Goals as goal

-- no unit of the entry carries more than it weighs
abbrev IsWithin : List ProductLoad → Entry → Type 0
IsWithin loads entry = carried_by loads entry.product ≤ entry.mass

pub loop-entry-preserved : goal.loop-entry-preserved
loop-entry-preserved c =
    let loads = c.args.loads.now in
    let entries = c.args.entries.now in
    let entry = c.entry-item.result in
    let here : IsWithin loads entry = omega (arith, c.carried_by.ensures) in
    let more = at_drop_more (λ es. es) entries c.loop-entry.entry-index entry c.loop-entry-test.true in
    λ rest. c.loop-entry.invariant (subst (AllByRecursion (IsWithin loads)) (sym more) (subst (IsWithin loads) c.entry-item.is here, rest))

pub returns : goal.returns
returns c =
    let none = at_drop_all (λ es. es) c.args.entries.now c.loop-entry.entry-index (omega arith) in
    λ _. c.loop-entry.invariant (subst (AllByRecursion (IsWithin c.args.loads.now)) (sym none) tt)
