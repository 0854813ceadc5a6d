-- The records so far with the rest are all records.
use Rattle.std.proofs.Common.{◌≡◌, ◌++◌, map}
use Rattle.std.specs.Vec.Iter.{into_iter_items}
use Rattle.desk_edge.specs.declared.change.Change.TheVariants.{Put}
use Rattle.desk_records.proofs.new_records.puts.Given as goal

abbrev pub invariant-loop-kept : goal.invariant-loop-kept
invariant-loop-kept l =
    goal.iterator-loop-kept.can_next l.kept-iterator
    × goal.iterator-loop-kept.is_finite l.kept-iterator
    × (l.changes.items ++ map (λ kept. Put kept) (into_iter_items l.kept-iterator) ≡ map (λ kept. Put kept) l.fn.records.items)
