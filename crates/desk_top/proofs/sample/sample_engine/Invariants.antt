-- The tables after the rest of the edits are those after all of them.
use Rattle.std.proofs.Common.{◌≡◌}
use Rattle.std.specs.Vec.Iter.{into_iter_items}
use Rattle.desk_engine.specs.Engine.{lists_of}
use Rattle.desk_history.specs.History.{tables_after}
use Rattle.desk_model.specs.Start.{start}
use Rattle.desk_sample.specs.Sample.{sample_edits}
use Rattle.desk_top.proofs.sample.sample_engine.Given as goal

abbrev pub invariant-loop-edit : goal.invariant-loop-edit
invariant-loop-edit l =
    goal.iterator-loop-edit.can_next l.edit-iterator
    × goal.iterator-loop-edit.is_finite l.edit-iterator
    × (tables_after (lists_of l.engine) (into_iter_items l.edit-iterator) ≡ tables_after start (sample_edits l.fn.size))
