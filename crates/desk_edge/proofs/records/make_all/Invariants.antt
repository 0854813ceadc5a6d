use Rattle.std.proofs.Common.{◌≡◌, ◌+◌, ◌≤◌, vec_len, vec_capacity}
use Rattle.std.specs.Vec.Iter.{into_iter_items, into_iter_len}
use Rattle.desk_edge.specs.Content.{key_cmp, key_of}
use Rattle.desk_edge.specs.Stores.{records_with_all}
use Rattle.desk_rows.specs.Rows.{IsByKey}
use Rattle.desk_edge.proofs.records.make_all.Given as goal

abbrev pub invariant-loop-change : goal.invariant-loop-change
invariant-loop-change l =
    (goal.iterator-loop-change).can_next l.change-iterator ×
    (goal.iterator-loop-change).is_finite l.change-iterator ×
    IsByKey key_of key_cmp l.records.items ×
    (records_with_all (into_iter_items l.change-iterator) l.records.items ≡ records_with_all (into_iter_items l.initial.change-iterator) l.initial.records.items) ×
    (vec_len l.records + into_iter_len l.change-iterator ≤ vec_capacity l.records)
