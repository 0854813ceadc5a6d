use Rattle.std.proofs.Common.{◌≡◌, ◌+◌, ◌≤◌, vec_len, vec_capacity}
use Rattle.std.specs.Vec.Iter.{into_iter_items, into_iter_len}
use Rattle.desk_rows.specs.Rows.{IsByKey, with_rows}
use Rattle.desk_rows.proofs.table.Table.put_all_ready.Given as goal

abbrev pub invariant-loop-row : goal.invariant-loop-row
invariant-loop-row g l =
    (goal.iterator-loop-row g).can_next l.row-iterator ×
    (goal.iterator-loop-row g).is_finite l.row-iterator ×
    IsByKey g.R.Keyed.key g.R.Key.Ord.cmp l.self-inside.rows.items ×
    (with_rows g.R.Keyed.key g.R.Key.Ord.cmp (into_iter_items l.row-iterator) l.self-inside.rows.items ≡ with_rows g.R.Keyed.key g.R.Key.Ord.cmp (into_iter_items l.initial.row-iterator) l.initial.self-inside.rows.items) ×
    (vec_len l.self-inside.rows + into_iter_len l.row-iterator ≤ vec_capacity l.self-inside.rows)
