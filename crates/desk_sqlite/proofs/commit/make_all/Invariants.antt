use Rattle.std.proofs.Common.{◌≡◌, ◌++◌, List, Ok}
use Rattle.std.specs.Slice.Iter.{chunks_rest}
use Rattle.sqlite.specs.Held.{state}
use Rattle.desk_edge.specs.declared.change.Change.{Change}
use Rattle.desk_sqlite.specs.Content.{AreMade}
use Rattle.desk_sqlite.specs.Inside.{IsInside, Leaves}
use Rattle.desk_sqlite.proofs.commit.make_all.Given as goal

abbrev pub invariant-loop-few : goal.invariant-loop-few
invariant-loop-few g l =
    let old = state g.S.Store l.fn.tx.conn.now in
    let now = state g.S.Store l.tx.conn.now in
    (goal.iterator-loop-few g).can_next l.few-iterator
    × (goal.iterator-loop-few g).is_finite l.few-iterator
    × (l.tx.conn.ghost_name ≡ l.initial.tx.conn.ghost_name)
    × IsInside old now
    × ((front : List Change) × Leaves old now (Ok tt) (AreMade front) × (l.batch ≡ front ++ chunks_rest l.few-iterator))
