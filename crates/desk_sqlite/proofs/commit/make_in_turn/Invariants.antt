use Rattle.std.proofs.Common.{◌≡◌, Ok, take}
use Rattle.sqlite.specs.Held.{state}
use Rattle.desk_sqlite.specs.Content.{AreMade}
use Rattle.desk_sqlite.specs.Inside.{IsInside, Leaves}
use Rattle.desk_sqlite.proofs.commit.make_in_turn.Given as goal

abbrev pub invariant-changes : goal.invariant-changes
invariant-changes g l =
    let old = state g.S.Store l.fn.tx.conn.now in
    let now = state g.S.Store l.tx.conn.now in
    (l.tx.conn.ghost_name ≡ l.initial.tx.conn.ghost_name) × IsInside old now × Leaves old now (Ok tt) (AreMade (take l.change-index l.batch))
