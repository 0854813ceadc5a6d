use Rattle.std.proofs.Common.{◌≡◌, false, [], List}
use Rattle.sqlite_value.specs.Order.{Row}
use Rattle.sqlite.specs.State.{HasCleanDisk, IsUnchanged}
use Rattle.sqlite.specs.Held.{state}
use Rattle.sqlite.specs.Given.{HasGiven}
use Rattle.desk_sqlite.specs.Numbers.{AreRising}
use Rattle.desk_sqlite.specs.Texts.{numbers_text}
use Rattle.desk_sqlite.proofs.NumberLemmas.{IsReached, IsUpTo}
use Rattle.desk_sqlite.proofs.ready.are_numbered.Given as goal

abbrev pub invariant-rows : goal.invariant-rows
invariant-rows g l =
    let old = state g.S.Store l.fn.conn in
    let now = state g.S.Store l.rows.conn.now in
    (l.rows.conn.ghost_name ≡ l.initial.rows.conn.ghost_name) × (l.rows.conn.now.in_transaction ≡ false)
    × (HasCleanDisk now → (given : List Row) × HasGiven g.S.Store numbers_text [] l.rows.conn.now given × IsUnchanged old now × AreRising given × IsUpTo given l.last × IsReached given l.last)
