use Rattle.std.proofs.Common.{◌≡◌, [], rules, subst}
use Rattle.sqlite.specs.Held.{state}
use Rattle.desk_sqlite.specs.Content.{AreLooked}
use Rattle.desk_sqlite.specs.Store.{is_within, rows_in}
use Rattle.desk_sqlite.proofs.FindLemmas.{first_some}
use Rattle.desk_sqlite.proofs.PastLemmas.{still_then, past_beyond}
use Rattle.desk_sqlite.proofs.find.rows_past.Goals as goal

pub returns-then-is_empty-clause-still : goal.returns-then-is_empty-clause-still
returns-then-is_empty-clause-still g c = still_then _ _ _ c.rows_within.ensures.still c.rows_beyond.ensures.still

pub returns-then-is_empty-clause-first : goal.returns-then-is_empty-clause-first
returns-then-is_empty-clause-first g c suits clean now =
    let key = c.args.key.now in
    let rows = rows_in (state g.S.Store c.args.conn.now) in
    let none : c.in-Ok.rows.items ≡ [] = search rules in
    past_beyond (λ found. found.items) _ _ _ key c.rows_beyond.result c.rows_within.ensures.still c.rows_beyond.ensures.still suits clean now
    (λ mid mid_open. subst (AreLooked (is_within key.kind key.code) rows) none (rw c.as_slice.ensures at (c.in-Ok.ensures.look suits mid mid_open))) c.rows_beyond.ensures.look

pub returns-else-is_empty-clause-first : goal.returns-else-is_empty-clause-first
returns-else-is_empty-clause-first g c suits clean now =
    let some : c.in-Ok.rows.items ≡ [] → ⊥ = search rules in
    first_some c.args.key.now _ c.in-Ok.rows.items some (rw c.as_slice.ensures at (c.in-Ok.ensures.look suits clean now))
