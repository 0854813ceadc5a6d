use Rattle.std.proofs.Common.{◌≡◌, []}
use Rattle.std.specs.Option.{option_copied}
use Rattle.sqlite.specs.Held.{state}
use Rattle.desk_sqlite.specs.Content.{AreFirstPast, AreShown, rows_content}
use Rattle.desk_sqlite.specs.Store.{rows_in}
use Rattle.desk_sqlite.proofs.FindLemmas.{records_first}
use Rattle.desk_sqlite.proofs.PastLemmas.{if_ok, if_both, past_after}
use Rattle.desk_sqlite.proofs.find.find_records.Goals as goal

pub returns-in-Ok-clause-gives : goal.returns-in-Ok-clause-gives
returns-in-Ok-clause-gives g c suits clean now =
    let rows = rows_in (state g.S.Store c.args.conn.now) in
    let after = option_copied c.args.after in
    let new = rows_in (state g.S.Store c.first_past.new.conn) in
    if_ok (λ found. AreShown found.items c.in-Ok.rows.items × (found.items ≡ [] → c.in-Ok.rows.items ≡ [])) (λ found. AreFirstPast (rows_content new) after found.items) c.records_of.result
    (λ found is. past_after _ _ after found.items c.first_past.ensures.still suits clean now (records_first rows (c.first_past.ensures.keyed suits clean now) after found.items c.in-Ok.rows.items is.1 is.0 (c.in-Ok.ensures.first suits clean now)))
    (if_both _ _ c.records_of.result (rw c.as_slice.ensures.value at c.records_of.ensures.shown) (rw c.as_slice.ensures.value at c.records_of.ensures.some))
