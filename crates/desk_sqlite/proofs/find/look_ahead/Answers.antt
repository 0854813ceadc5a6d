use Rattle.std.specs.Prelude.{IfSome}
use Rattle.sqlite.specs.Held.{state}
use Rattle.desk_sqlite.specs.Ahead.{IsReadAhead}
use Rattle.desk_sqlite.specs.Content.{rows_content}
use Rattle.desk_sqlite.specs.Store.{rows_in}
use Rattle.desk_sqlite.proofs.PastLemmas.{if_ok_later}
use Rattle.desk_sqlite.proofs.find.look_ahead.Goals as goal

pub returns-in-Ok-clause-ahead : goal.returns-in-Ok-clause-ahead
returns-in-Ok-clause-ahead g c suits =
    let content = rows_content (rows_in (state g.S.Store c.find_records.new.conn)) in
    if_ok_later (λ both. IfSome both.1 (IsReadAhead content)) c.first_of.result (λ clean now. c.first_of.ensures.others content (c.in-Ok.ensures.gives suits clean now))
