use Rattle.std.proofs.Common.{IfOk, sym, subst}
use Rattle.std.specs.Option.{option_copied}
use Rattle.sqlite.specs.Held.{state}
use Rattle.desk_sqlite.specs.Content.{AreFirstRows}
use Rattle.desk_sqlite.specs.Store.{rows_in}
use Rattle.desk_sqlite.proofs.PastLemmas.{keyed_still, past_all}
use Rattle.desk_sqlite.proofs.find.first_past.Goals as goal

pub returns-in-Some-clause-keyed : goal.returns-in-Some-clause-keyed
returns-in-Some-clause-keyed g c = keyed_still _ _ c.rows_past.ensures.still c.schema-keyed.ensures.live

pub returns-in-None-clause-keyed : goal.returns-in-None-clause-keyed
returns-in-None-clause-keyed g c = keyed_still _ _ c.first_rows.ensures.still c.schema-keyed.ensures.live

pub returns-in-None-clause-first : goal.returns-in-None-clause-first
returns-in-None-clause-first g c suits clean now =
    let rows = rows_in (state g.S.Store c.args.conn.now) in
    subst (λ after. IfOk c.first_rows.result (λ shown. AreFirstRows (option_copied after) rows shown.items)) (sym c.in-None.is) (past_all (λ found. found.items) rows c.first_rows.result (c.first_rows.ensures.look suits clean now))
