use Rattle.std.proofs.Common.{◌≡◌, [], IsTrue, rules}
use Rattle.sqlite.specs.Held.{state}
use Rattle.desk_sqlite.specs.Texts.{first_text}
use Rattle.desk_sqlite.proofs.LookLemmas.{asked_still, first_is_plain, first_found}
use Rattle.desk_sqlite.proofs.look.first_rows.Goals as goal

pub returns-clause-still : goal.returns-clause-still
returns-clause-still g c =
    let old = state g.S.Store c.args.conn.now in
    let settled : IsTrue old.is_open → old.now ≡ old.committed = search rules in
    asked_still old _ _ c.query_all.ensures.survives first_text ([]) c.query_all.result (λ rows. rows.items) c.query_all.ensures.ok c.query_all.ensures.err (first_is_plain old) settled

pub returns-clause-look : goal.returns-clause-look
returns-clause-look g c suits clean now =
    let old = state g.S.Store c.args.conn.now in
    let settled : IsTrue old.is_open → old.now ≡ old.committed = search rules in
    let still = asked_still old _ _ c.query_all.ensures.survives first_text ([]) c.query_all.result (λ rows. rows.items) c.query_all.ensures.ok c.query_all.ensures.err (first_is_plain old) settled in
    first_found old _ still suits clean now c.query_all.result (λ rows. rows.items) (c.query_all.ensures.ok clean)
