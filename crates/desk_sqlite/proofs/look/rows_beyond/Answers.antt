use Rattle.std.proofs.Common.{◌≡◌, [], ◌∷◌, pos, IsTrue, rules}
use Rattle.sqlite_value.specs.declared.value.Value.TheVariants.{Int}
use Rattle.sqlite.specs.Held.{state}
use Rattle.desk_sqlite.specs.Texts.{beyond_text}
use Rattle.desk_sqlite.proofs.LookLemmas.{asked_still, beyond_is_plain, beyond_found}
use Rattle.desk_sqlite.proofs.look.rows_beyond.Goals as goal

pub returns-clause-still : goal.returns-clause-still
returns-clause-still g c =
    let old = state g.S.Store c.args.conn.now in
    let settled : IsTrue old.is_open → old.now ≡ old.committed = search rules in
    asked_still old _ _ c.query_all.ensures.survives beyond_text (Int (pos c.args.kind) ∷ []) c.query_all.result (λ rows. rows.items)
    (λ clean. rw (c.params-to_sql.ensures, c.from.ensures) at (c.query_all.ensures.ok clean)) (λ clean. rw (c.params-to_sql.ensures, c.from.ensures) at (c.query_all.ensures.err clean)) (beyond_is_plain old) settled

pub returns-clause-look : goal.returns-clause-look
returns-clause-look g c suits clean now =
    let old = state g.S.Store c.args.conn.now in
    let settled : IsTrue old.is_open → old.now ≡ old.committed = search rules in
    let still = asked_still old _ _ c.query_all.ensures.survives beyond_text (Int (pos c.args.kind) ∷ []) c.query_all.result (λ rows. rows.items)
    (λ clean. rw (c.params-to_sql.ensures, c.from.ensures) at (c.query_all.ensures.ok clean)) (λ clean. rw (c.params-to_sql.ensures, c.from.ensures) at (c.query_all.ensures.err clean)) (beyond_is_plain old) settled in
    beyond_found old _ still suits clean now c.query_all.result (λ rows. rows.items) c.args.kind (rw (c.params-to_sql.ensures, c.from.ensures) at (c.query_all.ensures.ok clean))
