use Rattle.std.proofs.Common.{◌≡◌, false, rules}
use Rattle.sqlite.specs.Held.{state}
use Rattle.sqlite.specs.State.{HasCleanDisk}
use Rattle.desk_sqlite.specs.Numbers.{ShowsNoRise}
use Rattle.desk_sqlite.specs.Store.{IsOurs}
use Rattle.desk_sqlite.proofs.PastLemmas.{if_ok_always}
use Rattle.desk_sqlite.proofs.ready.make_ready.Goals as goal

pub returns-clause-found : goal.returns-clause-found
returns-clause-found g c =
    let old = state g.S.Store c.args.conn.now in
    let new = state g.S.Store c.is_store-2.new.conn in
    let none : IsOurs old.now.schema → ⊥ = search rules in
    if_ok_always (λ ours. ours ≡ false → IsOurs old.now.schema → HasCleanDisk new → ShowsNoRise old) c.is_store-2.result (λ ours is schema. absurd (none schema))
