use Rattle.std.proofs.Common.{◌≡◌, false}
use Rattle.sqlite.specs.Held.{state}
use Rattle.sqlite.specs.State.{HasCleanDisk}
use Rattle.desk_sqlite.specs.Numbers.{ShowsNoRise}
use Rattle.desk_sqlite.specs.Store.{IsOurs}
use Rattle.desk_sqlite.proofs.PastLemmas.{if_ok}
use Rattle.desk_sqlite.proofs.ready.is_store.Goals as goal

pub returns-then-is_ours-clause-found : goal.returns-then-is_ours-clause-found
returns-then-is_ours-clause-found g c =
    let old = state g.S.Store c.args.conn.now in
    let new = state g.S.Store c.are_numbered.new.conn in
    if_ok (λ numbered. numbered ≡ false → HasCleanDisk new → ShowsNoRise old) (λ ours. ours ≡ false → IsOurs old.now.schema → HasCleanDisk new → ShowsNoRise old)
    c.are_numbered.result (λ ours shows is schema. shows is) c.are_numbered.ensures.found
