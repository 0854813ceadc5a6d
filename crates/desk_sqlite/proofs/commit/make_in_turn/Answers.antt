use Rattle.std.proofs.Common.{refl, rules}
use Rattle.desk_sqlite.proofs.CommitLemmas.{inside_itself, none_left_out, one_left_more}
use Rattle.desk_sqlite.proofs.InsideLemmas.{inside_then}
use Rattle.desk_sqlite.proofs.commit.make_in_turn.Goals as goal

pub changes-init : goal.changes-init
changes-init g c = (refl, inside_itself _, none_left_out _ c.args.batch.now)

pub changes-preserved : goal.changes-preserved
changes-preserved g c =
    let inv = c.changes.invariant in (
      search rules,
      inside_then _ _ _ inv.1 c.make_change.ensures.inside (λ clean inside. (inv.2 clean inside).0),
      one_left_more _ _ _ c.args.batch.now c.changes.change-index c.change-item.result (search rules) (search rules) c.make_change.ensures.inside inv.2 (rw c.in_ok-make_change.was at c.make_change.ensures.made),
    )
