-- Hops that are mended have of the steady marks those that the kept ones have.
use Rattle.std.proofs.Common.{ℕ, subst, sym}
use Rattle.desk_rollup.specs.Changed.{DoFollow}
use Rattle.desk_rollup.specs.Places.{known, place_at}
use Rattle.desk_rollup.specs.Values.{RolledValues, rolled_at}
use Rattle.desk_rollup.proofs.Mends.{follows_mended, if_ok}
use Rattle.desk_rollup.proofs.roller.Roller.rolled_hops.Goals as goal

pub returns-then-are_followed-clause-follows : goal.returns-then-are_followed-clause-follows
returns-then-are_followed-clause-follows c =
    let below : ℕ → RolledValues = λ child. known (place_at c.args.values.now.places.now child) c.args.values.now.kept.now c.args.values.now.new.now child in
    let kept = (rolled_at c.args.values.now.kept.now c.args.node).hops in
    if_ok c.mended_hops.result
    (λ hops mended. subst (λ changed. DoFollow changed kept hops) (sym c.mended_hops.ensures.changed) (follows_mended below c.args.own.now c.args.lines.now c.args.self.now.changed kept hops mended))
    c.mended_hops.ensures.hops
