use Rattle.std.proofs.Common.{◌≡◌, Some, None, ap, refl, Less, subst, sym, option_copied, IfSome}
use Rattle.std.specs.Ordering.{is_lt}
use Rattle.desk_edge.specs.Content.{key_cmp}
use Rattle.desk_top.specs.KeptBodies.{IsFirstIn}
use Rattle.desk_top.proofs.KeptBodies.{first_found, is_less, over_option}
use Rattle.desk_top.proofs.kept_bodies.first_past.Goals as goal

pub returns-in-Some-clause-some : goal.returns-in-Some-clause-some
returns-in-Some-clause-some c =
    let range = c.range.ensures.in_range tt in
    let after = ap option_copied c.in-Some.is in
    subst (λ a. IfSome c.next.result (λ found. IsFirstIn c.args.bodies.now.entries a found.0.now found.1.now)) (sym after)
    (over_option c.next.result _ _ _ c.next.ensures.steps
    (λ found is.
    first_found c.args.bodies.now.entries (Some c.in-Some.key.now) (λ key. (key_cmp c.in-Some.key.now key ≡ Less) × Unit {0}) (λ key past. (is_less (key_cmp c.in-Some.key.now key) past, tt)) (λ key h. ap is_lt h.0)
    c.range.result c.next.new.self found.0.now found.1.now is range.1 range.2))

pub returns-in-None-clause-some : goal.returns-in-None-clause-some
returns-in-None-clause-some c =
    let range = c.range-in-None.ensures.in_range tt in
    let after = ap option_copied c.in-None.is in
    subst (λ a. IfSome c.next-in-None.result (λ found. IsFirstIn c.args.bodies.now.entries a found.0.now found.1.now)) (sym after)
    (over_option c.next-in-None.result _ _ _ c.next-in-None.ensures.steps
    (λ found is.
    first_found c.args.bodies.now.entries None (λ key. Unit {0} × Unit {0}) (λ key past. (tt, tt)) (λ key h. refl)
    c.range-in-None.result c.next-in-None.new.self found.0.now found.1.now is range.1 range.2))
