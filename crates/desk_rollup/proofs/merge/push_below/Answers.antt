use Rattle.std.proofs.Common.{◌≡◌, ◌++◌, true, [], ◌∷◌, ◌+◌, drop, length, get_or, nat_lt, refl, sym, ap, ◌∙◌, arith}
use Rattle.std.proofs.lemmas.Bool.{lt-ltb}
use Rattle.desk_rollup.specs.Merge.{merged_in}
use Rattle.desk_rollup.proofs.MergeSteps.{goes_by}
use Rattle.desk_rollup.proofs.merge.push_below.Goals as goal

pub loop-at-init : goal.loop-at-init
loop-at-init g c = λ go. refl

pub loop-at-preserved : goal.loop-at-preserved
loop-at-preserved g c =
    let number = g.E.Entry.number in
    let held = c.args.held.now in
    let i = c.loop-at.at in
    let x = c.index-held-at-in-loop-at.result in
    let y = c.index-held-at.result in
    let same : get_or held i x ≡ y = Rattle.std.proofs.lemmas.List.get_or_default held i x y c.loop-at-test.true ∙ sym c.index-held-at.is in
    let less : nat_lt (number (get_or held i x)) (number c.args.entry) ≡ true =
    ap (λ e. nat_lt (number e) (number c.args.entry)) same
    ∙ lt-ltb (number y) (number c.args.entry) (omega (arith, c.if-number.false, c.number.ensures, c.number-in-loop-at.ensures)) in
    λ go. c.loop-at.invariant go ∙ goes_by number g.E.Entry.joined go c.args.entry c.loop-at.into.items held i x c.loop-at-test.true less
    ∙ ap (λ l. l ++ merged_in number g.E.Entry.joined c.args.entry go (drop (i + 1) held)) (ap (λ e. c.loop-at.into.items ++ e ∷ []) (sym c.index-held-at-in-loop-at.is) ∙ sym c.in_ok-push.ensures.items)

pub returns-then-number-clause-pushes : goal.returns-then-number-clause-pushes
returns-then-number-clause-pushes g c = c.loop-at.invariant

pub returns-clause-pushes : goal.returns-clause-pushes
returns-clause-pushes g c =
    let held = c.args.held.now in
    let same : c.loop-at.at ≡ length held = omega (arith, c.loop-at-test.false, c.loop-at.auto.at-end c.requires) in
    λ go. c.loop-at.invariant go ∙ ap (λ i. c.loop-at.into.items ++ merged_in g.E.Entry.number g.E.Entry.joined c.args.entry go (drop i held)) same
