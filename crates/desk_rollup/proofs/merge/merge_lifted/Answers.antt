-- One entry more is entered, and then what is left of those that are held.
use Rattle.std.proofs.Common.{◌≡◌, ◌∙◌, ℕ, ◌+◌, ◌<◌, ◌++◌, List, ap, drop, get_or, length, map, sym}
use Rattle.std.proofs.lemmas.List.{drop_all, drop_more}
use Rattle.desk_rollup.specs.Merge.{merged_in, merged}
use Rattle.desk_rollup.proofs.merge.merge_lifted.Goals as goal

step : {X : Type 0} (number : X → ℕ) (join : X → X → X) (lift : X → X) (into new more held next : List X) (i : ℕ) (x y : X) → i < length more → x ≡ get_or more i x → y ≡ lift x → ((go : List X → List X) → into ++ merged_in number join y go held ≡ new ++ go next) → new ++ merged number join (map lift (drop (i + 1) more)) next ≡ into ++ merged number join (map lift (drop i more)) held
step number join lift into new more held next i x y low is lifted pushes =
    let go = merged number join (map lift (drop (i + 1) more)) in
    sym (pushes go) ∙ ap (λ e. into ++ merged_in number join e go held) (lifted ∙ ap lift is)
    ∙ ap (λ l. into ++ merged number join (map lift l) held) (sym (drop_more more i x low))

pub loop-entry-preserved : goal.loop-entry-preserved
loop-entry-preserved g c =
    let at = drop c.in_ok-at.at c.args.held.now in
    let from = drop c.loop-entry.at c.args.held.now in (
      c.in_ok-at.ensures.within,
      step g.E.Entry.number g.E.Entry.joined (g.E.Entry.lifted c.args.line) c.loop-entry.into.items c.push_entry.new.into.items c.args.more.now from at
          c.loop-entry.entry-index c.entry-item.result c.lifted.result c.loop-entry-test.true c.entry-item.is c.lifted.ensures c.in_ok-at.ensures.pushes
          ∙ c.loop-entry.invariant.1,
    )

pub returns : goal.returns
returns g c =
    let into = c.loop-entry.into.items in
    let kept = drop c.loop-entry.at c.args.held.now in
    let none = drop_all c.loop-entry.entry-index c.args.more.now c.loop-entry-test.false in
    c.in_ok-extend_from_slice.ensures.items ∙ ap (λ l. into ++ l) c.split_at.ensures.back
    ∙ ap (λ l. into ++ merged g.E.Entry.number g.E.Entry.joined (map (g.E.Entry.lifted c.args.line) l) kept) (sym none) ∙ c.loop-entry.invariant.1
