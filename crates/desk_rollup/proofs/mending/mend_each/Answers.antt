use Rattle.std.proofs.Common.{◌∙◌, ℕ, ap, subst, sym, take}
use Rattle.std.proofs.lemmas.Bool.{both_ways}
use Rattle.std.proofs.lemmas.List.{take_more}
use Rattle.desk_rollup.specs.declared.mark.Mark.{Mark}
use Rattle.desk_rollup.specs.Changed.{IsMended, with_hop}
use Rattle.desk_rollup.specs.Places.{known, place_at}
use Rattle.desk_rollup.specs.Values.{RolledValues}
use Rattle.desk_rollup.proofs.Mends.{mended_more}
use Rattle.desk_rollup.proofs.mending.mend_each.Goals as goal
use Rattle.desk_rollup.proofs.mending.mend_each.Goals.{then-is_same, else-is_same}

pub loop-mark-preserved : goal.loop-mark-preserved
loop-mark-preserved c =
    let below : ℕ → RolledValues = λ child. known (place_at c.args.values.now.places.now child) c.args.values.now.kept.now c.args.values.now.new.now child in
    let none : Mark = record { node = 0; what = 0 } in
    let changed = c.args.changed.now in
    let kept = c.args.hops.now.items in (
      subst (λ marks. IsMended below c.args.own.now c.args.lines.now marks kept c.exchange.new.hops.items) (sym (take_more changed c.loop-mark.mark-index none c.loop-mark-test.true))
          (mended_more below c.args.own.now c.args.lines.now kept (take c.loop-mark.mark-index changed) _ c.hop_at-hop.result c.loop-mark.hops.items c.exchange.new.hops.items c.loop-mark.invariant.0
          c.hop_at-hop.ensures.mark c.hop_at-hop.ensures.next (c.in_ok-stays.ensures.hops ∙ ap (λ n. with_hop n c.hop_at-hop.result c.loop-mark.hops.items) c.number.ensures)),
      λ e.
          elim c.if-is_same.branch [
            | then-is_same w ↦ c.in_ok-stays.ensures.same (sym w.is_same-is ∙ e) ∙ c.loop-mark.invariant.1 w.if-is_same.true
            | else-is_same w ↦ absurd (both_ways c.loop-mark.is_same w.if-is_same.false (sym w.is_same-is ∙ e))
          ],
    )
