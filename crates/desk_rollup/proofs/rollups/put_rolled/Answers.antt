use Rattle.std.proofs.Common.{◌≡◌, ℕ, ◌<◌, ◌++◌, [], ◌∷◌, List, length, set, slice_index, ◌+◌, IfSome, sym, ap, ◌∙◌, subst, arith}
use Rattle.std.proofs.lemmas.List.{append_assoc, get_or_default, length-set, length_push}
use Rattle.desk_rollup.specs.declared.rolled.Rolled.{Rolled}
use Rattle.desk_rollup.specs.Values.{AreHopsInOrder, DoFit, hop_total, no_values, rolled_at}
use Rattle.desk_rollup.proofs.Counts.{has_at}
use Rattle.desk_rollup.proofs.Puts.{put_fit, put_hops, put_order, put_next, put_stays}
use Rattle.desk_rollup.proofs.rollups.put_rolled.Goals as goal

pub bounds-kept-node : goal.bounds-kept-node
bounds-kept-node c =
    let nodes = c.args.nodes.now in
    let front = c.pop.new.self.items in
    let size = ap (λ l. length l) c.in-Some.ensures.items ∙ length_push front c.in-Some.values in
    let at : c.len.result ≡ length front = omega (arith, c.len.ensures, c.pop.new.self.ok.0) in
    let low : length front < length nodes = omega (arith, size, c.loop-values.invariant.2) in
    let there = c.requires.inside (slice_index nodes (length front)) (has_at nodes (length front) low) in
    let P : ℕ → Type 0 = λ i. slice_index nodes i < length c.loop-values.kept in
    subst P (sym at) (omega (arith, there, c.loop-values.invariant.0))

pub bounds-kept-node-in-Some : goal.bounds-kept-node-in-Some
bounds-kept-node-in-Some c =
    let nodes = c.args.nodes.now in
    let front = c.pop.new.self.items in
    let size = ap (λ l. length l) c.in-Some.ensures.items ∙ length_push front c.in-Some.values in
    let at : c.len.result ≡ length front = omega (arith, c.len.ensures, c.pop.new.self.ok.0) in
    let low : length front < length nodes = omega (arith, size, c.loop-values.invariant.2) in
    let there = c.requires.inside (slice_index nodes (length front)) (has_at nodes (length front) low) in
    let P : ℕ → Type 0 = λ i. slice_index nodes i < length c.loop-values.kept in
    subst P (sym at) (omega (arith, there, c.loop-values.invariant.0))

pub loop-values-preserved : goal.loop-values-preserved
loop-values-preserved c =
    let nodes = c.args.nodes.now in
    let kept = c.loop-values.kept in
    let all = c.args.new.items in
    let front = c.pop.new.self.items in
    let values = c.in-Some.values in
    let inv = c.loop-values.invariant in
    let size = ap (λ l. length l) c.in-Some.ensures.items ∙ length_push front values in
    let at : c.len.result ≡ length front = omega (arith, c.len.ensures, c.pop.new.self.ok.0) in
    let low : length front < length nodes = omega (arith, size, inv.2) in
    let there : slice_index nodes (length front) < length kept = omega (arith, c.requires.inside (slice_index nodes (length front)) (has_at nodes (length front) low), inv.0) in
    let whole : all ≡ front ++ values ∷ inv.1.0 = inv.1.1 ∙ ap (λ l. l ++ inv.1.0) c.in-Some.ensures.items ∙ append_assoc front (values ∷ []) inv.1.0 in
    let spot = λ (P : List Rolled → Type 0) (p : P (set kept (slice_index nodes (length front)) values)). subst (λ i. P (set kept (slice_index nodes i) values)) (sym at) p in
    let moved = put_hops kept (slice_index nodes (length front)) values there in
    let inside : slice_index nodes c.len.result < length kept = subst (λ n. slice_index nodes n < length kept) (sym at) there in
    let gone : c.hop_count.result ≡ length (rolled_at kept (slice_index nodes (length front))).hops =
    c.hop_count.ensures ∙ ap (λ v. length v.hops) (get_or_default kept (slice_index nodes c.len.result) c.index-kept-node.result no_values inside)
    ∙ ap (λ n. length (rolled_at kept (slice_index nodes n)).hops) at in
    let before = subst (λ n. IfSome c.loop-values.hops (λ sum. sum ≡ n)) (moved.1 ∙ ap (λ n. moved.0 + n) (sym gone)) inv.6 in (
      length-set kept (slice_index nodes c.len.result) values ∙ inv.0,
      (values ∷ inv.1.0, whole),
      omega (arith, low),
      λ node away. spot (λ l. rolled_at l node ≡ rolled_at c.args.kept.now node) (put_stays nodes c.requires.distinct kept all front values inv.1.0 whole low there node away ∙ inv.3 node away),
      λ place past h.
          spot (λ l. rolled_at l (slice_index nodes place) ≡ rolled_at all place)
          (put_next nodes c.requires.distinct kept all front values inv.1.0 whole low there (λ p later l. inv.4 p (omega (arith, size, later)) l) place past h),
      λ fit all_fit. spot DoFit (put_fit nodes c.requires.distinct kept all front values inv.1.0 whole low there (inv.5 fit all_fit) all_fit),
      spot (λ l. IfSome c.exchanged-hops.result (λ sum. sum ≡ hop_total l))
          (subst (λ n. IfSome c.exchanged-hops.result (λ sum. sum ≡ n)) (ap (λ n. moved.0 + n) c.hop_count-in-Some.ensures ∙ sym moved.2) (c.exchanged-hops.ensures moved.0 before)),
      λ order all_order. spot AreHopsInOrder (put_order nodes c.requires.distinct kept all front values inv.1.0 whole low there (inv.7 order all_order) all_order),
    )
