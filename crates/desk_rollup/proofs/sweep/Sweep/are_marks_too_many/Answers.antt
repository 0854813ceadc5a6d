use Rattle.std.proofs.Common.{◌≡◌, ◌<◌, ◌+◌, ◌==◌, List, cond, length, sym, ap, ◌∙◌, subst, arith}
use Rattle.std.proofs.lemmas.Bool.{le-ltb, lt-ltb}
use Rattle.desk_graph.specs.Graph.{lines_of_node}
use Rattle.desk_rollup.specs.declared.rolled.Rolled.{Rolled}
use Rattle.desk_rollup.specs.Places.{IsKnown, known, place_at}
use Rattle.desk_rollup.specs.Rolled.{mark_count}
use Rattle.desk_rollup.specs.Values.{own_with}
use Rattle.desk_rollup.proofs.MarkCount.{all_known, count_all, count_more, count_most, count_within, so_far}
use Rattle.desk_rollup.proofs.sweep.Sweep.are_marks_too_many.Goals as goal

pub with_marks-sum-requires-clause-known : goal.with_marks-sum-requires-clause-known
with_marks-sum-requires-clause-known g c =
    let bill = g.B.BillView.graph c.args.self.now.bill.now in
    let s = c.args.self.now in
    let node = c.loop-node.node in
    let there : node < length bill.labels = omega (arith, c.loop-node-test.true, c.node_count-node-end.ensures.count) in
    let P = λ (kept : List Rolled). IsKnown (place_at s.places.now node) kept c.args.rolled.now node in
    subst P (sym c.values.ensures.values) (all_known bill s.owns.now s.kept.now s.of_owns.now s.places.now _ c.requires.sweep c.args.rolled.now c.requires.size c.requires.right node there)

pub returns-then-sum-gt-MARK_LIMIT : goal.returns-then-sum-gt-MARK_LIMIT
returns-then-sum-gt-MARK_LIMIT g c =
    let bill = g.B.BillView.graph c.args.self.now.bill.now in
    let s = c.args.self.now in
    let node = c.loop-node.node in
    let there : node < length bill.labels = omega (arith, c.loop-node-test.true, c.node_count-node-end.ensures.count) in
    let more = count_more bill s.owns.now s.kept.now s.of_owns.now s.places.now _ c.requires.sweep c.args.rolled.now c.requires.size c.requires.right node there in
    let within = count_within bill s.owns.now s.kept.now s.of_owns.now s.places.now _ c.requires.sweep c.args.rolled.now c.requires.size c.requires.right (node + 1) in
    let sum = c.with_marks-sum.ensures ∙ ap (λ k. c.loop-node.sum + cond (length (lines_of_node bill.lines node) == 0) 0 (length (known (place_at s.places.now node) k c.args.rolled.now node).hops)) c.values.ensures.values in
    sym (lt-ltb 4194304 (mark_count bill.lines (own_with s.owns.now s.kept.now.owns)) (omega (arith, more, within, sum, c.if-sum-gt-MARK_LIMIT.true, c.loop-node.invariant.0)))

pub loop-node-preserved : goal.loop-node-preserved
loop-node-preserved g c =
    let bill = g.B.BillView.graph c.args.self.now.bill.now in
    let s = c.args.self.now in
    let node = c.loop-node.node in
    let there : node < length bill.labels = omega (arith, c.loop-node-test.true, c.node_count-node-end.ensures.count) in
    let more = count_more bill s.owns.now s.kept.now s.of_owns.now s.places.now _ c.requires.sweep c.args.rolled.now c.requires.size c.requires.right node there in
    let sum = c.with_marks-sum.ensures ∙ ap (λ k. c.loop-node.sum + cond (length (lines_of_node bill.lines node) == 0) 0 (length (known (place_at s.places.now node) k c.args.rolled.now node).hops)) c.values.ensures.values in
    (sum ∙ ap (λ n. n + cond (length (lines_of_node bill.lines node) == 0) 0 (length (known (place_at s.places.now node) s.kept.now.rolled c.args.rolled.now node).hops)) c.loop-node.invariant.0 ∙ sym more, omega (arith, c.if-sum-gt-MARK_LIMIT.false))

pub returns : goal.returns
returns g c =
    let bill = g.B.BillView.graph c.args.self.now.bill.now in
    let s = c.args.self.now in
    let most = count_most bill s.owns.now s.kept.now s.of_owns.now s.places.now _ c.requires.sweep c.args.rolled.now c.requires.size c.requires.right in
    sym (le-ltb 4194304 (mark_count bill.lines (own_with s.owns.now s.kept.now.owns)) (omega (arith, most, c.in-Some.ensures, c.if-most-le-MARK_LIMIT.true)))

pub returns-2 : goal.returns-2
returns-2 g c =
    let bill = g.B.BillView.graph c.args.self.now.bill.now in
    let s = c.args.self.now in
    let all : c.loop-node.node ≡ length bill.labels = omega (arith, c.loop-node-test.false, c.loop-node.auto.node-end, c.node_count-node-end.ensures.count) in
    let whole = count_all bill s.owns.now s.kept.now s.of_owns.now s.places.now _ c.requires.sweep c.args.rolled.now c.requires.size c.requires.right in
    let reached = ap (so_far bill s.owns.now s.kept.now s.of_owns.now s.places.now _ c.requires.sweep c.args.rolled.now c.requires.size c.requires.right) all in
    sym (le-ltb 4194304 (mark_count bill.lines (own_with s.owns.now s.kept.now.owns)) (omega (arith, whole, reached, c.loop-node.invariant.0, c.loop-node.invariant.1)))
