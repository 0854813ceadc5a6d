-- What is too large with one child more is too large with all.
use Rattle.std.proofs.Common.{◌≡◌, ◌∙◌, ℕ, ◌+◌, ◌*◌, ap, sym, None, Some, option_map, slice_index_or}
use Rattle.desk_graph.specs.declared.line.BillLine.{BillLine}
use Rattle.desk_rollup.specs.Places.{known, place_at}
use Rattle.desk_rollup.specs.Values.{RolledValues}
use Rattle.desk_rollup.specs.Weights.{fitting, with_child}
use Rattle.desk_rollup.specs.declared.roller.Sum.{Sum}
use Rattle.desk_rollup.proofs.Frame.{too_large_at}
use Rattle.desk_rollup.proofs.roller.sum_up.Goals as goal

pub returns-in_err-weight-clause-weight : goal.returns-in_err-weight-clause-weight
returns-in_err-weight-clause-weight c =
    let below : ℕ → RolledValues = λ child. known (place_at c.args.values.now.places.now child) c.args.values.now.kept.now c.args.values.now.new.now child in
    let none : BillLine = record { node = 0; count = 0 } in
    let line : BillLine = slice_index_or c.args.lines.now c.loop-line.line-index none in
    let child_is : c.child.inside.weight ≡ (below line.node).weight = ap (λ (v : RolledValues). v.weight) (c.child.view_is ∙ c.of-child.ensures) in
    let large : with_child (Some c.loop-line.weight) line.count (Some (below line.node).weight) ≡ None =
    ap (λ (w : ℕ). fitting (c.loop-line.weight + line.count * w)) (sym child_is) ∙ sym c.with_more.ensures ∙ c.in_err-weight.was in
    ap (option_map (λ (sum : Sum). sum.weight)) c.from_residual.ensures
    ∙ sym (too_large_at (λ child. Some (below child).weight) c.args.own c.args.lines.now c.loop-line.line-index none c.loop-line-test.true c.loop-line.weight c.loop-line.invariant.0 large)
