use Rattle.std.proofs.Common.{◌≡◌, ◌+◌, ◌-◌, ◌∷◌, [], ◌++◌, length, sym, ap, ◌∙◌, arith}
use Rattle.desk_graph.specs.Planned.{with_next}
use Rattle.desk_graph.proofs.ChangedLines.{next_step}
use Rattle.desk_graph.proofs.order_after.push_next.Goals as goal

pub loop-preserved : goal.loop-preserved
loop-preserved c =
    let order = c.loop.order in
    let next : c.push_reserved.new.self.items ≡ order.items ++ length order.items ∷ [] = c.push_reserved.ensures.items ∙ ap (λ n. order.items ++ n ∷ []) (c.len-next.ensures ∙ order.ok.0) in (
      ap (λ o. with_next (c.args.more - (c.loop.counter + 1)) o) next ∙ sym (next_step c.loop.counter c.args.more order.items c.loop-test.true) ∙ c.loop.invariant.0,
      omega (arith, c.push_reserved.ensures.len, c.loop.invariant.1),
      omega (arith, c.push_reserved.ensures.capacity, c.loop.invariant.2),
      omega arith,
    )

pub returns-clause-nodes : goal.returns-clause-nodes
returns-clause-nodes c =
    let none : c.args.more - c.loop.counter ≡ 0 = omega arith in
    ap (λ n. with_next n c.loop.order.items) (sym none) ∙ c.loop.invariant.0
