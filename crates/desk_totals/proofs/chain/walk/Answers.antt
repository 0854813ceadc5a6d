use Rattle.std.proofs.Common.{◌≡◌, ◌++◌, ◌∷◌, [], ℕ, suc, ◌+◌, ◌-◌, drop, length, sym, ap, ◌∙◌, arith}
use Rattle.std.proofs.lemmas.List.{append-nil, get_or_read}
use Rattle.desk_findings.specs.Chain.{chain_within}
use Rattle.desk_totals.proofs.Walks.{chain-head, chain-last, walked_all, walked_more}
use Rattle.desk_totals.specs.Places.{node_at}
use Rattle.desk_totals.proofs.chain.walk.Goals as goal

pub loop-step-init : goal.loop-step-init
loop-step-init c =
    let nodes = c.args.nodes.now in
    let start = c.args.start in
    let target = c.args.target.now in
    let read = get_or_read nodes start c.index-nodes-start.result c.requires.start c.index-nodes-start.is [] in
    let first : c.push.new.self.items ≡ node_at nodes start ∷ [] =
    c.in_ok-push.ensures.items ∙ ap (λ codes. codes ++ c.index-nodes-start.result ∷ []) c.new-codes.ensures.items ∙ ap (λ code. code ∷ []) read in
    let steps : length nodes + 2 - 0 ≡ length nodes + 2 = omega arith in (
      c.requires.start,
      λ lines deep are.
          ap (λ codes. codes ++ drop 1 (chain_within lines deep (length nodes + 2 - 0) (node_at nodes start) target)) first
          ∙ sym (chain-head lines deep target (length nodes + 2 - 0) (node_at nodes start))
          ∙ ap (λ k. chain_within lines deep k (node_at nodes start) target) steps,
    )

pub returns-in-None : goal.returns-in-None
returns-in-None c lines deep are =
    let nodes = c.args.nodes.now in
    let target = c.args.target.now in
    let at = c.loop-step.at in
    let k : ℕ = length nodes + 2 - (c.loop-step._step + 1) in
    let steps : suc k ≡ length nodes + 2 - c.loop-step._step = omega (arith, c.loop-step-test.true) in
    walked_all lines deep target nodes c.args.next.now are k at c.loop-step.codes.items (chain_within lines deep (length nodes + 2) (node_at nodes c.args.start) target) c.loop-step.invariant.0
    (c.in-None.ensures.next (are at c.loop-step.invariant.0).0)
    (ap (λ n. c.loop-step.codes.items ++ drop 1 (chain_within lines deep n (node_at nodes at) target)) steps ∙ c.loop-step.invariant.1 lines deep are)

pub loop-step-preserved : goal.loop-step-preserved
loop-step-preserved c =
    let nodes = c.args.nodes.now in
    let target = c.args.target.now in
    let at = c.loop-step.at in
    let child = c.in-Some.child in
    let within = c.in-Some.ensures.within in
    let read = get_or_read nodes child c.index-nodes-child.result within c.index-nodes-child.is [] in
    let k : ℕ = length nodes + 2 - (c.loop-step._step + 1) in
    let steps : suc k ≡ length nodes + 2 - c.loop-step._step = omega (arith, c.loop-step-test.true) in (
      within,
      λ lines deep are.
          walked_more lines deep target nodes c.args.next.now are k at child c.loop-step.codes.items _ (chain_within lines deep (length nodes + 2) (node_at nodes c.args.start) target) c.loop-step.invariant.0
          (c.in-Some.ensures.next (are at c.loop-step.invariant.0).0)
          (c.in_ok-push-in-Some.ensures.items ∙ ap (λ code. c.loop-step.codes.items ++ code ∷ []) read)
          (ap (λ n. c.loop-step.codes.items ++ drop 1 (chain_within lines deep n (node_at nodes at) target)) steps ∙ c.loop-step.invariant.1 lines deep are),
    )

pub returns : goal.returns
returns c lines deep are =
    let nodes = c.args.nodes.now in
    let target = c.args.target.now in
    let steps : length nodes + 2 - c.loop-step._step ≡ 0 = omega (arith, c.loop-step-test.false) in
    sym (append-nil c.loop-step.codes.items)
    ∙ ap (λ l. c.loop-step.codes.items ++ l) (sym (chain-last lines deep target (node_at nodes c.loop-step.at)))
    ∙ ap (λ n. c.loop-step.codes.items ++ drop 1 (chain_within lines deep n (node_at nodes c.loop-step.at) target)) (sym steps)
    ∙ c.loop-step.invariant.1 lines deep are
