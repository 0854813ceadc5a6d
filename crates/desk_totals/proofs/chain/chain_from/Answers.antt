use Rattle.std.proofs.Common.{◌≡◌, ◌+◌, length, map, sym, ap, subst, ◌∙◌}
use Rattle.std.specs.Prelude.{if◌then◌else◌}
use Rattle.std.proofs.lemmas.Result.{IfOk-weaker}
use Rattle.desk_findings.specs.Chain.{chain, chain_within}
use Rattle.desk_findings.specs.Reaches.{enough}
use Rattle.desk_text.specs.Code.{same_code}
use Rattle.desk_totals.proofs.BitsGoUp.{lowest_right}
use Rattle.desk_totals.proofs.Distinct.{children_among}
use Rattle.desk_totals.proofs.FirstChild.{are_next}
use Rattle.desk_totals.proofs.Walks.{steps_enough}
use Rattle.desk_totals.specs.Marks.{with_bits}
use Rattle.desk_totals.specs.Next.{AreNext, AreSteps, or_child}
use Rattle.desk_totals.specs.Places.{node_at}
use Rattle.desk_totals.specs.Rounds.{IsSettled, round}
use Rattle.desk_totals.proofs.chain.chain_from.Goals as goal

pub returns : goal.returns
returns c t of is_bill =
    let bill = c.args.bill.now in
    let target = c.args.target.now in
    let own = c.in_ok-own.own.items in
    let bits = c.in_ok-bits.bits.items in
    let steps = c.in_ok-steps.steps.items in
    let next = c.in_ok-next.next.items in
    let children = children_among bill t of c.nodes.ensures.linked.ends in
    let right = lowest_right t is_bill bill of children own bits target
    (subst (λ list. IsSettled with_bits 0 bill list bits) c.as_slice.ensures.value c.in_ok-bits.ensures.bits)
    (c.in_ok-own.ensures.bits ∙ ap (map (λ code. if same_code code target then 1 else 0)) c.nodes.ensures.nodes) in
    let steps_are = subst (λ list. AreSteps list steps) c.as_slice-2.ensures.value c.in_ok-steps.ensures.steps in
    let steps_size = c.in_ok-steps.ensures.len ∙ ap length c.as_slice-2.ensures.value ∙ c.in_ok-bits.ensures.len in
    let next_is = c.in_ok-next.ensures.next ∙ ap (round or_child _ bill _) c.as_slice-3.ensures.value in
    let are = are_next t bill of c.nodes.ensures.linked.distinct children target bits right c.in_ok-bits.ensures.len steps steps_are steps_size next next_is in
    let are_here = subst (λ list. AreNext c.nodes-2.result.now list t.lines (enough t) target) (sym c.as_slice-4.ensures.value) (subst (λ nodes. AreNext nodes next t.lines (enough t) target) (sym c.nodes-2.ensures.nodes) are) in
    IfOk-weaker c.walk.result
    (λ codes. codes.items ≡ chain_within t.lines (enough t) (length c.nodes-2.result.now + 2) (node_at c.nodes-2.result.now c.args.start) target)
    (λ codes. codes.items ≡ chain t (node_at bill.nodes c.args.start) target)
    (λ codes e. e ∙ ap (λ nodes. chain_within t.lines (enough t) (length nodes + 2) (node_at nodes c.args.start) target) c.nodes-2.ensures.nodes ∙ steps_enough t is_bill bill of (node_at bill.nodes c.args.start) target)
    (c.walk.ensures t.lines (enough t) are_here)
