use Rattle.std.proofs.Common.{◌≡◌, ◌&&◌, not, map, ap, subst, ◌∙◌}
use Rattle.std.specs.Prelude.{if◌then◌else◌}
use Rattle.std.proofs.lemmas.Result.{IfOk-weaker}
use Rattle.desk_findings.specs.Reaches.{reaches}
use Rattle.desk_text.specs.Code.{same_code}
use Rattle.desk_totals.proofs.BitsGoUp.{marks_are}
use Rattle.desk_totals.proofs.Distinct.{children_among}
use Rattle.desk_totals.specs.Marks.{has_bit, with_bits}
use Rattle.desk_totals.specs.Rounds.{IsSettled, value_of}
use Rattle.desk_totals.proofs.links.Links.marks.Goals as goal

pub returns-clause-marks : goal.returns-clause-marks
returns-clause-marks c t of is_bill =
    let bill = c.args.self.now in
    let target = c.args.target.now in
    let own = c.in_ok-own.own.items in
    let bits = c.in_ok-bits.bits.items in
    let is = marks_are t is_bill bill of (children_among bill t of c.nodes.ensures.linked.ends) own bits target
    (subst (λ list. IsSettled with_bits 0 bill list bits) c.as_slice.ensures.value c.in_ok-bits.ensures.bits)
    (c.in_ok-own.ensures.bits ∙ ap (map (λ code. if same_code code target then 1 else 0)) c.nodes.ensures.nodes) in
    IfOk-weaker c.marks_above.result
    (λ marks. marks.items ≡ map (λ code. has_bit 0 (value_of 0 c.nodes-2.result.now c.as_slice-2.result.now code) && not (same_code code target)) c.nodes-2.result.now)
    (λ marks. marks.items ≡ map (λ code. reaches t code target) bill.nodes)
    (λ marks e. e ∙ ap (λ nodes. map (λ code. has_bit 0 (value_of 0 nodes c.as_slice-2.result.now code) && not (same_code code target)) nodes) c.nodes-2.ensures.nodes
    ∙ ap (λ list. map (λ code. has_bit 0 (value_of 0 bill.nodes list code) && not (same_code code target)) bill.nodes) c.as_slice-2.ensures.value ∙ is)
    c.marks_above.ensures.marks
