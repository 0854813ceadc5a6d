use Rattle.std.proofs.Common.{[], sym, ap, ◌∙◌, arith}
use Rattle.std.proofs.lemmas.List.{get_or_read}
use Rattle.desk_model.proofs.Kept.{same_code-true}
use Rattle.desk_text.specs.Code.{same_code}
use Rattle.desk_totals.proofs.Distinct.{among_later}
use Rattle.desk_totals.proofs.place.first_place_of.Goals as goal

pub returns-then-eq : goal.returns-then-eq
returns-then-eq c =
    let read = get_or_read c.args.nodes.now c.loop-place.place c.index-nodes-place.result (omega arith) c.index-nodes-place.is [] in
    (omega arith, sym read ∙ same_code-true c.index-nodes-place.result c.args.code.now (sym c.eq.ensures ∙ c.if-eq.true))

pub loop-place-preserved : goal.loop-place-preserved
loop-place-preserved c =
    let read = get_or_read c.args.nodes.now c.loop-place.place c.index-nodes-place.result (omega arith) c.index-nodes-place.is [] in
    c.loop-place.invariant
    ∙ among_later c.args.code.now c.args.nodes.now c.loop-place.place (omega arith) (ap (λ node. same_code node c.args.code.now) (sym read) ∙ sym c.eq.ensures ∙ c.if-eq.false)
