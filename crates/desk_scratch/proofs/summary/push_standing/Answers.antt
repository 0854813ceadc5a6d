-- The line of the numbers that were counted.
use Rattle.std.proofs.Common.{◌≡◌, ◌∙◌, ap, count_by, filter, length, refl, sym}
use Rattle.std.proofs.lemmas.List.{length-map}
use Rattle.std.proofs.lemmas.List.Sums.{length-filter}
use Rattle.desk_model.proofs.Anys.{count-map}
use Rattle.desk_findings.specs.Duties.{duties}
use Rattle.desk_findings.specs.Findings.{findings}
use Rattle.desk_scratch.specs.Judgement.{breach_count}
use Rattle.desk_scratch.specs.LookUps.{duty_of, finding_of, is_finding_breached, is_finding_due}
use Rattle.desk_scratch.specs.Summary.{standing_line}
use Rattle.desk_scratch.proofs.Counted.{none_counted}
use Rattle.desk_scratch.proofs.FoundBreaches.{found_breaches}
use Rattle.desk_scratch.proofs.FoundDuties.{found_duties}
use Rattle.desk_scratch.proofs.summary.push_standing.Goals as goal

pub returns : goal.returns
unfolding standing_line
returns g c =
    let t = g.S.AnswerSource.lists c.args.source.now in
    let product = c.args.product.now in
    let day = c.args.day in
    let list = c.in_ok-list.list.items in
    let ordered = c.tables-tables.ensures.sound.consistent.ordered in
    let breach = is_finding_breached t product.kind day in
    let due = is_finding_due t day in
    let breaches : count_by (λ finding. breach (finding_of finding)) c.as_slice-findings.result.now ≡ breach_count t product.kind day product.part =
    ap (count_by (λ finding. breach (finding_of finding))) c.as_slice-findings.ensures.value
    ∙ sym (count-map breach finding_of list)
    ∙ ap (count_by breach) c.in_ok-list.ensures.findings
    ∙ found_breaches t ordered product.part product.kind day in
    let dues : count_by (λ finding. due (finding_of finding)) c.as_slice-findings.result.now ≡ length (duties t product.part day) =
    ap (count_by (λ finding. due (finding_of finding))) c.as_slice-findings.ensures.value
    ∙ sym (count-map due finding_of list)
    ∙ ap (count_by due) c.in_ok-list.ensures.findings
    ∙ sym (length-filter due (findings t product.part))
    ∙ sym (length-map (filter due (findings t product.part)) duty_of)
    ∙ ap length (sym (found_duties t ordered product.part day)) in
    c.in_ok-push_standing_line.ensures
    ∙ rw (c.breach_count-breaches.ensures, c.new-by.ensures, c.duty_count.ensures, c.tables-tables.ensures.lists, breaches, dues, none_counted t product.kind day product.part) refl
