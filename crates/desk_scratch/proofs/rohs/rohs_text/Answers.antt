-- The lines one after another.
use Rattle.std.proofs.Common.{◌∙◌, ap, arith, refl, subst, sum_by, sym}
use Rattle.std.specs.List.{AllByRecursion, flat_map, list_any}
use Rattle.desk_model.proofs.Elements.{any-map, each_in_map}
use Rattle.desk_scratch.specs.LookUps.{IsFound, finding_of, is_finding_breached, lines_on}
use Rattle.desk_scratch.specs.Rohs.{asked_product_line, rohs_text}
use Rattle.desk_scratch.specs.Steps.{printed_lines}
use Rattle.desk_tables.proofs.FewFindings.{sum_map}
use Rattle.desk_scratch.proofs.FlatMaps.{of_map}
use Rattle.desk_scratch.proofs.FoundBreaches.{found_breach, found_lines}
use Rattle.desk_scratch.proofs.FoundDuties.{each_is_found}
use Rattle.desk_scratch.proofs.rohs.rohs_text.Goals as goal

pub push_findings-requires-clause-found : goal.push_findings-requires-clause-found
push_findings-requires-clause-found g c =
    let t = g.S.AnswerSource.lists c.args.source.now in
    let part = c.args.product.now.part in
    subst (AllByRecursion (λ finding. IsFound t part (finding_of finding))) (sym c.as_slice-findings.ensures.value)
    (each_in_map (IsFound t part) finding_of c.in_ok-list.list.items
    (subst (AllByRecursion (IsFound t part)) (sym c.in_ok-list.ensures.findings) (each_is_found t c.tables-tables.ensures.sound.consistent.ordered part)))

pub returns-clause-text : goal.returns-clause-text
unfolding rohs_text asked_product_line
returns-clause-text g c =
    let t = g.S.AnswerSource.lists c.args.source.now in
    let product = c.args.product.now in
    let day = c.args.asked.now.day in
    let ordered = c.tables-tables.ensures.sound.consistent.ordered in
    let lines =
    ap (flat_map (λ finding. lines_on t product day (finding_of finding))) c.as_slice-findings.ensures.value
    ∙ sym (of_map (lines_on t product day) finding_of c.in_ok-list.list.items)
    ∙ ap (flat_map (lines_on t product day)) c.in_ok-list.ensures.findings
    ∙ found_lines t ordered product.part product day in
    let breach =
    ap (list_any (λ finding. is_finding_breached t product.kind day (finding_of finding))) c.as_slice-findings.ensures.value
    ∙ sym (any-map (is_finding_breached t product.kind day) finding_of c.in_ok-list.list.items)
    ∙ ap (list_any (is_finding_breached t product.kind day)) c.in_ok-list.ensures.findings
    ∙ found_breach t ordered product.part product.kind day in
    c.from.ensures ∙ rw c.into_bytes.ensures.value refl ∙ c.in_ok-push_compliance_line.ensures
    ∙ rw (c.in_ok-breach.ensures.lines, c.in_ok-breach.ensures.breach, c.in_ok-push_asked_product_line.ensures, c.in_ok-push_version_line.ensures, c.into_string-text.ensures, c.new-by.ensures, lines, breach, c.mass-mass.ensures, c.tables-tables.ensures.lists) refl

pub returns-clause-steps : goal.returns-clause-steps
returns-clause-steps g c =
    let t = g.S.AnswerSource.lists c.args.source.now in
    let product = c.args.product.now in
    let day = c.args.asked.now.day in
    let lines = printed_lines t product in
    let printed =
    ap (sum_by (λ finding. lines day (finding_of finding))) c.as_slice-findings.ensures.value
    ∙ sym (sum_map (lines day) finding_of c.in_ok-list.list.items)
    ∙ ap (sum_by (lines day)) c.in_ok-list.ensures.findings in
    let all = ap (λ by. sum_by (λ finding. lines by.day (finding_of finding)) c.as_slice-findings.result.now) c.new-by.ensures in
    omega (arith, c.findings.ensures.steps, c.in_ok-breach.ensures.steps, all, printed)
