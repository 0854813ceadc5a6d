-- The lines one after another.
use Rattle.std.proofs.Common.{◌≡◌, ◌∙◌, [], ap, count_by, filter, length, refl, subst, sym}
use Rattle.std.specs.Prelude.{if◌then◌else◌}
use Rattle.std.specs.List.{AllByRecursion, flat_map}
use Rattle.std.proofs.lemmas.List.{length-map}
use Rattle.std.proofs.lemmas.List.Sums.{length-filter}
use Rattle.desk_model.proofs.Anys.{count-map}
use Rattle.desk_model.proofs.Elements.{each_in_map}
use Rattle.desk_findings.specs.Duties.{duties}
use Rattle.desk_findings.specs.Findings.{findings}
use Rattle.desk_scratch.specs.LookUps.{IsFound, duty_of, finding_of, is_finding_due}
use Rattle.desk_scratch.specs.Reach33.{duty_lines, reach33_text}
use Rattle.desk_scratch.proofs.FlatMaps.{of_map}
use Rattle.desk_scratch.proofs.FoundDuties.{each_is_found, found_duties}
use Rattle.desk_scratch.proofs.Lines.{flat_map-filter}
use Rattle.desk_scratch.proofs.reach33.reach33_text.Goals as goal

pub push_duties-requires-clause-found : goal.push_duties-requires-clause-found
push_duties-requires-clause-found g c =
    let t = g.S.AnswerSource.lists c.args.source.now in
    let part = c.args.part.now in
    subst (AllByRecursion (λ finding. IsFound t part (finding_of finding))) (sym c.as_slice-findings.ensures.value)
    (each_in_map (IsFound t part) finding_of c.in_ok-list.list.items
    (subst (AllByRecursion (IsFound t part)) (sym c.in_ok-list.ensures.findings) (each_is_found t c.tables.ensures.sound.consistent.ordered part)))

pub returns : goal.returns
unfolding reach33_text
returns g c =
    let t = g.S.AnswerSource.lists c.args.source.now in
    let part = c.args.part.now in
    let day = c.args.day in
    let list = c.in_ok-list.list.items in
    let ordered = c.tables.ensures.sound.consistent.ordered in
    let due = is_finding_due t day in
    let lines : flat_map (λ finding. if due (finding_of finding) then duty_lines t part (duty_of (finding_of finding)) else []) c.as_slice-findings.result.now ≡ flat_map (duty_lines t part) (duties t part day) =
    ap (flat_map (λ finding. if due (finding_of finding) then duty_lines t part (duty_of (finding_of finding)) else [])) c.as_slice-findings.ensures.value
    ∙ sym (of_map (λ finding. if due finding then duty_lines t part (duty_of finding) else []) finding_of list)
    ∙ ap (flat_map (λ finding. if due finding then duty_lines t part (duty_of finding) else [])) c.in_ok-list.ensures.findings
    ∙ sym (flat_map-filter (λ finding. duty_lines t part (duty_of finding)) due (findings t part))
    ∙ sym (of_map (duty_lines t part) duty_of (filter due (findings t part)))
    ∙ ap (flat_map (duty_lines t part)) (sym (found_duties t ordered part day)) in
    let count : c.in_ok-count.count ≡ length (duties t part day) =
    c.in_ok-count.ensures.count
    ∙ ap (count_by (λ finding. due (finding_of finding))) c.as_slice-findings.ensures.value
    ∙ sym (count-map due finding_of list)
    ∙ ap (count_by due) c.in_ok-list.ensures.findings
    ∙ sym (length-filter due (findings t part))
    ∙ sym (length-map (filter due (findings t part)) duty_of)
    ∙ ap length (sym (found_duties t ordered part day)) in
    c.from.ensures ∙ rw c.into_bytes.ensures.value refl ∙ c.in_ok-push_duty_count_line.ensures
    ∙ rw (count, c.in_ok-count.ensures.lines, lines, c.in_ok-push_asked_part_line.ensures, c.in_ok-push_version_line.ensures, c.tables.ensures.lists, c.into_string-text.ensures) refl
