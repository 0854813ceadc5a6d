use Rattle.std.proofs.Common.{◌≡◌, ◌∙◌, ◌++◌, [], true, ap, refl, string_bytes, sym}
use Rattle.std.specs.Prelude.{if◌then◌else◌}
use Rattle.desk_model.specs.declared.rows.material.MaterialRow.{MaterialRow}
use Rattle.desk_model.specs.Lists.{material_row}
use Rattle.desk_findings.specs.Chain.{chain}
use Rattle.desk_findings.specs.Findings.{over}
use Rattle.desk_model.proofs.Elements.{each}
use Rattle.desk_model.proofs.Kept.{found_each}
use Rattle.desk_scratch.specs.LookUps.{finding_of, holder_of, lines_on}
use Rattle.desk_scratch.specs.Judgement.{is_breached}
use Rattle.desk_scratch.specs.Rohs.{over_line}
use Rattle.desk_scratch.specs.SharedLines.{chain_line}
use Rattle.desk_scratch.proofs.FoundBreaches.{over_appended}
use Rattle.desk_scratch.proofs.rohs.push_finding.Goals as goal

pub returns-in_ok-push_chain_of-in-Some-clause-lines : goal.returns-in_ok-push_chain_of-in-Some-clause-lines
returns-in_ok-push_chain_of-in-Some-clause-lines g c =
    let t = g.S.AnswerSource.lists c.args.source.now in
    let product = c.args.product.now in
    let by = c.args.by.now in
    let material = c.in-Over.material in
    let rule = c.in-Over.rule in
    let row = c.in-Some.row.now in
    let finding : finding_of c.args.finding.now ≡ over material rule = ap finding_of c.in-Over.is in
    let found = sym (c.in-Some.ensures.row ∙ ap (λ u. material_row u material) c.requires.lists) in
    let code : row.code ≡ material =
    (found_each (λ (one : MaterialRow). one.code) (λ one. true ≡ true) material t.materials row (each (λ one. true ≡ true) (λ one. refl) t.materials) found).1 in
    let old = string_bytes c.args.out.now in
    let mid = string_bytes c.push_over.new.out in
    let breach = c.in_ok-breach-in-Some.breach in
    let line =
    c.in_ok-breach-in-Some.ensures.line ∙ ap (λ u. old ++ over_line u by.kind by.day row rule) c.requires.lists ∙ ap (λ kind. old ++ over_line t kind by.day row rule) c.requires.kind in
    let is = c.in_ok-breach-in-Some.ensures.breach ∙ ap (λ u. is_breached u by.kind by.day row rule) c.requires.lists ∙ ap (λ kind. is_breached t kind by.day row rule) c.requires.kind in
    let step =
    c.in_ok-push_chain_of-in-Some.ensures.line ∙ ap (λ one. mid ++ (if breach then chain_line (chain t product.part (holder_of one)) else [])) finding in
    over_appended t product by.day material rule row breach old mid (string_bytes c.push_chain_of.new.out) found code line is step
    ∙ ap (λ one. old ++ lines_on t product by.day one) (sym finding)
