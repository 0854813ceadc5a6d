use Rattle.std.proofs.Common.{◌++◌, ◌∙◌, ◌&&◌, [], sym, ap, count_by, string_bytes}
use Rattle.std.specs.Prelude.{nat_lt, if◌then◌else◌}
use Rattle.std.specs.List.{flat_map}
use Rattle.std.proofs.lemmas.List.Sums.{length-filter}
use Rattle.desk_text.specs.Day.{is_not_after}
use Rattle.desk_model.specs.declared.limits.TheConstants.{TONNE}
use Rattle.desk_model.specs.declared.rows.candidate.CandidateRow.{CandidateRow}
use Rattle.desk_findings.specs.Tonnage.{notices, tonnage}
use Rattle.desk_tables.proofs.Taken.{take_whole}
use Rattle.desk_scratch.specs.Reach7.{notice_line}
use Rattle.desk_scratch.proofs.Lines.{flat_map-filter}
use Rattle.desk_scratch.proofs.reach7.push_notices.Goals as goal

pub returns-clause-lines : goal.returns-clause-lines
unfolding notices
returns-clause-lines c =
    let t = c.args.tables.now.lists in
    let due = λ (candidate : CandidateRow). is_not_after candidate.day c.args.day && nat_lt TONNE (tonnage t c.args.year candidate.substance) in
    let old = string_bytes c.args.out.now in
    c.loop-candidate.invariant.lines
    ∙ ap (λ candidates. old ++ flat_map (λ candidate. if due candidate then notice_line t c.args.year candidate else []) candidates)
    (take_whole _ c.loop-candidate.candidate-index c.loop-candidate-test.false ∙ c.loop-candidate.invariant.same)
    ∙ ap (λ lines. old ++ lines) (sym (flat_map-filter (notice_line t c.args.year) due t.candidates))

pub returns-clause-count : goal.returns-clause-count
unfolding notices
returns-clause-count c =
    let t = c.args.tables.now.lists in
    let due = λ (candidate : CandidateRow). is_not_after candidate.day c.args.day && nat_lt TONNE (tonnage t c.args.year candidate.substance) in
    c.loop-candidate.invariant.count
    ∙ ap (count_by due) (take_whole _ c.loop-candidate.candidate-index c.loop-candidate-test.false ∙ c.loop-candidate.invariant.same)
    ∙ sym (length-filter due t.candidates)
