use Rattle.std.proofs.Common.{◌++◌, ◌∷◌, ◌∙◌, [], ap, map, sym}
use Rattle.std.specs.Prelude.{if◌then◌else◌}
use Rattle.std.specs.List.{flat_map}
use Rattle.desk_model.specs.declared.rows.candidate.CandidateRow.{CandidateRow}
use Rattle.desk_findings.specs.Above.{is_above}
use Rattle.desk_findings.specs.Findings.{above}
use Rattle.desk_tables.proofs.Taken.{take_whole}
use Rattle.desk_scratch.specs.LookUps.{finding_of}
use Rattle.desk_scratch.proofs.Lines.{map-filter}
use Rattle.desk_scratch.proofs.bill.Bill.push_aboves.Goals as goal

pub returns : goal.returns
returns c =
    let t = c.args.self.now in
    let code = c.args.article.now.code in
    let test = λ (candidate : CandidateRow). is_above t code candidate.substance in
    let old = map finding_of c.args.list.now.items in
    c.loop-candidate.invariant.list
    ∙ ap (λ candidates. old ++ flat_map (λ candidate. if test candidate then above code candidate.substance ∷ [] else []) candidates) (take_whole _ c.loop-candidate.candidate-index c.loop-candidate-test.false ∙ c.loop-candidate.invariant.same)
    ∙ ap (λ list. old ++ list) (sym (map-filter (λ (candidate : CandidateRow). above code candidate.substance) test t.candidates))
