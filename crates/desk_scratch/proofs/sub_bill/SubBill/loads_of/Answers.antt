use Rattle.std.proofs.Common.{◌==◌, ◌∷◌, ◌∙◌, [], ap, not, sym}
use Rattle.std.specs.Prelude.{if◌then◌else◌}
use Rattle.std.specs.List.{flat_map}
use Rattle.desk_findings.specs.Carried.{carried}
use Rattle.desk_model.specs.declared.rows.candidate.CandidateRow.{CandidateRow}
use Rattle.desk_tables.proofs.Taken.{take_whole}
use Rattle.desk_scratch.specs.LookUps.{load_of}
use Rattle.desk_scratch.proofs.Lines.{map-filter}
use Rattle.desk_scratch.proofs.sub_bill.SubBill.loads_of.Goals as goal

pub returns : goal.returns
returns c =
    let t = c.args.self.now.lists in
    let part = c.args.part.now in
    let test = λ (candidate : CandidateRow). not (carried t candidate.substance part == 0) in
    c.loop-candidate.invariant.list
    ∙ ap (flat_map (λ candidate. if test candidate then load_of t part candidate ∷ [] else [])) (take_whole _ c.loop-candidate.candidate-index c.loop-candidate-test.false ∙ c.loop-candidate.invariant.same)
    ∙ sym (map-filter (load_of t part) test t.candidates)
