use Rattle.std.proofs.Common.{◌≡◌, ◌==◌, ◌∷◌, ◌∙◌, [], ap, arith, get_or, length, not, subst, sym, true}
use Rattle.std.specs.Prelude.{if◌then◌else◌}
use Rattle.std.specs.List.{flat_map, list_any}
use Rattle.desk_text.specs.Code.{same_code}
use Rattle.desk_findings.specs.Carried.{carried}
use Rattle.desk_model.specs.declared.rows.candidate.CandidateRow.{CandidateRow}
use Rattle.desk_tables.proofs.Taken.{take_whole}
use Rattle.desk_scratch.specs.LookUps.{load_of}
use Rattle.desk_scratch.proofs.Lines.{map-filter}
use Rattle.desk_engine.proofs.Articles.{candidate_named}
use Rattle.desk_engine.proofs.stored_loads.stored_loads.Goals as goal

pub name_near-place-requires-clause-few : goal.name_near-place-requires-clause-few
name_near-place-requires-clause-few c = omega (arith, ap length c.as_slice-names.ensures, c.requires.stored.of.named.named.few)

pub name_near-place-requires-clause-named : goal.name_near-place-requires-clause-named
name_near-place-requires-clause-named c =
    let read = c.candidate-item.is ∙ ap (λ rows. get_or rows c.loop-candidate.candidate-index c.candidate-item.result) c.loop-candidate.invariant.same in
    subst (λ names. list_any (λ listed. same_code listed c.candidate-item.result.substance) names ≡ true) (sym c.as_slice-names.ensures)
    (candidate_named c.args.tables.now.lists c.args.stored.now.names c.requires.stored.of.named.named c.loop-candidate.candidate-index c.candidate-item.result (omega (arith, c.loop-candidate-test.true, ap length c.loop-candidate.invariant.same)) read)

pub returns : goal.returns
returns c =
    let t = c.args.tables.now.lists in
    let part = c.args.part.now in
    let test = λ (candidate : CandidateRow). not (carried t candidate.substance part == 0) in
    c.loop-candidate.invariant.list
    ∙ ap (flat_map (λ candidate. if test candidate then load_of t part candidate ∷ [] else [])) (take_whole _ c.loop-candidate.candidate-index c.loop-candidate-test.false ∙ c.loop-candidate.invariant.same)
    ∙ sym (map-filter (load_of t part) test t.candidates)
