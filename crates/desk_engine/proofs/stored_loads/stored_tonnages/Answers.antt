use Rattle.std.proofs.Common.{◌≡◌, ◌∙◌, ap, arith, get_or, length, subst, sym, true}
use Rattle.std.specs.List.{list_any}
use Rattle.desk_text.specs.Code.{same_code}
use Rattle.desk_engine.proofs.Articles.{candidate_named}
use Rattle.desk_engine.proofs.stored_loads.stored_tonnages.Goals as goal

pub name_near-place-requires-clause-few : goal.name_near-place-requires-clause-few
name_near-place-requires-clause-few c = omega (arith, ap length c.as_slice-names.ensures, c.requires.stored.of.named.named.few)

pub name_near-place-requires-clause-named : goal.name_near-place-requires-clause-named
name_near-place-requires-clause-named c =
    let read = c.candidate-item.is ∙ ap (λ rows. get_or rows c.loop-candidate.candidate-index c.candidate-item.result) c.loop-candidate.invariant.same in
    subst (λ names. list_any (λ listed. same_code listed c.candidate-item.result.substance) names ≡ true) (sym c.as_slice-names.ensures)
    (candidate_named c.args.tables.now.lists c.args.stored.now.names c.requires.stored.of.named.named c.loop-candidate.candidate-index c.candidate-item.result (omega (arith, c.loop-candidate-test.true, ap length c.loop-candidate.invariant.same)) read)
