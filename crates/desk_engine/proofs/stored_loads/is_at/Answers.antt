use Rattle.std.proofs.Common.{◌∙◌, [], arith, sym}
use Rattle.std.proofs.lemmas.List.{get_or_default}
use Rattle.desk_model.proofs.Kept.{same_code-true}
use Rattle.desk_engine.proofs.stored_loads.is_at.Goals as goal

pub returns-clause-name : goal.returns-clause-name
returns-clause-name c = λ same.
    sym (c.index-names-place.is ∙ get_or_default c.args.names.now c.args.place c.index-names-place.result [] (omega arith))
    ∙ same_code-true c.index-names-place.result c.args.substance.now (sym c.eq.ensures ∙ same)
