use Rattle.desk_law.specs.Claim.{claim_cmp}
use Rattle.desk_model.specs.declared.limits.TheConstants.{CLAIM_LIMIT}
use Rattle.desk_model.proofs.Entering.{entered_repeated}
use Rattle.desk_model.proofs.enter.enter_claim.Goals as goal

pub returns-in-Ok-clause-error : goal.returns-in-Ok-clause-error
returns-in-Ok-clause-error c = λ _. entered_repeated (λ claim. claim) claim_cmp CLAIM_LIMIT c.args.new c.as_slice.result.now c.args.claims.now.items c.in-Ok.field-0 c.as_slice.ensures.value c.in-Ok.ensures
