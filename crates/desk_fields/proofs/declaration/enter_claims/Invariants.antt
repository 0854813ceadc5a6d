-- What is left to add to the declaration so far is what was to be added at first.
use Rattle.std.proofs.Common.{◌≡◌, drop}
use Rattle.desk_fields.specs.Declaring.{claims_added}
use Rattle.desk_fields.proofs.declaration.enter_claims.Given as goal

abbrev pub invariant-loop-claim : goal.invariant-loop-claim
invariant-loop-claim l = claims_added l.code (drop l.claim-index l.claims) l.declaration ≡ claims_added l.code l.claims l.fn.declaration
