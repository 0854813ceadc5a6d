use Rattle.std.proofs.Common.{subst}
use Rattle.std.specs.List.Sorted.{IsBinarySearchResult}
use Rattle.desk_rows.proofs.Edits.{place_of_row}
use Rattle.desk_law.specs.Claim.{claim_cmp}
use Rattle.desk_law.proofs.Orders.{claims_in_order}
use Rattle.desk_model.proofs.Claims.{claim_total}
use Rattle.desk_model.proofs.enter.place_of_claim.Goals as goal

pub returns : goal.returns
returns c =
    let new = c.args.new.now in
    let claims = c.args.claims.now in
    let found = subst (λ cmp. IsBinarySearchResult (λ claim. cmp claim new) claims c.binary_search.result) claims_in_order c.binary_search.ensures.position in
    place_of_row (λ claim. claim) claim_cmp claim_total new claims c.binary_search.result c.requires c.binary_search.ensures.bound found
