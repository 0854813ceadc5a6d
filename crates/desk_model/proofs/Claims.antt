-- The order of claims, and a material that takes one more claim.
use Rattle.std.proofs.Common.{◌≡◌, true, List, Result, Ok, refl}
use Rattle.std.specs.Cmp.{IsTotalOrder}
use Rattle.std.proofs.lemmas.Cmp.{nat_cmp_total, nat_list_cmp_total, on_total, then_total}
use Rattle.desk_law.specs.Claim.{claim_cmp}
use Rattle.desk_law.specs.Rule.{rule_number}
use Rattle.desk_law.specs.declared.claim.Claim.{Claim}
use Rattle.desk_rows.specs.Rows.{IsByKey}
use Rattle.desk_model.specs.declared.decl_error.DeclError.{DeclError}
use Rattle.desk_model.specs.declared.limits.TheConstants.{CLAIM_LIMIT}
use Rattle.desk_model.specs.declared.material_decl.MaterialDecl.{MaterialDecl}
use Rattle.desk_model.specs.Declaring.{with_new}
use Rattle.desk_model.proofs.Changing.{Part}
use Rattle.desk_model.proofs.Content.{claim_parts, content_parts, from_claim_parts, from_content_parts}
use Rattle.desk_model.proofs.Declaring.{is_good}
use Rattle.desk_model.proofs.Entering.{entered_keeps}

pub claim_total : IsTotalOrder claim_cmp
claim_total = then_total (on_total (λ claim. rule_number claim.rule) nat_cmp_total) (on_total (λ claim. claim.number) nat_list_cmp_total)

abbrev pub claims_list : Part Claim
claims_list = record {
  items = λ m. m.claims;
  with_items = λ m all. record m { claims = all };
  same_code = λ m all. refl;
  same_items = λ m. refl;
}

abbrev pub one_claim : Claim → List Claim → Result (List Claim) DeclError
one_claim = with_new (λ claim. claim) claim_cmp CLAIM_LIMIT

pub by_claim : (m : MaterialDecl) → is_good m ≡ true → IsByKey (λ claim. claim) claim_cmp m.claims
by_claim m good = (claim_parts m.claims (content_parts m.mass m.substances m.claims good).claimed).by_key

pub good_with_claim : (m : MaterialDecl) (new : Claim) (all : List Claim) → is_good m ≡ true → one_claim new m.claims ≡ Ok all → is_good (record m { claims = all }) ≡ true
good_with_claim m new all good e =
    let content = content_parts m.mass m.substances m.claims good in
    let p = claim_parts m.claims content.claimed in
    let keeps = entered_keeps (λ claim. claim) claim_cmp claim_total CLAIM_LIMIT new m.claims all e p.by_key in
    from_content_parts m.mass m.substances all (record {
      in_range = content.in_range;
      substances = content.substances;
      claimed = from_claim_parts all (record { fits = keeps.fits; by_key = keeps.by_key });
    })
