-- What a homogeneous material is said to hold: its mass, substances with masses, and claims of exemption.
use Rattle.std.specs.Prelude.{ℕ, Bool, true, ◌&&◌, List, [], ◌∷◌, length, map, nat_le, nat_lt, sum_by}
use Rattle.std.specs.List.{list_all}
use Rattle.std.specs.Ordering.{is_lt}
use Rattle.std.specs.declared.cmp.Ordering.{Ordering}
use Rattle.desk_text.specs.Code.{code_cmp}
use Rattle.desk_law.specs.declared.claim.Claim.{Claim}
use Rattle.desk_law.specs.Claim.{claim_cmp}
use Rattle.desk_model.specs.declared.substance_mass.SubstanceMass.{SubstanceMass}
use Rattle.desk_model.specs.declared.limits.TheConstants.{MASS_LIMIT, CONTENT_LIMIT, CLAIM_LIMIT}
use Rattle.desk_model.specs.Values.{is_code, is_exemption_number}

-- each element of the list is below all that come after it, by the order that is given
abbrev pub rises : {K : Type 0} → (K → K → Ordering) → List K → Bool
rises cmp [] = true
rises cmp (k ∷ ks) = list_all (λ later. is_lt (cmp k later)) ks && rises cmp ks

-- a material's substances stand in order of code, each once, no more than a material may have, with masses in range
abbrev pub are_substances : List SubstanceMass → Bool
are_substances held =
    nat_le (length held) CONTENT_LIMIT
    && rises code_cmp (map (λ one. one.substance) held)
    && list_all (λ one. nat_le one.mass MASS_LIMIT) held

-- a material's claims stand in order, each once, no more than a material may have
abbrev pub are_claims : List Claim → Bool
are_claims claims = nat_le (length claims) CLAIM_LIMIT && rises claim_cmp claims

-- a material's mass, substances and claims are in their ranges
abbrev pub is_content : ℕ → List SubstanceMass → List Claim → Bool
is_content mass held claims = nat_le 1 mass && nat_le mass MASS_LIMIT && are_substances held && are_claims claims

-- the codes of a material's substances and the exemption numbers of its claims are of their form
abbrev pub is_content_in_form : List SubstanceMass → List Claim → Bool
is_content_in_form held claims =
    list_all (λ one. is_code one.substance) held && list_all (λ claim. is_exemption_number claim.number) claims

-- the substances of a material weigh more than its mass
abbrev pub holds_too_much : ℕ → List SubstanceMass → Bool
holds_too_much mass held = nat_lt mass (sum_by (λ one. one.mass) held)
