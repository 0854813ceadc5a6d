-- The parts of what a material may hold.
use Rattle.std.proofs.Common.{◌≡◌, ℕ, ◌≤◌, Bool, true, ◌&&◌, List, map, length}
use Rattle.std.specs.Prelude.{nat_le}
use Rattle.std.specs.List.{list_all}
use Rattle.std.proofs.lemmas.List.{map-id}
use Rattle.std.proofs.lemmas.Bool.{and_from, and_parts, le-leb, leb-true}
use Rattle.desk_law.specs.declared.claim.Claim.{Claim}
use Rattle.desk_text.specs.Code.{code_cmp}
use Rattle.desk_rows.specs.Rows.{IsByKey}
use Rattle.desk_model.specs.declared.limits.TheConstants.{CLAIM_LIMIT, CONTENT_LIMIT, MASS_LIMIT}
use Rattle.desk_model.specs.declared.substance_mass.SubstanceMass.{SubstanceMass}
use Rattle.desk_law.specs.Claim.{claim_cmp}
use Rattle.desk_model.specs.Content.{are_claims, are_substances, is_content, rises}
use Rattle.desk_model.proofs.Order.{rises_from_sorted, sorted_from_rises}

-- a substance's mass is in its range
abbrev pub is_light : SubstanceMass → Bool
is_light one = nat_le one.mass MASS_LIMIT

pub record ContentParts (mass : ℕ) (held : List SubstanceMass) (claims : List Claim) : Type 0 where
  pub in_range : (nat_le 1 mass && nat_le mass MASS_LIMIT) ≡ true
  pub substances : are_substances held ≡ true
  pub claimed : are_claims claims ≡ true

pub content_parts : (mass : ℕ) (held : List SubstanceMass) (claims : List Claim) → is_content mass held claims ≡ true → ContentParts mass held claims
content_parts mass held claims h =
    let in_range = nat_le 1 mass && nat_le mass MASS_LIMIT in
    let outer = and_parts (in_range && are_substances held) (are_claims claims) h in
    let inner = and_parts in_range (are_substances held) outer.0 in
    record { in_range = inner.0; substances = inner.1; claimed = outer.1 }

pub from_content_parts : (mass : ℕ) (held : List SubstanceMass) (claims : List Claim) → ContentParts mass held claims → is_content mass held claims ≡ true
from_content_parts mass held claims p =
    let in_range = nat_le 1 mass && nat_le mass MASS_LIMIT in
    and_from (in_range && are_substances held) (are_claims claims) (and_from in_range (are_substances held) p.in_range p.substances) p.claimed

pub record SubstanceParts (held : List SubstanceMass) : Type 0 where
  pub fits : length held ≤ CONTENT_LIMIT
  pub by_key : IsByKey (λ one. one.substance) code_cmp held
  pub light : list_all is_light held ≡ true

pub substance_parts : (held : List SubstanceMass) → are_substances held ≡ true → SubstanceParts held
substance_parts held h =
    let fits = nat_le (length held) CONTENT_LIMIT in
    let codes = map (λ one. one.substance) held in
    let outer = and_parts (fits && rises code_cmp codes) (list_all is_light held) h in
    let inner = and_parts fits (rises code_cmp codes) outer.0 in
    record { fits = leb-true (length held) CONTENT_LIMIT inner.0; by_key = sorted_from_rises code_cmp codes inner.1; light = outer.1 }

pub from_substance_parts : (held : List SubstanceMass) → SubstanceParts held → are_substances held ≡ true
from_substance_parts held p =
    let fits = nat_le (length held) CONTENT_LIMIT in
    let codes = map (λ one. one.substance) held in
    and_from (fits && rises code_cmp codes) (list_all is_light held)
    (and_from fits (rises code_cmp codes) (le-leb (length held) CONTENT_LIMIT p.fits) (rises_from_sorted code_cmp codes p.by_key))
    p.light

pub record ClaimParts (claims : List Claim) : Type 0 where
  pub fits : length claims ≤ CLAIM_LIMIT
  pub by_key : IsByKey (λ claim. claim) claim_cmp claims

pub claim_parts : (claims : List Claim) → are_claims claims ≡ true → ClaimParts claims
claim_parts claims h =
    let both = and_parts (nat_le (length claims) CLAIM_LIMIT) (rises claim_cmp claims) h in
    record { fits = leb-true (length claims) CLAIM_LIMIT both.0; by_key = rw map-id (sorted_from_rises claim_cmp claims both.1) }

pub from_claim_parts : (claims : List Claim) → ClaimParts claims → are_claims claims ≡ true
from_claim_parts claims p =
    and_from (nat_le (length claims) CLAIM_LIMIT) (rises claim_cmp claims) (le-leb (length claims) CLAIM_LIMIT p.fits)
    (rises_from_sorted claim_cmp claims (rw map-id at p.by_key))
