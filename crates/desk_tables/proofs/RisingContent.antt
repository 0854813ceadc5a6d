-- What rises one after the other rises in all.
use Rattle.std.proofs.Common.{◌≡◌, ℕ, zero, suc, ◌+◌, ◌-◌, ◌<◌, ◌≤◌, Bool, true, false, ◌&&◌, List, [], ◌∷◌, length, drop, get_or, is_lt, map, refl, sym, ap, arith, ◌∙◌}
use Rattle.std.proofs.lemmas.List.{get_or_default}
use Rattle.std.specs.Ordering.{on}
use Rattle.std.specs.declared.cmp.Ordering.{Ordering}
use Rattle.std.proofs.lemmas.Cmp.{nat_list_cmp_total, on_total}
use Rattle.desk_text.specs.Code.{code_cmp}
use Rattle.desk_law.specs.declared.claim.Claim.{Claim}
use Rattle.desk_law.specs.Claim.{claim_cmp}
use Rattle.desk_model.specs.declared.substance_mass.SubstanceMass.{SubstanceMass}
use Rattle.desk_model.specs.Content.{rises}
use Rattle.desk_fields.specs.Reading.{in_turn}
use Rattle.desk_model.proofs.Claims.{claim_total}
use Rattle.desk_fields.proofs.Rising.{rises_in_turn, rises_on}

pub codes_rise : (held : List SubstanceMass) → in_turn (on (λ one. one.substance) code_cmp) held ≡ rises code_cmp (map (λ one. one.substance) held)
codes_rise held = sym (rises_in_turn (on (λ one. one.substance) code_cmp) (on_total (λ one. one.substance) nat_list_cmp_total) held) ∙ sym (rises_on (λ one. one.substance) code_cmp held)

pub claims_rise : (claims : List Claim) → in_turn claim_cmp claims ≡ rises claim_cmp claims
claims_rise claims = sym (rises_in_turn claim_cmp claim_total claims)

turn_at : {A : Type 0} (order : A → A → Ordering) (xs : List A) (j : ℕ) (d : A) → suc j < length xs
    → in_turn order (drop j xs) ≡ (is_lt (order (get_or xs j d) (get_or xs (suc j) d)) && in_turn order (drop (suc j) xs))
turn_at order [] j d l = absurd (omega (arith, l))
turn_at order (a ∷ []) j d l = absurd (omega (arith, l))
turn_at order (a ∷ b ∷ rest) zero d l = refl
turn_at order (a ∷ b ∷ rest) (suc j) d l = turn_at order (b ∷ rest) j d (omega (arith, l))

-- where one isn't below the one behind it, those from there on don't rise
pub stops_at : {A : Type 0} (order : A → A → Ordering) (xs : List A) (place : ℕ) (a b : A) → 1 ≤ place → place < length xs → a ≡ get_or xs (place - 1) a → b ≡ get_or xs place b
    → is_lt (order a b) ≡ false → false ≡ in_turn order (drop (place - 1) xs)
stops_at order xs zero a b least l here behind e = absurd (omega (arith, least))
stops_at order xs (suc j) a b least l here behind e =
    let back : suc j - 1 ≡ j = omega arith in
    let first : a ≡ get_or xs j a = here ∙ ap (λ n. get_or xs n a) back in
    let second : get_or xs (suc j) a ≡ b = get_or_default xs (suc j) a b l ∙ sym behind in
    sym (ap (λ n. in_turn order (drop n xs)) back ∙ turn_at order xs j a l ∙ rw (sym first, second, e) refl)

-- where it is, they rise exactly if those behind it do
pub goes_on : {A : Type 0} (order : A → A → Ordering) (xs : List A) (place : ℕ) (a b : A) → 1 ≤ place → place < length xs → a ≡ get_or xs (place - 1) a → b ≡ get_or xs place b
    → is_lt (order a b) ≡ true → in_turn order (drop (place + 1 - 1) xs) ≡ in_turn order (drop (place - 1) xs)
goes_on order xs zero a b least l here behind e = absurd (omega (arith, least))
goes_on order xs (suc j) a b least l here behind e =
    let back : suc j - 1 ≡ j = omega arith in
    let first : a ≡ get_or xs j a = here ∙ ap (λ n. get_or xs n a) back in
    let second : get_or xs (suc j) a ≡ b = get_or_default xs (suc j) a b l ∙ sym behind in
    let next : suc j + 1 - 1 ≡ suc j = omega arith in
    ap (λ n. in_turn order (drop n xs)) next ∙ sym (ap (λ n. in_turn order (drop n xs)) back ∙ turn_at order xs j a l ∙ rw (sym first, second, e) refl)
