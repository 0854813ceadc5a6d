-- The hop of a mark, found by halves in hops that stand in the order of their marks.
use Rattle.std.proofs.Common.{◌≡◌, ℕ, zero, suc, ◌+◌, ◌<◌, ◌≤◌, Bool, true, false, ◌==◌, List, [], ◌∷◌, length, find, get_or, Some, None, is_some, refl, sym, ap, ◌∙◌, inl, inr, arith}
use Rattle.std.specs.List.Sorted.{IsNonDecreasingBy}
use Rattle.std.proofs.lemmas.Bool.{cases_lt, eq-eqb, ltb-false, ltb-true, ne_eqb, or_left, or_right}
use Rattle.desk_rollup.specs.declared.hop.Hop.{Hop}
use Rattle.desk_rollup.specs.Numbers.{IsPlaceOf, Rises, RisesFrom, has, hop_numbers, mark_number}
use Rattle.desk_rollup.proofs.Lists.{has_found}

abbrev pub number_of : Hop → ℕ
number_of hop = mark_number hop.mark

-- hops from a number on have none below it
low_at : (low : ℕ) (hops : List Hop) → RisesFrom low (hop_numbers hops) → (i : ℕ) (d : Hop) → i < length hops → low ≤ number_of (get_or hops i d)
low_at low [] up i d h = absurd (omega arith)
low_at low (hop ∷ hops) up zero d h = up.0
low_at low (hop ∷ hops) up (suc i) d h = let rest = low_at (number_of hop + 1) hops up.1 i d (omega arith) in omega (arith, rest, up.0)

rising_at : (low : ℕ) (hops : List Hop) → RisesFrom low (hop_numbers hops) → (i j : ℕ) (d : Hop) → i ≤ j → j < length hops → number_of (get_or hops i d) ≤ number_of (get_or hops j d)
rising_at low [] up i j d le h = absurd (omega arith)
rising_at low (hop ∷ hops) up zero zero d le h = omega arith
rising_at low (hop ∷ hops) up zero (suc j) d le h = let rest = low_at (number_of hop + 1) hops up.1 j d (omega arith) in omega (arith, rest)
rising_at low (hop ∷ hops) up (suc i) zero d le h = absurd (omega arith)
rising_at low (hop ∷ hops) up (suc i) (suc j) d le h = rising_at (number_of hop + 1) hops up.1 i j d (omega arith) (omega arith)

-- hops that rise are in order
pub in_order : (hops : List Hop) → Rises (hop_numbers hops) → IsNonDecreasingBy number_of hops
in_order hops up i j d le h = rising_at 0 hops up i j d le h

-- none is found below all
pub none_below : (low n : ℕ) (hops : List Hop) → n < low → RisesFrom low (hop_numbers hops) → find (λ hop. number_of hop == n) hops ≡ None
none_below low n [] h up = refl
none_below low n (hop ∷ hops) h up = rw (ne_eqb (number_of hop) n (λ e. omega (arith, e, h, up.0))) (none_below (number_of hop + 1) n hops (omega (arith, h, up.0)) up.1)

pub half_rest : (n : ℕ) (hop : Hop) (hops : List Hop) (at : ℕ) → IsPlaceOf n (hop ∷ hops) (suc at) → IsPlaceOf n hops at
half_rest n hop hops at h = (λ k d low high. h.0 (suc k) d (omega arith) (omega arith), λ k d low high. h.1 (suc k) d (omega arith) (omega arith))

-- a hop with the number stands at that place, or none does
pub found_at : (low n : ℕ) (hops : List Hop) → RisesFrom low (hop_numbers hops) → (at : ℕ) (d : Hop) → at < length hops → IsPlaceOf n hops at → number_of (get_or hops at d) ≡ n → find (λ hop. number_of hop == n) hops ≡ Some (get_or hops at d)
found_at low n [] up at d h half e = absurd (omega arith)
found_at low n (hop ∷ hops) up zero d h half e = rw (eq-eqb (number_of hop) n e) refl
found_at low n (hop ∷ hops) up (suc at) d h half e =
    let less = ltb-true (number_of hop) n (half.0 0 d (omega arith) (omega arith)) in
    rw (ne_eqb (number_of hop) n (λ same. omega (arith, less, same))) (found_at (number_of hop + 1) n hops up.1 at d (omega arith) (half_rest n hop hops at half) e)

pub not_at : (low n : ℕ) (hops : List Hop) → RisesFrom low (hop_numbers hops) → (at : ℕ) (d : Hop) → at < length hops → IsPlaceOf n hops at → (number_of (get_or hops at d) ≡ n → ⊥) → find (λ hop. number_of hop == n) hops ≡ None
not_at low n [] up at d h half other = absurd (omega arith)
not_at low n (hop ∷ hops) up zero d h half other =
    let more = ltb-false (number_of hop) n (half.1 0 d (omega arith) (omega arith)) in
    rw (ne_eqb (number_of hop) n other) (none_below (number_of hop + 1) n hops (by_cases more) up.1)
  where
    by_cases : n ≤ number_of hop → n < number_of hop + 1
    by_cases le = omega (arith, le)
not_at low n (hop ∷ hops) up (suc at) d h half other =
    let less = ltb-true (number_of hop) n (half.0 0 d (omega arith) (omega arith)) in
    rw (ne_eqb (number_of hop) n (λ same. omega (arith, less, same))) (not_at (number_of hop + 1) n hops up.1 at d (omega arith) (half_rest n hop hops at half) other)

pub not_there : (n : ℕ) (hops : List Hop) (at : ℕ) → length hops ≤ at → IsPlaceOf n hops at → find (λ hop. number_of hop == n) hops ≡ None
not_there n [] at past half = refl
not_there n (hop ∷ hops) zero past half = absurd (omega arith)
not_there n (hop ∷ hops) (suc at) past half =
    let less = ltb-true (number_of hop) n (half.0 0 hop (omega arith) (omega arith)) in
    rw (ne_eqb (number_of hop) n (λ same. omega (arith, less, same))) (not_there n hops at (omega arith) (half_rest n hop hops at half))

-- a number that stands at a place is had
pub has_at : (n : ℕ) (hops : List Hop) (at : ℕ) (d : Hop) → at < length hops → number_of (get_or hops at d) ≡ n → has (hop_numbers hops) n ≡ true
has_at n [] at d h e = absurd (omega arith)
has_at n (hop ∷ hops) zero d h e = or_left (number_of hop == n) (has (hop_numbers hops) n) (eq-eqb (number_of hop) n e)
has_at n (hop ∷ hops) (suc at) d h e = or_right (number_of hop == n) (has (hop_numbers hops) n) (has_at n hops at d (omega arith) e)

-- and it is had just where one stands at that place
pub stands_just : (n : ℕ) (hops : List Hop) → Rises (hop_numbers hops) → (at : ℕ) (d : Hop) → IsPlaceOf n hops at → (stands : Bool) → (stands ≡ true → at < length hops) →
    (stands ≡ true → number_of (get_or hops at d) ≡ n) → (stands ≡ false → at < length hops → number_of (get_or hops at d) ≡ n → ⊥) → stands ≡ has (hop_numbers hops) n
stands_just n hops rises at d place true within there other = sym (has_at n hops at d (within refl) (there refl))
stands_just n hops rises at d place false within there other =
    sym
    (has_found number_of hops n
    ∙ ap (λ o. is_some o)
    (elim (cases_lt at (length hops)) [
      | inl low ↦ not_at 0 n hops rises at d low place (other refl low)
      | inr past ↦ not_there n hops at past place
    ]))
