-- Bits that are set and cleared one by one, and counted.
use Rattle.std.proofs.Common.{◌≡◌, ℕ, ◌+◌, ◌*◌, ◌%◌, ◌^◌, ◌<◌, Bool, true, false, not, ◌&&◌, ◌||◌, List, length, get_or, set, refl, sym, ap, ◌∙◌, inl, inr, w64, arith}
use Rattle.std.specs.Prelude.{◌==◌, bit_or, bit_and, nat_lt}
use Rattle.std.specs.Int.{bit_at, bit_not}
use Rattle.std.proofs.lemmas.Bool.{cases_eq, cases_lt, eq-eqb, ne_eqb}
use Rattle.std.proofs.lemmas.Bool.Decides.{nat_tests}
use Rattle.std.proofs.lemmas.List.{get_or-set_other, get_or-set_same}
use Rattle.std.proofs.lemmas.Nat.Bits.{bit_at_clear_other, bit_at_clear_same, bit_at_set_other, bit_at_set_same}
use Rattle.desk_totals.specs.Marks.{has_bit}

or_true : (a : Bool) → (a || true) ≡ true
or_true true = refl
or_true false = refl

or_no : (a : Bool) → (a || false) ≡ a
or_no true = refl
or_no false = refl

and_no : (a : Bool) → (a && false) ≡ false
and_no true = refl
and_no false = refl

and_yes : (a : Bool) → (a && true) ≡ a
and_yes true = refl
and_yes false = refl

same_test : (a : ℕ) → (a == a) ≡ true
same_test a = eq-eqb a a refl

-- one bit more is set at a place
pub bit_set_at : (bits : List ℕ) (place bit : ℕ) → place < length bits → bit < 64 → (other node : ℕ) →
    has_bit other (get_or (set bits place (bit_or (get_or bits place 0) (1 * 2 ^ bit % 2 ^ 64))) node 0) ≡ (has_bit other (get_or bits node 0) || (other == bit && place == node))
bit_set_at bits place bit within small other node =
    let new : ℕ = bit_or (get_or bits place 0) (1 * 2 ^ bit % 2 ^ 64) in
    elim (cases_eq node place) [
      | inl here ↦
          let read : get_or (set bits place new) node 0 ≡ new = ap (λ p. get_or (set bits place new) p 0) here ∙ get_or-set_same bits place new 0 within in
          let old : get_or bits node 0 ≡ get_or bits place 0 = ap (λ p. get_or bits p 0) here in
          let at : (place == node) ≡ true = ap (λ p. place == p) here ∙ same_test place in
          elim (cases_eq other bit) [
            | inl same ↦
                ap (has_bit other) read ∙ ap (λ n. n == 1) (ap (bit_at new) same ∙ bit_at_set_same w64 (get_or bits place 0) bit small)
                ∙ sym (rw (at, same) (rw (same_test bit) (or_true (has_bit bit (get_or bits node 0)))))
            | inr apart ↦
                ap (has_bit other) read ∙ ap (λ n. n == 1) (bit_at_set_other w64 (get_or bits place 0) bit small other apart ∙ ap (λ n. bit_at n other) (sym old))
                ∙ sym (rw (ne_eqb other bit apart) (or_no (has_bit other (get_or bits node 0))))
          ]
      | inr away ↦
          let at : (place == node) ≡ false = ne_eqb place node (λ e. away (sym e)) in
          ap (has_bit other) (get_or-set_other bits place node new 0 away)
          ∙ sym (rw at (rw (and_no (other == bit)) (or_no (has_bit other (get_or bits node 0)))))
    ]

-- one bit is cleared at a place
pub bit_cleared_at : (bits : List ℕ) (place bit : ℕ) → place < length bits → bit < 64 → (other node : ℕ) → other < 64 →
    has_bit other (get_or (set bits place (bit_and (get_or bits place 0) (bit_not w64 (1 * 2 ^ bit % 2 ^ 64)))) node 0) ≡ (has_bit other (get_or bits node 0) && not (other == bit && place == node))
bit_cleared_at bits place bit within small other node fits =
    let new : ℕ = bit_and (get_or bits place 0) (bit_not w64 (1 * 2 ^ bit % 2 ^ 64)) in
    elim (cases_eq node place) [
      | inl here ↦
          let read : get_or (set bits place new) node 0 ≡ new = ap (λ p. get_or (set bits place new) p 0) here ∙ get_or-set_same bits place new 0 within in
          let old : get_or bits node 0 ≡ get_or bits place 0 = ap (λ p. get_or bits p 0) here in
          let at : (place == node) ≡ true = ap (λ p. place == p) here ∙ same_test place in
          elim (cases_eq other bit) [
            | inl same ↦
                ap (has_bit other) read ∙ ap (λ n. n == 1) (ap (bit_at new) same ∙ bit_at_clear_same w64 (get_or bits place 0) bit small)
                ∙ sym (rw (at, same) (rw (same_test bit) (and_no (has_bit bit (get_or bits node 0)))))
            | inr apart ↦
                ap (has_bit other) read ∙ ap (λ n. n == 1) (bit_at_clear_other w64 (get_or bits place 0) bit small other fits apart ∙ ap (λ n. bit_at n other) (sym old))
                ∙ sym (rw (ne_eqb other bit apart) (and_yes (has_bit other (get_or bits node 0))))
          ]
      | inr away ↦
          let at : (place == node) ≡ false = ne_eqb place node (λ e. away (sym e)) in
          ap (has_bit other) (get_or-set_other bits place node new 0 away)
          ∙ sym (rw at (rw (and_no (other == bit)) (and_yes (has_bit other (get_or bits node 0)))))
    ]

-- the bits below one more
pub below_more : (places : List ℕ) (i other node : ℕ) → ((nat_lt other i && get_or places other 0 == node) || (other == i && get_or places i 0 == node)) ≡ (nat_lt other (i + 1) && get_or places other 0 == node)
below_more places i other node =
    elim (cases_lt other i) [
      | inl less ↦
          let now : nat_lt other i ≡ true = grind (arith, nat_tests) in
          let later : nat_lt other (i + 1) ≡ true = grind (arith, nat_tests) in
          let apart : (other == i) ≡ false = grind (arith, nat_tests) in
          rw (now, later, apart) (or_no (get_or places other 0 == node))
      | inr more ↦
          let now : nat_lt other i ≡ false = grind (arith, nat_tests) in
          elim (cases_eq other i) [
            | inl same ↦
                let later : nat_lt i (i + 1) ≡ true = grind (arith, nat_tests) in
                rw now (rw same (rw (later, same_test i) refl))
            | inr apart ↦
                let later : nat_lt other (i + 1) ≡ false = grind (arith, nat_tests) in
                rw (now, later, ne_eqb other i apart) refl
          ]
    ]

pub set_more : (places : List ℕ) (i other node : ℕ) (old new : Bool) → old ≡ (nat_lt other i && get_or places other 0 == node) → new ≡ (old || (other == i && get_or places i 0 == node)) → new ≡ (nat_lt other (i + 1) && get_or places other 0 == node)
set_more places i other node old new was is = is ∙ ap (λ b. b || (other == i && get_or places i 0 == node)) was ∙ below_more places i other node

neither : (a b c : Bool) → ((a && not b) && not c) ≡ (a && not (b || c))
neither true true c = refl
neither true false c = refl
neither false b c = refl

pub cleared_more : (places : List ℕ) (i other node : ℕ) (first old new : Bool) → old ≡ (first && not (nat_lt other i && get_or places other 0 == node)) → new ≡ (old && not (other == i && get_or places i 0 == node)) → new ≡ (first && not (nat_lt other (i + 1) && get_or places other 0 == node))
cleared_more places i other node first old new was is =
    is ∙ ap (λ b. b && not (other == i && get_or places i 0 == node)) was
    ∙ neither first (nat_lt other i && get_or places other 0 == node) (other == i && get_or places i 0 == node)
    ∙ ap (λ b. first && not b) (below_more places i other node)
