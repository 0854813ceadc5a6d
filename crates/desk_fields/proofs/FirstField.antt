-- The first part of a text, and the parts behind it.
use Rattle.std.proofs.Common.{◌≡◌, ℕ, ◌+◌, ◌-◌, ◌≤◌, Bool, true, false, cond, List, [], ◌∷◌, length, take, drop, Some, None, sym, ap, ◌∙◌, refl, arith}
use Rattle.std.specs.Prelude.{◌==◌, nat_lt, position}
use Rattle.std.specs.List.{join_with_byte, slice_split, position_or_len}
use Rattle.std.proofs.lemmas.Bool.{ltb-true, ltb-false}
use Rattle.std.proofs.lemmas.List.{length-drop, take_all}
use Rattle.std.proofs.lemmas.List.Sums.{fails_before_first}
use Rattle.std.proofs.lemmas.List.Splits.{join_with_byte-slice_split, slice_split_first, slice_split_none}

some_at : (within : Bool) (n at : ℕ) → cond within (Some n) None ≡ Some at → (within ≡ true) × (n ≡ at)
some_at true n at e = (refl, cc)
some_at false n at e = cc

none_at : (within : Bool) (n : ℕ) → cond within (Some n) None ≡ None → within ≡ false
none_at true n e = cc
none_at false n e = refl

-- the first part ends at the first separator
pub first_cut : (c : ℕ) (text : List ℕ) (at : ℕ) → position (λ b. b == c) text ≡ Some at → slice_split (λ b. b == c) text ≡ take at text ∷ slice_split (λ b. b == c) (take (length text - (at + 1)) (drop (at + 1) text))
first_cut c text at e =
    let behind = drop (at + 1) text in
    let all : take (length text - (at + 1)) behind ≡ behind = take_all (length text - (at + 1)) behind (omega (arith, length-drop (at + 1) text)) in
    let sought : ℕ → Bool = λ b. b == c in
    let found = some_at (nat_lt (position_or_len sought text) (length text)) (position_or_len sought text) at e in
    slice_split_first sought text 0 (ltb-true (position_or_len sought text) (length text) found.0)
    ∙ ap (λ n. take n text ∷ slice_split sought (drop (n + 1) text)) found.1
    ∙ ap (λ (rest : List ℕ). take at text ∷ slice_split sought rest) (sym all)

-- without one it is the whole text
pub no_cut : (c : ℕ) (text : List ℕ) → position (λ b. b == c) text ≡ None → slice_split (λ b. b == c) text ≡ text ∷ []
no_cut c text e =
    let sought : ℕ → Bool = λ b. b == c in
    let past : length text ≤ position_or_len sought text = ltb-false (position_or_len sought text) (length text) (none_at (nat_lt (position_or_len sought text) (length text)) (position_or_len sought text) e) in
    slice_split_none sought text (λ k d within. fails_before_first sought text k d (omega (arith, past, within)))

-- the parts joined are the text
pub joined_parts : (c : ℕ) (text : List ℕ) → join_with_byte c (slice_split (λ b. b == c) text) ≡ text
joined_parts c text = join_with_byte-slice_split c text
