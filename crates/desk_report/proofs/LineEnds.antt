-- The first LF, and that none is before it.
use Rattle.std.proofs.Common.{◌≡◌, ℕ, ◌+◌, ◌<◌, ◌≤◌, false, List, [], ◌∷◌, ◌++◌, None, Some, length, take, drop, sym, ap, ◌∙◌, subst, arith}
use Rattle.std.specs.Prelude.{◌==◌, position}
use Rattle.std.specs.List.{position_or_len}
use Rattle.std.proofs.lemmas.Bool.{eqb-true}
use Rattle.std.proofs.lemmas.Bool.Decides.{nat_tests}
use Rattle.std.proofs.lemmas.List.{get_or-take, length-take, take-append-drop, take_more}
use Rattle.std.proofs.lemmas.List.Quantifiers.{position-Some}
use Rattle.std.proofs.lemmas.List.Sums.{fails_before_first}
use Rattle.desk_report.specs.Reading.{HasNoLineEnd}

-- the bytes are those before the first LF, it, and those behind it
pub cut_at : (bytes : List ℕ) (at : ℕ) → position (λ b. b == 10) bytes ≡ Some at → bytes ≡ (take at bytes ++ 10 ∷ []) ++ drop (at + 1) bytes
cut_at bytes at e =
    let found = position-Some (λ b. b == 10) bytes at 0 e in
    sym (take-append-drop (at + 1) bytes)
    ∙ ap (λ (l : List ℕ). l ++ drop (at + 1) bytes) (take_more bytes at 0 found.0 ∙ ap (λ b. take at bytes ++ b ∷ []) (eqb-true _ 10 found.1))

pub none_before : (bytes : List ℕ) (at : ℕ) → position (λ b. b == 10) bytes ≡ Some at → HasNoLineEnd (take at bytes)
none_before bytes at e = λ k d within.
    let found = position-Some (λ b. b == 10) bytes at d e in
    let before : k < at = omega (arith, within, length-take at bytes) in
    subst (λ b. (b == 10) ≡ false) (sym (get_or-take at bytes k d before)) (found.2 k before)

pub none_at_all : (bytes : List ℕ) → position (λ b. b == 10) bytes ≡ None → HasNoLineEnd bytes
none_at_all bytes none = λ k d within.
    let past : length bytes ≤ position_or_len (λ b. b == 10) bytes = grind (arith, nat_tests, none) in
    fails_before_first (λ b. b == 10) bytes k d (omega (arith, past, within))
