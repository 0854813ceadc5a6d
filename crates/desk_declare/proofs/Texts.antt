-- The fields of a row as texts: one at a time, or all at once where the row is ASCII.
use Rattle.std.proofs.Common.{◌≡◌, ◌+◌, ◌-◌, refl, sym, ℕ, zero, suc, Bool, true, false, ◌&&◌, drop, take, get_or-drop, List, [], ◌∷◌, Result, Ok, Err, add-one, arith}
use Rattle.std.proofs.lemmas.Str.{IsUtf8-from_ascii, IsUtf8-from_is_utf8, is_utf8-from_IsUtf8}
use Rattle.std.specs.List.{list_all}
use Rattle.std.specs.Option.{option_map_or}
use Rattle.std.specs.Prelude.{IsUtf8, MatchResult, is_ok}
use Rattle.std.specs.Str.{IsAscii, is_utf8}
use Rattle.csv.specs.Records.{cut_from, field_at}

-- the test of a text answers as its reading does
pub text_test : {A E : Type 0} (bytes : List ℕ) (r : Result A E) (P : A → Type 0) (Q : E → Type 0)
    → MatchResult r (λ s. P s × IsUtf8 bytes) (λ e. ¬ (IsUtf8 bytes) × Q e) → is_ok r ≡ is_utf8 bytes
text_test bytes (Ok s) P Q h = sym (is_utf8-from_IsUtf8 bytes h.1)
text_test bytes (Err e) P Q h = by (is_utf8 bytes) refl
  where
    by : (b : Bool) → is_utf8 bytes ≡ b → false ≡ b
    by true utf8 = absurd (h.0 (IsUtf8-from_is_utf8 bytes utf8))
    by false utf8 = refl

-- the fields from a place on are text where the one at the place is, and those behind it
pub texts_from : (fields : List (List ℕ)) (i : ℕ)
    → list_all is_utf8 (drop i fields) ≡ (option_map_or is_utf8 (field_at fields i) true && list_all is_utf8 (drop (i + 1) fields))
unfolding field_at
texts_from [] zero = refl
texts_from [] (suc i) = rw add-one refl
texts_from (field ∷ fields) zero = refl
texts_from (field ∷ fields) (suc i) = rw add-one (rw add-one at (texts_from fields i))

-- a beginning of ASCII is ASCII
ascii_begins : (n : ℕ) (bytes : List ℕ) → IsAscii bytes → IsAscii (take n bytes)
ascii_begins zero bytes h i = omega arith
ascii_begins (suc n) [] h i = omega arith
ascii_begins (suc n) (b ∷ bytes) h zero = h 0
ascii_begins (suc n) (b ∷ bytes) h (suc i) = ascii_begins n bytes (λ j. h (suc j)) i

-- each field of a row of ASCII is text
pub ascii_texts : (start : ℕ) (ends bytes : List ℕ) → IsAscii bytes → list_all is_utf8 (cut_from start ends bytes) ≡ true
unfolding cut_from
ascii_texts start [] bytes h = refl
ascii_texts start (end ∷ ends) bytes h =
    let rest : IsAscii (drop start bytes) = λ i. rw (get_or-drop start bytes i 0) (h (start + i)) in
    let field : is_utf8 (take (end - start) (drop start bytes)) ≡ true = is_utf8-from_IsUtf8 _ (IsUtf8-from_ascii _ (ascii_begins (end - start) _ rest)) in
    rw field (ascii_texts end ends bytes h)
