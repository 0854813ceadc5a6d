-- A short text in places that are padded with zeros.
use Rattle.std.proofs.Common.{◌≡◌, ℕ, ◌-◌, ◌<◌, ◌≤◌, Bool, true, false, not, None, List, ◌++◌, length, drop, replicate, get_or, position, arith, refl, sym, ◌∙◌, length-append}
use Rattle.std.proofs.Math.Seq.{take-append_seam, drop-append_seam}
use Rattle.std.proofs.lemmas.List.{drop-replicate, length-replicate}
use Rattle.std.proofs.lemmas.Bool.Decides.{nat_tests}
use Rattle.std.proofs.lemmas.List.Elements.{All-weaker}
use Rattle.std.proofs.lemmas.List.Sums.{prefix_len_passes}
use Rattle.std.proofs.lemmas.Str.Ascii.{IsAscii-from_all}
use Rattle.std.specs.List.{AllPass, prefix_len}
use Rattle.std.specs.Str.{IsAscii}
use Rattle.desk_text.specs.Word.{IsPadded}

-- a text with the zeros behind it
pub IsPadded-new : (capacity : ℕ) (text : List ℕ) → length text ≤ capacity → IsAscii text → IsPadded capacity (length text) (text ++ drop (length text) (replicate capacity 0))
IsPadded-new capacity text fits ascii =
    rw (drop-replicate {X = ℕ} (length text) capacity 0) (record {
      size = omega (arith, length-append text (replicate (capacity - length text) 0), length-replicate {A = ℕ} (capacity - length text) 0);
      fits = fits;
      ascii = rw (take-append_seam text (replicate (capacity - length text) 0)) ascii;
      padding = drop-append_seam text (replicate (capacity - length text) 0);
    })

-- where no place is bad, each byte is good
pub AllPass-none_bad : (good : ℕ → Bool) (bytes : List ℕ) → position (λ b. not (good b)) bytes ≡ None → AllPass good bytes
AllPass-none_bad good bytes none k d within =
    let good_prefix : ℕ = prefix_len (λ b. not (not (good b))) bytes in
    let all : length bytes ≤ good_prefix = grind (arith, nat_tests, none) in
    let passes : not (not (good (get_or bytes k d))) ≡ true = prefix_len_passes (λ b. not (not (good b))) bytes k d (omega arith) in
    sym (not-not (good (get_or bytes k d))) ∙ passes
  where
    not-not : (b : Bool) → not (not b) ≡ b
    not-not true = refl
    not-not false = refl

-- a word over an ASCII alphabet is ASCII
pub IsAscii-none_bad : (good : ℕ → Bool) → ((b : ℕ) → good b ≡ true → b < 128) → (bytes : List ℕ) → position (λ b. not (good b)) bytes ≡ None → IsAscii bytes
IsAscii-none_bad good ascii bytes none =
    IsAscii-from_all bytes (All-weaker (λ b. good b ≡ true) (λ b. b < 128) ascii bytes (AllPass-none_bad good bytes none))
