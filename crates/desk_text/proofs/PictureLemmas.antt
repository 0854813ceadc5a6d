-- Texts that fit a picture.
use Rattle.std.proofs.Common.{◌≡◌, ℕ, zero, suc, ◌<◌, Bool, true, false, List, [], ◌∷◌, ◌++◌, length, take, drop, get_or, arith, refl, sym, ◌∙◌, ap}
use Rattle.std.specs.Prelude.{◌==◌, if◌then◌else◌}
use Rattle.std.proofs.lemmas.Bool.Decides.{nat_tests}
use Rattle.std.specs.Char.{is_ascii_alphabetic, is_ascii_digit}
use Rattle.std.specs.Cmp.{first_so, second_so}
use Rattle.std.specs.Cmp.Derive.{both_true}
use Rattle.std.specs.Cmp.Lexicographic.{as_long}
use Rattle.std.specs.List.{list_all}
use Rattle.std.specs.Str.{all_ascii_digits}
use Rattle.desk_text.specs.Picture.{fits, fits_place}

-- the text is as long as the picture
pub length-fits : (picture bytes : List ℕ) → fits picture bytes ≡ true → length picture ≡ length bytes
length-fits picture bytes fit = as_long fits_place picture bytes fit

-- without the first places
pub fits-drop : (n : ℕ) (picture bytes : List ℕ) → fits picture bytes ≡ true → fits (drop n picture) (drop n bytes) ≡ true
fits-drop zero picture bytes fit = fit
fits-drop (suc n) [] [] fit = fit
fits-drop (suc n) [] (b ∷ bytes) fit = cc
fits-drop (suc n) (p ∷ picture) [] fit = cc
fits-drop (suc n) (p ∷ picture) (b ∷ bytes) fit = fits-drop n picture bytes (second_so (fits_place p b) (fits picture bytes) fit)

-- the first places alone
pub fits-take : (n : ℕ) (picture bytes : List ℕ) → fits picture bytes ≡ true → fits (take n picture) (take n bytes) ≡ true
fits-take zero picture bytes fit = refl
fits-take (suc n) [] [] fit = fit
fits-take (suc n) [] (b ∷ bytes) fit = cc
fits-take (suc n) (p ∷ picture) [] fit = cc
fits-take (suc n) (p ∷ picture) (b ∷ bytes) fit =
    both_true (first_so (fits_place p b) (fits picture bytes) fit) (fits-take n picture bytes (second_so (fits_place p b) (fits picture bytes) fit))

-- where the picture has letters alone, the text has digits alone
pub digits-fits : (picture bytes : List ℕ) → list_all is_ascii_alphabetic picture ≡ true → fits picture bytes ≡ true → all_ascii_digits bytes ≡ true
digits-fits [] [] letters fit = refl
digits-fits [] (b ∷ bytes) letters fit = cc
digits-fits (p ∷ picture) [] letters fit = cc
digits-fits (p ∷ picture) (b ∷ bytes) letters fit =
    let letter : is_ascii_alphabetic p ≡ true = first_so (is_ascii_alphabetic p) (list_all is_ascii_alphabetic picture) letters in
    let place : fits_place p b ≡ true = first_so (fits_place p b) (fits picture bytes) fit in
    let digit : is_ascii_digit b ≡ true = sym (ap (λ a. if a then is_ascii_digit b else (b == p)) letter) ∙ place in
    both_true digit
    (digits-fits picture bytes (second_so (is_ascii_alphabetic p) (list_all is_ascii_alphabetic picture) letters) (second_so (fits_place p b) (fits picture bytes) fit))

-- the byte at a place fits there
pub fits-at : (picture bytes : List ℕ) (k : ℕ) → k < length picture → fits picture bytes ≡ true → fits_place (get_or picture k 0) (get_or bytes k 0) ≡ true
fits-at [] bytes k within fit = absurd (omega arith)
fits-at (p ∷ picture) [] k within fit = cc
fits-at (p ∷ picture) (b ∷ bytes) zero within fit = first_so (fits_place p b) (fits picture bytes) fit
fits-at (p ∷ picture) (b ∷ bytes) (suc k) within fit = fits-at picture bytes k (omega arith) (second_so (fits_place p b) (fits picture bytes) fit)

-- a test that digits pass, and each place of the picture, is passed by each byte
good_place : (good : ℕ → Bool) → ((b : ℕ) → is_ascii_digit b ≡ true → good b ≡ true) → (p b : ℕ) → good p ≡ true → fits_place p b ≡ true → good b ≡ true
good_place good digits p b first place = by (is_ascii_alphabetic p) place
  where
    by : (letter : Bool) → (if letter then is_ascii_digit b else (b == p)) ≡ true → good b ≡ true
    by true digit = digits b digit
    by false same = let equal : b ≡ p = grind (arith, nat_tests) in ap good equal ∙ first

pub list_all-fits : (good : ℕ → Bool) → ((b : ℕ) → is_ascii_digit b ≡ true → good b ≡ true) → (picture bytes : List ℕ) → list_all good picture ≡ true → fits picture bytes ≡ true → list_all good bytes ≡ true
list_all-fits good digits [] [] places fit = refl
list_all-fits good digits [] (b ∷ bytes) places fit = cc
list_all-fits good digits (p ∷ picture) [] places fit = cc
list_all-fits good digits (p ∷ picture) (b ∷ bytes) places fit =
    both_true
    (good_place good digits p b (first_so (good p) (list_all good picture) places) (first_so (fits_place p b) (fits picture bytes) fit))
    (list_all-fits good digits picture bytes (second_so (good p) (list_all good picture) places) (second_so (fits_place p b) (fits picture bytes) fit))

-- digits fit letters
pub fits-letters : (picture bytes : List ℕ) → list_all is_ascii_alphabetic picture ≡ true → length picture ≡ length bytes → all_ascii_digits bytes ≡ true → fits picture bytes ≡ true
fits-letters [] [] letters same digits = refl
fits-letters [] (b ∷ bytes) letters same digits = absurd (omega arith)
fits-letters (p ∷ picture) [] letters same digits = absurd (omega arith)
fits-letters (p ∷ picture) (b ∷ bytes) letters same digits =
    let letter : is_ascii_alphabetic p ≡ true = first_so (is_ascii_alphabetic p) (list_all is_ascii_alphabetic picture) letters in
    let place : fits_place p b ≡ true = ap (λ a. if a then is_ascii_digit b else (b == p)) letter ∙ first_so (is_ascii_digit b) (all_ascii_digits bytes) digits in
    both_true place
    (fits-letters picture bytes (second_so (is_ascii_alphabetic p) (list_all is_ascii_alphabetic picture) letters) (omega arith) (second_so (is_ascii_digit b) (all_ascii_digits bytes) digits))

-- one picture after another
pub fits-append : (p b q c : List ℕ) → fits p b ≡ true → fits q c ≡ true → fits (p ++ q) (b ++ c) ≡ true
fits-append [] [] q c first second = second
fits-append [] (y ∷ b) q c first second = cc
fits-append (x ∷ p) [] q c first second = cc
fits-append (x ∷ p) (y ∷ b) q c first second =
    both_true (first_so (fits_place x y) (fits p b) first) (fits-append p b q c (second_so (fits_place x y) (fits p b) first) second)
