-- Texts that stand within a field of a line: they have no tab and no line feed.
use Rattle.std.proofs.Common.{◌≡◌, ℕ, ◌+◌, ◌/◌, ◌<◌, ◌≤◌, ◌^◌, Bool, true, false, not, cond, Ok, List, [], ◌∷◌, arith, refl, subst}
use Rattle.std.specs.Prelude.{codes, decimal, nat_le, IsUtf8, encode_utf8_all}
use lib.Utf8.{encode as encode_utf8, next}
use lib.Dec.{ltb}
use Rattle.std.proofs.lemmas.Bool.Decides.{nat_tests}
use Rattle.std.proofs.lemmas.Fmt.{decimal_is_IsNumeral}
use Rattle.std.proofs.lemmas.List.Elements.{All-nil, All-cons, All-append, All-weaker}
use Rattle.std.proofs.lemmas.List.Sums.{AllPass-from_list_all}
use Rattle.std.proofs.lemmas.Str.{IsUtf8-from_is_utf8, encodes-chars}
use Rattle.std.specs.Char.{is_control, is_ascii_digit}
use Rattle.std.specs.Cmp.{first_so, second_so}
use Rattle.std.specs.List.{All, list_all, list_any}
use Rattle.std.specs.Str.{chars, is_utf8, all_ascii_digits}
use Rattle.desk_text.specs.Cas.{cas_of}
use Rattle.desk_text.specs.Code.{is_code_byte, code_of, is_exemption_number_byte, exemption_number_of}
use Rattle.desk_text.specs.Day.{Date, date_text}
use Rattle.desk_text.specs.Name.{is_name_text, name_of}
use Rattle.desk_text.proofs.CasLemmas.{cas_of-Ok, IsCasText-shape}
use Rattle.desk_text.proofs.CodeLemmas.{code_of-Ok, exemption_number_of-Ok}
use Rattle.desk_text.proofs.DayTextLemmas.{fits-date_text}
use Rattle.desk_text.proofs.NameLemmas.{name_of-Ok}
use Rattle.desk_text.proofs.NumberLemmas.{decimal_model}
use Rattle.desk_text.proofs.PictureLemmas.{list_all-fits}

-- each byte is a space or past it
abbrev pub IsField : List ℕ → Type 0
IsField = All (λ b. 32 ≤ b)

IsField-test : (bytes : List ℕ) → list_all (λ b. nat_le 32 b) bytes ≡ true → IsField bytes
IsField-test bytes test = All-weaker (λ b. nat_le 32 b ≡ true) (λ b. 32 ≤ b) (λ b past. grind (arith, nat_tests)) bytes (AllPass-from_list_all (λ b. nat_le 32 b) bytes test)

digit_past : (b : ℕ) → is_ascii_digit b ≡ true → nat_le 32 b ≡ true
digit_past b digit = grind (arith, nat_tests)

pub IsField-code : (code : List ℕ) → code_of code ≡ Ok code → IsField code
IsField-code code read = All-weaker (λ b. is_code_byte b ≡ true) (λ b. 32 ≤ b) (λ b good. grind (arith, nat_tests)) code (code_of-Ok code code read).1.good

pub IsField-exemption_number : (number : List ℕ) → exemption_number_of number ≡ Ok number → IsField number
IsField-exemption_number number read = All-weaker (λ b. is_exemption_number_byte b ≡ true) (λ b. 32 ≤ b) (λ b good. grind (arith, nat_tests)) number (exemption_number_of-Ok number number read).1.good

pub IsField-cas : (cas : List ℕ) → cas_of cas ≡ Ok cas → IsField cas
IsField-cas cas read = IsField-test cas (IsCasText-shape cas (cas_of-Ok cas cas read).1).past_space

pub IsField-date_text : (d : Date) → IsField (date_text d)
IsField-date_text d = IsField-test (date_text d) (list_all-fits (λ b. nat_le 32 b) digit_past (codes "YYYY-MM-DD") (date_text d) refl (fits-date_text d))

pub IsField-digits : (ds : List ℕ) → all_ascii_digits ds ≡ true → IsField ds
IsField-digits [] digits = All-nil (λ b. 32 ≤ b)
IsField-digits (b ∷ ds) digits =
    All-cons (λ b. 32 ≤ b) b ds (grind (arith, nat_tests, first_so (is_ascii_digit b) (all_ascii_digits ds) digits))
    (IsField-digits ds (second_so (is_ascii_digit b) (all_ascii_digits ds) digits))

pub IsField-decimal : (n : ℕ) → n < 2 ^ 64 → IsField (decimal n)
IsField-decimal n small = IsField-digits (decimal n) (decimal_model.from (decimal n) (decimal_is_IsNumeral n small).0.1)

-- the bytes of a character past the space
IsField-encode : (c : ℕ) → 32 ≤ c → IsField (encode_utf8 c)
unfolding encode_utf8
IsField-encode c past = by (ltb c 128) (ltb c 2048) (ltb c 65536)
  where
    cons : (b : ℕ) (bs : List ℕ) → 32 ≤ b → IsField bs → IsField (b ∷ bs)
    cons b bs = All-cons (λ b. 32 ≤ b) b bs

    nil : IsField []
    nil = All-nil (λ b. 32 ≤ b)

    by : (one two three : Bool) → IsField (cond one (c ∷ []) (cond two ((192 + c / 64) ∷ next c ∷ []) (cond three ((224 + c / 4096) ∷ next (c / 64) ∷ next c ∷ []) ((240 + c / 262144) ∷ next (c / 4096) ∷ next (c / 64) ∷ next c ∷ []))))
    by true two three = cons c [] past nil
    by false true three = cons (192 + c / 64) (next c ∷ []) (omega arith) (cons (next c) [] (omega arith) nil)
    by false false true = cons (224 + c / 4096) (next (c / 64) ∷ next c ∷ []) (omega arith) (cons (next (c / 64)) (next c ∷ []) (omega arith) (cons (next c) [] (omega arith) nil))
    by false false false =
        cons (240 + c / 262144) (next (c / 4096) ∷ next (c / 64) ∷ next c ∷ []) (omega arith)
        (cons (next (c / 4096)) (next (c / 64) ∷ next c ∷ []) (omega arith) (cons (next (c / 64)) (next c ∷ []) (omega arith) (cons (next c) [] (omega arith) nil)))

IsField-encodes : (cs : List ℕ) → list_any is_control cs ≡ false → IsField (encode_utf8_all cs)
IsField-encodes [] none = All-nil (λ b. 32 ≤ b)
IsField-encodes (c ∷ cs) none = All-append (λ b. 32 ≤ b) (encode_utf8 c) (encode_utf8_all cs) (IsField-encode c (grind (arith, nat_tests))) (IsField-encodes cs (grind (arith, nat_tests)))

pub IsField-name : (name : List ℕ) → name_of name ≡ Ok name → IsField name
IsField-name name read =
    let text : is_name_text name ≡ true = (name_of-Ok name name read).1 in
    let utf8 : IsUtf8 name = IsUtf8-from_is_utf8 name (first_so (is_utf8 name) (not (list_any is_control (chars name))) text) in
    let none : not (list_any is_control (chars name)) ≡ true = second_so (is_utf8 name) (not (list_any is_control (chars name))) text in
    subst IsField (encodes-chars name utf8) (IsField-encodes (chars name) (grind arith))
