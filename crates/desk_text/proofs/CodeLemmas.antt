-- What is known of the bytes of a code, and of codes that are equal.
use Rattle.std.proofs.Common.{◌≡◌, ℕ, ◌<◌, ◌≤◌, Bool, true, false, not, Option, None, Some, Ok, Err, List, length, position, arith, refl, sym, ◌∙◌}
use Rattle.std.specs.Prelude.{◌==◌, nat_lt, if◌then◌else◌}
use Rattle.std.proofs.lemmas.Bool.Decides.{nat_tests}
use Rattle.std.specs.Cmp.Lexicographic.{bytes_decides, texts_ties}
use Rattle.std.specs.Bool.{Decides}
use Rattle.std.specs.List.{AllPass}
use Rattle.desk_text.specs.Code.{word_of, unless_bad, is_code_byte, code_of, is_exemption_number_byte, exemption_number_of, same_code}
use Rattle.desk_text.specs.declared.code.CodeFault.TheVariants.{Empty, TooLong}
use Rattle.desk_text.proofs.WordLemmas.{AllPass-none_bad}

-- 1 to `limit` bytes of the alphabet
pub record IsWord (alphabet : ℕ → Bool) (limit : ℕ) (word : List ℕ) : Type 0 where
  pub nonempty : 0 < length word
  pub fits : length word ≤ limit
  pub good : AllPass alphabet word

-- a word is read only where no fault is found
no_fault : (bytes word : List ℕ) (empty long : Bool) (bad : Option ℕ) → (if empty then Err Empty else (if long then Err TooLong else unless_bad bad bytes)) ≡ Ok word → (empty ≡ false) × (long ≡ false) × (bad ≡ None) × (word ≡ bytes)
no_fault bytes word true long bad e = cc
no_fault bytes word false true bad e = cc
no_fault bytes word false false None e = (refl, refl, refl, cc)
no_fault bytes word false false (Some at) e = cc

-- what is read is the bytes themselves, and they are a word
pub word_of-Ok : (alphabet : ℕ → Bool) (limit : ℕ) (bytes word : List ℕ) → word_of alphabet limit bytes ≡ Ok word → (word ≡ bytes) × IsWord alphabet limit bytes
word_of-Ok alphabet limit bytes word e =
    let facts = no_fault bytes word (length bytes == 0) (nat_lt limit (length bytes)) (position (λ b. not (alphabet b)) bytes) e in
    let filled : (length bytes == 0) ≡ false = facts.0 in
    let short : nat_lt limit (length bytes) ≡ false = facts.1 in (
      facts.3,
      record {
        nonempty = grind (arith, nat_tests);
        fits = grind (arith, nat_tests);
        good = AllPass-none_bad alphabet bytes facts.2;
      },
    )

-- the bytes of a code
pub code_of-Ok : (bytes code : List ℕ) → code_of bytes ≡ Ok code → (code ≡ bytes) × IsWord is_code_byte 40 bytes
unfolding code_of
code_of-Ok = word_of-Ok is_code_byte 40

-- the bytes of an exemption number
pub exemption_number_of-Ok : (bytes number : List ℕ) → exemption_number_of bytes ≡ Ok number → (number ≡ bytes) × IsWord is_exemption_number_byte 20 bytes
unfolding exemption_number_of
exemption_number_of-Ok = word_of-Ok is_exemption_number_byte 20

-- codes are the same exactly where their bytes are equal
pub same_code-Decides : (a b : List ℕ) → Decides (same_code a b) (a ≡ b)
same_code-Decides a b = (λ same. (bytes_decides a b).0 (texts_ties a b ∙ same), λ equal. sym (texts_ties a b) ∙ (bytes_decides a b).1 equal)

pub same_code_itself : (a : List ℕ) → same_code a a ≡ true
same_code_itself a = (same_code-Decides a a).1 refl
