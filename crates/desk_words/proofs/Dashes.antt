-- What a word without a single dash is, in the parser's terms.
use Rattle.std.proofs.Common.{◌≡◌, ◌∙◌, ◌&&◌, ◌⊎◌, ℕ, Bool, cond, eqb, nat_eq, false, true, not, refl, sym, ap, subst, inl, inr, arith, take, drop, true≢false, [], ◌∷◌, None, Some, option_and_then, bytes_eq, eqb-true}
use Rattle.std.proofs.lemmas.Bool.Decides.{nat_tests}
use lib.Pointwise.{pointwise}
use Rattle.clap.specs.Lexer.{long_of, long_of_rest, short_of, short_of_rest, strip_byte}
use Rattle.desk_words.specs.Forms.{Word, Written, dashes, has_one_dash, long, undashed, written, written_after_dashes}

-- the two dashes that end the options
abbrev pub two_dashes : Word
two_dashes = 45 ∷ 45 ∷ []

-- what the parser's lexer says of a word that is written so
abbrev pub Lexes : Written → Word → Type 0
Lexes dashes word = bytes_eq word two_dashes ≡ true
Lexes (long name text) word = (bytes_eq word two_dashes ≡ false) × (long_of word ≡ Some (name, text))
Lexes undashed word = (bytes_eq word two_dashes ≡ false) × (long_of word ≡ None) × (short_of word ≡ None)

abbrev IsNoDash : ℕ → Type 0
IsNoDash byte = (eqb byte 45 ≡ false) × (nat_eq 45 byte ≡ false) × (nat_eq byte 45 ≡ false)

dash_or_not : (byte : ℕ) → (byte ≡ 45) ⊎ IsNoDash byte
dash_or_not byte = go (eqb byte 45) refl
  where
    go : (b : Bool) → eqb byte 45 ≡ b → (byte ≡ 45) ⊎ IsNoDash byte
    go true e = inl (eqb-true byte 45 e)
    go false e = inr (e, grind (arith, nat_tests), grind (arith, nat_tests))

-- a word that begins with no dash
undashed_lexes : (byte : ℕ) (rest : Word) → IsNoDash byte → Lexes (written (byte ∷ rest)) (byte ∷ rest)
undashed_lexes byte rest other =
    let kind : written (byte ∷ rest) ≡ undashed =
    ap (λ b. cond (b && pointwise nat_eq (45 ∷ []) (take 1 rest)) (written_after_dashes (drop 2 (byte ∷ rest))) undashed) other.1 in
    let not_two : bytes_eq (byte ∷ rest) two_dashes ≡ false = ap (λ b. b && pointwise nat_eq rest (45 ∷ [])) other.2 in
    let not_long : long_of (byte ∷ rest) ≡ None =
    ap (λ b. option_and_then long_of_rest (option_and_then (strip_byte 45) (cond b (Some rest) None))) other.0 in
    let not_short : short_of (byte ∷ rest) ≡ None = ap (λ b. option_and_then short_of_rest (cond b (Some rest) None)) other.0 in
    subst (λ (kind : Written). Lexes kind (byte ∷ rest)) (sym kind) (not_two, not_long, not_short)

two_dashes_lex : (rest : Word) → Lexes (written (45 ∷ 45 ∷ rest)) (45 ∷ 45 ∷ rest)
two_dashes_lex [] = refl
two_dashes_lex (byte ∷ rest) = (refl, refl)

after_dash_lexes : (rest : Word) → has_one_dash (45 ∷ rest) ≡ false → Lexes (written (45 ∷ rest)) (45 ∷ rest)
after_dash_lexes [] ok = absurd (true≢false ok)
after_dash_lexes (byte ∷ rest) ok = elim (dash_or_not byte) [
  | inl e ↦ subst (λ (byte : ℕ). Lexes (written (45 ∷ byte ∷ rest)) (45 ∷ byte ∷ rest)) (sym e) (two_dashes_lex rest)
  | inr other ↦ absurd (true≢false (sym (ap (λ b. not (b && true)) other.1) ∙ ok))
]

pub lexes : (word : Word) → has_one_dash word ≡ false → Lexes (written word) word
lexes [] ok = (refl, refl, refl)
lexes (byte ∷ rest) ok = elim (dash_or_not byte) [
  | inl e ↦
      let at_dash : (byte : ℕ) → byte ≡ 45 → has_one_dash (byte ∷ rest) ≡ false → Lexes (written (byte ∷ rest)) (byte ∷ rest) =
      λ byte e. subst (λ (byte : ℕ). has_one_dash (byte ∷ rest) ≡ false → Lexes (written (byte ∷ rest)) (byte ∷ rest)) (sym e) (after_dash_lexes rest) in
      at_dash byte e ok
  | inr other ↦ undashed_lexes byte rest other
]
