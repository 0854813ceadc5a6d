-- What a chain is: it begins with the part, goes along lines, and ends with the target where the part reaches it.
use Rattle.std.proofs.Common.{◌≡◌, ℕ, zero, suc, Bool, true, false, List, [], ◌∷◌, Option, Some, None, MatchOption, refl, sym, ◌∙◌, subst}
use Rattle.std.specs.Prelude.{if◌then◌else◌}
use Rattle.std.specs.List.{AllByRecursion, list_any}
use Rattle.std.specs.Option.{option_map_or}
use Rattle.std.proofs.lemmas.Bool.{and_from}
use Rattle.desk_text.specs.Code.{same_code}
use Rattle.desk_text.proofs.CodeLemmas.{same_code_itself}
use Rattle.desk_findings.specs.Bill.{is_acyclic}
use Rattle.desk_findings.specs.Chain.{are_linked, begins_with, chain, chain_within, ends_with, next_to, next_within}
use Rattle.desk_model.specs.declared.rows.line.LineRow.{LineRow}
use Rattle.desk_model.specs.Lists.{Lists, is_line, line_key, line_key_cmp}
use Rattle.desk_findings.specs.Reaches.{enough, is_or_reaches, lines_of}
use Rattle.desk_findings.proofs.Bill.{HasParents, bill_induction, chain-step, next_each, reaches-step}
use Rattle.desk_model.proofs.Elements.{each_both, each_filter, each_map}
use Rattle.desk_model.proofs.Kept.{each_kept, line_key_cmp_total, same_code-true}

-- a chain of whatever length begins with the part
chain_within-begins : (lines : List LineRow) (deep k : ℕ) (part target : List ℕ) → begins_with part (chain_within lines deep k part target) ≡ true
unfolding chain_within
chain_within-begins lines deep zero part target = same_code_itself part
chain_within-begins lines deep (suc k) part target = elim (same_code part target) as (λ b. begins_with part (if b then part ∷ [] else part ∷ option_map_or (λ child. chain_within lines deep k child target) (next_within lines deep part target) []) ≡ true) [
  | true ↦ same_code_itself part
  | false ↦ same_code_itself part
]

pub chain-begins : (t : Lists) (part target : List ℕ) → begins_with part (chain t part target) ≡ true
chain-begins t part target = chain_within-begins t.lines (enough t) (enough t) part target

module _ (t : Lists) (parents : HasParents t) (acyclic : is_acyclic t ≡ true) (target : List ℕ) where
  -- a part's chain, by whether it is the target and by its next child
  IsChain : (List ℕ → List (List ℕ) → Type 0) → List ℕ → Type 0
  IsChain Q part = Q part (chain t part target)

  chain_of : List ℕ → Bool → Option (List ℕ) → List (List ℕ)
  chain_of part same next = if same then part ∷ [] else part ∷ option_map_or (λ child. chain t child target) next []

  chain_is : (part : List ℕ) → chain t part target ≡ chain_of part (same_code part target) (next_to t part target)
  unfolding chain_of
  chain_is part = chain-step t parents acyclic target part

  -- a chain that begins with a code goes on behind it
  link : (part child : List ℕ) (codes : List (List ℕ)) → begins_with child codes ≡ true → is_line t part child ≡ true → are_linked t codes ≡ true → are_linked t (part ∷ codes) ≡ true
  link part child [] begins line linked = refl
  link part child (first ∷ codes) begins line linked =
      and_from (is_line t part first) (are_linked t (first ∷ codes)) (subst (λ c. is_line t part c ≡ true) (sym (same_code-true first child begins)) line) linked

  linked_of : (part : List ℕ) (same : Bool) (next : Option (List ℕ)) → MatchOption next (list_any (λ line. is_or_reaches t line.child target) (lines_of t.lines part) ≡ false) (λ child. ((is_line t part child ≡ true) × (are_linked t (chain t child target) ≡ true)) × (is_or_reaches t child target ≡ true) × (list_any (λ line. is_or_reaches t line.child target) (lines_of t.lines part) ≡ true)) → are_linked t (chain_of part same next) ≡ true
  unfolding chain_of
  linked_of part true next h = refl
  linked_of part false None h = refl
  linked_of part false (Some child) h = link part child (chain t child target) (chain-begins t child target) h.0.0 h.0.1

  -- each line of a part is a line of the tables
  each_line : (part : List ℕ) → AllByRecursion (λ line. is_line t part line.child ≡ true) (lines_of t.lines part)
  each_line part =
      each_map (λ line. (is_line t line.parent line.child ≡ true) × (same_code line.parent part ≡ true)) (λ line. is_line t part line.child ≡ true)
      (λ line h. subst (λ c. is_line t c line.child ≡ true) (same_code-true line.parent part h.1) h.0) (lines_of t.lines part)
      (each_filter (λ line. is_line t line.parent line.child ≡ true) (λ line. same_code line.parent part) t.lines (each_kept line_key line_key_cmp line_key_cmp_total t.lines))

  pub chain-linked : (part : List ℕ) → are_linked t (chain t part target) ≡ true
  chain-linked =
      bill_induction t parents acyclic (λ part. are_linked t (chain t part target) ≡ true)
      (λ part below.
      rw (chain_is part)
      (linked_of part (same_code part target) (next_to t part target)
      (next_each t parents acyclic target (λ child. (is_line t part child ≡ true) × (are_linked t (chain t child target) ≡ true)) part
      (each_both (λ line. is_line t part line.child ≡ true) (λ line. are_linked t (chain t line.child target) ≡ true) (lines_of t.lines part) (each_line part) below))))

  later_end : (part child : List ℕ) (codes : List (List ℕ)) → begins_with child codes ≡ true → ends_with target (part ∷ codes) ≡ ends_with target codes
  later_end part child [] begins = absurd (Rattle.std.proofs.lemmas.Bool.false≢true begins)
  later_end part child (first ∷ codes) begins = refl

  ends_of : (part : List ℕ) (same : Bool) (next : Option (List ℕ)) → same_code part target ≡ same → MatchOption next (list_any (λ line. is_or_reaches t line.child target) (lines_of t.lines part) ≡ false) (λ child. (ends_with target (chain t child target) ≡ is_or_reaches t child target) × (is_or_reaches t child target ≡ true) × (list_any (λ line. is_or_reaches t line.child target) (lines_of t.lines part) ≡ true)) → ends_with target (chain_of part same next) ≡ is_or_reaches t part target
  unfolding chain_of
  ends_of part true next e h = e ∙ sym (rw e refl)
  ends_of part false None e h = e ∙ sym (rw (e, reaches-step t parents target part, h) refl)
  ends_of part false (Some child) e h =
      later_end part child (chain t child target) (chain-begins t child target) ∙ h.0 ∙ h.1 ∙ sym (rw (e, reaches-step t parents target part, h.2) refl)

  pub chain-ends : (part : List ℕ) → ends_with target (chain t part target) ≡ is_or_reaches t part target
  chain-ends =
      bill_induction t parents acyclic (λ part. ends_with target (chain t part target) ≡ is_or_reaches t part target)
      (λ part below.
      rw (chain_is part)
      (ends_of part (same_code part target) (next_to t part target) refl
      (next_each t parents acyclic target (λ child. ends_with target (chain t child target) ≡ is_or_reaches t child target) part below)))
