-- How often a code stands in a list of codes.
use Rattle.std.proofs.Common.{◌≡◌, ℕ, ◌+◌, Bool, false, cond, List, [], ◌∷◌, ◌++◌, map, filter, count_by, is_some, is_eq, refl, sym, ap, ◌∙◌, subst, inl, inr, arith}
use Rattle.std.proofs.lemmas.Bool.{cases_Bool}
use Rattle.desk_text.specs.Code.{code_cmp, same_code}
use Rattle.desk_rows.specs.Rows.{IsByKey, row_of}
use Rattle.desk_rows.proofs.Order.{AllAbove, first_above, greater_back, rest_by_key}
use Rattle.desk_model.proofs.Elements.{count_by-cons}
use Rattle.desk_model.proofs.Kept.{code_cmp_total, same_code-true}

-- how often a code stands in a list
abbrev pub times : List ℕ → List (List ℕ) → ℕ
times code codes = count_by (λ listed. same_code listed code) codes

pub times_again : (code first : List ℕ) (codes : List (List ℕ)) → times code (first ∷ codes) ≡ cond (same_code first code) 1 0 + times code codes
times_again code first codes = count_by-cons (λ listed. same_code listed code) first codes

pub times_other : (code first : List ℕ) (codes : List (List ℕ)) → same_code first code ≡ false → times code (first ∷ codes) ≡ times code codes
times_other code first codes other = omega (arith, times_again code first codes ∙ ap (λ b. cond b 1 0 + times code codes) other)

pub times_append : (code : List ℕ) (some others : List (List ℕ)) → times code (some ++ others) ≡ times code some + times code others
times_append code [] others = omega arith
times_append code (first ∷ some) others =
    omega (arith, times_again code first (some ++ others), times_again code first some, times_append code some others)

pub times_filter : (p : List ℕ → Bool) (code : List ℕ) (codes : List (List ℕ)) → times code (filter p codes) ≡ cond (p code) (times code codes) 0
times_filter p code [] = elim (cases_Bool (p code)) [ inl passes ↦ rw passes refl | inr fails ↦ rw fails refl ]
times_filter p code (first ∷ codes) =
    let ih = times_filter p code codes in
    elim (cases_Bool (same_code first code)) [
      | inl same ↦
          let is = ap p (same_code-true first code same) in
          elim (cases_Bool (p code)) [
            | inl passes ↦
                rw (is ∙ passes, passes) (times_again code first (filter p codes) ∙ ap (λ n. cond (same_code first code) 1 0 + n) (rw passes at ih) ∙ sym (times_again code first codes))
            | inr fails ↦ rw (is ∙ fails, fails) (rw fails at ih)
          ]
      | inr other ↦
          let skipped = ap (λ n. cond (p code) n 0) (sym (times_other code first codes other)) in
          elim (cases_Bool (p first)) [
            | inl passes ↦ rw passes (times_other code first (filter p codes) other ∙ ih ∙ skipped)
            | inr fails ↦ rw fails (ih ∙ skipped)
          ]
    ]

module _ {R : Type 0} (key : R → List ℕ) where
  none_above : (code : List ℕ) (rows : List R) → AllAbove key code_cmp code_cmp_total code rows → times code (map key rows) ≡ 0
  none_above code [] a = refl
  none_above code (row ∷ rows) a =
      times_other code (key row) (map key rows) (ap is_eq (greater_back key code_cmp code_cmp_total code (key row) a.0)) ∙ none_above code rows a.1

  -- rows by code have a code once where they have it
  pub times_by_code : (code : List ℕ) (rows : List R) → IsByKey key code_cmp rows → times code (map key rows) ≡ cond (is_some (row_of key code_cmp code rows)) 1 0
  times_by_code code [] h = refl
  times_by_code code (row ∷ rows) h =
      elim (cases_Bool (same_code (key row) code)) [
        | inl same ↦
            let none = subst (λ c. times c (map key rows) ≡ 0) (same_code-true (key row) code same) (none_above (key row) rows (first_above key code_cmp code_cmp_total row rows h)) in
            rw same (times_again code (key row) (map key rows) ∙ rw (same, none) refl)
        | inr other ↦
            rw other (times_other code (key row) (map key rows) other ∙ times_by_code code rows (rest_by_key key code_cmp code_cmp_total row rows h))
      ]
