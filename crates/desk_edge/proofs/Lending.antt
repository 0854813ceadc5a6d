-- What lending a store and taking it back does to the others.
use Rattle.std.proofs.Common.{◌≡◌, ◌≢◌, ℕ, true, false, List, [], ◌∷◌, ◌++◌, refl, ap, sym, ◌∙◌, subst, is_eq, Some, None, inl, inr}
use Rattle.std.specs.Prelude.{is_some}
use Rattle.std.proofs.lemmas.Bool.{cases_Bool, false≢true}
use Rattle.std.proofs.lemmas.Cmp.{nat_list_cmp_total, tied_itself}
use Rattle.desk_edge.specs.Shelves.{AreApart, is_name_among, name_cmp}
use Rattle.desk_rows.specs.Rows.{row_of, without_row}
use Rattle.desk_rows.proofs.Lookups.{row_of-without_row_other}
use Rattle.desk_text.proofs.CodeLemmas.{same_code-Decides}

-- two names that are compared as equal are one
pub same_name : (a b : List ℕ) → is_eq (name_cmp a b) ≡ true → a ≡ b
same_name a b e = (same_code-Decides a b).0 e

pub itself : (a : List ℕ) → is_eq (name_cmp a a) ≡ true
itself a = ap is_eq (tied_itself nat_list_cmp_total a)

pub other_name : (a b : List ℕ) → a ≢ b → is_eq (name_cmp a b) ≡ false
other_name a b differ = elim (cases_Bool (is_eq (name_cmp a b))) [ inl same ↦ absurd (differ (same_name a b same)) | inr other ↦ other ]

module _ {X : Type 0} (name_of : X → List ℕ) (name : List ℕ) where
  pub nothing_taken : (xs : List X) → row_of name_of name_cmp name xs ≡ None → without_row name_of name_cmp name xs ≡ xs
  nothing_taken [] e = refl
  nothing_taken (x ∷ xs) e =
      elim (cases_Bool (is_eq (name_cmp (name_of x) name))) [
        | inl here ↦ absurd (none_some x (sym e ∙ rw here refl))
        | inr other ↦ rw other (ap (λ t. x ∷ t) (nothing_taken xs (rw other at e)))
      ]
    where
      none_some : (y : X) → None ≡ Some y → ⊥
      none_some y h = cc

  -- the one that is found has the name
  pub found_has : (xs : List X) (x : X) → row_of name_of name_cmp name xs ≡ Some x → is_eq (name_cmp (name_of x) name) ≡ true
  found_has [] x e = absurd (none_some x e)
    where
      none_some : (y : X) → None ≡ Some y → ⊥
      none_some y h = cc
  found_has (y ∷ xs) x e =
      elim (cases_Bool (is_eq (name_cmp (name_of y) name))) [
        | inl here ↦ subst (λ z. is_eq (name_cmp (name_of z) name) ≡ true) (inside y x (rw here at e)) here
        | inr other ↦ found_has xs x (rw other at e)
      ]
    where
      inside : (y z : X) → Some y ≡ Some z → y ≡ z
      inside y z h = cc

  pub pushed_is_there : (xs : List X) (x : X) → is_eq (name_cmp (name_of x) name) ≡ true → is_some (row_of name_of name_cmp name (xs ++ x ∷ [])) ≡ true
  pushed_is_there [] x e = rw e refl
  pushed_is_there (y ∷ xs) x e = elim (cases_Bool (is_eq (name_cmp (name_of y) name))) [ inl here ↦ rw here refl | inr other ↦ rw other (pushed_is_there xs x e) ]

  pub pushed_keeps : (xs : List X) (x : X) → is_some (row_of name_of name_cmp name xs) ≡ true → is_some (row_of name_of name_cmp name (xs ++ x ∷ [])) ≡ true
  pushed_keeps [] x e = absurd (false≢true e)
  pushed_keeps (y ∷ xs) x e = elim (cases_Bool (is_eq (name_cmp (name_of y) name))) [ inl here ↦ rw here refl | inr other ↦ rw other (pushed_keeps xs x (rw other at e)) ]

  pub pushed_other : (xs : List X) (x : X) → is_some (row_of name_of name_cmp name xs) ≡ false → is_eq (name_cmp (name_of x) name) ≡ false → is_some (row_of name_of name_cmp name (xs ++ x ∷ [])) ≡ false
  pushed_other [] x e apart = rw apart refl
  pushed_other (y ∷ xs) x e apart =
      elim (cases_Bool (is_eq (name_cmp (name_of y) name))) [
        | inl here ↦ absurd (false≢true (sym e ∙ rw here refl))
        | inr other ↦ rw other (pushed_other xs x (rw other at e) apart)
      ]

turned : (a b : List ℕ) → is_eq (name_cmp a b) ≡ false → is_eq (name_cmp b a) ≡ false
turned a b apart =
    elim (cases_Bool (is_eq (name_cmp b a))) [
      | inl same ↦ absurd (false≢true (sym apart ∙ ap (λ n. is_eq (name_cmp n b)) (sym (same_name b a same)) ∙ itself b))
      | inr other ↦ other
    ]

-- a name that isn't among others stands apart from them
pub pushed_apart : (names : List (List ℕ)) (name : List ℕ) → is_name_among names name ≡ false → AreApart names → AreApart (names ++ name ∷ [])
pushed_apart [] name e h = (refl, tt)
pushed_apart (own ∷ names) name e h =
    elim (cases_Bool (is_eq (name_cmp own name))) [
      | inl here ↦ absurd (false≢true (sym e ∙ rw here refl))
      | inr other ↦ (pushed_other (λ n. n) own names name h.0 (turned own name other), pushed_apart names name (rw other at e) h.1)
    ]

stays_out : (name other : List ℕ) (names : List (List ℕ)) → is_name_among names other ≡ false → is_name_among (without_row (λ own. own) name_cmp name names) other ≡ false
stays_out name other [] e = refl
stays_out name other (own ∷ names) e =
    elim (cases_Bool (is_eq (name_cmp own other))) [
      | inl here ↦ absurd (false≢true (sym e ∙ rw here refl))
      | inr apart ↦ elim (cases_Bool (is_eq (name_cmp own name))) [ inl gone ↦ rw gone (rw apart at e) | inr kept ↦ rw (kept, apart) (stays_out name other names (rw apart at e)) ]
    ]

-- without one of them, names that stand apart do so
pub without_apart : (name : List ℕ) (names : List (List ℕ)) → AreApart names → AreApart (without_row (λ own. own) name_cmp name names)
without_apart name [] h = tt
without_apart name (own ∷ names) h =
    elim (cases_Bool (is_eq (name_cmp own name))) [ inl here ↦ rw here h.1 | inr other ↦ rw other (stays_out name own names h.0, without_apart name names h.1) ]

-- a name that was taken out of names that stand apart isn't among them
pub gone : (name : List ℕ) (names : List (List ℕ)) → AreApart names → is_name_among (without_row (λ own. own) name_cmp name names) name ≡ false
gone name [] h = refl
gone name (own ∷ names) h =
    elim (cases_Bool (is_eq (name_cmp own name))) [
      | inl here ↦ rw here (subst (λ n. is_name_among names n ≡ false) (same_name own name here) h.0)
      | inr other ↦ rw (other, other) (gone name names h.1)
    ]

-- names stay among those that another was put behind, or was taken out of
pub pushed_stay : (name other : List ℕ) (names : List (List ℕ)) → is_name_among names other ≡ true → is_name_among (names ++ name ∷ []) other ≡ true
pushed_stay name other names was = pushed_keeps (λ own. own) other names name was

pub without_stay : (name other : List ℕ) (names : List (List ℕ)) → other ≢ name → is_name_among names other ≡ true → is_name_among (without_row (λ own. own) name_cmp name names) other ≡ true
without_stay name other names differ was =
    ap is_some (row_of-without_row_other (λ own. own) name_cmp nat_list_cmp_total name other names (other_name name other (λ e. differ (sym e)))) ∙ was

module _ {V : Type 0} (name : List ℕ) where
  pub found_in_front : (own : List ℕ) (value : V) (all : List (List ℕ × V)) → is_eq (name_cmp own name) ≡ true → row_of (λ one. one.0) name_cmp name ((own, value) ∷ all) ≡ Some (own, value)
  found_in_front own value all e = rw e refl

  pub other_in_front : (own : List ℕ) (value : V) (all : List (List ℕ × V)) → is_eq (name_cmp own name) ≡ false → row_of (λ one. one.0) name_cmp name ((own, value) ∷ all) ≡ row_of (λ one. one.0) name_cmp name all
  other_in_front own value all e = rw e refl
