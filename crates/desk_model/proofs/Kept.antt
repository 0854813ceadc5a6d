-- Rows that are kept under a code.
use Rattle.std.proofs.Common.{◌≡◌, ℕ, Bool, true, false, cond, List, [], ◌∷◌, Some, None, is_some, is_eq, refl, sym, subst, Ordering}
use Rattle.std.specs.List.{AllByRecursion, list_any}
use Rattle.std.specs.Cmp.{IsTotalOrder}
use Rattle.std.proofs.lemmas.Cmp.{nat_cmp_total, nat_list_cmp_total, on_total, then_total, tied_itself}
use Rattle.std.proofs.lemmas.Bool.{false≢true, or_left, or_right}
use Rattle.desk_text.specs.Code.{code_cmp, same_code}
use Rattle.desk_text.proofs.CodeLemmas.{same_code-Decides}
use Rattle.desk_rows.specs.Rows.{row_of}
use Rattle.desk_model.specs.Lists.{line_key_cmp, member_key_cmp, shipment_key_cmp}
use Rattle.desk_model.proofs.Elements.{each_map}

-- codes are the same exactly where they are equal
pub same_code-true : (a b : List ℕ) → same_code a b ≡ true → a ≡ b
same_code-true a b = (same_code-Decides a b).0

pub same_code-from : (a b : List ℕ) → a ≡ b → same_code a b ≡ true
same_code-from a b = (same_code-Decides a b).1

some_inside : {X : Type 0} (x y : X) → Some x ≡ Some y → x ≡ y
some_inside x y e = cc

none_some : {X : Type 0} (x : X) {G : Type 0} → None ≡ Some x → G
none_some x e = cc

module _ {R : Type 0} (key : R → List ℕ) where
  -- what holds of each row and code holds of a row that is found
  pub found_each : (P : R → Type 0) (code : List ℕ) (rows : List R) (row : R) → AllByRecursion P rows → row_of key code_cmp code rows ≡ Some row → P row × (key row ≡ code)
  found_each P code [] row a e = none_some row e
  found_each P code (first ∷ rows) row a e =
      elim (same_code (key first) code) as (λ b. same_code (key first) code ≡ b → cond b (Some first) (row_of key code_cmp code rows) ≡ Some row → P row × (key row ≡ code)) [
        | true ↦ λ same here.
            let is : first ≡ row = some_inside first row here in
            (subst P is a.0, subst (λ r. key r ≡ code) is (same_code-true (key first) code same))
        | false ↦ λ other later. found_each P code rows row a.1 later
      ] refl e

  -- what holds of the code of each row holds of a code that is kept
  pub kept_each : (P : List ℕ → Type 0) (code : List ℕ) (rows : List R) → AllByRecursion (λ row. P (key row)) rows → is_some (row_of key code_cmp code rows) ≡ true → P code
  kept_each P code [] a e = absurd (false≢true e)
  kept_each P code (first ∷ rows) a e =
      elim (same_code (key first) code) as (λ b. same_code (key first) code ≡ b → is_some (cond b (Some first) (row_of key code_cmp code rows)) ≡ true → P code) [
        | true ↦ λ same here. subst P (same_code-true (key first) code same) a.0
        | false ↦ λ other later. kept_each P code rows a.1 later
      ] refl e

  -- a kept code makes a test of some row true, where the test is true of its code
  pub kept_any : (test : List ℕ → Bool) (code : List ℕ) (rows : List R) → is_some (row_of key code_cmp code rows) ≡ true → test code ≡ true → list_any (λ row. test (key row)) rows ≡ true
  kept_any test code [] e h = absurd (false≢true e)
  kept_any test code (first ∷ rows) e h =
      elim (same_code (key first) code) as (λ b. same_code (key first) code ≡ b → is_some (cond b (Some first) (row_of key code_cmp code rows)) ≡ true → list_any (λ row. test (key row)) (first ∷ rows) ≡ true) [
        | true ↦ λ same here. or_left (test (key first)) (list_any (λ row. test (key row)) rows) (subst (λ c. test c ≡ true) (sym (same_code-true (key first) code same)) h)
        | false ↦ λ other later. or_right (test (key first)) (list_any (λ row. test (key row)) rows) (kept_any test code rows later h)
      ] refl e

module _ {R K : Type 0} (key : R → K) (cmp : K → K → Ordering) (o : IsTotalOrder cmp) where
  found_later : (k : K) (first : R) (rows : List R) → is_some (row_of key cmp k rows) ≡ true → is_some (row_of key cmp k (first ∷ rows)) ≡ true
  found_later k first rows e = elim (is_eq (cmp (key first) k)) as (λ b. is_some (cond b (Some first) (row_of key cmp k rows)) ≡ true) [ true ↦ refl | false ↦ e ]

  -- each row's key is kept
  pub each_kept : (rows : List R) → AllByRecursion (λ row. is_some (row_of key cmp (key row) rows) ≡ true) rows
  each_kept [] = tt
  each_kept (first ∷ rows) = (
    rw (tied_itself o (key first)) refl,
    each_map (λ row. is_some (row_of key cmp (key row) rows) ≡ true) (λ row. is_some (row_of key cmp (key row) (first ∷ rows)) ≡ true) (λ row e. found_later (key row) first rows e) rows (each_kept rows),
  )

-- the orders of the tables' keys
pub code_cmp_total : IsTotalOrder code_cmp
code_cmp_total = nat_list_cmp_total

pub line_key_cmp_total : IsTotalOrder line_key_cmp
line_key_cmp_total = then_total (on_total (λ key. key.0) nat_list_cmp_total) (on_total (λ key. key.1) nat_list_cmp_total)

pub member_key_cmp_total : IsTotalOrder member_key_cmp
member_key_cmp_total = then_total (on_total (λ key. key.0) nat_list_cmp_total) (on_total (λ key. key.1) nat_cmp_total)

pub shipment_key_cmp_total : IsTotalOrder shipment_key_cmp
shipment_key_cmp_total = then_total (on_total (λ key. key.0) nat_cmp_total) (on_total (λ key. key.1) nat_list_cmp_total)

-- a row that is found and passes a test makes the test of some row true
pub found_any : {R : Type 0} (key : R → List ℕ) (p : R → Bool) (code : List ℕ) (rows : List R) (row : R) → row_of key code_cmp code rows ≡ Some row → p row ≡ true → list_any p rows ≡ true
found_any key p code [] row e h = none_some row e
found_any key p code (first ∷ rows) row e h =
    elim (same_code (key first) code) as (λ b. cond b (Some first) (row_of key code_cmp code rows) ≡ Some row → list_any p (first ∷ rows) ≡ true) [
      | true ↦ λ here. or_left (p first) (list_any p rows) (subst (λ r. p r ≡ true) (sym (some_inside first row here)) h)
      | false ↦ λ later. or_right (p first) (list_any p rows) (found_any key p code rows row later h)
    ] e
