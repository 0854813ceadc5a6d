-- Rows that are sorted by a key that no two of them have rise by it.
use Rattle.std.proofs.Common.{◌≡◌, suc, ◌+◌, ◌≤◌, Bool, true, false, cond, List, [], ◌∷◌, refl, ap, sym, ◌∙◌, subst, arith, Ordering, Less, Equal, Greater, get_or, is_eq, count_by, IsPermutation}
use Rattle.std.specs.Cmp.{IsTotalOrder}
use Rattle.std.specs.List.Sorted.{IsSortedBy}
use Rattle.std.specs.Ordering.{is_lt}
use Rattle.std.proofs.lemmas.Bool.{true≢false}
use Rattle.std.proofs.lemmas.Cmp.{tied_itself}
use Rattle.std.proofs.lemmas.List.Sums.{sum_by-cons}
use Rattle.std.proofs.lemmas.List.Sorted.{sum_by-IsPermutation}
use Rattle.desk_rows.specs.Rows.{IsByKey}
use Rattle.desk_rows.proofs.Order.{AllAbove-down, by_key, first_above, less_back, none_by_key}

counts_one : (b : Bool) → b ≡ true → 1 ≤ cond b 1 0
counts_one true e = omega arith
counts_one false e = absurd (true≢false (sym e))

module _ {R K : Type 0} (key : R → K) (cmp : K → K → Ordering) (o : IsTotalOrder cmp) where
  abbrev pub AreDistinct : List R → Type 0
  AreDistinct rows = (k : K) → count_by (λ row. is_eq (cmp (key row) k)) rows ≤ 1

  moved : (old new : List R) → IsPermutation old new → AreDistinct old → AreDistinct new
  moved old new p d k = subst (λ n. n ≤ 1) (sym (sum_by-IsPermutation (λ row. cond (is_eq (cmp (key row) k)) 1 0) old new p)) (d k)

  count_first : (k : K) (row : R) (rows : List R) → count_by (λ r. is_eq (cmp (key r) k)) (row ∷ rows) ≡ cond (is_eq (cmp (key row) k)) 1 0 + count_by (λ r. is_eq (cmp (key r) k)) rows
  count_first k row rows = sum_by-cons (λ r. cond (is_eq (cmp (key r) k)) 1 0) row rows

  later : (row : R) (rows : List R) → AreDistinct (row ∷ rows) → AreDistinct rows
  later row rows d k = let first = count_first k row rows in let all = d k in omega (arith, first, all)

  less_than_next : (row next : R) (rows : List R) (a : Ordering) → cmp (key next) (key row) ≡ a → AreDistinct (row ∷ next ∷ rows) → is_lt (cmp (key next) (key row)) ≡ false → cmp (key row) (key next) ≡ Less
  less_than_next row next rows Less e d s = absurd (true≢false (sym (ap is_lt e) ∙ s))
  less_than_next row next rows Equal e d s =
      let first = count_first (key row) row (next ∷ rows) in
      let second = count_first (key row) next rows in
      let one = counts_one (is_eq (cmp (key row) (key row))) (ap is_eq (tied_itself o (key row))) in
      let two = counts_one (is_eq (cmp (key next) (key row))) (ap is_eq e) in
      let all = d (key row) in
      absurd (omega (arith, first, second, one, two, all))
  less_than_next row next rows Greater e d s = less_back key cmp o (key next) (key row) e

  sorted_later : (row : R) (rows : List R) → IsSortedBy (λ a b. is_lt (cmp (key a) (key b))) (row ∷ rows) → IsSortedBy (λ a b. is_lt (cmp (key a) (key b))) rows
  sorted_later row rows s k d low high =
      let further : suc k + 1 ≡ suc (k + 1) = omega arith in
      subst (λ n. is_lt (cmp (key (get_or (row ∷ rows) n d)) (key (get_or rows k d))) ≡ false) further (s (suc k) d (omega arith) (omega (arith, high)))

  rises : (rows : List R) → AreDistinct rows → IsSortedBy (λ a b. is_lt (cmp (key a) (key b))) rows → IsByKey key cmp rows
  rises [] d s = none_by_key key cmp o
  rises (row ∷ []) d s = by_key key cmp o row [] tt (none_by_key key cmp o)
  rises (row ∷ next ∷ rows) d s =
      let rest = rises (next ∷ rows) (later row (next ∷ rows) d) (sorted_later row (next ∷ rows) s) in
      let less = less_than_next row next rows (cmp (key next) (key row)) refl d (s 0 row (omega arith) (omega arith)) in
      by_key key cmp o row (next ∷ rows) (less, AllAbove-down key cmp o (key row) (key next) rows less (first_above key cmp o next rows rest)) rest

  -- records that are sorted from records with distinct keys rise
  pub sorted_by_key : (old new : List R) → IsPermutation old new → AreDistinct old → IsSortedBy (λ a b. is_lt (cmp (key a) (key b))) new → IsByKey key cmp new
  sorted_by_key old new p d s = rises new (moved old new p d) s
