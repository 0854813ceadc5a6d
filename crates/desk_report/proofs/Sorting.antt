-- Records that were sorted by keys of their own are the records that are put in one after the other.
use Rattle.std.proofs.Common.{◌≡◌, ℕ, ◌+◌, ◌≤◌, Bool, true, false, cond, List, [], ◌∷◌, refl, ap, sym, ◌∙◌, subst, arith, Ordering, Less, Equal, Greater, is_eq, count_by, sum_by, IsPermutation, inl, inr}
use Rattle.std.specs.Cmp.Lexicographic.{slice_cmp}
use Rattle.std.specs.Ordering.{nat_cmp}
use Rattle.std.proofs.lemmas.Bool.{cases_Bool, false≢true}
use Rattle.std.proofs.lemmas.Cmp.{tied_itself}
use Rattle.std.proofs.lemmas.List.Sums.{sum_by-cons}
use Rattle.std.proofs.lemmas.List.Sorted.{sum_by-IsPermutation}
use Rattle.desk_text.proofs.CodeLemmas.{same_code-Decides}
use Rattle.desk_edge.specs.Content.{HaveDistinctKeys, key_cmp, key_of, same_key}
use Rattle.desk_edge.specs.declared.key.Key.{Key}
use Rattle.desk_edge.specs.declared.record.Record.{Record}
use Rattle.desk_edge.proofs.Keys.{key_order}
use Rattle.desk_rows.specs.Rows.{IsByKey, with_row, with_rows}
use Rattle.desk_rows.proofs.Edits.{IsByKey-with_row}
use Rattle.desk_rows.proofs.Order.{AllAbove, AllAbove-down, first_above, greater_back, less_back, none_by_key, rest_by_key}
use Rattle.desk_records.proofs.FirstRecords.{one_key}
use Rattle.desk_report.specs.Lines.{sorted}

counted : (b : Bool) → b ≡ true → ◌≡◌ {A = ℕ} (cond b 1 0) 1
counted true e = refl
counted false e = absurd (false≢true e)

-- how many of the records have the key
abbrev count_of : Key → List Record → ℕ
count_of key records = count_by (λ kept. same_key (key_of kept) key) records

count_first : (key : Key) (kept : Record) (records : List Record) → count_of key (kept ∷ records) ≡ cond (same_key (key_of kept) key) 1 0 + count_of key records
count_first key kept records = sum_by-cons (λ r. cond (same_key (key_of r) key) 1 0) kept records

itself : (key : Key) → ◌≡◌ {A = ℕ} (cond (same_key key key) 1 0) 1
itself key = counted (same_key key key) (ap is_eq (tied_itself key_order key))

-- a sum over records with one more, of a key that none of them has
sum_with : (f : Record → ℕ) (new : Record) (records : List Record) → count_of (key_of new) records ≡ 0
    → sum_by f (with_row key_of key_cmp new records) ≡ f new + sum_by f records
sum_with f new [] none = sum_by-cons f new []
sum_with f new (kept ∷ records) none = by (key_cmp (key_of kept) (key_of new)) refl (sum_with f new records)
  where
    first : count_of (key_of new) (kept ∷ records) ≡ cond (same_key (key_of kept) (key_of new)) 1 0 + count_of (key_of new) records
    first = count_first (key_of new) kept records

    by : (o : Ordering) → key_cmp (key_of kept) (key_of new) ≡ o
        → (count_of (key_of new) records ≡ 0 → sum_by f (with_row key_of key_cmp new records) ≡ f new + sum_by f records)
        → sum_by f (with_row key_of key_cmp new (kept ∷ records)) ≡ f new + sum_by f (kept ∷ records)
    by Less e ih =
        let rest = ih (omega (arith, first, none)) in
        let old = sum_by-cons f kept records in
        rw e (sum_by-cons f kept (with_row key_of key_cmp new records) ∙ omega (arith, rest, old))
    by Equal e ih = absurd (omega (arith, first, none, counted (same_key (key_of kept) (key_of new)) (ap is_eq e)))
    by Greater e ih = rw e (sum_by-cons f new (kept ∷ records))

-- a sum over records with more, all of different keys
sum_with_all : (f : Record → ℕ) (more records : List Record) → ((key : Key) → count_of key more + count_of key records ≤ 1)
    → sum_by f (with_rows key_of key_cmp more records) ≡ sum_by f more + sum_by f records
sum_with_all f [] records distinct = omega arith
sum_with_all f (new ∷ more) records distinct =
    let all = distinct (key_of new) in
    let first = count_first (key_of new) new more in
    let one = itself (key_of new) in
    let none : count_of (key_of new) records ≡ 0 = omega (arith, all, first, one) in
    let rest = sum_with_all f more (with_row key_of key_cmp new records) (λ key.
    let counted = sum_with (λ r. cond (same_key (key_of r) key) 1 0) new records none in
    let front = count_first key new more in
    let both = distinct key in
    omega (arith, counted, front, both)) in
    let new_sum = sum_with f new records none in
    let old_sum = sum_by-cons f new more in
    omega (arith, rest, new_sum, old_sum)

-- of records with a key below all others, none counts for it
none_above : (key : Key) (g : Record → ℕ) (records : List Record) → AllAbove key_of key_cmp key_order key records
    → sum_by (λ r. cond (same_key (key_of r) key) (g r) 0) records ≡ 0
none_above key g [] above = refl
none_above key g (kept ∷ records) above =
    let later = none_above key g records above.1 in
    let first = sum_by-cons (λ r. cond (same_key (key_of r) key) (g r) 0) kept records in
    let none : cond (same_key (key_of kept) key) (g kept) 0 ≡ 0 = ap (λ o. cond (is_eq o) (g kept) 0) (greater_back key_of key_cmp key_order key (key_of kept) above.0) in
    omega (arith, later, first, none)

same_record : (a b : Record) → key_of a ≡ key_of b → a.body ≡ b.body → a ≡ b
same_record a b k e = λ i. record { kind = (k i).kind; code = (k i).code; body = e i }

abbrev same_body : List ℕ → Record → ℕ
same_body body r = cond (is_eq (slice_cmp nat_cmp r.body body)) 1 0

-- lists by key with the same sums are the same
one_list : (xs ys : List Record) → IsByKey key_of key_cmp xs → IsByKey key_of key_cmp ys → ((f : Record → ℕ) → sum_by f xs ≡ sum_by f ys) → xs ≡ ys
one_list [] [] hx hy sums = refl
one_list [] (y ∷ ys) hx hy sums = absurd (omega (arith, sums (λ _. 1), sum_by-cons (λ _. 1) y ys))
one_list (x ∷ xs) [] hx hy sums = absurd (omega (arith, sums (λ _. 1), sum_by-cons (λ _. 1) x xs))
one_list (x ∷ xs) (y ∷ ys) hx hy sums = by (key_cmp (key_of x) (key_of y)) refl (λ later. one_list xs ys (rest_by_key key_of key_cmp key_order x xs hx) (rest_by_key key_of key_cmp key_order y ys hy) later)
  where
    above_x : AllAbove key_of key_cmp key_order (key_of x) xs
    above_x = first_above key_of key_cmp key_order x xs hx

    above_y : AllAbove key_of key_cmp key_order (key_of y) ys
    above_y = first_above key_of key_cmp key_order y ys hy

    by : (o : Ordering) → key_cmp (key_of x) (key_of y) ≡ o → (((f : Record → ℕ) → sum_by f xs ≡ sum_by f ys) → xs ≡ ys) → x ∷ xs ≡ y ∷ ys
    by Less e more =
        let all = sums (λ r. cond (same_key (key_of r) (key_of x)) 1 0) in
        let first = count_first (key_of x) x xs in
        let none = none_above (key_of x) (λ _. 1) (y ∷ ys) (e, AllAbove-down key_of key_cmp key_order (key_of x) (key_of y) ys e above_y) in
        absurd (omega (arith, all, first, none, itself (key_of x)))
    by Greater e more =
        let all = sums (λ r. cond (same_key (key_of r) (key_of y)) 1 0) in
        let first = count_first (key_of y) y ys in
        let less = less_back key_of key_cmp key_order (key_of x) (key_of y) e in
        let none = none_above (key_of y) (λ _. 1) (x ∷ xs) (less, AllAbove-down key_of key_cmp key_order (key_of y) (key_of x) xs less above_x) in
        absurd (omega (arith, all, first, none, itself (key_of y)))
    by Equal e more =
        let keys : key_of x ≡ key_of y = one_key (key_of x) (key_of y) (ap is_eq e) in
        let f : Record → ℕ = λ r. cond (same_key (key_of r) (key_of x)) (same_body x.body r) 0 in
        let all = sums f in
        let first : sum_by f (x ∷ xs) ≡ 1 + sum_by f xs = sum_by-cons f x xs ∙ ap (λ n. n + sum_by f xs) (rw (tied_itself key_order (key_of x)) (body_itself x.body)) in
        let none : sum_by f ys ≡ 0 = none_above (key_of x) (same_body x.body) ys (subst (λ k. AllAbove key_of key_cmp key_order k ys) (sym keys) above_y) in
        let second : sum_by f (y ∷ ys) ≡ f y + sum_by f ys = sum_by-cons f y ys in
        let found : 1 ≤ f y = omega (arith, all, first, none, second) in
        let bodies : x.body ≡ y.body = sym (of_count (same_key (key_of y) (key_of x)) y.body x.body found) in
        let same : x ≡ y = same_record x y keys bodies in
        let later : (g : Record → ℕ) → sum_by g xs ≡ sum_by g ys = λ g. omega (arith, sums g, sum_by-cons g x xs, sum_by-cons g y ys, ap g same) in
        let rest = more later in
        λ i. same i ∷ rest i
      where
        body_itself : (body : List ℕ) → ◌≡◌ {A = ℕ} (cond (is_eq (slice_cmp nat_cmp body body)) 1 0) 1
        body_itself body = counted (is_eq (slice_cmp nat_cmp body body)) ((same_code-Decides body body).1 refl)

        of_count : (b : Bool) (a c : List ℕ) → 1 ≤ cond b (cond (is_eq (slice_cmp nat_cmp a c)) 1 0) 0 → a ≡ c
        of_count false a c h = absurd (omega (arith, h))
        of_count true a c h =
            elim (cases_Bool (is_eq (slice_cmp nat_cmp a c))) [
              | inl same ↦ (same_code-Decides a c).0 same
              | inr other ↦ absurd (omega (arith, h, ap {B = ℕ} (λ b. cond b 1 0) other))
            ]

by_key_with_all : (more records : List Record) → IsByKey key_of key_cmp records → IsByKey key_of key_cmp (with_rows key_of key_cmp more records)
by_key_with_all [] records h = h
by_key_with_all (new ∷ more) records h = by_key_with_all more (with_row key_of key_cmp new records) (IsByKey-with_row key_of key_cmp key_order new records h)

pub sorted_by_key : (records : List Record) → IsByKey key_of key_cmp (sorted records)
sorted_by_key records = by_key_with_all records [] (none_by_key key_of key_cmp key_order)

-- a permutation that stands in the order of keys
pub sorted_is : (old new : List Record) → IsPermutation old new → HaveDistinctKeys old → IsByKey key_of key_cmp new → new ≡ sorted old
sorted_is old new moved distinct by_key =
    one_list new (sorted old) by_key (sorted_by_key old)
    (λ f. omega (arith, sum_by-IsPermutation f old new moved, sum_with_all f old [] (λ key. omega (arith, distinct key))))
