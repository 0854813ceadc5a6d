-- How often a number stands in a list.
use Rattle.std.proofs.Common.{◌≡◌, ℕ, zero, suc, ◌+◌, ◌<◌, ◌≤◌, Bool, true, false, cond, ◌==◌, List, [], ◌∷◌, length, count_by, slice_index, slice_index_or, sum_by, take, refl, sym, ap, ◌∙◌, subst, inl, inr, arith}
use Rattle.std.proofs.lemmas.Bool.{cases_Bool, cases_eq, eq-eqb, eqb-true, or_parts}
use Rattle.std.specs.List.{range_with_len}
use Rattle.std.proofs.lemmas.List.FromFn.{get_or-range_with_len, length-range_with_len}
use Rattle.std.proofs.lemmas.List.Sums.{sum_by-cons, sum_by_more}
use Rattle.desk_rollup.specs.Numbers.{has}
use Rattle.desk_rollup.specs.Plan.{AreDistinct}

abbrev pub times : ℕ → List ℕ → ℕ
times n ns = count_by (λ m. m == n) ns

abbrev pub one_if : Bool → ℕ
one_if b = cond b 1 0

pub times-cons : (n first : ℕ) (ns : List ℕ) → times n (first ∷ ns) ≡ cond (first == n) 1 0 + times n ns
times-cons n first ns = sum_by-cons (λ m. cond (m == n) 1 0) first ns

pub none_times : (n : ℕ) (ns : List ℕ) → has ns n ≡ false → times n ns ≡ 0
none_times n [] e = refl
none_times n (first ∷ ns) e =
    let parts = or_parts (first == n) (has ns n) e in
    times-cons n first ns ∙ rw parts.0 (omega (arith, none_times n ns parts.1))

pub some_times : (n : ℕ) (ns : List ℕ) → has ns n ≡ true → 1 ≤ times n ns
some_times n [] e = absurd (Rattle.std.proofs.lemmas.Bool.false≢true e)
some_times n (first ∷ ns) e =
    elim (cases_Bool (first == n)) [
      | inl here ↦ let one = ap one_if here in omega (arith, times-cons n first ns, one)
      | inr away ↦
          let rest = some_times n ns (rw away at e) in
          omega (arith, times-cons n first ns, rest)
    ]

-- the list without the first of a number
abbrev without : ℕ → List ℕ → List ℕ
without n [] = []
without n (first ∷ ns) = cond (first == n) ns (first ∷ without n ns)

length_without : (n : ℕ) (ns : List ℕ) → 1 ≤ times n ns → length (without n ns) + 1 ≡ length ns
length_without n [] h = absurd (omega arith)
length_without n (first ∷ ns) h =
    elim (cases_Bool (first == n)) [
      | inl here ↦ rw here (omega arith)
      | inr away ↦
          let none = ap one_if away in
          let rest = length_without n ns (omega (arith, times-cons n first ns, none, h)) in
          rw away (omega (arith, rest))
    ]

times_without : (n m : ℕ) (ns : List ℕ) → 1 ≤ times n ns → times m (without n ns) + cond (n == m) 1 0 ≡ times m ns
times_without n m [] h = absurd (omega arith)
times_without n m (first ∷ ns) h =
    elim (cases_Bool (first == n)) [
      | inl here ↦
          let same = eqb-true first n here in
          let tests : one_if (first == m) ≡ one_if (n == m) = ap (λ k. one_if (k == m)) same in
          rw here (omega (arith, times-cons m first ns, tests))
      | inr away ↦
          let none = ap one_if away in
          let rest = times_without n m ns (omega (arith, times-cons n first ns, none, h)) in
          rw away (omega (arith, times-cons m first (without n ns), times-cons m first ns, rest))
    ]

-- lists in which each number stands equally often are equally long
pub same_length : (xs ys : List ℕ) → ((n : ℕ) → times n xs ≡ times n ys) → length xs ≡ length ys
same_length [] [] e = refl
same_length [] (y ∷ ys) e = let one = ap one_if (eq-eqb y y refl) in absurd (omega (arith, e y, times-cons y y ys, one))
same_length (x ∷ xs) ys e =
    let one = ap one_if (eq-eqb x x refl) in
    let there : 1 ≤ times x ys = omega (arith, e x, times-cons x x xs, one) in
    let rest = same_length xs (without x ys) (λ n. omega (arith, e n, times-cons n x xs, times_without x n ys there)) in
    omega (arith, rest, length_without x ys there)

-- a number stands where the list has it at a place
pub has_at : (ns : List ℕ) (place : ℕ) → place < length ns → has ns (slice_index ns place) ≡ true
has_at ns place h = Rattle.std.proofs.lemmas.List.Folds.list_any_at (λ m. m == slice_index ns place) ns place 0 h (eq-eqb (slice_index ns place) (slice_index ns place) refl)

pub two_places : (ns : List ℕ) (i j : ℕ) → i < j → j < length ns → slice_index ns i ≡ slice_index ns j → 2 ≤ times (slice_index ns i) ns
two_places [] i j h l e = absurd (omega arith)
two_places (first ∷ ns) zero zero h l e = absurd (omega arith)
two_places (first ∷ ns) zero (suc j) h l e =
    let one = ap one_if (eq-eqb first first refl) in
    let there = some_times first ns (subst (λ m. has ns m ≡ true) (sym e) (has_at ns j (omega arith))) in
    omega (arith, times-cons first first ns, one, there)
two_places (first ∷ ns) (suc i) zero h l e = absurd (omega arith)
two_places (first ∷ ns) (suc i) (suc j) h l e =
    let rest = two_places ns i j (omega arith) (omega arith) e in
    omega (arith, times-cons (slice_index ns i) first ns, rest)

has_times : (n : ℕ) (ns : List ℕ) → 1 ≤ times n ns → has ns n ≡ true
has_times n ns h =
    elim (cases_Bool (has ns n)) [
      | inl there ↦ there
      | inr away ↦ absurd (omega (arith, h, none_times n ns away))
    ]

-- different numbers below a bound are no more than the bound
pub few : (bound : ℕ) (ns : List ℕ) → ((n : ℕ) → times n ns ≤ 1) → ((n : ℕ) → has ns n ≡ true → n < bound) → length ns ≤ bound
few zero [] single low = omega arith
few zero (n ∷ ns) single low = absurd (omega (arith, low n (Rattle.std.proofs.lemmas.Bool.or_left (n == n) (has ns n) (eq-eqb n n refl))))
few (suc bound) ns single low =
    elim (cases_Bool (has ns bound)) [
      | inl there ↦
          let one = some_times bound ns there in
          let rest = few bound (without bound ns) (λ n. omega (arith, times_without bound n ns one, single n))
          (λ n e.
          let some = some_times n (without bound ns) e in
          let still = low n (has_times n ns (omega (arith, times_without bound n ns one, some))) in
          elim (cases_eq bound n) [
            | inl same ↦
                let test = ap one_if (eq-eqb bound n same) in
                absurd (omega (arith, times_without bound n ns one, some, single n, test))
            | inr other ↦ omega (arith, still, other)
          ]) in
          omega (arith, rest, length_without bound ns one)
      | inr away ↦
          let rest = few bound ns single (λ n e.
          let still = low n e in
          elim (cases_eq bound n) [
            | inl same ↦ absurd (Rattle.std.proofs.lemmas.Bool.both_ways (has ns bound) away (subst (λ m. has ns m ≡ true) (sym same) e))
            | inr other ↦ omega (arith, still, other)
          ]) in
          omega (arith, rest)
    ]

-- numbers that differ stand there once
pub distinct_once : (ns : List ℕ) → AreDistinct ns → (n : ℕ) → times n ns ≤ 1
distinct_once [] distinct n = omega arith
distinct_once (first ∷ ns) distinct n =
    elim (cases_Bool (first == n)) [
      | inl here ↦
          let one = ap one_if here in
          let none = none_times n ns (subst (λ m. has ns m ≡ false) (eqb-true first n here) distinct.0) in
          omega (arith, times-cons n first ns, one, none)
      | inr away ↦ let none = ap one_if away in omega (arith, times-cons n first ns, none, distinct_once ns distinct.1 n)
    ]

pub once_distinct : (ns : List ℕ) → ((n : ℕ) → times n ns ≤ 1) → AreDistinct ns
once_distinct [] single = tt
once_distinct (first ∷ ns) single =
    let one = ap one_if (eq-eqb first first refl) in (
      elim (cases_Bool (has ns first)) [
        | inl again ↦ absurd (omega (arith, single first, times-cons first first ns, one, some_times first ns again))
        | inr new ↦ new
      ],
      once_distinct ns (λ n. omega (arith, single n, times-cons n first ns)),
    )

sum_without : (f : ℕ → ℕ) (n : ℕ) (ns : List ℕ) → 1 ≤ times n ns → sum_by f ns ≡ f n + sum_by f (without n ns)
sum_without f n [] h = absurd (omega arith)
sum_without f n (first ∷ ns) h =
    elim (cases_Bool (first == n)) [
      | inl here ↦
          let same = ap f (eqb-true first n here) in
          rw here (omega (arith, sum_by-cons f first ns, same))
      | inr away ↦
          let none = ap one_if away in
          let rest = sum_without f n ns (omega (arith, times-cons n first ns, none, h)) in
          rw away (omega (arith, sum_by-cons f first ns, sum_by-cons f first (without n ns), rest))
    ]

-- a sum over different numbers is no more than that over all numbers below a bound
pub sum_few : (f : ℕ → ℕ) (all bound : ℕ) → bound ≤ all → (ns : List ℕ) → ((n : ℕ) → times n ns ≤ 1) → ((n : ℕ) → has ns n ≡ true → n < bound) → sum_by f ns ≤ sum_by f (take bound (range_with_len 0 all))
sum_few f all zero within [] single low = omega arith
sum_few f all zero within (n ∷ ns) single low = absurd (omega (arith, low n (Rattle.std.proofs.lemmas.Bool.or_left (n == n) (has ns n) (eq-eqb n n refl))))
sum_few f all (suc bound) within ns single low =
    let in_range : bound < all = omega (arith, within) in
    let last : slice_index_or (range_with_len 0 all) bound 0 ≡ bound = get_or-range_with_len 0 all bound 0 in_range ∙ omega arith in
    let more = sum_by_more f (range_with_len 0 all) bound 0 (omega (arith, length-range_with_len 0 all, in_range)) in
    let at = ap f last in
    let next : bound + 1 ≡ suc bound = omega arith in
    let grown = ap (λ k. sum_by f (take k (range_with_len 0 all))) next in
    elim (cases_Bool (has ns bound)) [
      | inl there ↦
          let one = some_times bound ns there in
          let rest = sum_few f all bound (omega (arith, within)) (without bound ns) (λ n. omega (arith, times_without bound n ns one, single n))
          (λ n e.
          let some = some_times n (without bound ns) e in
          let still = low n (has_times n ns (omega (arith, times_without bound n ns one, some))) in
          elim (cases_eq bound n) [
            | inl same ↦
                let test = ap one_if (eq-eqb bound n same) in
                absurd (omega (arith, times_without bound n ns one, some, single n, test))
            | inr other ↦ omega (arith, still, other)
          ]) in
          omega (arith, rest, sum_without f bound ns one, more, at, grown)
      | inr away ↦
          let rest = sum_few f all bound (omega (arith, within)) ns single
          (λ n e.
          let still = low n e in
          elim (cases_eq bound n) [
            | inl same ↦ absurd (Rattle.std.proofs.lemmas.Bool.false≢true (sym away ∙ subst (λ m. has ns m ≡ true) (sym same) e))
            | inr other ↦ omega (arith, still, other)
          ]) in
          omega (arith, rest, more, at, grown)
    ]
