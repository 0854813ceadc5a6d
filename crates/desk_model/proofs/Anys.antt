-- Tests of whether some element passes, over lists that are put together, and counts of those that pass.
use Rattle.std.proofs.Common.{◌≡◌, ℕ, ◌+◌, ◌≤◌, Bool, true, false, cond, ◌&&◌, ◌||◌, List, [], ◌∷◌, ◌++◌, filter, map, sum_by, count_by, refl, sym, ap, ◌∙◌, inl, inr, arith}
use Rattle.std.specs.List.{flat_map, list_any}
use Rattle.std.proofs.lemmas.Bool.{cases_Bool}
use Rattle.std.proofs.lemmas.List.Sums.{sum_by-cons}
use Rattle.desk_model.proofs.Elements.{count_by-cons, each, sum_zero}

or_assoc : (a b c : Bool) → (a || (b || c)) ≡ (a || b || c)
or_assoc true b c = refl
or_assoc false b c = refl

pub any-append : {X : Type 0} (p : X → Bool) (xs ys : List X) → list_any p (xs ++ ys) ≡ (list_any p xs || list_any p ys)
any-append p [] ys = refl
any-append p (x ∷ xs) ys = ap (λ b. p x || b) (any-append p xs ys) ∙ or_assoc (p x) (list_any p xs) (list_any p ys)

pub any-flat_map : {X Y : Type 0} (p : Y → Bool) (f : X → List Y) (xs : List X) → list_any p (flat_map f xs) ≡ list_any (λ x. list_any p (f x)) xs
any-flat_map p f [] = refl
any-flat_map p f (x ∷ xs) = any-append p (f x) (flat_map f xs) ∙ ap (λ b. list_any p (f x) || b) (any-flat_map p f xs)

four : (a b c d : Bool) → (a || b || (c || d)) ≡ (a || c || (b || d))
four true b c d = refl
four false true true d = refl
four false true false d = refl
four false false true d = refl
four false false false d = refl

-- some element passes one of two tests
pub any-or : {X : Type 0} (p q : X → Bool) (xs : List X) → list_any (λ x. p x || q x) xs ≡ (list_any p xs || list_any q xs)
any-or p q [] = refl
any-or p q (x ∷ xs) = ap (λ b. p x || q x || b) (any-or p q xs) ∙ four (p x) (q x) (list_any p xs) (list_any q xs)

no_any : {X : Type 0} (xs : List X) → list_any (λ x. false) xs ≡ false
no_any [] = refl
no_any (x ∷ xs) = no_any xs

-- two lists, in either order
pub any-swap : {X Y : Type 0} (r : X → Y → Bool) (xs : List X) (ys : List Y) → list_any (λ x. list_any (r x) ys) xs ≡ list_any (λ y. list_any (λ x. r x y) xs) ys
any-swap r [] ys = sym (no_any ys)
any-swap r (x ∷ xs) ys = ap (λ b. list_any (r x) ys || b) (any-swap r xs ys) ∙ sym (any-or (r x) (λ y. list_any (λ z. r z y) xs) ys)

and_or : (a b c : Bool) → ((a || b) && c) ≡ (a && c || b && c)
and_or true true true = refl
and_or true true false = refl
and_or true false true = refl
and_or true false false = refl
and_or false b c = refl

-- a test that doesn't look at the element
pub any-and : {X : Type 0} (p : X → Bool) (c : Bool) (xs : List X) → (list_any p xs && c) ≡ list_any (λ x. p x && c) xs
any-and p c [] = refl
any-and p c (x ∷ xs) = and_or (p x) (list_any p xs) c ∙ ap (λ b. p x && c || b) (any-and p c xs)

pub count-append : {X : Type 0} (p : X → Bool) (xs ys : List X) → count_by p (xs ++ ys) ≡ count_by p xs + count_by p ys
count-append p [] ys = omega arith
count-append p (x ∷ xs) ys = omega (arith, count_by-cons p x (xs ++ ys), count_by-cons p x xs, count-append p xs ys)

pub count-flat_map : {X Y : Type 0} (p : Y → Bool) (f : X → List Y) (xs : List X) → count_by p (flat_map f xs) ≡ sum_by (λ x. count_by p (f x)) xs
count-flat_map p f [] = refl
count-flat_map p f (x ∷ xs) = omega (arith, count-append p (f x) (flat_map f xs), sum_by-cons (λ y. count_by p (f y)) x xs, count-flat_map p f xs)

pub count-map : {X Y : Type 0} (p : Y → Bool) (f : X → Y) (xs : List X) → count_by p (map f xs) ≡ count_by (λ x. p (f x)) xs
count-map p f [] = refl
count-map p f (x ∷ xs) = omega (arith, count_by-cons p (f x) (map f xs), count_by-cons (λ y. p (f y)) x xs, count-map p f xs)

pub sum-filter-le : {X : Type 0} (test : X → Bool) (f : X → ℕ) (xs : List X) → sum_by f (filter test xs) ≤ sum_by f xs
sum-filter-le test f [] = omega arith
sum-filter-le test f (x ∷ xs) =
    elim (test x) as (λ b. sum_by f (cond b (x ∷ filter test xs) (filter test xs)) ≤ sum_by f (x ∷ xs)) [
      | true ↦ omega (arith, sum_by-cons f x xs, sum_by-cons f x (filter test xs), sum-filter-le test f xs)
      | false ↦ omega (arith, sum_by-cons f x xs, sum-filter-le test f xs)
    ]

-- what is counted once at most is there where it is counted
pub count-once : {X : Type 0} (p : X → Bool) (xs : List X) → count_by p xs ≤ 1 → count_by p xs ≡ cond (list_any p xs) 1 0
count-once p [] h = refl
count-once p (x ∷ xs) h =
    elim (cases_Bool (p x)) [
      | inl here ↦
          let first : ◌≡◌ {A = ℕ} (cond (p x) 1 0) 1 = rw here refl in
          let all : count_by p (x ∷ xs) ≡ 1 = omega (arith, count_by-cons p x xs, first, h) in
          all ∙ sym (ap (λ b. cond (b || list_any p xs) 1 0) here)
      | inr other ↦
          let first : ◌≡◌ {A = ℕ} (cond (p x) 1 0) 0 = rw other refl in
          let same : count_by p (x ∷ xs) ≡ count_by p xs = omega (arith, count_by-cons p x xs, first) in
          same ∙ count-once p xs (omega (arith, same, h)) ∙ sym (ap (λ b. cond (b || list_any p xs) 1 0) other)
    ]

sum-plus : {X : Type 0} (g h k : X → ℕ) → ((x : X) → k x ≡ g x + h x) → (xs : List X) → sum_by k xs ≡ sum_by g xs + sum_by h xs
sum-plus g h k e [] = refl
sum-plus g h k e (x ∷ xs) = omega (arith, sum_by-cons k x xs, sum_by-cons g x xs, sum_by-cons h x xs, e x, sum-plus g h k e xs)

-- sums over two lists, in either order
pub sum-swap : {X Y : Type 0} (f : X → Y → ℕ) (xs : List X) (ys : List Y) → sum_by (λ x. sum_by (f x) ys) xs ≡ sum_by (λ y. sum_by (λ x. f x y) xs) ys
sum-swap f [] ys = sym (sum_zero (λ y. sum_by (λ x. f x y) []) ys (each (λ y. sum_by (λ x. f x y) [] ≡ 0) (λ y. refl) ys))
sum-swap f (x ∷ xs) ys =
    omega (arith, sum_by-cons (λ z. sum_by (f z) ys) x xs, sum-swap f xs ys, sum-plus (f x) (λ y. sum_by (λ z. f z y) xs) (λ y. sum_by (λ z. f z y) (x ∷ xs)) (λ y. sum_by-cons (λ z. f z y) x xs) ys)
