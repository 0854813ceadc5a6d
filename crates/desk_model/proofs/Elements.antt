-- Facts on each element of a list, and what tests, sums and counts make of them.
use Rattle.std.proofs.Common.{◌≡◌, ℕ, ◌+◌, ◌<◌, ◌≤◌, Bool, true, false, cond, not, ◌&&◌, ◌||◌, List, [], ◌∷◌, ◌++◌, map, filter, find, sum_by, count_by, Some, None, MatchOption, refl, sym, ap, ◌⊎◌, inl, inr, arith}
use Rattle.std.specs.List.{AllByRecursion, flat_map, list_all, list_any}
use Rattle.std.proofs.lemmas.Bool.{and_parts, and_from, or_left, or_parts, or_right, or_cases, false≢true}
use Rattle.std.proofs.lemmas.List.Sums.{sum_by-cons}

pub each : {X : Type 0} (P : X → Type 0) → ((x : X) → P x) → (xs : List X) → AllByRecursion P xs
each P f [] = tt
each P f (x ∷ xs) = (f x, each P f xs)

pub each_map : {X : Type 0} (P Q : X → Type 0) → ((x : X) → P x → Q x) → (xs : List X) → AllByRecursion P xs → AllByRecursion Q xs
each_map P Q f [] a = tt
each_map P Q f (x ∷ xs) a = (f x a.0, each_map P Q f xs a.1)

pub each_both : {X : Type 0} (P Q : X → Type 0) (xs : List X) → AllByRecursion P xs → AllByRecursion Q xs → AllByRecursion (λ x. P x × Q x) xs
each_both P Q [] a b = tt
each_both P Q (x ∷ xs) a b = ((a.0, b.0), each_both P Q xs a.1 b.1)

pub each_from_all : {X : Type 0} (p : X → Bool) (xs : List X) → list_all p xs ≡ true → AllByRecursion (λ x. p x ≡ true) xs
each_from_all p [] e = tt
each_from_all p (x ∷ xs) e = let parts = and_parts (p x) (list_all p xs) e in (parts.0, each_from_all p xs parts.1)

pub all_from_each : {X : Type 0} (p : X → Bool) (xs : List X) → AllByRecursion (λ x. p x ≡ true) xs → list_all p xs ≡ true
all_from_each p [] a = refl
all_from_each p (x ∷ xs) a = and_from (p x) (list_all p xs) a.0 (all_from_each p xs a.1)

-- the elements that a filter keeps pass its test
pub each_filter : {X : Type 0} (P : X → Type 0) (test : X → Bool) (xs : List X) → AllByRecursion P xs → AllByRecursion (λ x. P x × (test x ≡ true)) (filter test xs)
each_filter P test [] a = tt
each_filter P test (x ∷ xs) a =
    elim (test x) as (λ b. test x ≡ b → AllByRecursion (λ y. P y × (test y ≡ true)) (cond b (x ∷ filter test xs) (filter test xs))) [
      | true ↦ λ e. ((a.0, e), each_filter P test xs a.1)
      | false ↦ λ e. each_filter P test xs a.1
    ] refl

-- a test of some element
pub any_same : {X : Type 0} (p q : X → Bool) (xs : List X) → AllByRecursion (λ x. p x ≡ q x) xs → list_any p xs ≡ list_any q xs
any_same p q [] a = refl
any_same p q (x ∷ xs) a = rw (a.0, any_same p q xs a.1) refl

pub any_gives : {X : Type 0} (p : X → Bool) (xs : List X) {G : Type 0} → AllByRecursion (λ x. p x ≡ true → G) xs → list_any p xs ≡ true → G
any_gives p [] {G} a e = absurd (false≢true e)
any_gives p (x ∷ xs) {G} a e = elim (or_cases (p x) (list_any p xs) e) [ inl here ↦ a.0 here | inr there ↦ any_gives p xs a.1 there ]

-- each element that passes makes the test of some element true
pub any_from_each : {X : Type 0} (p : X → Bool) (xs : List X) → AllByRecursion (λ x. p x ≡ true → list_any p xs ≡ true) xs
any_from_each p [] = tt
any_from_each p (x ∷ xs) = (
  λ e. or_left (p x) (list_any p xs) e,
  each_map (λ y. p y ≡ true → list_any p xs ≡ true) (λ y. p y ≡ true → list_any p (x ∷ xs) ≡ true) (λ y f e. or_right (p x) (list_any p xs) (f e)) xs (any_from_each p xs),
)

pub any_map : {X : Type 0} (p q : X → Bool) (xs : List X) → AllByRecursion (λ x. p x ≡ true → q x ≡ true) xs → list_any p xs ≡ true → list_any q xs ≡ true
any_map p q [] a e = e
any_map p q (x ∷ xs) a e =
    elim (or_cases (p x) (list_any p xs) e) [
      | inl here ↦ or_left (q x) (list_any q xs) (a.0 here)
      | inr there ↦ or_right (q x) (list_any q xs) (any_map p q xs a.1 there)
    ]

-- sums
pub sum_same : {X : Type 0} (f g : X → ℕ) (xs : List X) → AllByRecursion (λ x. f x ≡ g x) xs → sum_by f xs ≡ sum_by g xs
sum_same f g [] a = refl
sum_same f g (x ∷ xs) a = let ih = sum_same f g xs a.1 in omega (arith, sum_by-cons f x xs, sum_by-cons g x xs, a.0, ih)

pub sum_le : {X : Type 0} (f g : X → ℕ) (xs : List X) → AllByRecursion (λ x. f x ≤ g x) xs → sum_by f xs ≤ sum_by g xs
sum_le f g [] a = omega arith
sum_le f g (x ∷ xs) a = let ih = sum_le f g xs a.1 in omega (arith, sum_by-cons f x xs, sum_by-cons g x xs, a.0, ih)

pub sum_zero : {X : Type 0} (f : X → ℕ) (xs : List X) → AllByRecursion (λ x. f x ≡ 0) xs → sum_by f xs ≡ 0
sum_zero f [] a = refl
sum_zero f (x ∷ xs) a = let ih = sum_zero f xs a.1 in omega (arith, sum_by-cons f x xs, a.0, ih)

-- counts
pub count_by-cons : {X : Type 0} (p : X → Bool) (x : X) (xs : List X) → count_by p (x ∷ xs) ≡ cond (p x) 1 0 + count_by p xs
count_by-cons p x xs = sum_by-cons (λ y. cond (p y) 1 0) x xs

implied_one : (a b : Bool) → (a ≡ true → b ≡ true) → cond a 1 0 ≤ cond b 1 0
implied_one true b f = rw (f refl) (omega arith)
implied_one false true f = omega arith
implied_one false false f = omega arith

pub count_le : {X : Type 0} (p q : X → Bool) (xs : List X) → AllByRecursion (λ x. p x ≡ true → q x ≡ true) xs → count_by p xs ≤ count_by q xs
count_le p q [] a = omega arith
count_le p q (x ∷ xs) a =
    let ih = count_le p q xs a.1 in
    omega (arith, count_by-cons p x xs, count_by-cons q x xs, implied_one (p x) (q x) a.0, ih)

less_one : (a b : Bool) → b ≡ true → a ≡ false → cond a 1 0 < cond b 1 0
less_one a b e f = rw (e, f) (omega arith)

-- a wider test counts more, where it finds one more
pub count_less : {X : Type 0} (p q : X → Bool) (xs : List X) → AllByRecursion (λ x. p x ≡ true → q x ≡ true) xs → list_any (λ x. q x && not (p x)) xs ≡ true → count_by p xs < count_by q xs
count_less p q [] a e = absurd (false≢true e)
count_less p q (x ∷ xs) a e =
    elim (or_cases (q x && not (p x)) (list_any (λ y. q y && not (p y)) xs) e) [
      | inl here ↦
          let parts = and_parts (q x) (not (p x)) here in
          let one = less_one (p x) (q x) parts.0 (Rattle.std.proofs.lemmas.Bool.not-true (p x) parts.1) in
          let rest = count_le p q xs a.1 in
          omega (arith, count_by-cons p x xs, count_by-cons q x xs, one, rest)
      | inr there ↦
          let rest = count_less p q xs a.1 there in
          omega (arith, count_by-cons p x xs, count_by-cons q x xs, implied_one (p x) (q x) a.0, rest)
    ]

agree_or : (a b : Bool) → (a ≡ true → b ≡ true) → ((b && not a) ≡ true) ⊎ (a ≡ b)
agree_or true b f = inr (sym (f refl))
agree_or false true f = inl refl
agree_or false false f = inr refl

-- of two tests, one wider, either both say the same of each element or the wider finds one more
pub same_or_more : {X : Type 0} (p q : X → Bool) (xs : List X) → AllByRecursion (λ x. p x ≡ true → q x ≡ true) xs → AllByRecursion (λ x. p x ≡ q x) xs ⊎ (list_any (λ x. q x && not (p x)) xs ≡ true)
same_or_more p q [] a = inl tt
same_or_more p q (x ∷ xs) a =
    elim (agree_or (p x) (q x) a.0) [
      | inl more ↦ inr (or_left (q x && not (p x)) (list_any (λ y. q y && not (p y)) xs) more)
      | inr same ↦
          elim (same_or_more p q xs a.1) [
            | inl rest ↦ inl (same, rest)
            | inr later ↦ inr (or_right (q x && not (p x)) (list_any (λ y. q y && not (p y)) xs) later)
          ]
    ]

-- no element passes a test that each fails
pub none_kept : {X : Type 0} (test : X → Bool) (xs : List X) → AllByRecursion (λ x. test x ≡ false) xs → filter test xs ≡ []
none_kept test [] a = refl
none_kept test (x ∷ xs) a = rw a.0 (none_kept test xs a.1)

filter_keeps : {X : Type 0} (test p : X → Bool) (x : X) (xs : List X) → list_any p (filter test xs) ≡ true → list_any p (filter test (x ∷ xs)) ≡ true
filter_keeps test p x xs e =
    elim (test x) as (λ b. list_any p (cond b (x ∷ filter test xs) (filter test xs)) ≡ true) [ true ↦ or_right (p x) (list_any p (filter test xs)) e | false ↦ e ]

-- each element that passes both tests makes the second true of some element that the first keeps
pub any_of_filter : {X : Type 0} (xs : List X) → AllByRecursion (λ x. (test p : X → Bool) → test x ≡ true → p x ≡ true → list_any p (filter test xs) ≡ true) xs
any_of_filter [] = tt
any_of_filter {X} (x ∷ xs) = (
  λ test p kept good. rw kept (or_left (p x) (list_any p (filter test xs)) good),
  each_map
      (λ y. (test p : X → Bool) → test y ≡ true → p y ≡ true → list_any p (filter test xs) ≡ true)
      (λ y. (test p : X → Bool) → test y ≡ true → p y ≡ true → list_any p (filter test (x ∷ xs)) ≡ true)
      (λ y f test p kept good. filter_keeps test p x xs (f test p kept good))
      xs (any_of_filter xs),
)

-- what holds of each element holds of the first that passes
pub find_each : {X : Type 0} (P : X → Type 0) (test : X → Bool) (xs : List X) → AllByRecursion P xs → MatchOption (find test xs) (list_any test xs ≡ false) (λ x. P x × (test x ≡ true) × (list_any test xs ≡ true))
find_each P test [] a = refl
find_each P test (x ∷ xs) a =
    elim (test x) as (λ b. test x ≡ b → MatchOption (cond b (Some x) (find test xs)) ((b || list_any test xs) ≡ false) (λ y. P y × (test y ≡ true) × ((b || list_any test xs) ≡ true))) [
      | true ↦ λ e. (a.0, e, refl)
      | false ↦ λ e. find_each P test xs a.1
    ] refl

-- a test of some element that a filter keeps
pub any-filter : {X : Type 0} (test p : X → Bool) (xs : List X) → list_any p (filter test xs) ≡ list_any (λ x. test x && p x) xs
any-filter test p [] = refl
any-filter test p (x ∷ xs) =
    elim (test x) as (λ b. list_any p (cond b (x ∷ filter test xs) (filter test xs)) ≡ ((b && p x) || list_any (λ y. test y && p y) xs)) [
      | true ↦ ap (λ b. p x || b) (any-filter test p xs)
      | false ↦ any-filter test p xs
    ]

-- the elements of a map, of a flat map, and those before which a search finds none
pub each_of_map : {X Y : Type 0} (P : Y → Type 0) (f : X → Y) (xs : List X) → AllByRecursion (λ x. P (f x)) xs → AllByRecursion P (map f xs)
each_of_map P f [] a = tt
each_of_map P f (x ∷ xs) a = (a.0, each_of_map P f xs a.1)

pub each_in_map : {X Y : Type 0} (P : Y → Type 0) (f : X → Y) (xs : List X) → AllByRecursion P (map f xs) → AllByRecursion (λ x. P (f x)) xs
each_in_map P f [] a = tt
each_in_map P f (x ∷ xs) a = (a.0, each_in_map P f xs a.1)

pub each_split : {X : Type 0} (P : X → Type 0) (xs ys : List X) → AllByRecursion P (xs ++ ys) → AllByRecursion P xs × AllByRecursion P ys
each_split P [] ys a = (tt, a)
each_split P (x ∷ xs) ys a = let rest = each_split P xs ys a.1 in ((a.0, rest.0), rest.1)

pub each_in_flat_map : {X Y : Type 0} (P : Y → Type 0) (f : X → List Y) (xs : List X) → AllByRecursion P (flat_map f xs) → AllByRecursion (λ x. AllByRecursion P (f x)) xs
each_in_flat_map P f [] a = tt
each_in_flat_map P f (x ∷ xs) a = let parts = each_split P (f x) (flat_map f xs) a in (parts.0, each_in_flat_map P f xs parts.1)

none_found : {X : Type 0} (x : X) {G : Type 0} → Some x ≡ None → G
none_found x e = cc

pub find-none : {X : Type 0} (test : X → Bool) (xs : List X) → find test xs ≡ None → AllByRecursion (λ x. test x ≡ false) xs
find-none test [] e = tt
find-none test (x ∷ xs) e =
    elim (test x) as (λ b. test x ≡ b → cond b (Some x) (find test xs) ≡ None → (test x ≡ false) × AllByRecursion (λ y. test y ≡ false) xs) [
      | true ↦ λ here h. none_found x h
      | false ↦ λ here h. (here, find-none test xs h)
    ] refl e

pub any-map : {X Y : Type 0} (p : Y → Bool) (f : X → Y) (xs : List X) → list_any p (map f xs) ≡ list_any (λ x. p (f x)) xs
any-map p f [] = refl
any-map p f (x ∷ xs) = ap (λ b. p (f x) || b) (any-map p f xs)

-- no element passes
pub none_from_any : {X : Type 0} (p : X → Bool) (xs : List X) → list_any p xs ≡ false → AllByRecursion (λ x. p x ≡ false) xs
none_from_any p [] e = tt
none_from_any p (x ∷ xs) e = let parts = or_parts (p x) (list_any p xs) e in (parts.0, none_from_any p xs parts.1)

pub any_none : {X : Type 0} (p : X → Bool) (xs : List X) → AllByRecursion (λ x. p x ≡ false) xs → list_any p xs ≡ false
any_none p [] a = refl
any_none p (x ∷ xs) a = rw (a.0, any_none p xs a.1) refl

-- each element that passes makes the test of some element true, whatever the test
pub any_of_all : {X : Type 0} (xs : List X) → AllByRecursion (λ x. (p : X → Bool) → p x ≡ true → list_any p xs ≡ true) xs
any_of_all [] = tt
any_of_all {X} (x ∷ xs) = (
  λ p e. or_left (p x) (list_any p xs) e,
  each_map (λ y. (p : X → Bool) → p y ≡ true → list_any p xs ≡ true) (λ y. (p : X → Bool) → p y ≡ true → list_any p (x ∷ xs) ≡ true) (λ y f p e. or_right (p x) (list_any p xs) (f p e)) xs (any_of_all xs),
)
