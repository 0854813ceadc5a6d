-- Lists that are made of others, element by element.
use Rattle.std.proofs.Common.{◌≡◌, ◌∙◌, ap, refl, sym, ℕ, ◌||◌, Bool, true, false, cond, List, [], ◌∷◌, ◌++◌, count_by, filter, map, arith}
use Rattle.std.specs.Prelude.{if◌then◌else◌}
use Rattle.std.specs.List.{AllByRecursion, flat_map, list_any}
use Rattle.std.proofs.lemmas.List.Concat.{flat_map-append}
use Rattle.desk_model.proofs.Elements.{count_by-cons}

pub of_flat_map : {X Y Z : Type 0} (f : Y → List Z) (g : X → List Y) (xs : List X) → flat_map f (flat_map g xs) ≡ flat_map (λ x. flat_map f (g x)) xs
of_flat_map f g [] = refl
of_flat_map f g (x ∷ xs) = flat_map-append f (g x) (flat_map g xs) ∙ ap (λ list. flat_map f (g x) ++ list) (of_flat_map f g xs)

pub of_map : {X Y Z : Type 0} (f : Y → List Z) (g : X → Y) (xs : List X) → flat_map f (map g xs) ≡ flat_map (λ x. f (g x)) xs
of_map f g [] = refl
of_map f g (x ∷ xs) = ap (λ list. f (g x) ++ list) (of_map f g xs)

-- those elements that pass a test, one by one
pub kept_each : {X : Type 0} (test : X → Bool) (xs : List X) → filter test xs ≡ flat_map (λ x. if test x then x ∷ [] else []) xs
kept_each test [] = refl
kept_each test (x ∷ xs) = by (test x) (kept_each test xs)
  where
    by : (b : Bool) → filter test xs ≡ flat_map (λ y. if test y then y ∷ [] else []) xs
        → cond b (x ∷ filter test xs) (filter test xs) ≡ (if b then x ∷ [] else []) ++ flat_map (λ y. if test y then y ∷ [] else []) xs
    by true rest = ap (λ t. x ∷ t) rest
    by false rest = rest

-- two functions that give the same of each element
pub each_the_same : {X Y : Type 0} (f g : X → List Y) (xs : List X) → AllByRecursion (λ x. f x ≡ g x) xs → flat_map f xs ≡ flat_map g xs
each_the_same f g [] a = refl
each_the_same f g (x ∷ xs) a = rw (a.0, each_the_same f g xs a.1) refl

pub each_nothing : {X Y : Type 0} (f : X → List Y) (xs : List X) → AllByRecursion (λ x. f x ≡ []) xs → flat_map f xs ≡ []
each_nothing f [] a = refl
each_nothing f (x ∷ xs) a = rw (a.0, each_nothing f xs a.1) refl

pub no_any : {X : Type 0} (p : X → Bool) (xs : List X) → AllByRecursion (λ x. p x ≡ false) xs → list_any p xs ≡ false
no_any p [] a = refl
no_any p (x ∷ xs) a = rw a.0 (no_any p xs a.1)

-- an element that fails isn't counted
count_none : {X : Type 0} (p : X → Bool) (x : X) (xs : List X) → p x ≡ false → count_by p (x ∷ xs) ≡ count_by p xs
count_none p x xs e =
    let none : ◌≡◌ {A = ℕ} (cond (p x) 1 0) 0 = rw e refl in
    omega (arith, count_by-cons p x xs, none)

pub no_count : {X : Type 0} (p : X → Bool) (xs : List X) → AllByRecursion (λ x. p x ≡ false) xs → count_by p xs ≡ 0
no_count p [] a = refl
no_count p (x ∷ xs) a = count_none p x xs a.0 ∙ no_count p xs a.1

-- a test that only those pass that a filter keeps
module _ {X : Type 0} (test p : X → Bool) (only : (x : X) → test x ≡ false → p x ≡ false) where
  pub any-kept : (xs : List X) → list_any p (filter test xs) ≡ list_any p xs
  any-kept [] = refl
  any-kept (x ∷ xs) =
      elim (test x) as (λ b. test x ≡ b → list_any p (cond b (x ∷ filter test xs) (filter test xs)) ≡ list_any p (x ∷ xs)) [
        | true ↦ λ e. ap (λ b. p x || b) (any-kept xs)
        | false ↦ λ e. rw (only x e) (any-kept xs)
      ] refl

  pub count-kept : (xs : List X) → count_by p (filter test xs) ≡ count_by p xs
  count-kept [] = refl
  count-kept (x ∷ xs) =
      elim (test x) as (λ b. test x ≡ b → count_by p (cond b (x ∷ filter test xs) (filter test xs)) ≡ count_by p (x ∷ xs)) [
        | true ↦ λ e. omega (arith, count_by-cons p x xs, count_by-cons p x (filter test xs), count-kept xs)
        | false ↦ λ e. count-kept xs ∙ sym (count_none p x xs (only x e))
      ] refl
