-- The first that passes a test, in a list of two pieces.
use Rattle.std.proofs.Common.{◌≡◌, Bool, true, false, List, [], ◌∷◌, ◌++◌, Some, None, find, refl, ℕ, suc, ◌<◌, length, get_or, drop, ap, sym, ◌∙◌, ◌+◌, arith}
use Rattle.std.specs.List.{flat_map}
use Rattle.std.proofs.Math.Seq.{drop-cons}

none_is_none : {X : Type 0} {P : Type 0} {x : X} → None ≡ Some x → P
none_is_none e = cc

some_is_some : {X : Type 0} {P : Type 0} {x : X} → Some x ≡ None → P
some_is_some e = cc

first_step : {X : Type 0} (test : X → Bool) (y : X) (xs ys : List X) (x : X) (b : Bool) → test y ≡ b → find test (y ∷ xs) ≡ Some x → (find test xs ≡ Some x → find test (xs ++ ys) ≡ Some x) → find test (y ∷ (xs ++ ys)) ≡ Some x
first_step test y xs ys x true t e ih = rw t (rw t at e)
first_step test y xs ys x false t e ih = rw t (ih (rw t at e))

-- it is that of the first piece, if that has one
pub find_in_first : {X : Type 0} (test : X → Bool) (xs ys : List X) (x : X) → find test xs ≡ Some x → find test (xs ++ ys) ≡ Some x
find_in_first test [] ys x e = none_is_none e
find_in_first test (y ∷ xs) ys x e = first_step test y xs ys x (test y) refl e (find_in_first test xs ys x)

second_step : {X : Type 0} (test : X → Bool) (y : X) (xs ys : List X) (b : Bool) → test y ≡ b → find test (y ∷ xs) ≡ None → (find test xs ≡ None → find test (xs ++ ys) ≡ find test ys) → find test (y ∷ (xs ++ ys)) ≡ find test ys
second_step test y xs ys true t e ih = some_is_some (rw t at e)
second_step test y xs ys false t e ih = rw t (ih (rw t at e))

-- and else that of the second
pub find_in_second : {X : Type 0} (test : X → Bool) (xs ys : List X) → find test xs ≡ None → find test (xs ++ ys) ≡ find test ys
find_in_second test [] ys e = refl
find_in_second test (y ∷ xs) ys e = second_step test y xs ys (test y) refl e (find_in_second test xs ys)

pieces : {X Y : Type 0} (h : X → List Y) (xs : List X) (i : ℕ) (x : X) → i < length xs → x ≡ get_or xs i x → flat_map h (drop i xs) ≡ h x ++ flat_map h (drop (suc i) xs)
pieces h xs i x l e = ap (flat_map h) (drop-cons xs i x l ∙ ap (λ y. y ∷ drop (suc i) xs) (sym e))

-- in a list of pieces from a place on: that of the piece at the place, if it has one, and else that of the pieces behind it
pub found_here : {X Y : Type 0} (test : Y → Bool) (h : X → List Y) (xs : List X) (i : ℕ) (x : X) (y : Y) → i < length xs → x ≡ get_or xs i x → find test (h x) ≡ Some y → find test (flat_map h (drop i xs)) ≡ Some y
found_here test h xs i x y l e found = ap (find test) (pieces h xs i x l e) ∙ find_in_first test (h x) (flat_map h (drop (suc i) xs)) y found

pub passed_here : {X Y : Type 0} (test : Y → Bool) (h : X → List Y) (xs : List X) (i : ℕ) (x : X) → i < length xs → x ≡ get_or xs i x → find test (h x) ≡ None → find test (flat_map h (drop i xs)) ≡ find test (flat_map h (drop (i + 1) xs))
passed_here test h xs i x l e none =
    let next : suc i ≡ i + 1 = omega arith in
    ap (find test) (pieces h xs i x l e) ∙ find_in_second test (h x) (flat_map h (drop (suc i) xs)) none ∙ ap (λ j. find test (flat_map h (drop j xs))) next
