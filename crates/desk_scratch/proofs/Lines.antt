-- Lines that are appended one after another.
use Rattle.std.proofs.Common.{◌≡◌, ◌∙◌, sym, ap, refl, ℕ, zero, suc, ◌+◌, ◌<◌, List, [], ◌∷◌, ◌++◌, length, get_or, take, append_assoc, add-one, Bool, true, false, cond, filter, map, Result, Ok, Err, arith}
use Rattle.std.proofs.lemmas.List.{append-nil}
use Rattle.std.specs.Prelude.{◌||◌, OnOk, is_ok, if◌then◌else◌}
use Rattle.std.specs.List.{flat_map, list_any}

-- what one element more gives
flat_map-more : {X Y : Type 0} (f : X → List Y) (xs : List X) (i : ℕ) (d : X) → i < length xs
    → flat_map f (take (suc i) xs) ≡ flat_map f (take i xs) ++ f (get_or xs i d)
flat_map-more f [] i d h = absurd (omega arith)
flat_map-more f (x ∷ xs) zero d h = append-nil (f x)
flat_map-more {X} {Y} f (x ∷ xs) (suc i) d h =
    ap (λ (t : List Y). f x ++ t) (flat_map-more f xs i d (omega arith)) ∙ sym (append_assoc (f x) (flat_map f (take i xs)) (f (get_or xs i d)))

-- a loop that appends what each element gives has appended that of one element more
pub line-added : {X Y : Type 0} (f : X → List Y) (xs : List X) (i : ℕ) (d : X) (old mid new : List Y) → i < length xs
    → mid ≡ old ++ flat_map f (take i xs) → new ≡ mid ++ f (get_or xs i d) → new ≡ old ++ flat_map f (take (i + 1) xs)
line-added {X} {Y} f xs i d old mid new h before step =
    step ∙ ap (λ (t : List Y). t ++ f (get_or xs i d)) before ∙ append_assoc old (flat_map f (take i xs)) (f (get_or xs i d))
    ∙ ap (λ (t : List Y). old ++ t) (sym (flat_map-more f xs i d h)) ∙ rw add-one refl

-- and so it has where the element is the one at the place
pub text-added : {X : Type 0} (f : X → List ℕ) (xs : List X) (i : ℕ) (x : X) (old mid new : List ℕ) → i < length xs → x ≡ get_or xs i x
    → mid ≡ old ++ flat_map f (take i xs) → new ≡ mid ++ f x → new ≡ old ++ flat_map f (take (i + 1) xs)
text-added f xs i x old mid new h is before step = line-added f xs i x old mid new h before (step ∙ ap (λ y. mid ++ f y) is)

-- whether some element passes a test, with one element more
pub any-more : {X : Type 0} (test : X → Bool) (xs : List X) (i : ℕ) (d : X) (before here : Bool) → i < length xs
    → before ≡ list_any test (take i xs) → here ≡ test (get_or xs i d) → (before || here) ≡ list_any test (take (i + 1) xs)
any-more test xs i d before here h was is = rw (add-one, was, is) (by test xs i d h)
  where
    or_none : (b : Bool) → (false || b) ≡ (b || false)
    or_none true = refl
    or_none false = refl

    or_assoc : (a b c : Bool) → ((a || b) || c) ≡ (a || (b || c))
    or_assoc true b c = refl
    or_assoc false b c = refl

    by : {X : Type 0} (p : X → Bool) (ys : List X) (j : ℕ) (e : X) → j < length ys → (list_any p (take j ys) || p (get_or ys j e)) ≡ list_any p (take (suc j) ys)
    by p [] j e h = absurd (omega arith)
    by p (y ∷ ys) zero e h = or_none (p y)
    by p (y ∷ ys) (suc j) e h = or_assoc (p y) (list_any p (take j ys)) (p (get_or ys j e)) ∙ ap (λ b. p y || b) (by p ys j e (omega arith))

-- what those elements give that pass a test
pub flat_map-filter : {X Y : Type 0} (f : X → List Y) (test : X → Bool) (xs : List X) → flat_map f (filter test xs) ≡ flat_map (λ x. if test x then f x else []) xs
flat_map-filter f test [] = refl
flat_map-filter f test (x ∷ xs) = by (test x) (flat_map-filter f test xs)
  where
    by : (b : Bool) → flat_map f (filter test xs) ≡ flat_map (λ y. if test y then f y else []) xs
        → flat_map f (cond b (x ∷ filter test xs) (filter test xs)) ≡ (if b then f x else []) ++ flat_map (λ y. if test y then f y else []) xs
    by true rest = ap (λ t. f x ++ t) rest
    by false rest = rest

-- those elements that pass a test, one by one
pub map-filter : {X Y : Type 0} (f : X → Y) (test : X → Bool) (xs : List X) → map f (filter test xs) ≡ flat_map (λ x. if test x then f x ∷ [] else []) xs
map-filter f test [] = refl
map-filter f test (x ∷ xs) = by (test x) (map-filter f test xs)
  where
    by : (b : Bool) → map f (filter test xs) ≡ flat_map (λ y. if test y then f y ∷ [] else []) xs
        → map f (cond b (x ∷ filter test xs) (filter test xs)) ≡ (if b then f x ∷ [] else []) ++ flat_map (λ y. if test y then f y ∷ [] else []) xs
    by true rest = ap (λ t. f x ∷ t) rest
    by false rest = rest

-- what a call says of both its answers, where it succeeds
pub on_ok_if : {T E : Type 0} (r : Result T E) (x a b : List ℕ) → x ≡ (if is_ok r then a else b) → OnOk r (x ≡ a)
on_ok_if (Ok v) x a b e = e
on_ok_if (Err f) x a b e = tt

-- a text that is appended behind others
pub appended : (old before more mid new : List ℕ) → mid ≡ old ++ before → new ≡ mid ++ more → new ≡ old ++ (before ++ more)
appended old before more mid new e f = f ∙ ap (λ (t : List ℕ). t ++ more) e ∙ append_assoc old before more

-- five texts behind one
pub five_behind : (old a b c d e f : List ℕ) → (old ++ a) ++ (b ++ c ++ d ++ e ++ f) ≡ old ++ (a ++ b ++ c ++ d ++ e ++ f)
five_behind old a b c d e f = simp append_assoc
