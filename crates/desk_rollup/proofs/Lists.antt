-- Facts on numbers and on the lines of one node.
use Rattle.std.proofs.Common.{◌≡◌, ℕ, ◌+◌, ◌<◌, Bool, true, false, cond, ◌||◌, ◌==◌, List, [], ◌∷◌, ◌++◌, length, slice_index_or, take, map, find, sum_by, Option, Some, None, is_some, option_map, refl, sym, ap, ◌∙◌, subst, inl, inr, arith}
use Rattle.std.specs.List.{AllByRecursion, flat_map, list_any}
use Rattle.std.proofs.lemmas.Bool.{cases_Bool, eq-eqb, eqb-true, or_left, or_parts, or_right}
use Rattle.std.proofs.lemmas.List.{take_more}
use Rattle.std.proofs.lemmas.List.Folds.{list_any-append}
use Rattle.std.proofs.lemmas.List.Sums.{sum_by-cons}
use Rattle.desk_graph.specs.declared.line.BillLine.{BillLine}
use Rattle.desk_graph.specs.Graph.{has_line}
use Rattle.desk_rollup.specs.declared.load.Load.{Load}
use Rattle.desk_rollup.specs.Numbers.{has, once, load_numbers}
use Rattle.desk_rollup.specs.Values.{amount_of}

-- what holds of the children of lines
pub each_line : (P : ℕ → Type 0) (of_node : List BillLine) → ((child : ℕ) → has_line of_node child ≡ true → P child) → AllByRecursion (λ line. P line.node) of_node
each_line P [] h = tt
each_line P (line ∷ of_node) h = (
  h line.node (or_left (line.node == line.node) (has_line of_node line.node) (eq-eqb line.node line.node refl)),
  each_line P of_node (λ child e. h child (or_right (line.node == child) (has_line of_node child) e)),
)

pub no_lines : (of_node : List BillLine) → ((child : ℕ) → has_line of_node child ≡ true → ⊥) → of_node ≡ []
no_lines [] h = refl
no_lines (line ∷ of_node) h = absurd (h line.node (or_left (line.node == line.node) (has_line of_node line.node) (eq-eqb line.node line.node refl)))

pub each_as : {X : Type 0} (P Q : X → Type 0) → ((x : X) → P x → Q x) → (xs : List X) → AllByRecursion P xs → AllByRecursion Q xs
each_as P Q f [] a = tt
each_as P Q f (x ∷ xs) a = (f x a.0, each_as P Q f xs a.1)

each_push : {X : Type 0} (P : X → Type 0) (xs : List X) (x : X) → AllByRecursion P xs → P x → AllByRecursion P (xs ++ x ∷ [])
each_push P [] x a p = (p, tt)
each_push P (y ∷ xs) x a p = (a.0, each_push P xs x a.1 p)

-- what holds of so many and of the next holds of one more
pub each_more : {X : Type 0} (P : X → Type 0) (xs : List X) (at : ℕ) (none : X) → at < length xs → AllByRecursion P (take at xs) → P (slice_index_or xs at none) → AllByRecursion P (take (at + 1) xs)
each_more P xs at none low a p = subst (AllByRecursion P) (sym (take_more xs at none low)) (each_push P (take at xs) (slice_index_or xs at none) a p)

pub sum_same : {X : Type 0} (f g : X → ℕ) (xs : List X) → AllByRecursion (λ x. f x ≡ g x) xs → sum_by f xs ≡ sum_by g xs
sum_same f g [] a = refl
sum_same f g (x ∷ xs) a = omega (arith, sum_by-cons f x xs, sum_by-cons g x xs, a.0, sum_same f g xs a.1)

pub sum_none : {X : Type 0} (f : X → ℕ) (xs : List X) → AllByRecursion (λ x. f x ≡ 0) xs → sum_by f xs ≡ 0
sum_none f [] a = refl
sum_none f (x ∷ xs) a = omega (arith, sum_by-cons f x xs, a.0, sum_none f xs a.1)

pub any_same : {X : Type 0} (p q : X → Bool) (xs : List X) → AllByRecursion (λ x. p x ≡ q x) xs → list_any p xs ≡ list_any q xs
any_same p q [] a = refl
any_same p q (x ∷ xs) a = rw (a.0, any_same p q xs a.1) refl

pub find_same : {X : Type 0} (p q : X → Bool) (xs : List X) → AllByRecursion (λ x. p x ≡ q x) xs → find p xs ≡ find q xs
find_same p q [] a = refl
find_same p q (x ∷ xs) a = rw (a.0, find_same p q xs a.1) refl

pub flat_same : {X Y : Type 0} (f g : X → List Y) (xs : List X) → AllByRecursion (λ x. f x ≡ g x) xs → flat_map f xs ≡ flat_map g xs
flat_same f g [] a = refl
flat_same f g (x ∷ xs) a = rw (a.0, flat_same f g xs a.1) refl

pub none_any : {X : Type 0} (p : X → Bool) (xs : List X) → list_any p xs ≡ false → AllByRecursion (λ x. p x ≡ false) xs
none_any p [] e = tt
none_any p (x ∷ xs) e = let parts = or_parts (p x) (list_any p xs) e in (parts.0, none_any p xs parts.1)

-- something is found where something passes
pub is_found : {X : Type 0} (p : X → Bool) (xs : List X) → is_some (find p xs) ≡ list_any p xs
is_found p [] = refl
is_found p (x ∷ xs) = elim (p x) as (λ b. is_some (cond b (Some x) (find p xs)) ≡ (b || list_any p xs)) [ true ↦ refl | false ↦ is_found p xs ]

pub some_map : {X Y : Type 0} (f : X → Y) (o : Option X) → is_some (option_map f o) ≡ is_some o
some_map f None = refl
some_map f (Some x) = refl

-- a number is had where something of it is found
pub has_found : {X : Type 0} (number : X → ℕ) (xs : List X) (n : ℕ) → has (map number xs) n ≡ is_some (find (λ x. number x == n) xs)
has_found number [] n = refl
has_found number (x ∷ xs) n =
    elim (number x == n) as (λ b. (b || has (map number xs) n) ≡ is_some (cond b (Some x) (find (λ y. number y == n) xs))) [ true ↦ refl | false ↦ has_found number xs n ]

pub has_flat : {X : Type 0} (f : X → List ℕ) (xs : List X) (n : ℕ) → has (flat_map f xs) n ≡ list_any (λ x. has (f x) n) xs
has_flat f [] n = refl
has_flat f (x ∷ xs) n = list_any-append (λ other. other == n) (f x) (flat_map f xs) ∙ ap (λ b. has (f x) n || b) (has_flat f xs n)

-- once or more often, the same numbers are there
pub has_once : (ns : List ℕ) (n : ℕ) → has (once ns) n ≡ has ns n
has_once [] n = refl
has_once (first ∷ ns) n =
    elim (cases_Bool (has ns first)) [
      | inl again ↦
          rw again
          (has_once ns n
          ∙ elim (cases_Bool (first == n)) [
            | inl here ↦ let there : has ns n ≡ true = subst (λ m. has ns m ≡ true) (eqb-true first n here) again in rw (here, there) refl
            | inr away ↦ rw away refl
          ])
      | inr new ↦ rw new (ap (λ b. (first == n) || b) (has_once ns n))
    ]

-- a substance that isn't there has no amount
pub amount_none : (loads : List Load) (what : ℕ) → has (load_numbers loads) what ≡ false → amount_of loads what ≡ 0
amount_none [] what e = refl
amount_none (load ∷ loads) what e =
    let parts = or_parts (load.what == what) (has (load_numbers loads) what) e in
    sum_by-cons (λ l. cond (l.what == what) l.amount 0) load loads ∙ rw parts.0 (omega (arith, amount_none loads what parts.1))
