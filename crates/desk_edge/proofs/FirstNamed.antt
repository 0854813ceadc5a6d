-- The first of a list that has a name, found by looking at one after the other.
use Rattle.std.proofs.Common.{◌≡◌, ℕ, zero, suc, ◌≤◌, ◌<◌, true, false, List, [], ◌∷◌, length, take, refl, ap, arith, get_or, is_eq, None}
use Rattle.std.specs.List.{AllByRecursion}
use Rattle.desk_edge.specs.Shelves.{StandsFirst, name_cmp}
use Rattle.desk_rows.specs.Rows.{row_of}

module _ {X : Type 0} (name_of : X → List ℕ) (name : List ℕ) where
  -- none of them has the name
  abbrev pub HaveNot : List X → Type 0
  HaveNot = AllByRecursion (λ x. is_eq (name_cmp (name_of x) name) ≡ false)

  pub none_has : (xs : List X) (i : ℕ) → length xs ≤ i → HaveNot (take i xs) → row_of name_of name_cmp name xs ≡ None
  none_has [] i b h = refl
  none_has (x ∷ xs) zero b h = absurd (omega (arith, b))
  none_has (x ∷ xs) (suc i) b h = rw h.0 (none_has xs i (omega (arith, b)) h.1)

  pub first_has : (xs : List X) (i : ℕ) (d : X) → i < length xs → HaveNot (take i xs) → is_eq (name_cmp (name_of (get_or xs i d)) name) ≡ true → StandsFirst name_of name xs i
  first_has [] i d l h e = absurd (omega (arith, l))
  first_has (x ∷ xs) zero d l h e = record { within = l; found = λ other. rw e refl; is_there = rw e refl; taken = rw e refl }
  first_has (x ∷ xs) (suc i) d l h e =
      let rest = first_has xs i d (omega (arith, l)) h.1 e in
      record { within = l; found = λ other. rw h.0 (rest.found other); is_there = rw h.0 rest.is_there; taken = rw h.0 (ap (λ t. x ∷ t) rest.taken) }
