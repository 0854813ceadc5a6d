-- A look-up in rows that are put in and taken out.
use Rattle.std.proofs.Common.{◌≡◌, ◌⊎◌, ◌||◌, ◌<◌, not, inl, inr, ℕ, suc, ℤ, arith, length, get_or, List, [], ◌∷◌, ◌++◌, flat_map, filter, find, Bool, true, false, cond, Option, None, Some, refl, sym, ap, subst, ◌∙◌, true≢false}
use Rattle.std.specs.declared.cmp.Ordering.{Ordering}
use Rattle.std.specs.declared.cmp.Ordering.TheVariants.{Less, Equal, Greater}
use Rattle.std.specs.Ordering.{is_eq, is_lt, match_ordering, ordering_reverse}
use Rattle.std.specs.List.Sorted.{IsPermutation, IsSorted}
use Rattle.std.specs.Cmp.{IsTotalOrder}
use native.Mathlib.Numerals.{unary_clauses}
use Rattle.std.proofs.lemmas.List.Sorted.{Contains-permutation, sorted_far, ranks_by}
use Rattle.sqlite_value.specs.Order.{Row, value_cmp}
use Rattle.sqlite_trees.specs.Tree.{rowid, has_rowid, put_row, without_rowid}
use Rattle.sqlite_rules.specs.Lists.{Has}
use Rattle.sqlite_rules.specs.Edit.{without_all, is_taken}
use Rattle.sqlite_rules.proofs.ListLemmas.{has_filtered, has_found, has_contained, contains_had, has_right}

pub neither : (a b : Bool) → (a || b) ≡ false → (a ≡ false) × (b ≡ false)
neither true b h = absurd (true≢false h)
neither false b h = (refl, h)

pub not_false : (b : Bool) → not b ≡ true → b ≡ false
not_false true h = absurd (true≢false (sym h))
not_false false h = refl

pub none_some : {X : Type 0} {a : X} → ◌≡◌ {A = Option X} None (Some a) → ⊥
none_some e = cc

module _ {X : Type 0} (p : X → Bool) where
  pub find_none : (xs : List X) → find p xs ≡ None → (x : X) → Has xs x → p x ≡ false
  find_none [] e x h = absurd h
  find_none (y ∷ ys) e x h = go (p y) refl e h (λ none there. find_none ys none x there)
    where
      go : (b : Bool) → p y ≡ b → cond b (Some y) (find p ys) ≡ None → Has (y ∷ ys) x → (find p ys ≡ None → Has ys x → p x ≡ false) → p x ≡ false
      go true is e h later = absurd (none_some (sym e))
      go false is e (inl same) later = ap p same ∙ is
      go false is e (inr there) later = later e there

  pub none_found : (xs : List X) → ((x : X) → Has xs x → p x ≡ false) → find p xs ≡ None
  none_found [] h = refl
  none_found (y ∷ ys) h = rw (h y (inl refl)) (none_found ys (λ x later. h x (inr later)))

  pub find_only : (xs : List X) (x : X) → Has xs x → p x ≡ true → ((y : X) → Has xs y → p y ≡ true → y ≡ x) → find p xs ≡ Some x
  find_only xs x there passes only = go (find p xs) refl
    where
      go : (o : Option X) → find p xs ≡ o → o ≡ Some x
      go None is = absurd (true≢false (sym passes ∙ find_none xs is x there))
      go (Some y) is = let f = has_found p xs y is in ap Some (only y f.0 f.1)

  pub find_filter : (q : X → Bool) (xs : List X) → ((x : X) → Has xs x → p x ≡ true → q x ≡ true) → find p (filter q xs) ≡ find p xs
  find_filter q [] h = refl
  find_filter q (x ∷ xs) h = go (p x) (q x) refl refl (find_filter q xs (λ y there. h y (inr there)))
    where
      go : (b c : Bool) → p x ≡ b → q x ≡ c → find p (filter q xs) ≡ find p xs → find p (cond c (x ∷ filter q xs) (filter q xs)) ≡ cond b (Some x) (find p xs)
      go true true ip iq later = rw ip refl
      go true false ip iq later = absurd (true≢false (sym (h x (inl refl) ip) ∙ iq))
      go false true ip iq later = rw ip later
      go false false ip iq later = later

module _ (p : Row → Bool) where
  pub find_without : (ids : List ℤ) (rows : List Row) → ((id : ℤ) → Has ids id → (r : Row) → Has rows r → p r ≡ true → has_rowid id r ≡ false) → find p (without_all rows ids) ≡ find p rows
  find_without [] rows h = refl
  find_without (id ∷ ids) rows h =
      find_without ids (without_rowid id rows) (λ i there r left. h i (inr there) r (has_filtered (λ x. not (has_rowid id x)) rows r left).0)
      ∙ find_filter p (λ x. not (has_rowid id x)) rows (λ r there passes. rw (h id (inl refl) r there passes) refl)

pub left_has : (ids : List ℤ) (rows : List Row) (x : Row) → Has (without_all rows ids) x → Has rows x × ((id : ℤ) → Has ids id → has_rowid id x ≡ false)
left_has [] rows x h = (h, λ id none. absurd none)
left_has (id ∷ ids) rows x h =
    let later = left_has ids (without_rowid id rows) x h in
    let kept = has_filtered (λ r. not (has_rowid id r)) rows x later.0 in
    (kept.0, λ other there. go other kept.1 later.1 there)
  where
    go : (other : ℤ) → not (has_rowid id x) ≡ true → ((i : ℤ) → Has ids i → has_rowid i x ≡ false) → Has (id ∷ ids) other → has_rowid other x ≡ false
    go other kept later (inl same) = rw same (not_false (has_rowid id x) kept)
    go other kept later (inr there) = later other there

module _ (p : Row → Bool) (new : Row) where
  pub find_put_other : (rows : List Row) → is_taken rows new ≡ false → p new ≡ false → find p (put_row new rows) ≡ find p rows
  find_put_other [] free miss = rw miss refl
  find_put_other (r ∷ rows) free miss =
      let both = neither (is_eq (value_cmp (rowid r) (rowid new))) (is_taken rows new) free in
      go (value_cmp (rowid r) (rowid new)) refl both.0 (find_put_other rows both.1 miss)
    where
      go : (o : Ordering) → value_cmp (rowid r) (rowid new) ≡ o → is_eq (value_cmp (rowid r) (rowid new)) ≡ false → find p (put_row new rows) ≡ find p rows
          → find p (match_ordering o (r ∷ put_row new rows) (new ∷ rows) (new ∷ r ∷ rows)) ≡ find p (r ∷ rows)
      go Less is apart later = ap (λ f. cond (p r) (Some r) f) later
      go Equal is apart later = absurd (true≢false (sym (ap is_eq is) ∙ apart))
      go Greater is apart later = rw miss refl

pub put_has : (new : Row) (rows : List Row) (x : Row) → Has (put_row new rows) x → (x ≡ new) ⊎ Has rows x
put_has new [] x (inl same) = inl same
put_has new [] x (inr none) = absurd none
put_has new (r ∷ rows) x h = go (value_cmp (rowid r) (rowid new)) h (λ later. put_has new rows x later)
  where
    more : (x ≡ new) ⊎ Has rows x → (x ≡ new) ⊎ Has (r ∷ rows) x
    more (inl is) = inl is
    more (inr there) = inr (inr there)

    go : (o : Ordering) → Has (match_ordering o (r ∷ put_row new rows) (new ∷ rows) (new ∷ r ∷ rows)) x → (Has (put_row new rows) x → (x ≡ new) ⊎ Has rows x) → (x ≡ new) ⊎ Has (r ∷ rows) x
    go Less (inl same) on = inr (inl same)
    go Less (inr later) on = more (on later)
    go Equal (inl same) on = inl same
    go Equal (inr later) on = inr (inr later)
    go Greater (inl same) on = inl same
    go Greater (inr later) on = inr later

pub has_put : (new : Row) (rows : List Row) → Has (put_row new rows) new
has_put new [] = inl refl
has_put new (r ∷ rows) = go (value_cmp (rowid r) (rowid new)) (has_put new rows)
  where
    go : (o : Ordering) → Has (put_row new rows) new → Has (match_ordering o (r ∷ put_row new rows) (new ∷ rows) (new ∷ r ∷ rows)) new
    go Less later = inr later
    go Equal later = inl refl
    go Greater later = inl refl

pub taken_not : (rows : List Row) (new x : Row) → is_taken rows new ≡ false → Has rows x → is_eq (value_cmp (rowid x) (rowid new)) ≡ false
taken_not [] new x free h = absurd h
taken_not (r ∷ rows) new x free (inl same) = rw same (neither _ _ free).0
taken_not (r ∷ rows) new x free (inr later) = taken_not rows new x (neither (is_eq (value_cmp (rowid r) (rowid new))) _ free).1 later

-- a row stays where another is put in under a number that none has
pub kept_put : (new : Row) (rows : List Row) (x : Row) → is_taken rows new ≡ false → Has rows x → Has (put_row new rows) x
kept_put new [] x free h = absurd h
kept_put new (r ∷ rows) x free h = go (value_cmp (rowid r) (rowid new)) refl h (λ later. kept_put new rows x (neither (is_eq (value_cmp (rowid r) (rowid new))) _ free).1 later)
  where
    go : (o : Ordering) → value_cmp (rowid r) (rowid new) ≡ o → Has (r ∷ rows) x → (Has rows x → Has (put_row new rows) x) → Has (match_ordering o (r ∷ put_row new rows) (new ∷ rows) (new ∷ r ∷ rows)) x
    go Less e (inl is) on = inl is
    go Less e (inr later) on = inr (on later)
    go Equal e h on = absurd (true≢false (sym (ap is_eq e) ∙ (neither (is_eq (value_cmp (rowid r) (rowid new))) _ free).0))
    go Greater e h on = inr h

-- ---- the matches of a test

pub has_matched : {X Y : Type 0} (p : X → Bool) (f : X → Y) (xs : List X) (y : Y) → Has (flat_map (λ x. cond (p x) (f x ∷ []) []) xs) y → (x : X) × Has xs x × (p x ≡ true) × (y ≡ f x)
has_matched p f [] y h = absurd h
has_matched {X} {Y} p f (x ∷ xs) y h = go (p x) refl h (λ there. has_matched p f xs y there)
  where
    go : (b : Bool) → p x ≡ b → Has (cond b (f x ∷ []) [] ++ flat_map (λ z. cond (p z) (f z ∷ []) []) xs) y
        → (Has (flat_map (λ z. cond (p z) (f z ∷ []) []) xs) y → (z : X) × Has xs z × (p z ≡ true) × (y ≡ f z)) → (z : X) × Has (x ∷ xs) z × (p z ≡ true) × (y ≡ f z)
    go true is (inl same) later = (x, inl refl, is, same)
    go true is (inr there) later = let r = later there in (r.0, inr r.1, r.2, r.3)
    go false is there later = let r = later there in (r.0, inr r.1, r.2, r.3)

pub matched_has : {X Y : Type 0} (p : X → Bool) (f : X → Y) (xs : List X) (x : X) → Has xs x → p x ≡ true → Has (flat_map (λ z. cond (p z) (f z ∷ []) []) xs) (f x)
matched_has p f [] x h passes = absurd h
matched_has p f (z ∷ xs) x (inl same) passes = rw (← same, passes) (inl refl)
matched_has p f (z ∷ xs) x (inr later) passes = has_right (cond (p z) (f z ∷ []) []) (flat_map (λ w. cond (p w) (f w ∷ []) []) xs) (f x) (matched_has p f xs x later passes)

pub has_permuted : {X : Type 0} (xs ys : List X) (x : X) → IsPermutation xs ys → Has xs x → Has ys x
has_permuted xs ys x same h = has_contained ys x (Contains-permutation xs ys x same (contains_had xs x h))

-- the place of an element
pub has_place : {X : Type 0} (xs : List X) (x : X) → Has xs x → (j : ℕ) × (j < length xs) × ((d : X) → get_or xs j d ≡ x)
has_place [] x h = absurd h
has_place (y ∷ ys) x (inl same) = (0, omega arith, λ d. sym same)
has_place (y ∷ ys) x (inr later) = let p = has_place ys x later in (suc p.0, omega (arith, p.1), λ d. p.2 d)

-- in a sorted list nothing is less than the first
pub sorted_first : {X : Type 0} (cmp : X → X → Ordering) → IsTotalOrder cmp → (x : X) (xs : List X) → IsSorted cmp (x ∷ xs) → (y : X) → Has (x ∷ xs) y → is_lt (cmp y x) ≡ false
sorted_first cmp total x xs sorted y there =
    let p = has_place (x ∷ xs) y there in
    subst (λ z. is_lt (cmp z x) ≡ false) (p.2 x) (sorted_far (λ a b. is_lt (cmp a b)) (ranks_by total (λ z. z)) (x ∷ xs) sorted 0 p.0 x (omega arith) p.1)

pub sorted_tail : {X : Type 0} (cmp : X → X → Ordering) (x : X) (xs : List X) → IsSorted cmp (x ∷ xs) → IsSorted cmp xs
sorted_tail cmp x xs sorted k d low less = simp unary_clauses (simp unary_clauses at (sorted (suc k) d (omega arith) (omega (arith, less))))

lt_is : (o : Ordering) → is_lt o ≡ true → o ≡ Less
lt_is Less e = refl
lt_is Equal e = absurd (true≢false (sym e))
lt_is Greater e = absurd (true≢false (sym e))

-- what is greater than one is greater than each that isn't greater than that
pub le_lt : {X : Type 0} {cmp : X → X → Ordering} → IsTotalOrder cmp → (x y z : X) → is_lt (cmp y x) ≡ false → is_lt (cmp y z) ≡ true → is_lt (cmp x z) ≡ true
le_lt {X} {cmp} total x y z low less = go (cmp x y) refl
  where
    go : (o : Ordering) → cmp x y ≡ o → is_lt (cmp x z) ≡ true
    go Less e = ap is_lt (total.trans x y z e (lt_is (cmp y z) less))
    go Equal e = ap is_lt (total.congr x y z e) ∙ less
    go Greater e = absurd (true≢false (sym (ap is_lt (total.antisymm y x ∙ ap ordering_reverse e)) ∙ low))
