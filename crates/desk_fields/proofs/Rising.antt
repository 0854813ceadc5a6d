-- Values that rise one after the other rise in all.
use Rattle.std.proofs.Common.{◌≡◌, Bool, true, false, List, [], ◌∷◌, map, refl, sym, ap, ◌∙◌, Ordering, Less, Equal, Greater, is_lt}
use Rattle.std.specs.Prelude.{◌&&◌}
use Rattle.std.specs.Cmp.{IsTotalOrder}
use Rattle.std.specs.List.{list_all}
use Rattle.std.specs.Ordering.{on}
use Rattle.std.proofs.lemmas.Bool.{and_from, and_parts, false≢true}
use Rattle.std.proofs.lemmas.List.Folds.{list_all-map}
use Rattle.desk_model.specs.Content.{rises}
use Rattle.desk_fields.specs.Reading.{in_turn}

is_less : (o : Ordering) → is_lt o ≡ true → o ≡ Less
is_less Less e = refl
is_less Equal e = absurd (false≢true e)
is_less Greater e = absurd (false≢true e)

module _ {A : Type 0} (order : A → A → Ordering) (total : IsTotalOrder order) where
  below_all : (a b : A) (rest : List A) → order a b ≡ Less → list_all (λ later. is_lt (order b later)) rest ≡ true → list_all (λ later. is_lt (order a later)) rest ≡ true
  below_all a b [] less all = refl
  below_all a b (c ∷ rest) less all =
      let parts = and_parts (is_lt (order b c)) (list_all (λ later. is_lt (order b later)) rest) all in
      and_from (is_lt (order a c)) (list_all (λ later. is_lt (order a later)) rest) (ap is_lt (total.trans a b c less (is_less (order b c) parts.0))) (below_all a b rest less parts.1)

  pub rises_from_turn : (xs : List A) → in_turn order xs ≡ true → rises order xs ≡ true
  rises_from_turn [] e = refl
  rises_from_turn (a ∷ []) e = refl
  rises_from_turn (a ∷ b ∷ rest) e =
      let parts = and_parts (is_lt (order a b)) (in_turn order (b ∷ rest)) e in
      let later = rises_from_turn (b ∷ rest) parts.1 in
      let above = and_parts (list_all (λ later. is_lt (order b later)) rest) (rises order rest) later in
      and_from (list_all (λ later. is_lt (order a later)) (b ∷ rest)) (rises order (b ∷ rest))
      (and_from (is_lt (order a b)) (list_all (λ later. is_lt (order a later)) rest) parts.0 (below_all a b rest (is_less (order a b) parts.0) above.0))
      later

  pub turn_from_rises : (xs : List A) → rises order xs ≡ true → in_turn order xs ≡ true
  turn_from_rises [] e = refl
  turn_from_rises (a ∷ []) e = refl
  turn_from_rises (a ∷ b ∷ rest) e =
      let parts = and_parts (list_all (λ later. is_lt (order a later)) (b ∷ rest)) (rises order (b ∷ rest)) e in
      and_from (is_lt (order a b)) (in_turn order (b ∷ rest)) (and_parts (is_lt (order a b)) (list_all (λ later. is_lt (order a later)) rest) parts.0).0 (turn_from_rises (b ∷ rest) parts.1)

  -- by their keys
  -- so a list whose values rise one after the other is one whose values rise
  pub rises_in_turn : (xs : List A) → rises order xs ≡ in_turn order xs
  rises_in_turn xs = same (rises order xs) (in_turn order xs) (turn_from_rises xs) (rises_from_turn xs)
    where
      same : (a b : Bool) → (a ≡ true → b ≡ true) → (b ≡ true → a ≡ true) → a ≡ b
      same true b there back = sym (there refl)
      same false true there back = back refl
      same false false there back = refl

pub rises_on : {A K : Type 0} (key : A → K) (cmp : K → K → Ordering) (xs : List A) → rises cmp (map key xs) ≡ rises (on key cmp) xs
rises_on key cmp [] = refl
rises_on key cmp (x ∷ xs) =
    ap (λ b. b && rises cmp (map key xs)) (list_all-map (λ later. is_lt (cmp (key x) later)) key xs)
    ∙ ap (λ b. list_all (λ later. is_lt (cmp (key x) (key later))) xs && b) (rises_on key cmp xs)
