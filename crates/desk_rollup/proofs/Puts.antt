-- What is written down node by node.
use Rattle.std.proofs.Common.{◌≡◌, ℕ, zero, suc, ◌+◌, ◌^◌, ◌<◌, ◌≤◌, Bool, true, false, cond, ◌==◌, List, [], ◌∷◌, ◌++◌, length, set, slice_index, slice_index_or, take, Option, Some, None, refl, sym, ap, ◌∙◌, subst, inl, inr, arith, add-one}
use Rattle.std.specs.Prelude.{position}
use Rattle.std.specs.List.{position_or_len}
use Rattle.std.proofs.lemmas.Bool.{both_ways, cases_eq, cases_lt, eq-eqb, eqb-true, le-ltb, lt-ltb, ne_eqb}
use Rattle.std.proofs.lemmas.Bool.Decides.{nat_tests}
use Rattle.std.proofs.lemmas.List.{get_or-set_other, get_or-set_same, get_or_append_left, get_or_at, get_or_push, length_push, length-take-le, take_more}
use Rattle.std.proofs.lemmas.List.Folds.{list_any-append, list_any_none}
use Rattle.std.proofs.lemmas.List.Quantifiers.{position-Some}
use Rattle.std.proofs.lemmas.List.Sums.{fails_before_first, sum_by-cons}
use Rattle.desk_graph.specs.Reaches.{has_node}
use Rattle.desk_rollup.specs.Numbers.{Rises, hop_numbers}
use Rattle.desk_rollup.specs.Places.{ArePlaced, IsPlaceOf, Placed, place_in, place_told}
use Rattle.desk_rollup.specs.Plan.{AreDistinct, nodes_of_owns}
use Rattle.desk_rollup.specs.Values.{AreHopsInOrder, DoFit, OwnValues, RolledValues, hop_total, no_own, no_values, own_at, own_with, rolled_at}
use Rattle.desk_rollup.proofs.Frame.{own_other}
use Rattle.desk_rollup.proofs.Counts.{has_at}
use Rattle.desk_rollup.proofs.MostHops.{hops_of}

-- a place is told of a node still where another node comes behind
told_more : (nodes : List ℕ) (more node : ℕ) (place : Option ℕ) → (more == node) ≡ false → IsPlaceOf nodes node place → IsPlaceOf (nodes ++ more ∷ []) node place
told_more nodes more node None other told = list_any-append (λ n. n == node) nodes (more ∷ []) ∙ rw (told, other) refl
told_more nodes more node (Some place) other told = (omega (arith, told.0, length_push nodes more), get_or_append_left nodes (more ∷ []) 0 place told.0 ∙ told.1)

-- the places of so many nodes, and of one more
pub told_next : (nodes slots : List ℕ) (place : ℕ) → place < length nodes → slice_index nodes place < length slots → ((node : ℕ) → IsPlaceOf (take place nodes) node (place_in slots node)) →
    (node : ℕ) → IsPlaceOf (take (place + 1) nodes) node (place_in (set slots (slice_index nodes place) (place + 1)) node)
told_next nodes slots place low there told node =
    let at = slice_index nodes place in
    let more = take_more nodes place 0 low in
    let size = length-take-le place nodes (omega (arith, low)) in
    elim (cases_eq node at) [
      | inl same ↦
          let slot : slice_index (set slots at (place + 1)) node ≡ suc place = ap (slice_index (set slots at (place + 1))) same ∙ get_or-set_same slots at (place + 1) 0 there ∙ add-one place in
          let is : IsPlaceOf (take place nodes ++ at ∷ []) node (Some place) = (omega (arith, length_push (take place nodes) at, size), get_or_push (take place nodes) at 0 place size ∙ sym same) in
          subst (λ s. IsPlaceOf (take (place + 1) nodes) node (place_told s)) (sym slot) (subst (λ l. IsPlaceOf l node (Some place)) (sym more) is)
      | inr other ↦
          let slot : slice_index (set slots at (place + 1)) node ≡ slice_index slots node = get_or-set_other slots at node (place + 1) 0 other in
          subst (λ s. IsPlaceOf (take (place + 1) nodes) node (place_told s)) (sym slot)
          (subst (λ l. IsPlaceOf l node (place_in slots node)) (sym more) (told_more (take place nodes) at node (place_in slots node) (ne_eqb at node (λ e. other (sym e))) (told node)))
    ]

-- what is told of a node that is looked for
pub told_among : (nodes : List ℕ) (node : ℕ) (place : Option ℕ) → position (λ other. other == node) nodes ≡ place → IsPlaceOf nodes node place
told_among nodes node None none =
    let past : length nodes ≤ position_or_len (λ other. other == node) nodes = grind (arith, nat_tests, none) in
    list_any_none (λ other. other == node) nodes (λ k d within. fails_before_first (λ other. other == node) nodes k d (omega (arith, past, within)))
told_among nodes node (Some place) found =
    let at = position-Some (λ other. other == node) nodes place 0 found in
    (at.0, eqb-true (slice_index nodes place) node at.1)

-- what is told of each node, where the numbers that there are tell their places
pub told_by : (placed : Placed) → ((node : ℕ) → node < length placed.slots → IsPlaceOf placed.nodes node (place_in placed.slots node)) → ArePlaced placed
told_by placed numbers node =
    let told = λ (low : Bool). IsPlaceOf placed.nodes node (cond low (place_in placed.slots node) (position (λ other. other == node) placed.nodes)) in
    elim (cases_lt node (length placed.slots)) [
      | inl low ↦ subst told (sym (lt-ltb node (length placed.slots) low)) (numbers node low)
      | inr past ↦ subst told (sym (le-ltb node (length placed.slots) past)) (told_among placed.nodes node _ refl)
    ]

-- own values that were put in are those that are kept then
pub put_own : (own : OwnValues) (rest kept : List OwnValues) → own.node < length kept → has_node (nodes_of_owns rest) own.node ≡ false → (node : ℕ) → own_with rest (set kept own.node own) node ≡ own_with (own ∷ rest) kept node
put_own own rest kept there alone node =
    elim (cases_eq own.node node) [
      | inl same ↦
          let is : (own.node == node) ≡ true = eq-eqb own.node node same in
          rw is
          (own_other rest (set kept own.node own) node (subst (λ n. has_node (nodes_of_owns rest) n ≡ false) same alone)
          ∙ ap (own_at (set kept own.node own)) (sym same) ∙ get_or-set_same kept own.node own no_own there)
      | inr other ↦
          let is_not : (own.node == node) ≡ false = ne_eqb own.node node other in
          rw is_not (kept_other rest (set kept own.node own) kept node (get_or-set_other kept own.node node own no_own (λ e. other (sym e))))
    ]
  where
    kept_other : (new a b : List OwnValues) (n : ℕ) → own_at a n ≡ own_at b n → own_with new a n ≡ own_with new b n
    kept_other new a b n e = ap (λ o. Rattle.std.proofs.Common.unwrap_or (Rattle.std.proofs.Common.find (λ x. x.node == n) new) o) e

distinct_places : (nodes : List ℕ) → AreDistinct nodes → (i j : ℕ) → i < j → j < length nodes → slice_index nodes j ≡ slice_index nodes i → ⊥
distinct_places [] distinct i j h low e = omega arith
distinct_places (node ∷ nodes) distinct zero zero h low e = omega arith
distinct_places (node ∷ nodes) distinct zero (suc j) h low e =
    both_ways (has_node nodes node) distinct.0 (subst (λ n. has_node nodes n ≡ true) e (has_at nodes j (omega arith)))
distinct_places (node ∷ nodes) distinct (suc i) zero h low e = omega arith
distinct_places (node ∷ nodes) distinct (suc i) (suc j) h low e = distinct_places nodes distinct.1 i j (omega arith) (omega arith) e

-- values are put in from the last on
module _ (nodes : List ℕ) (distinct : AreDistinct nodes) (kept all front : List RolledValues) (values : RolledValues) (tail : List RolledValues) (whole : all ≡ front ++ values ∷ tail) (low : length front < length nodes)
    (there : slice_index nodes (length front) < length kept) where
  abbrev at : ℕ
  at = slice_index nodes (length front)

  these : rolled_at all (length front) ≡ values
  these = ap (λ l. rolled_at l (length front)) whole ∙ get_or_at front values tail no_values (length front) refl

  pub put_next : ((place : ℕ) → length front + 1 ≤ place → place < length nodes → rolled_at kept (slice_index nodes place) ≡ rolled_at all place) →
      (place : ℕ) → length front ≤ place → place < length nodes → rolled_at (set kept at values) (slice_index nodes place) ≡ rolled_at all place
  put_next so place past h =
      elim (cases_eq place (length front)) [
        | inl same ↦
            subst (λ p. rolled_at (set kept at values) (slice_index nodes p) ≡ rolled_at all p) (sym same) (get_or-set_same kept at values no_values there ∙ sym these)
        | inr other ↦
            let later : length front + 1 ≤ place = omega (arith, past, other) in
            get_or-set_other kept at (slice_index nodes place) values no_values (distinct_places nodes distinct (length front) place (omega arith) h) ∙ so place later h
      ]

  pub put_stays : (node : ℕ) → has_node nodes node ≡ false → rolled_at (set kept at values) node ≡ rolled_at kept node
  put_stays node away =
      get_or-set_other kept at node values no_values (λ e. both_ways (has_node nodes node) away (subst (λ n. has_node nodes n ≡ true) (sym e) (has_at nodes (length front) low)))

  pub put_fit : DoFit kept → DoFit all → DoFit (set kept at values)
  put_fit fit all_fit node =
      let P : RolledValues → Type 0 = λ v. v.weight < 2 ^ 128 in
      elim (cases_eq node at) [
        | inl same ↦
            subst (λ n. P (rolled_at (set kept at values) n)) (sym same) (subst P (sym (get_or-set_same kept at values no_values there)) (subst P these (all_fit (length front))))
        | inr other ↦ subst P (sym (get_or-set_other kept at node values no_values other)) (fit node)
      ]

  pub put_order : AreHopsInOrder kept → AreHopsInOrder all → AreHopsInOrder (set kept at values)
  put_order order all_order node =
      let P : RolledValues → Type 0 = λ v. Rises (hop_numbers v.hops) in
      elim (cases_eq node at) [
        | inl same ↦
            subst (λ n. P (rolled_at (set kept at values) n)) (sym same) (subst P (sym (get_or-set_same kept at values no_values there)) (subst P these (all_order (length front))))
        | inr other ↦ subst P (sym (get_or-set_other kept at node values no_values other)) (order node)
      ]

-- where the values of a node are put in, its hops are exchanged for theirs
pub put_hops : (kept : List RolledValues) (node : ℕ) (values : RolledValues) → node < length kept →
    (rest : ℕ) × (hop_total kept ≡ rest + length (rolled_at kept node).hops) × (hop_total (set kept node values) ≡ rest + length values.hops)
put_hops [] node values there = absurd (omega (arith, there))
put_hops (first ∷ kept) zero values there =
    (hop_total kept, omega (arith, sum_by-cons hops_of first kept), omega (arith, sum_by-cons hops_of values kept))
put_hops (first ∷ kept) (suc node) values there =
    let below = put_hops kept node values (omega arith) in (
      hops_of first + below.0,
      omega (arith, sum_by-cons hops_of first kept, below.1),
      omega (arith, sum_by-cons hops_of first (set kept node values), below.2),
    )

-- nodes that have nothing change nothing
pub none_more : {X : Type 0} (xs : List X) (none : X) (node : ℕ) → slice_index_or (xs ++ none ∷ []) node none ≡ slice_index_or xs node none
none_more [] none zero = refl
none_more [] none (suc node) = refl
none_more (x ∷ xs) none zero = refl
none_more (x ∷ xs) none (suc node) = none_more xs none node
