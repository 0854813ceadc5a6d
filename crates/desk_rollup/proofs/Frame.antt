-- What a sweep over the affected nodes finds at each of them.
use Rattle.std.proofs.Common.{◌≡◌, ℕ, zero, suc, ◌+◌, ◌*◌, ◌^◌, ◌<◌, ◌≤◌, Bool, true, false, cond, ◌==◌, List, [], ◌∷◌, drop, map, take, fold, length, nat_lt, slice_index, slice_index_or, sum_by, Option, Some, None, refl, sym, ap, ◌∙◌, subst, inl, inr, arith}
use Rattle.std.specs.List.{AllByRecursion}
use Rattle.std.proofs.lemmas.Bool.{both_ways, cases_Bool, cases_lt, eq-eqb, eqb-true, false_from_ne_true, le-ltb, lt-ltb, ltb-true, ne_eqb, or_cases, or_parts}
use Rattle.std.proofs.lemmas.List.{length-map, length-take-le, get_or-map, get_or-take}
use Rattle.std.proofs.Math.Nat.{suc-mul}
use Rattle.std.proofs.Math.Seq.{split_at}
use Rattle.std.proofs.lemmas.List.Sums.{fold-append, sum_by-cons}
use Rattle.desk_graph.specs.declared.line.BillLine.{BillLine}
use Rattle.desk_graph.specs.Bill.{IsBillGraph}
use Rattle.desk_graph.specs.Graph.{Graph, is_line_between, lines_of_node}
use Rattle.desk_graph.specs.Reaches.{AreAffected, longest_node_chain, has_node, is_node_affected, is_node_or_reaches, node_reaches}
use Rattle.desk_graph.proofs.Reached.{affected-seed, affected-up, any_node-out, up}
use Rattle.desk_graph.proofs.Ends.{has_node_there}
use Rattle.desk_rollup.specs.declared.hop.Hop.{Hop}
use Rattle.desk_rollup.specs.Changed.{AreNewHops, ChangedValues, DoFollow, IsMended}
use Rattle.desk_rollup.specs.Gathered.{all_hops, all_loads}
use Rattle.desk_rollup.specs.Numbers.{Rises, has, hop_numbers, mark_numbers, load_numbers}
use Rattle.desk_rollup.specs.Places.{IsKnown, IsPlaceOf, Placed, known, place_at}
use Rattle.desk_rollup.specs.Plan.{AreDistinct, nodes_of_owns}
use Rattle.desk_rollup.specs.Rolled.{IsRolled, amount, hop, weight}
use Rattle.desk_rollup.specs.Step.{IsStepOver, step_hop}
use Rattle.desk_rollup.specs.Sweep.{IsSweep}
use Rattle.desk_rollup.specs.Values.{KeptValues, OwnValues, RolledValues, amount_of, carried_by_node, hop_of, load_in, own_at, own_with, rolled_at}
use Rattle.desk_rollup.specs.Weights.{IsKnownWeight, fitting, known_weight, weighed, with_child}
use Rattle.desk_rollup.proofs.Counts.{has_at, none_times, one_if, some_times}
use Rattle.desk_rollup.proofs.Gathers.{gathered_step}
use Rattle.desk_rollup.proofs.Lists.{each_as, each_line, sum_same}
use Rattle.desk_rollup.proofs.Ranked.{goes_up, rolled-step}
use Rattle.desk_rollup.proofs.Rolls.{carried_is, hop_by, same_hop, step_rolled}

-- the list has just the affected nodes
pub affected_had : (lines : List (List BillLine)) (seeds nodes : List ℕ) → AreAffected lines seeds nodes → (node : ℕ) → has_node nodes node ≡ is_node_affected lines seeds node
affected_had lines seeds nodes affected node =
    elim (cases_Bool (has_node nodes node)) [
      | inl there ↦
          elim (cases_Bool (is_node_affected lines seeds node)) [
            | inl is ↦ there ∙ sym is
            | inr no_one ↦ let none = affected node ∙ ap one_if no_one in absurd (omega (arith, none, some_times node nodes there))
          ]
      | inr away ↦
          elim (cases_Bool (is_node_affected lines seeds node)) [
            | inl is ↦ let one = affected node ∙ ap one_if is in absurd (omega (arith, one, none_times node nodes away))
            | inr no_one ↦ away ∙ sym no_one
          ]
    ]

-- an affected node is one of the bill
pub affected_inside : (g : Graph) → IsBillGraph g → (seeds nodes : List ℕ) → ((node : ℕ) → has_node seeds node ≡ true → node < length g.labels) → AreAffected g.lines seeds nodes → (node : ℕ) → has_node nodes node ≡ true → node < length g.labels
affected_inside g bill seeds nodes low affected node e =
    let found = any_node-out (λ seed. is_node_or_reaches g.lines node seed) seeds (sym (affected_had g.lines seeds nodes affected node) ∙ e) in
    let seed_low = low found.0 found.1 in
    elim (or_cases (node == found.0) (node_reaches g.lines node found.0) found.2) [
      | inl here ↦ let same = eqb-true node found.0 here in omega (arith, same, seed_low)
      | inr there ↦
          ltb-true node (length g.labels)
          (up g.lines found.0 (λ n. nat_lt n (length g.labels)) (lt-ltb found.0 (length g.labels) seed_low)
          (λ child user _ line. lt-ltb user (length g.labels) (omega (arith, has_node_there g.lines user child line, bill.sizes)))
          (longest_node_chain g.lines) node there)
    ]

-- a node without new own values has those that are kept
pub own_other : (new kept : List OwnValues) (node : ℕ) → has_node (nodes_of_owns new) node ≡ false → own_with new kept node ≡ own_at kept node
own_other [] kept node e = refl
own_other (own ∷ new) kept node e =
    let parts = or_parts (own.node == node) (has_node (nodes_of_owns new) node) e in
    rw parts.0 (own_other new kept node parts.1)

-- a node with new own values has those
pub own_found : (new : List OwnValues) (kept : List OwnValues) (node place : ℕ) → AreDistinct (nodes_of_owns new) → place < length (nodes_of_owns new) → slice_index (nodes_of_owns new) place ≡ node → own_with new kept node ≡ own_at new place
own_found [] kept node place distinct low is = absurd (omega arith)
own_found (own ∷ new) kept node zero distinct low is = rw (eq-eqb own.node node is) refl
own_found (own ∷ new) kept node (suc place) distinct low is =
    let there : has_node (nodes_of_owns new) node ≡ true = subst (λ n. has_node (nodes_of_owns new) n ≡ true) is (has_at (nodes_of_owns new) place (omega arith)) in
    let other : (own.node == node) ≡ false = ne_eqb own.node node (λ e. both_ways (has_node (nodes_of_owns new) node) (subst (λ n. has_node (nodes_of_owns new) n ≡ false) e distinct.0) there) in
    rw other (own_found new kept node place distinct.1 (omega arith) is)

-- sums of weights that fit
pub fits_yes : (n : ℕ) → n < 2 ^ 128 → fitting n ≡ Some n
fits_yes n h = ap (λ b. cond b (Some n) None) (lt-ltb n (2 ^ 128) h)

pub fits_no : (n : ℕ) → 2 ^ 128 ≤ n → fitting n ≡ None
fits_no n h = ap (λ b. cond b (Some n) None) (le-ltb n (2 ^ 128) h)

some_inside : {X : Type 0} (one other : X) → ◌≡◌ {A = Option X} (Some one) (Some other) → one ≡ other
some_inside one other e = cc

some_is_none : {X : Type 0} (one : X) → ◌≡◌ {A = Option X} (Some one) None → ⊥
some_is_none one e = cc

-- a weight that is found is the one that fits
pub fitted : (n found : ℕ) → fitting n ≡ Some found → (n < 2 ^ 128) × (found ≡ n)
fitted n found e =
    elim (cases_lt n (2 ^ 128)) [
      | inl low ↦ (low, some_inside found n (sym e ∙ fits_yes n low))
      | inr large ↦ absurd (some_is_none found (sym e ∙ fits_no n large))
    ]

pub unfitted : (n : ℕ) → fitting n ≡ None → 2 ^ 128 ≤ n
unfitted n e =
    elim (cases_lt n (2 ^ 128)) [
      | inl low ↦ absurd (some_is_none n (sym (fits_yes n low) ∙ e))
      | inr large ↦ large
    ]

at_least : (count child : ℕ) → (count ≡ 0 → ⊥) → child ≤ count * child
at_least zero child h = absurd (h refl)
at_least (suc count) child h = omega (arith, suc-mul count child)

one_child : (sum count child : ℕ) → with_child (fitting sum) count (fitting child) ≡ fitting (sum + count * child)
one_child sum count child =
    elim (cases_lt sum (2 ^ 128)) [
      | inl small ↦
          elim (cases_lt child (2 ^ 128)) [
            | inl light ↦ rw (fits_yes sum small, fits_yes child light) refl
            | inr heavy ↦
                elim (Rattle.std.proofs.lemmas.Bool.cases_eq count 0) [
                  | inl none ↦
                      rw (fits_yes sum small, fits_no child heavy, eq-eqb count 0 none)
                      (let same : sum ≡ sum + count * child = subst (λ (c : ℕ). sum ≡ sum + c * child) (sym none) (omega arith) in
                      ap (λ n. Some n) same ∙ sym (fits_yes (sum + count * child) (omega (arith, same, small))))
                  | inr some ↦
                      let more = at_least count child some in
                      rw (fits_yes sum small, fits_no child heavy, ne_eqb count 0 some) (sym (fits_no (sum + count * child) (omega (arith, more, heavy))))
                ]
          ]
      | inr large ↦ rw (fits_no sum large) (sym (fits_no (sum + count * child) (omega (arith, large))))
    ]

lines_weigh : (below : ℕ → Option ℕ) (weights : ℕ → ℕ) (of_node : List BillLine) → AllByRecursion (λ line. below line.node ≡ fitting (weights line.node)) of_node → (sum : ℕ) →
    fold (λ o line. with_child o line.count (below line.node)) (fitting sum) of_node ≡ fitting (sum + sum_by (λ line. line.count * weights line.node) of_node)
lines_weigh below weights [] each sum = ap fitting (omega arith)
lines_weigh below weights (line ∷ of_node) each sum =
    ap (λ o. fold (λ p l. with_child p l.count (below l.node)) o of_node) (ap (with_child (fitting sum) line.count) each.0 ∙ one_child sum line.count (weights line.node))
    ∙ lines_weigh below weights of_node each.1 (sum + line.count * weights line.node)
    ∙ ap fitting (omega (arith, sum_by-cons (λ l. l.count * weights l.node) line of_node))

-- what is too large stays so with further children
none_stays : (below : ℕ → Option ℕ) (of_node : List BillLine) → fold (λ sum line. with_child sum line.count (below line.node)) None of_node ≡ None
none_stays below [] = refl
none_stays below (line ∷ of_node) = none_stays below of_node

pub too_large_at : (below : ℕ → Option ℕ) (own : ℕ) (of_node : List BillLine) (at : ℕ) (none : BillLine) → at < length of_node → (sum : ℕ) → Some sum ≡ weighed below own (take at of_node) →
    with_child (Some sum) (slice_index_or of_node at none).count (below (slice_index_or of_node at none).node) ≡ None → weighed below own of_node ≡ None
too_large_at below own of_node at none low sum is large =
    let line = slice_index_or of_node at none in
    let add : Option ℕ → BillLine → Option ℕ = λ o l. with_child o l.count (below l.node) in
    let rest = drop (suc at) of_node in
    ap (fold add (Some own)) (split_at of_node at none low)
    ∙ fold-append add (Some own) (take at of_node) (line ∷ rest)
    ∙ ap (λ o. fold add (add o line) rest) (sym is)
    ∙ ap (λ o. fold add o rest) large
    ∙ none_stays below rest

-- what is known of a place or of a node without one
pub by_place : (nodes : List ℕ) (node : ℕ) (place : Option ℕ) → IsPlaceOf nodes node place → (P : Option ℕ → Type 0) → (has_node nodes node ≡ false → P None) → ((at : ℕ) → at < length nodes → slice_index nodes at ≡ node → P (Some at)) → P place
by_place nodes node None told P none some = none told
by_place nodes node (Some at) told P none some = some at told.0 told.1

module _ (g : Graph) (owns : List OwnValues) (kept : KeptValues) (of_owns placed : Placed) (lists : List (List BillLine)) (sweep : IsSweep g owns kept of_owns placed lists) where
  abbrev rank : ℕ → ℕ
  rank = sweep.bill.ranked.0

  abbrev own : ℕ → OwnValues
  own = own_with owns kept.owns

  abbrev seeds : List ℕ
  seeds = nodes_of_owns owns

  had : (node : ℕ) → has_node placed.nodes node ≡ is_node_affected g.lines seeds node
  had node = affected_had g.lines seeds placed.nodes sweep.affected node

  -- the lines at a place are those of the node there
  pub list_at : {X : Type 0} (xs : List X) (f : X → List BillLine) (place : ℕ) (none : X) → lists ≡ map f xs → place < length placed.nodes → f (slice_index_or xs place none) ≡ lines_of_node g.lines (slice_index placed.nodes place)
  list_at xs f place none is low =
      let sizes : length xs ≡ length placed.nodes = sym (length-map xs f) ∙ ap (λ l. length l) (sym is ∙ sweep.lines_are) ∙ length-map placed.nodes (lines_of_node g.lines) in
      sym (get_or-map f xs place none [] (omega (arith, sizes))) ∙ ap (λ l. slice_index_or l place []) (sym is ∙ sweep.lines_are) ∙ get_or-map (lines_of_node g.lines) placed.nodes place 0 [] low

  -- a node of the bill has values, or new own ones
  pub own_there : (node : ℕ) → node < length g.labels → has_node seeds node ≡ false → node < length kept.rolled
  own_there node there none =
      elim (cases_lt node (length kept.rolled)) [
        | inl below ↦ below
        | inr past ↦ absurd (both_ways (has_node seeds node) none (sweep.can.new_nodes node past there))
      ]

  -- a node that isn't affected has values, and no new own ones
  untouched : (node : ℕ) → has_node placed.nodes node ≡ false → has_node seeds node ≡ false
  untouched node away =
      false_from_ne_true (has_node seeds node) (λ seed. both_ways (has_node placed.nodes node) away (had node ∙ affected-seed g.lines rank sweep.bill.ranked.1 seeds node seed))

  pub has_kept : (node : ℕ) → node < length g.labels → has_node placed.nodes node ≡ false → node < length kept.rolled
  has_kept node there away =
      elim (cases_lt node (length kept.rolled)) [
        | inl below ↦ below
        | inr past ↦ absurd (both_ways (has_node seeds node) (untouched node away) (sweep.can.new_nodes node past there))
      ]

  -- the values of a node that isn't affected stay right
  pub stays : (node : ℕ) → has_node placed.nodes node ≡ false → node < length g.labels → IsRolled g.lines own node (rolled_at kept.rolled node)
  stays =
      goes_up g.lines rank sweep.bill.ranked.1 (λ node. has_node placed.nodes node ≡ false → node < length g.labels → IsRolled g.lines own node (rolled_at kept.rolled node))
      (λ node below away there.
      let step = sweep.can.steps node (has_kept node there away) (untouched node away) in
      step_rolled g.lines rank sweep.bill.ranked.1 own (rolled_at kept.rolled) node (rolled_at kept.rolled node)
      (λ child line. below child line
      (false_from_ne_true (has_node placed.nodes child) (λ e. both_ways (has_node placed.nodes node) away (had node ∙ affected-up g.lines rank sweep.bill.ranked.1 seeds node child line (sym (had child) ∙ e))))
      (sweep.bill.children node child line))
      (subst (λ o. IsStepOver (rolled_at kept.rolled) o (lines_of_node g.lines node) (rolled_at kept.rolled node)) (sym (own_other owns kept.owns node (untouched node away))) step))

  -- an affected node is one of the bill
  pub inside : (node : ℕ) → has_node placed.nodes node ≡ true → node < length g.labels
  inside node e = affected_inside g sweep.bill seeds placed.nodes sweep.can.nodes sweep.affected node e

  module _ (place : ℕ) (low : place < length placed.nodes) where
    abbrev node : ℕ
    node = slice_index placed.nodes place

    -- a child stands before, or it isn't affected
    pub child_before : (child at : ℕ) → is_line_between g.lines node child ≡ true → at < length placed.nodes → slice_index placed.nodes at ≡ child → at < place
    child_before child at line h is =
        elim (cases_lt at place) [
          | inl before ↦ before
          | inr past ↦
              elim (cases_lt place at) [
                | inl later ↦ absurd (both_ways (is_line_between g.lines node child) (subst (λ c. is_line_between g.lines node c ≡ false) is (sweep.children_first place at 0 later h)) line)
                | inr not_later ↦
                    let same : at ≡ place = omega arith in
                    let itself : child ≡ node = sym is ∙ ap (slice_index placed.nodes) same in
                    let lower = sweep.bill.ranked.1.falls node child line in
                    let ranks = ap rank itself in
                    absurd (omega (arith, lower, ranks))
              ]
        ]

    pub knows_weight : (new : List (Option ℕ)) → length new ≡ place → (child : ℕ) → is_line_between g.lines node child ≡ true → IsKnownWeight (place_at placed child) kept.rolled new child
    knows_weight new size child line =
        by_place placed.nodes child (place_at placed child) (sweep.places child) (λ o. IsKnownWeight o kept.rolled new child)
        (λ away. has_kept child (sweep.bill.children node child line) away) (λ at h is. let before = child_before child at line h is in omega arith)

    pub knows : (new : List RolledValues) → length new ≡ place → (child : ℕ) → is_line_between g.lines node child ≡ true → IsKnown (place_at placed child) kept.rolled new child
    knows new size child line =
        by_place placed.nodes child (place_at placed child) (sweep.places child) (λ o. IsKnown o kept.rolled new child)
        (λ away. has_kept child (sweep.bill.children node child line) away) (λ at h is. let before = child_before child at line h is in omega arith)

    -- the weight that is found at the place
    pub weighs : (new : List (Option ℕ)) → new ≡ map (λ n. fitting (weight g.lines own n)) (take place placed.nodes) → (own node).weight < 2 ^ 128 →
        weighed (λ child. known_weight (place_at placed child) kept.rolled new child) (own node).weight (lines_of_node g.lines node) ≡ fitting (weight g.lines own node)
    weighs new is small =
        let below : ℕ → Option ℕ = λ child. known_weight (place_at placed child) kept.rolled new child in
        ap (λ o. fold (λ p line. with_child p line.count (below line.node)) o (lines_of_node g.lines node)) (sym (fits_yes (own node).weight small))
        ∙ lines_weigh below (weight g.lines own) (lines_of_node g.lines node)
        (each_line (λ child. below child ≡ fitting (weight g.lines own child)) (lines_of_node g.lines node)
        (λ child line.
        by_place placed.nodes child (place_at placed child) (sweep.places child) (λ o. known_weight o kept.rolled new child ≡ fitting (weight g.lines own child))
        (λ away.
        let right = stays child away (sweep.bill.children node child line) in
        ap (λ w. Some w) right.weight ∙ sym (fits_yes (weight g.lines own child) (subst (λ w. w < 2 ^ 128) right.weight (sweep.fit child))))
        (λ spot h spot_is.
        let before = child_before child spot line h spot_is in
        ap (λ l. slice_index_or l spot None) is
        ∙ get_or-map (λ n. fitting (weight g.lines own n)) (take place placed.nodes) spot 0 None (omega (arith, length-take-le place placed.nodes (omega arith)))
        ∙ ap (λ n. fitting (weight g.lines own n)) (get_or-take place placed.nodes spot 0 before ∙ spot_is))))
        (own node).weight
        ∙ ap fitting (sym (rolled-step g.lines rank sweep.bill.ranked.1 (λ n. (own n).weight) node))

    -- with the new values the nodes that stand before have those that are right
    abbrev AreBefore : List RolledValues → Type 0
    AreBefore new = (at : ℕ) → at < place → IsRolled g.lines own (slice_index placed.nodes at) (rolled_at new at)

    -- what the new values and those that are kept tell of the children
    rolled_below : (new : List RolledValues) → AreBefore new →
        (child : ℕ) → is_line_between g.lines node child ≡ true → IsRolled g.lines own child (known (place_at placed child) kept.rolled new child)
    rolled_below new before child line =
        by_place placed.nodes child (place_at placed child) (sweep.places child) (λ o. IsRolled g.lines own child (known o kept.rolled new child))
        (λ away. stays child away (sweep.bill.children node child line))
        (λ spot h spot_is. subst (λ c. IsRolled g.lines own c (rolled_at new spot)) spot_is (before spot (child_before child spot line h spot_is)))

    -- the hops of the children stand in order
    pub below_order : (new : List RolledValues) → AreBefore new → (child : ℕ) → is_line_between g.lines node child ≡ true → Rises (hop_numbers (known (place_at placed child) kept.rolled new child).hops)
    below_order new before child line = (rolled_below new before child line).hops_rise

    -- the weight that is found at the place by values
    pub weighs_values : (new : List RolledValues) → AreBefore new →
        ((at : ℕ) → at < place → weight g.lines own (slice_index placed.nodes at) < 2 ^ 128) → (own node).weight < 2 ^ 128 →
        weighed (λ child. Some (known (place_at placed child) kept.rolled new child).weight) (own node).weight (lines_of_node g.lines node) ≡ fitting (weight g.lines own node)
    weighs_values new before light small =
        let below : ℕ → Option ℕ = λ child. Some (known (place_at placed child) kept.rolled new child).weight in
        let low : (child : ℕ) → is_line_between g.lines node child ≡ true → weight g.lines own child < 2 ^ 128 = λ child line.
        by_place placed.nodes child (place_at placed child) (sweep.places child) (λ _. weight g.lines own child < 2 ^ 128)
        (λ away. let P : ℕ → Type 0 = λ w. w < 2 ^ 128 in subst P (stays child away (sweep.bill.children node child line)).weight (sweep.fit child))
        (λ spot h is. subst (λ n. weight g.lines own n < 2 ^ 128) is (light spot (child_before child spot line h is))) in
        ap (λ o. fold (λ p line. with_child p line.count (below line.node)) o (lines_of_node g.lines node)) (sym (fits_yes (own node).weight small))
        ∙ lines_weigh below (weight g.lines own) (lines_of_node g.lines node)
        (each_line (λ child. below child ≡ fitting (weight g.lines own child)) (lines_of_node g.lines node)
        (λ child line. ap (λ w. Some w) (rolled_below new before child line).weight ∙ sym (fits_yes (weight g.lines own child) (low child line))))
        (own node).weight
        ∙ ap fitting (sym (rolled-step g.lines rank sweep.bill.ranked.1 (λ n. (own n).weight) node))

    abbrev made : List RolledValues → ℕ → RolledValues
    made new found =
        let below = λ (child : ℕ). known (place_at placed child) kept.rolled new child in
        record { weight = found; hops = all_hops below (own node).marks (lines_of_node g.lines node); loads = all_loads below (own node).loads (lines_of_node g.lines node) }

    -- the values that are found at the place
    rolls : weight g.lines own node < 2 ^ 128 → (new : List RolledValues) → AreBefore new →
        IsRolled g.lines own node (made new (weight g.lines own node))
    rolls fit new before =
        let below : ℕ → RolledValues = λ child. known (place_at placed child) kept.rolled new child in
        let of_node = lines_of_node g.lines node in
        let right : (child : ℕ) → is_line_between g.lines node child ≡ true → IsRolled g.lines own child (below child) = rolled_below new before in
        let each = each_line (λ child. IsRolled g.lines own child (below child)) of_node right in
        let step = gathered_step below (own node) of_node
        (each_as (λ line. IsRolled g.lines own line.node (below line.node)) (λ line. Rises (hop_numbers (below line.node).hops)) (λ line r. r.hops_rise) of_node each)
        (each_as (λ line. IsRolled g.lines own line.node (below line.node)) (λ line. Rises (load_numbers (below line.node).loads)) (λ line r. r.loads_rise) of_node each)
        (λ what.
        let same = sum_same (λ line. line.count * carried_by_node (below line.node).loads what) (λ line. line.count * amount g.lines own line.node what) of_node
        (each_as (λ line. IsRolled g.lines own line.node (below line.node)) (λ line. line.count * carried_by_node (below line.node).loads what ≡ line.count * amount g.lines own line.node what)
        (λ line r. ap (λ v. line.count * v) (carried_is g.lines rank sweep.bill.ranked.1 own line.node (below line.node) r what)) of_node each) in
        let there = inside node (has_at placed.nodes place low) in
        omega (arith, same, rolled-step g.lines rank sweep.bill.ranked.1 (λ n. amount_of (own n).loads what) node, sweep.can.lighter node what there, fit)) in
        let rolled = step_rolled g.lines rank sweep.bill.ranked.1 own below node _ right step in
        subst (λ w. IsRolled g.lines own node (made new w)) rolled.weight rolled

    -- the new values that stand before have of the steady marks those that are kept
    abbrev AreFollowed : ChangedValues → List RolledValues → Type 0
    AreFollowed changed new = (at : ℕ) → at < place → DoFollow changed (rolled_at kept.rolled (slice_index placed.nodes at)).hops (rolled_at new at).hops

    -- the hops stand in order and are those of the node
    abbrev AreRight : List Hop → Type 0
    AreRight hops = Rises (hop_numbers hops) × ((mark : ℕ) → hop_of hops mark ≡ hop g.lines own node mark)

    -- where the node isn't given own values, the kept hops are right once they are mended
    mended_hops : (new : List RolledValues) → AreBefore new → has_node seeds node ≡ false → (changed : ChangedValues) → changed.are_followed ≡ true → AreFollowed changed new → (hops : List Hop) →
        IsMended (λ child. known (place_at placed child) kept.rolled new child) (own node) (lines_of_node g.lines node) changed.marks (rolled_at kept.rolled node).hops hops → AreRight hops
    mended_hops new before none changed still followed hops mended =
        let below : ℕ → RolledValues = λ child. known (place_at placed child) kept.rolled new child in
        let of_node = lines_of_node g.lines node in
        let there = inside node (has_at placed.nodes place low) in
        let step = sweep.can.steps node (own_there node there none) none in
        let right = hop_by g.lines rank sweep.bill.ranked.1 own below node (rolled_below new before) in
        let steady : (mark : ℕ) → has (mark_numbers changed.marks) mark ≡ false → step_hop (rolled_at kept.rolled) (own node) of_node mark ≡ step_hop below (own node) of_node mark = λ mark e.
        sym
        (same_hop below (rolled_at kept.rolled) (own node) of_node mark
        (each_line (λ child. has (hop_numbers (below child).hops) mark ≡ has (hop_numbers (rolled_at kept.rolled child).hops) mark) of_node
        (λ child line.
        by_place placed.nodes child (place_at placed child) (sweep.places child) (λ o. has (hop_numbers (known o kept.rolled new child).hops) mark ≡ has (hop_numbers (rolled_at kept.rolled child).hops) mark)
        (λ away. refl)
        (λ spot h is.
        subst (λ c. has (hop_numbers (rolled_at new spot).hops) mark ≡ has (hop_numbers (rolled_at kept.rolled c).hops) mark) is
        (followed spot (child_before child spot line h is) mark (still, e)))))) in (
          mended.rises,
          λ mark.
              elim (cases_Bool (has (mark_numbers changed.marks) mark)) [
                | inl is ↦ mended.changes mark is ∙ right mark
                | inr is_not ↦
                    mended.others mark is_not
                    ∙ step.hops mark
                    ∙ ap (λ o. step_hop (rolled_at kept.rolled) o of_node mark) (sym (own_other owns kept.owns node none))
                    ∙ steady mark is_not
                    ∙ right mark
              ],
        )

    -- new hops are right
    right_hops : (new : List RolledValues) → AreBefore new → (changed : ChangedValues) → AreFollowed changed new → (is_given : Bool) → (is_given ≡ false → has_node seeds node ≡ false) →
        (hops : List Hop) → AreRight (all_hops (λ child. known (place_at placed child) kept.rolled new child) (own node).marks (lines_of_node g.lines node)) →
        AreNewHops (λ child. known (place_at placed child) kept.rolled new child) (own node) (lines_of_node g.lines node) is_given changed (rolled_at kept.rolled node).hops hops → AreRight hops
    right_hops new before changed followed is_given none hops right (inl all) = subst AreRight (sym all) right
    right_hops new before changed followed is_given none hops right (inr mended) = mended_hops new before (none mended.0) changed mended.1 followed hops mended.2

    -- where new values are found at the place, they are right, and the weight isn't too large
    pub found_values : (new : List RolledValues) → AreBefore new → ((at : ℕ) → at < place → weight g.lines own (slice_index placed.nodes at) < 2 ^ 128) → (own node).weight < 2 ^ 128 →
        (changed : ChangedValues) → AreFollowed changed new → (values : RolledValues) (is_given : Bool) → (is_given ≡ false → has_node seeds node ≡ false) →
        Some values.weight ≡ weighed (λ child. Some (known (place_at placed child) kept.rolled new child).weight) (own node).weight (lines_of_node g.lines node) →
        AreNewHops (λ child. known (place_at placed child) kept.rolled new child) (own node) (lines_of_node g.lines node) is_given changed (rolled_at kept.rolled node).hops values.hops →
        values.loads ≡ all_loads (λ child. known (place_at placed child) kept.rolled new child) (own node).loads (lines_of_node g.lines node) →
        (weight g.lines own node < 2 ^ 128) × IsRolled g.lines own node values
    found_values new before light small changed followed values is_given none weighs_so hops loads =
        let found = fitted (weight g.lines own node) values.weight (sym (weighs_so ∙ weighs_values new before light small)) in
        let right = rolls found.0 new before in
        let hops_right = right_hops new before changed followed is_given none values.hops (right.hops_rise, right.hops) hops in (
          found.0,
          record {
            weight = found.1;
            hops_rise = hops_right.0;
            hops = hops_right.1;
            loads_rise = subst (λ l. Rises (load_numbers l)) (sym loads) right.loads_rise;
            loads = λ what. ap (λ l. load_in l what) loads ∙ right.loads what;
          },
        )

    -- where none are found, the weight is too large
    pub found_none : (new : List RolledValues) → AreBefore new → ((at : ℕ) → at < place → weight g.lines own (slice_index placed.nodes at) < 2 ^ 128) → (own node).weight < 2 ^ 128 →
        None ≡ weighed (λ child. Some (known (place_at placed child) kept.rolled new child).weight) (own node).weight (lines_of_node g.lines node) → 2 ^ 128 ≤ weight g.lines own node
    found_none new before light small e = unfitted (weight g.lines own node) (sym (e ∙ weighs_values new before light small))
