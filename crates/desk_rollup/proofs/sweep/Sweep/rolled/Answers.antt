-- Each node has the values that it comes to, until a weight is too large.
use Rattle.std.proofs.Common.{◌≡◌, ℕ, ◌<◌, ◌^◌, ◌+◌, ◌==◌, ◌++◌, cond, [], ◌∷◌, List, true, false, length, slice_index, slice_index_or, Option, None, Some, IfSome, option_map, sym, ap, ◌∙◌, subst, refl, inl, inr, arith}
use Rattle.std.proofs.lemmas.Bool.{cases_lt}
use Rattle.std.proofs.lemmas.List.{length_push, get_or_append_left, get_or_push}
use Rattle.desk_graph.specs.declared.line.BillLine.{BillLine}
use Rattle.desk_graph.specs.Graph.{has_line, lines_of_node}
use Rattle.desk_graph.specs.Reaches.{has_node}
use Rattle.desk_rollup.specs.declared.hop.Hop.{Hop}
use Rattle.desk_rollup.specs.declared.load.Load.{Load}
use Rattle.desk_rollup.specs.declared.rolled.Rolled.{Rolled}
use Rattle.desk_rollup.specs.Changed.{AreNewHops, DoFollow}
use Rattle.desk_rollup.specs.Gathered.{all_loads}
use Rattle.desk_rollup.specs.Numbers.{Rises, hop_numbers}
use Rattle.desk_rollup.specs.Places.{IsKnown, known, place_at}
use Rattle.desk_rollup.specs.Plan.{nodes_of_owns}
use Rattle.desk_rollup.specs.Rolled.{IsRolled, weight}
use Rattle.desk_rollup.specs.Values.{OwnValues, RolledValues, no_values, own_with, rolled_at}
use Rattle.desk_rollup.specs.Weights.{weighed}
use Rattle.desk_rollup.proofs.Counts.{has_at}
use Rattle.desk_rollup.proofs.Frame.{below_order, found_none, found_values, inside, knows, list_at}
use Rattle.desk_rollup.proofs.Heavy.{first_of_all}
use Rattle.desk_rollup.proofs.MarkCount.{more_marks, some_marks}
use Rattle.desk_rollup.proofs.sweep.Sweep.rolled.Goals as goal

-- what holds of the values at each place, and of those that are pushed, holds at one place more
each_pushed : (all : List RolledValues) (more : RolledValues) (pushed : List RolledValues) → pushed ≡ all ++ more ∷ [] → (place : ℕ) → length all ≡ place → (holds : ℕ → RolledValues → Type 0) →
    ((spot : ℕ) → spot < place → holds spot (rolled_at all spot)) → holds place more → (spot : ℕ) → spot < place + 1 → holds spot (rolled_at pushed spot)
each_pushed all more pushed is place size holds earlier this spot h =
    subst (λ l. holds spot (rolled_at l spot)) (sym is)
    (elim (cases_lt spot place) [
      | inl before ↦ subst (holds spot) (sym (get_or_append_left all (more ∷ []) no_values spot (omega (arith, size)))) (earlier spot before)
      | inr last ↦
          let same : place ≡ spot = omega arith in
          subst (λ n. holds n (rolled_at (all ++ more ∷ []) n)) same (subst (holds place) (sym (get_or_push all more no_values place size)) this)
    ])

pub own-own-requires-clause-there : goal.own-own-requires-clause-there
own-own-requires-clause-there g c =
    let bill = g.B.BillView.graph c.args.self.now.bill.now in
    let s = c.args.self.now in
    let nodes = s.places.now.nodes in
    let place = c.loop-place.place in
    let low : place < length nodes = omega (arith, c.loop-place-test.true, ap (λ l. length l) c.as_slice-node-items.ensures) in
    let P : List ℕ → Type 0 = λ l. slice_index l place < length bill.labels in
    subst P (sym c.as_slice-node-items.ensures) (inside bill s.owns.now s.kept.now s.of_owns.now s.places.now _ c.requires (slice_index nodes place) (has_at nodes place low))

pub roll-requires-clause-known : goal.roll-requires-clause-known
roll-requires-clause-known g c =
    let bill = g.B.BillView.graph c.args.self.now.bill.now in
    let s = c.args.self.now in
    let nodes = s.places.now.nodes in
    let place = c.loop-place.place in
    let low : place < length nodes = omega (arith, c.loop-place-test.true, ap (λ l. length l) c.as_slice-node-items.ensures) in
    let lines = list_at bill s.owns.now s.kept.now s.of_owns.now s.places.now _ c.requires s.lists.now (λ l. l.now) place (record { ref_ptr = (0, 0); now = [] }) refl low in
    let size : length c.as_slice.result.now ≡ place = ap (λ l. length l) c.as_slice.ensures.value ∙ c.loop-place.invariant.0 in
    λ child e.
    let P = λ (kept : List Rolled). IsKnown (place_at s.places.now child) kept c.as_slice.result.now child in
    subst P (sym c.values.ensures.values)
    (knows bill s.owns.now s.kept.now s.of_owns.now s.places.now _ c.requires place low c.as_slice.result.now size child (subst (λ l. has_line l child ≡ true) lines e))

pub roll-requires-clause-order : goal.roll-requires-clause-order
roll-requires-clause-order g c =
    let bill = g.B.BillView.graph c.args.self.now.bill.now in
    let s = c.args.self.now in
    let nodes = s.places.now.nodes in
    let place = c.loop-place.place in
    let low : place < length nodes = omega (arith, c.loop-place-test.true, ap (λ l. length l) c.as_slice-node-items.ensures) in
    let own = own_with s.owns.now s.kept.now.owns in
    let lines = list_at bill s.owns.now s.kept.now s.of_owns.now s.places.now _ c.requires s.lists.now (λ l. l.now) place (record { ref_ptr = (0, 0); now = [] }) refl low in
    let before : (spot : ℕ) → spot < place → IsRolled bill.lines own (slice_index nodes spot) (rolled_at c.as_slice.result.now spot) = λ spot h.
    subst (λ l. IsRolled bill.lines own (slice_index nodes spot) (rolled_at l spot)) (sym c.as_slice.ensures.value) (c.loop-place.invariant.1 spot h) in
    λ child e.
    let P = λ (kept : List Rolled). Rises (hop_numbers (known (place_at s.places.now child) kept c.as_slice.result.now child).hops) in
    subst P (sym c.values.ensures.values)
    (below_order bill s.owns.now s.kept.now s.of_owns.now s.places.now _ c.requires place low c.as_slice.result.now before child (subst (λ l. has_line l child ≡ true) lines e))

pub roll-requires-clause-kept : goal.roll-requires-clause-kept
roll-requires-clause-kept g c =
    let node = slice_index c.as_slice-node-items.result.now c.loop-place.place in
    subst (λ (kept : List Rolled). Rises (hop_numbers (rolled_at kept node).hops)) (sym c.values.ensures.values) (c.values.ensures.order node)

pub returns-in_default-clause-refused : goal.returns-in_default-clause-refused
returns-in_default-clause-refused g c fit =
    let bill = g.B.BillView.graph c.args.self.now.bill.now in
    let s = c.args.self.now in
    let nodes = s.places.now.nodes in
    let place = c.loop-place.place in
    let low : place < length nodes = omega (arith, c.loop-place-test.true, ap (λ l. length l) c.as_slice-node-items.ensures) in
    let node = slice_index nodes place in
    let own = own_with s.owns.now s.kept.now.owns in
    let new : List RolledValues = c.as_slice.result.now in
    let list = (slice_index_or s.lists.now place (record { ref_ptr = (0, 0); now = [] })).now in
    let lines = list_at bill s.owns.now s.kept.now s.of_owns.now s.places.now _ c.requires s.lists.now (λ l. l.now) place (record { ref_ptr = (0, 0); now = [] }) refl low in
    let before : (spot : ℕ) → spot < place → IsRolled bill.lines own (slice_index nodes spot) (rolled_at new spot) = λ spot h.
    subst (λ l. IsRolled bill.lines own (slice_index nodes spot) (rolled_at l spot)) (sym c.as_slice.ensures.value) (c.loop-place.invariant.1 spot h) in
    let own_is : c.own-own.result.now ≡ own node = c.own-own.ensures ∙ ap (λ l. own (slice_index l place)) c.as_slice-node-items.ensures in
    let P : OwnValues → Type 0 = λ o. o.weight < 2 ^ 128 in
    let small : (own node).weight < 2 ^ 128 = subst P own_is c.in_ok-new.ensures.own in
    let weighs : List Rolled → OwnValues → List BillLine → Option ℕ = λ kept o l. weighed (λ child. Some (known (place_at s.places.now child) kept new child).weight) o.weight l in
    let weighs_so : option_map (λ values. values.weight) c.in_ok-new.field-0 ≡ weighs s.kept.now.rolled (own node) (lines_of_node bill.lines node) =
    c.in_ok-new.ensures.weight ∙ ap (λ k. weighs k c.own-own.result.now list) c.values.ensures.values ∙ ap (λ o. weighs s.kept.now.rolled o list) own_is ∙ ap (weighs s.kept.now.rolled (own node)) lines in
    let large = found_none bill s.owns.now s.kept.now s.of_owns.now s.places.now _ c.requires place low new before c.loop-place.invariant.2 small (ap (option_map (λ values. values.weight)) (sym c.in_default.is) ∙ weighs_so) in
    let light = fit node (inside bill s.owns.now s.kept.now s.of_owns.now s.places.now _ c.requires node (has_at nodes place low)) in
    omega (arith, large, light)

pub loop-place-preserved : goal.loop-place-preserved
loop-place-preserved g c =
    let bill = g.B.BillView.graph c.args.self.now.bill.now in
    let s = c.args.self.now in
    let nodes = s.places.now.nodes in
    let place = c.loop-place.place in
    let low : place < length nodes = omega (arith, c.loop-place-test.true, ap (λ l. length l) c.as_slice-node-items.ensures) in
    let node = slice_index nodes place in
    let own = own_with s.owns.now s.kept.now.owns in
    let new : List RolledValues = c.as_slice.result.now in
    let list = (slice_index_or s.lists.now place (record { ref_ptr = (0, 0); now = [] })).now in
    let lines = list_at bill s.owns.now s.kept.now s.of_owns.now s.places.now _ c.requires s.lists.now (λ l. l.now) place (record { ref_ptr = (0, 0); now = [] }) refl low in
    let before : (spot : ℕ) → spot < place → IsRolled bill.lines own (slice_index nodes spot) (rolled_at new spot) = λ spot h.
    subst (λ l. IsRolled bill.lines own (slice_index nodes spot) (rolled_at l spot)) (sym c.as_slice.ensures.value) (c.loop-place.invariant.1 spot h) in
    let own_is : c.own-own.result.now ≡ own node = c.own-own.ensures ∙ ap (λ l. own (slice_index l place)) c.as_slice-node-items.ensures in
    let P : OwnValues → Type 0 = λ o. o.weight < 2 ^ 128 in
    let small : (own node).weight < 2 ^ 128 = subst P own_is c.in_ok-new.ensures.own in
    let weighs : List Rolled → OwnValues → List BillLine → Option ℕ = λ kept o l. weighed (λ child. Some (known (place_at s.places.now child) kept new child).weight) o.weight l in
    let weighs_so : option_map (λ values. values.weight) c.in_ok-new.field-0 ≡ weighs s.kept.now.rolled (own node) (lines_of_node bill.lines node) =
    c.in_ok-new.ensures.weight ∙ ap (λ k. weighs k c.own-own.result.now list) c.values.ensures.values ∙ ap (λ o. weighs s.kept.now.rolled o list) own_is ∙ ap (weighs s.kept.now.rolled (own node)) lines in
    let followed : (spot : ℕ) → spot < place → DoFollow c.loop-place.roller.changed (rolled_at s.kept.now.rolled (slice_index nodes spot)).hops (rolled_at new spot).hops = λ spot h.
    subst (λ l. DoFollow c.loop-place.roller.changed (rolled_at s.kept.now.rolled (slice_index nodes spot)).hops (rolled_at l spot).hops) (sym c.as_slice.ensures.value) (c.loop-place.invariant.5 spot h) in
    let hops_of : List Rolled → OwnValues → List BillLine → ℕ → List Hop → Type 0 = λ kept o l n found.
    AreNewHops (λ child. known (place_at s.places.now child) kept new child) o l c.is_given-is_given.result c.loop-place.roller.changed (rolled_at kept n).hops found in
    let hops : List Rolled → OwnValues → List BillLine → ℕ → Type 0 = λ kept o l n. hops_of kept o l n c.in-Some.new.hops in
    let found_hops : hops c.values.result.now c.own-own.result.now list (slice_index c.as_slice-node-items.result.now place) =
    subst (λ o. IfSome o (λ values. hops_of c.values.result.now c.own-own.result.now list (slice_index c.as_slice-node-items.result.now place) values.hops)) c.in-Some.is c.in_ok-new.ensures.hops in
    let node_is : slice_index c.as_slice-node-items.result.now place ≡ node = ap (λ l. slice_index l place) c.as_slice-node-items.ensures in
    let hops_so : hops s.kept.now.rolled (own node) (lines_of_node bill.lines node) node =
    subst (hops s.kept.now.rolled (own node) (lines_of_node bill.lines node)) node_is
    (subst (λ l. hops s.kept.now.rolled (own node) l (slice_index c.as_slice-node-items.result.now place)) lines
    (subst (λ o. hops s.kept.now.rolled o list (slice_index c.as_slice-node-items.result.now place)) own_is
    (subst (λ k. hops k c.own-own.result.now list (slice_index c.as_slice-node-items.result.now place)) c.values.ensures.values found_hops))) in
    let loads : List Rolled → OwnValues → List BillLine → List Load = λ kept o l. all_loads (λ child. known (place_at s.places.now child) kept new child) o.loads l in
    let found_loads : c.in-Some.new.loads ≡ loads c.values.result.now c.own-own.result.now list =
    subst (λ o. IfSome o (λ values. values.loads ≡ loads c.values.result.now c.own-own.result.now list)) c.in-Some.is c.in_ok-new.ensures.loads in
    let loads_so : c.in-Some.new.loads ≡ loads s.kept.now.rolled (own node) (lines_of_node bill.lines node) =
    found_loads ∙ ap (λ k. loads k c.own-own.result.now list) c.values.ensures.values ∙ ap (λ o. loads s.kept.now.rolled o list) own_is ∙ ap (loads s.kept.now.rolled (own node)) lines in
    let none : c.is_given-is_given.result ≡ false → has_node (nodes_of_owns s.owns.now) node ≡ false = λ e. ap (has_node (nodes_of_owns s.owns.now)) (sym node_is) ∙ sym c.is_given-is_given.ensures ∙ e in
    let right = found_values bill s.owns.now s.kept.now s.of_owns.now s.places.now _ c.requires place low new before c.loop-place.invariant.2 small c.loop-place.roller.changed followed c.in-Some.new c.is_given-is_given.result none
    (ap (option_map (λ values. values.weight)) (sym c.in-Some.is) ∙ weighs_so) hops_so loads_so in
    let sum = c.with_hops-marks.ensures ∙ ap (λ l. c.loop-place.marks + cond (length l == 0) 0 (length c.in-Some.new.hops)) lines in
    let more = more_marks bill s.owns.now s.kept.now s.of_owns.now s.places.now _ c.requires place low c.in-Some.new right.1 in
    let follows_in : List Rolled → ℕ → Type 0 = λ kept n. DoFollow c.roll.new.self.changed (rolled_at kept n).hops c.in-Some.new.hops in
    let found_follows : follows_in c.values.result.now (slice_index c.as_slice-node-items.result.now place) =
    subst (λ o. IfSome o (λ values. DoFollow c.roll.new.self.changed (rolled_at c.values.result.now (slice_index c.as_slice-node-items.result.now place)).hops values.hops)) c.in-Some.is c.in_ok-new.ensures.follows in
    let follows : follows_in s.kept.now.rolled node =
    subst (follows_in s.kept.now.rolled) node_is (subst (λ k. follows_in k (slice_index c.as_slice-node-items.result.now place)) c.values.ensures.values found_follows) in
    let items = c.in_ok-push.ensures.items in (
      ap (λ l. length l) items ∙ length_push c.loop-place.rolled.items c.in-Some.new ∙ ap (λ n. n + 1) c.loop-place.invariant.0,
      each_pushed c.loop-place.rolled.items c.in-Some.new _ items place c.loop-place.invariant.0 (λ n values. IsRolled bill.lines own (slice_index nodes n) values) c.loop-place.invariant.1 right.1,
      λ spot h.
          elim (cases_lt spot place) [
            | inl earlier ↦ c.loop-place.invariant.2 spot earlier
            | inr last ↦ let same : place ≡ spot = omega arith in subst (λ n. weight bill.lines own (slice_index nodes n) < 2 ^ 128) same right.0
          ],
      sum ∙ ap (λ n. n + cond (length (lines_of_node bill.lines node) == 0) 0 (length c.in-Some.new.hops)) c.loop-place.invariant.3 ∙ sym more,
      omega (arith, c.if-marks-gt-MARK_LIMIT.false),
      each_pushed c.loop-place.rolled.items c.in-Some.new _ items place c.loop-place.invariant.0
          (λ n values. DoFollow c.roll.new.self.changed (rolled_at s.kept.now.rolled (slice_index nodes n)).hops values.hops)
          (λ spot h mark steady. c.loop-place.invariant.5 spot h mark (c.roll.ensures.grows mark steady)) follows,
    )

pub returns-then-marks-gt-MARK_LIMIT-clause-refused : goal.returns-then-marks-gt-MARK_LIMIT-clause-refused
returns-then-marks-gt-MARK_LIMIT-clause-refused g c fit =
    let bill = g.B.BillView.graph c.args.self.now.bill.now in
    let s = c.args.self.now in
    let nodes = s.places.now.nodes in
    let place = c.loop-place.place in
    let low : place < length nodes = omega (arith, c.loop-place-test.true, ap (λ l. length l) c.as_slice-node-items.ensures) in
    let node = slice_index nodes place in
    let own = own_with s.owns.now s.kept.now.owns in
    let new : List RolledValues = c.as_slice.result.now in
    let list = (slice_index_or s.lists.now place (record { ref_ptr = (0, 0); now = [] })).now in
    let lines = list_at bill s.owns.now s.kept.now s.of_owns.now s.places.now _ c.requires s.lists.now (λ l. l.now) place (record { ref_ptr = (0, 0); now = [] }) refl low in
    let before : (spot : ℕ) → spot < place → IsRolled bill.lines own (slice_index nodes spot) (rolled_at new spot) = λ spot h.
    subst (λ l. IsRolled bill.lines own (slice_index nodes spot) (rolled_at l spot)) (sym c.as_slice.ensures.value) (c.loop-place.invariant.1 spot h) in
    let own_is : c.own-own.result.now ≡ own node = c.own-own.ensures ∙ ap (λ l. own (slice_index l place)) c.as_slice-node-items.ensures in
    let P : OwnValues → Type 0 = λ o. o.weight < 2 ^ 128 in
    let small : (own node).weight < 2 ^ 128 = subst P own_is c.in_ok-new.ensures.own in
    let weighs : List Rolled → OwnValues → List BillLine → Option ℕ = λ kept o l. weighed (λ child. Some (known (place_at s.places.now child) kept new child).weight) o.weight l in
    let weighs_so : option_map (λ values. values.weight) c.in_ok-new.field-0 ≡ weighs s.kept.now.rolled (own node) (lines_of_node bill.lines node) =
    c.in_ok-new.ensures.weight ∙ ap (λ k. weighs k c.own-own.result.now list) c.values.ensures.values ∙ ap (λ o. weighs s.kept.now.rolled o list) own_is ∙ ap (weighs s.kept.now.rolled (own node)) lines in
    let followed : (spot : ℕ) → spot < place → DoFollow c.loop-place.roller.changed (rolled_at s.kept.now.rolled (slice_index nodes spot)).hops (rolled_at new spot).hops = λ spot h.
    subst (λ l. DoFollow c.loop-place.roller.changed (rolled_at s.kept.now.rolled (slice_index nodes spot)).hops (rolled_at l spot).hops) (sym c.as_slice.ensures.value) (c.loop-place.invariant.5 spot h) in
    let hops_of : List Rolled → OwnValues → List BillLine → ℕ → List Hop → Type 0 = λ kept o l n found.
    AreNewHops (λ child. known (place_at s.places.now child) kept new child) o l c.is_given-is_given.result c.loop-place.roller.changed (rolled_at kept n).hops found in
    let hops : List Rolled → OwnValues → List BillLine → ℕ → Type 0 = λ kept o l n. hops_of kept o l n c.in-Some.new.hops in
    let found_hops : hops c.values.result.now c.own-own.result.now list (slice_index c.as_slice-node-items.result.now place) =
    subst (λ o. IfSome o (λ values. hops_of c.values.result.now c.own-own.result.now list (slice_index c.as_slice-node-items.result.now place) values.hops)) c.in-Some.is c.in_ok-new.ensures.hops in
    let node_is : slice_index c.as_slice-node-items.result.now place ≡ node = ap (λ l. slice_index l place) c.as_slice-node-items.ensures in
    let hops_so : hops s.kept.now.rolled (own node) (lines_of_node bill.lines node) node =
    subst (hops s.kept.now.rolled (own node) (lines_of_node bill.lines node)) node_is
    (subst (λ l. hops s.kept.now.rolled (own node) l (slice_index c.as_slice-node-items.result.now place)) lines
    (subst (λ o. hops s.kept.now.rolled o list (slice_index c.as_slice-node-items.result.now place)) own_is
    (subst (λ k. hops k c.own-own.result.now list (slice_index c.as_slice-node-items.result.now place)) c.values.ensures.values found_hops))) in
    let loads : List Rolled → OwnValues → List BillLine → List Load = λ kept o l. all_loads (λ child. known (place_at s.places.now child) kept new child) o.loads l in
    let found_loads : c.in-Some.new.loads ≡ loads c.values.result.now c.own-own.result.now list =
    subst (λ o. IfSome o (λ values. values.loads ≡ loads c.values.result.now c.own-own.result.now list)) c.in-Some.is c.in_ok-new.ensures.loads in
    let loads_so : c.in-Some.new.loads ≡ loads s.kept.now.rolled (own node) (lines_of_node bill.lines node) =
    found_loads ∙ ap (λ k. loads k c.own-own.result.now list) c.values.ensures.values ∙ ap (λ o. loads s.kept.now.rolled o list) own_is ∙ ap (loads s.kept.now.rolled (own node)) lines in
    let none : c.is_given-is_given.result ≡ false → has_node (nodes_of_owns s.owns.now) node ≡ false = λ e. ap (has_node (nodes_of_owns s.owns.now)) (sym node_is) ∙ sym c.is_given-is_given.ensures ∙ e in
    let right = found_values bill s.owns.now s.kept.now s.of_owns.now s.places.now _ c.requires place low new before c.loop-place.invariant.2 small c.loop-place.roller.changed followed c.in-Some.new c.is_given-is_given.result none
    (ap (option_map (λ values. values.weight)) (sym c.in-Some.is) ∙ weighs_so) hops_so loads_so in
    let sum = c.with_hops-marks.ensures ∙ ap (λ l. c.loop-place.marks + cond (length l == 0) 0 (length c.in-Some.new.hops)) lines in
    let more = more_marks bill s.owns.now s.kept.now s.of_owns.now s.places.now _ c.requires place low c.in-Some.new right.1 in
    let all = some_marks bill s.owns.now s.kept.now s.of_owns.now s.places.now _ c.requires (place + 1) in
    omega (arith, sum, more, all, c.if-marks-gt-MARK_LIMIT.true, c.loop-place.invariant.3)

pub returns-clause-fit : goal.returns-clause-fit
returns-clause-fit g c =
    let bill = g.B.BillView.graph c.args.self.now.bill.now in
    let s = c.args.self.now in
    let size = ap (λ l. length l) c.as_slice-node-items.ensures in
    let all : c.loop-place.place ≡ length s.places.now.nodes = omega (arith, c.loop-place-test.false, c.loop-place.auto.place-end, size) in
    first_of_all bill s.owns.now s.kept.now s.of_owns.now s.places.now _ c.requires None (λ spot h. c.loop-place.invariant.2 spot (omega (arith, all, h)))
