-- Which nodes an edit affects, and that the roll-ups may be prepared.
use Rattle.std.proofs.Common.{◌≡◌, ℕ, ◌<◌, ◌≤◌, true, false, ◌==◌, List, [], ◌∷◌, length, find, Option, Some, None, is_some, unwrap_or, refl, sym, ap, ◌∙◌, subst, inl, inr, arith}
use Rattle.std.specs.List.{AllByRecursion}
use Rattle.std.proofs.lemmas.Bool.{cases_Bool, cases_lt, eqb-true, or_cases, true≢false}
use Rattle.desk_graph.specs.declared.line.BillLine.{BillLine}
use Rattle.desk_graph.specs.Graph.{Graph, label_of, lines_of_node as node_lines}
use Rattle.desk_graph.specs.Reaches.{has_node, is_node_affected as is_affected_node, is_node_or_reaches as node_is_or_reaches, node_reaches}
use Rattle.desk_graph.proofs.Reached.{any_node-out, same_test}
use Rattle.desk_rollup.proofs.Lists.{each_line, is_found}
use Rattle.desk_rollup.proofs.OneNode.{step_stays}
use Rattle.desk_rollup.specs.Plan.{CanPrepare, nodes_of_owns}
use Rattle.desk_rollup.specs.Values.{KeptValues, OwnValues, amount_of, own_at, own_with}
use Rattle.desk_model.specs.declared.edit.Edit.{Edit}
use Rattle.desk_model.specs.Effect.{with_edit_entered}
use Rattle.desk_model.specs.Lists.{Lists, is_kept}
use Rattle.desk_model.proofs.Elements.{any-map}
use Rattle.desk_findings.specs.Carried.{own_load}
use Rattle.desk_findings.specs.Findings.{Finding}
use Rattle.desk_findings.specs.Mass.{own_mass}
use Rattle.desk_findings.specs.Reaches.{lines_of}
use Rattle.desk_findings.proofs.Loads.{carried-le}
use Rattle.desk_history.specs.Affected.{is_affected}
use Rattle.desk_history.specs.Sound.{IsConsistent}
use Rattle.desk_history.proofs.SoundSteps.{IsConsistent-entered}
use Rattle.desk_history.proofs.AffectedAbove.{rises}
use Rattle.desk_findings.specs.Bill.{IsRight}
use Rattle.desk_findings.specs.Numbering.{has_numbered}
use Rattle.desk_bridge.specs.Bridge.{IsBridge}
use Rattle.desk_bridge.proofs.Bridges.{ends_alike, ends_at, ends_of, labels_of, right_tables}
use Rattle.desk_bridge.specs.AfterEdit.{AreOwnOf, IsEdited, IsOwnOf, KeepsOwn}
use Rattle.desk_bridge.proofs.RolledAlike.{reached_agree, rolled_agree}
use Rattle.desk_bridge.proofs.Hops.{label_kept}
use Rattle.desk_bridge.proofs.SeedNodes.{into_nodes}
use Rattle.desk_findings.proofs.Numbering.{label_place}

none_of : {X : Type 0} (o : Option X) → is_some o ≡ false → o ≡ None
none_of None e = refl
none_of (Some x) e = absurd (true≢false e)

-- the own values of a node that is given none
own_kept : (owns kept : List OwnValues) (node : ℕ) → has_node (nodes_of_owns owns) node ≡ false → own_with owns kept node ≡ own_at kept node
own_kept owns kept node e =
    ap (λ o. unwrap_or o (own_at kept node))
    (none_of (find (λ own. own.node == node) owns) (is_found (λ own. own.node == node) owns ∙ sym (any-map (λ other. other == node) (λ own. own.node) owns) ∙ e))

-- lines with the same ends are the same
module _ (labels new : List (List ℕ)) (grown : length labels ≤ length new) (stay : (node : ℕ) → node < length labels → label_of new node ≡ label_of labels node)
    (unique : (a b : ℕ) → a < length new → b < length new → label_of new a ≡ label_of new b → a ≡ b) where
  one_line : (x y : BillLine) → x.node ≡ y.node → x.count ≡ y.count → x ≡ y
  one_line x y n c = λ i. record { node = n i; count = c i }

  first_same : {X : Type 0} (x y : X) (xs ys : List X) → (x ∷ xs) ≡ (y ∷ ys) → x ≡ y
  first_same x y xs ys e = cc

  rest_same : {X : Type 0} (x y : X) (xs ys : List X) → (x ∷ xs) ≡ (y ∷ ys) → xs ≡ ys
  rest_same x y xs ys e = cc

  none_some : {X : Type 0} (x : X) (xs : List X) {G : Type 0} → [] ≡ (x ∷ xs) → G
  none_some x xs e = cc

  some_none : {X : Type 0} (x : X) (xs : List X) {G : Type 0} → (x ∷ xs) ≡ [] → G
  some_none x xs e = cc

  same_lines : (xs ys : List BillLine) → AllByRecursion (λ line. line.node < length new) xs → AllByRecursion (λ line. line.node < length labels) ys → ends_at new xs ≡ ends_at labels ys → xs ≡ ys
  same_lines [] [] a b e = refl
  same_lines [] (y ∷ ys) a b e = none_some (label_of labels y.node, y.count) (ends_at labels ys) e
  same_lines (x ∷ xs) [] a b e = some_none (label_of new x.node, x.count) (ends_at new xs) e
  same_lines (x ∷ xs) (y ∷ ys) a b e =
      let first : (label_of new x.node, x.count) ≡ (label_of labels y.node, y.count) = first_same (label_of new x.node, x.count) (label_of labels y.node, y.count) (ends_at new xs) (ends_at labels ys) e in
      let rest : xs ≡ ys = same_lines xs ys a.1 b.1 (rest_same (label_of new x.node, x.count) (label_of labels y.node, y.count) (ends_at new xs) (ends_at labels ys) e) in
      let inside : y.node < length new = omega (arith, b.0, grown) in
      let node : x.node ≡ y.node = unique x.node y.node a.0 inside (ap (λ end. end.0) first ∙ sym (stay y.node b.0)) in
      let line : x ≡ y = one_line x y node (ap (λ end. end.1) first) in
      λ i. line i ∷ rest i

-- a kept code is the label of some node
pub node_of : (t : Lists) (g : Graph) → IsBridge t g → (code : List ℕ) → is_kept t code ≡ true → (node : ℕ) × (node < length g.labels) × (label_of g.labels node ≡ code)
node_of t g bridge code kept = label_place t g.labels (labels_of t g bridge) code kept

module _ (t : Lists) (edit : Edit) (g new : Graph) (kept : KeptValues) (owns : List OwnValues) (edited : IsEdited t edit g new kept owns) where
  abbrev u : Lists
  u = with_edit_entered t edit

  pub after_consistent : IsConsistent (with_edit_entered t edit)
  after_consistent = IsConsistent-entered t edit edited.consistent edited.passes

  after_right : IsRight (with_edit_entered t edit)
  after_right = right_tables (with_edit_entered t edit) after_consistent

  pub affected_agree : (node : ℕ) → node < length new.labels → is_affected_node new.lines (nodes_of_owns owns) node ≡ is_affected t edit (label_of new.labels node)
  affected_agree node inside =
      same_test (is_affected_node new.lines (nodes_of_owns owns) node) (is_affected t edit (label_of new.labels node))
      (λ e.
      let found = any_node-out (λ seed. node_is_or_reaches new.lines node seed) (nodes_of_owns owns) e in
      let at = edited.renewed.inside found.0 found.1 in
      let seed : is_affected t edit (label_of new.labels found.0) ≡ true = edited.renewed.affected found.0 found.1 in
      elim (or_cases (node == found.0) (node_reaches new.lines node found.0) found.2) [
        | inl here ↦ subst (λ n. is_affected t edit (label_of new.labels n) ≡ true) (sym (eqb-true node found.0 here)) seed
        | inr there ↦
            rises t edit after_consistent (label_of new.labels node) (label_of new.labels found.0)
            (sym (reached_agree (with_edit_entered t edit) after_right new edited.after found.0 at node inside) ∙ there) seed
      ])
      (into_nodes t edit after_consistent new edited.after edited.passes.is_new (nodes_of_owns owns) edited.renewed.seeds node inside)

  -- what stays at a node that gets no own values
  module _ (node : ℕ) (inside : node < length new.labels) (other : has_node (nodes_of_owns owns) node ≡ false) where
    stay : KeepsOwn t edit (label_of new.labels node)
    stay = edited.renewed.others node inside other

    -- its code was kept before, and so it was a node
    old : node < length g.labels
    old =
        elim (cases_lt node (length g.labels)) [
          | inl before ↦ before
          | inr past ↦
              let was : is_kept t (label_of new.labels node) ≡ true = sym stay.kept ∙ label_kept (with_edit_entered t edit) after_right new edited.after node inside in
              let found = node_of t g edited.before (label_of new.labels node) was in
              let same : label_of new.labels found.0 ≡ label_of new.labels node = edited.labels found.0 found.1 ∙ found.2 in
              let one = edited.after.bill.unique found.0 node (omega (arith, found.1, edited.nodes)) inside same in
              absurd (omega (arith, one, found.1, past))
        ]

    lines_same : node_lines new.lines node ≡ node_lines g.lines node
    lines_same =
        same_lines g.labels new.labels edited.nodes edited.labels edited.after.bill.unique (node_lines new.lines node) (node_lines g.lines node)
        (each_line (λ child. child < length new.labels) (node_lines new.lines node) (λ child line. edited.after.bill.children node child line))
        (each_line (λ child. child < length g.labels) (node_lines g.lines node) (λ child line. edited.before.bill.children node child line))
        (ends_alike (with_edit_entered t edit) new edited.after node inside
        ∙ ap ends_of stay.lines
        ∙ ap (λ code. ends_of (lines_of t.lines code)) (edited.labels node old)
        ∙ sym (ends_alike t g edited.before node old))

    own_stays : (number : Finding → ℕ) (name : ℕ → List ℕ) → AreOwnOf t g number name (own_at kept.owns) → IsOwnOf (with_edit_entered t edit) number name (label_of new.labels node) (own_with owns kept.owns node)
    own_stays number name own =
        let was = own node old in
        let here : IsOwnOf t number name (label_of new.labels node) (own_at kept.owns node) = subst (λ code. IsOwnOf t number name code (own_at kept.owns node)) (sym (edited.labels node old)) was in
        subst (IsOwnOf (with_edit_entered t edit) number name (label_of new.labels node)) (sym (own_kept owns kept.owns node other))
        (record {
          weight = here.weight ∙ sym stay.masses;
          marks = λ n. here.marks n ∙ ap (λ found. has_numbered number found n) (sym stay.found);
          loads = λ n. here.loads n ∙ sym (stay.loads (name n));
        })

  pub owns_after : (number : Finding → ℕ) (name : ℕ → List ℕ) → AreOwnOf t g number name (own_at kept.owns) →
      ((node : ℕ) → has_node (nodes_of_owns owns) node ≡ true → IsOwnOf (with_edit_entered t edit) number name (label_of new.labels node) (own_with owns kept.owns node)) →
      AreOwnOf (with_edit_entered t edit) new number name (own_with owns kept.owns)
  owns_after number name own given node inside =
      elim (cases_Bool (has_node (nodes_of_owns owns) node)) [
        | inl here ↦ given node here
        | inr other ↦ own_stays node inside other number name own
      ]

  pub can_prepare : (number : Finding → ℕ) (name : ℕ → List ℕ) → AreOwnOf (with_edit_entered t edit) new number name (own_with owns kept.owns) → CanPrepare new owns kept
  can_prepare number name own = record {
    distinct = edited.renewed.distinct;
    nodes = edited.renewed.inside;
    kept_nodes = omega (arith, edited.rolled.rolled_size, edited.nodes);
    new_nodes = λ node past inside.
        elim (cases_Bool (has_node (nodes_of_owns owns) node)) [
          | inl here ↦ here
          | inr other ↦ absurd (omega (arith, old node inside other, past, edited.rolled.rolled_size))
        ];
    steps = λ node there other.
        let inside : node < length new.labels = omega (arith, there, edited.rolled.rolled_size, edited.nodes) in
        step_stays g edited.before.bill kept edited.rolled new.lines node there (lines_same node inside other);
    lighter = λ node what inside.
        let carries = rolled_agree (with_edit_entered t edit) after_right new edited.after (λ n. amount_of (own_with owns kept.owns n).loads what) (own_load (with_edit_entered t edit) (name what)) (λ n at. (own n at).loads what) node inside in
        let weighs = rolled_agree (with_edit_entered t edit) after_right new edited.after (λ n. (own_with owns kept.owns n).weight) (own_mass (with_edit_entered t edit)) (λ n at. (own n at).weight) node inside in
        omega (arith, carries, weighs, carried-le (with_edit_entered t edit) after_right.children after_right.apart after_consistent.contents_fit after_right.acyclic (name what) (label_of new.labels node));
  }
