-- What rolls up in the bill is what rolls up in the tables.
use Rattle.std.proofs.Common.{◌≡◌, ℕ, zero, suc, ◌*◌, ◌<◌, Bool, true, false, cond, ◌==◌, ◌||◌, List, [], ◌∷◌, length, find, map, sum_by, Some, option_map, refl, sym, ap, ◌∙◌, inl, inr, arith}
use Rattle.std.specs.List.{AllByRecursion, list_any}
use Rattle.std.proofs.lemmas.Bool.{both_ways, cases_Bool, eq-eqb, eqb-true, false_from_ne_true}
use Rattle.std.proofs.lemmas.List.Sums.{sum_by-cons}
use Rattle.desk_text.specs.Code.{same_code}
use Rattle.desk_graph.specs.declared.line.BillLine.{BillLine}
use Rattle.desk_graph.specs.Bill.{IsBillGraph as IsGraph}
use Rattle.desk_graph.specs.Graph.{Graph, label_of, lines_of_node as node_lines}
use Rattle.desk_graph.specs.Reaches.{Falls, is_node_or_reaches as node_is_or_reaches, node_reaches, node_reaches_within as node_within}
use Rattle.desk_rollup.proofs.Lists.{any_same, each_as, each_line, sum_same}
use Rattle.desk_rollup.proofs.Ranked.{by_children, gathered_has, goes_up, rolled-step as node_rolled-step}
use Rattle.desk_rollup.specs.Numbers.{has, mark_numbers}
use Rattle.desk_rollup.specs.Rolled.{mark_numbers_below, node_rolled}
use Rattle.desk_rollup.specs.Values.{OwnValues}
use Rattle.desk_model.specs.Lists.{IsOrdered, Lists}
use Rattle.desk_model.proofs.Elements.{any-map}
use Rattle.desk_model.proofs.Kept.{same_code-from, same_code-true}
use Rattle.desk_findings.specs.Bill.{IsBill}
use Rattle.desk_findings.specs.Findings.{Finding, findings_at, own_findings}
use Rattle.desk_findings.specs.Reaches.{is_or_reaches, lines_of, reaches}
use Rattle.desk_findings.specs.Rolled.{rolled}
use Rattle.desk_findings.proofs.Bill.{has_parents, reaches-step, rolled-step}
use Rattle.desk_findings.proofs.Children.{parents_kept}
use Rattle.desk_findings.specs.Bill.{IsRight}
use Rattle.desk_findings.specs.Numbering.{has_numbered}
use Rattle.desk_bridge.specs.Bridge.{IsBridge}
use Rattle.desk_bridge.specs.RollUps.{AreOwnMarks}
use Rattle.desk_bridge.proofs.Bridges.{ends_alike}
use Rattle.desk_findings.proofs.Numbering.{any_by_lines}

pub sum_by-map : {X Y : Type 0} (f : Y → ℕ) (g : X → Y) (xs : List X) → sum_by f (map g xs) ≡ sum_by (λ x. f (g x)) xs
sum_by-map f g [] = refl
sum_by-map f g (x ∷ xs) = omega (arith, sum_by-cons f (g x) (map g xs), sum_by-cons (λ y. f (g y)) x xs, sum_by-map f g xs)

pub find-map : {X Y : Type 0} (q : Y → Bool) (f : X → Y) (xs : List X) → option_map f (find (λ x. q (f x)) xs) ≡ find q (map f xs)
find-map q f [] = refl
find-map q f (x ∷ xs) = elim (q (f x)) as (λ b. option_map f (cond b (Some x) (find (λ y. q (f y)) xs)) ≡ cond b (Some (f x)) (find q (map f xs))) [ true ↦ refl | false ↦ find-map q f xs ]

map-map : {X Y Z : Type 0} (f : X → Y) (g : Y → Z) (xs : List X) → map g (map f xs) ≡ map (λ x. g (f x)) xs
map-map f g [] = refl
map-map f g (x ∷ xs) = ap (λ rest. g (f x) ∷ rest) (map-map f g xs)

-- labels differ
pub labels_differ : (g : Graph) → IsGraph g → (node target : ℕ) → node < length g.labels → target < length g.labels → (node == target) ≡ same_code (label_of g.labels node) (label_of g.labels target)
labels_differ g bill node target inside there =
    elim (cases_Bool (node == target)) [
      | inl same ↦ same ∙ sym (same_code-from (label_of g.labels node) (label_of g.labels target) (ap (label_of g.labels) (eqb-true node target same)))
      | inr other ↦
          other
          ∙ sym (false_from_ne_true (same_code (label_of g.labels node) (label_of g.labels target)) (λ same.
          both_ways (node == target) other (eq-eqb node target (bill.unique node target inside there (same_code-true (label_of g.labels node) (label_of g.labels target) same)))))
    ]

module _ (t : Lists) (right : IsRight t) (g : Graph) (bridge : IsBridge t g) where
  pub bill : IsBill t
  bill = record { parents = parents_kept t right.children; acyclic = right.acyclic }

  abbrev rank : ℕ → ℕ
  rank = bridge.bill.ranked.0

  abbrev ranked : Falls g.lines bridge.bill.ranked.0
  ranked = bridge.bill.ranked.1

  abbrev code_of : ℕ → List ℕ
  code_of node = label_of g.labels node

  -- what holds of a node where it holds of its children holds of every node of the bill
  pub nodes_up : (P : ℕ → Type 0) → ((node : ℕ) → node < length g.labels → AllByRecursion (λ line. P line.node) (node_lines g.lines node) → P node) → (node : ℕ) → node < length g.labels → P node
  nodes_up P step =
      goes_up g.lines bridge.bill.ranked.0 bridge.bill.ranked.1 (λ node. node < length g.labels → P node)
      (λ node below inside. step node inside (each_line P (node_lines g.lines node) (λ child line. below child line (bridge.bill.children node child line))))

  -- sums, tests and searches over the lines of a node, by its code
  sum_lines : (h : List ℕ → ℕ) (node : ℕ) → node < length g.labels → sum_by (λ line. line.count * h (code_of line.node)) (node_lines g.lines node) ≡ sum_by (λ line. line.count * h line.child) (lines_of t.lines (code_of node))
  sum_lines h node inside =
      sym (sum_by-map (λ end. end.1 * h end.0) (λ line. (code_of line.node, line.count)) (node_lines g.lines node))
      ∙ ap (sum_by (λ end. end.1 * h end.0)) (ends_alike t g bridge node inside)
      ∙ sum_by-map (λ end. end.1 * h end.0) (λ line. (line.child, line.count)) (lines_of t.lines (code_of node))

  pub children_are : (node : ℕ) → node < length g.labels → map (λ line. code_of line.node) (node_lines g.lines node) ≡ map (λ line. line.child) (lines_of t.lines (code_of node))
  children_are node inside =
      sym (map-map (λ line. (code_of line.node, line.count)) (λ end. end.0) (node_lines g.lines node))
      ∙ ap (map (λ end. end.0)) (ends_alike t g bridge node inside)
      ∙ map-map (λ line. (line.child, line.count)) (λ end. end.0) (lines_of t.lines (code_of node))

  pub any_lines : (p : List ℕ → Bool) (node : ℕ) → node < length g.labels → list_any (λ line. p (code_of line.node)) (node_lines g.lines node) ≡ list_any (λ line. p line.child) (lines_of t.lines (code_of node))
  any_lines p node inside =
      sym (any-map p (λ line. code_of line.node) (node_lines g.lines node))
      ∙ ap (list_any p) (children_are node inside)
      ∙ any-map p (λ line. line.child) (lines_of t.lines (code_of node))

  pub find_lines : (p : List ℕ → Bool) (node : ℕ) → node < length g.labels → option_map (λ line. code_of line.node) (find (λ line. p (code_of line.node)) (node_lines g.lines node)) ≡ option_map (λ line. line.child) (find (λ line. p line.child) (lines_of t.lines (code_of node)))
  find_lines p node inside =
      find-map p (λ line. code_of line.node) (node_lines g.lines node)
      ∙ ap (find p) (children_are node inside)
      ∙ sym (find-map p (λ line. line.child) (lines_of t.lines (code_of node)))

  -- what rolls up
  pub rolled_agree : (own : ℕ → ℕ) (have : List ℕ → ℕ) → ((node : ℕ) → node < length g.labels → own node ≡ have (code_of node)) → (node : ℕ) → node < length g.labels → node_rolled g.lines own node ≡ rolled t have (code_of node)
  rolled_agree own have same =
      nodes_up (λ node. node_rolled g.lines own node ≡ rolled t have (code_of node))
      (λ node inside below.
      let sums =
      sum_same (λ line. line.count * node_rolled g.lines own line.node) (λ line. line.count * rolled t have (code_of line.node)) (node_lines g.lines node)
      (each_as (λ line. node_rolled g.lines own line.node ≡ rolled t have (code_of line.node)) (λ line. line.count * node_rolled g.lines own line.node ≡ line.count * rolled t have (code_of line.node)) (λ line e. ap (λ n. line.count * n) e) (node_lines g.lines node) below) in
      omega (arith, node_rolled-step g.lines bridge.bill.ranked.0 bridge.bill.ranked.1 own node, same node inside, sums, sum_lines (rolled t have) node inside, rolled-step t (has_parents t bill.parents) bill.acyclic have (code_of node)))

  -- what a node reaches, by its lines
  reach_suc : (target k node : ℕ) → node_within g.lines (suc k) node target ≡ list_any (λ line. line.node == target || node_within g.lines k line.node target) (node_lines g.lines node)
  unfolding node_within
  reach_suc target k node = refl

  reach_zero : (target node : ℕ) → node_lines g.lines node ≡ [] → node_within g.lines zero node target ≡ list_any (λ line. line.node == target || node_within g.lines zero line.node target) (node_lines g.lines node)
  unfolding node_within
  reach_zero target node none = rw none refl

  node_reaches-step : (target node : ℕ) → node_reaches g.lines node target ≡ list_any (λ line. node_is_or_reaches g.lines line.node target) (node_lines g.lines node)
  node_reaches-step target node =
      by_children g.lines bridge.bill.ranked.0 bridge.bill.ranked.1 (λ k n. node_within g.lines k n target) (λ n f. list_any (λ line. line.node == target || f line.node) (node_lines g.lines n)) (reach_suc target)
      (λ n f h same.
      any_same (λ line. line.node == target || f line.node) (λ line. line.node == target || h line.node) (node_lines g.lines n)
      (each_as (λ line. f line.node ≡ h line.node) (λ line. (line.node == target || f line.node) ≡ (line.node == target || h line.node)) (λ line e. ap (λ b. line.node == target || b) e) (node_lines g.lines n) (each_line (λ child. f child ≡ h child) (node_lines g.lines n) same)))
      (reach_zero target) node

  pub reached_agree : (target : ℕ) → target < length g.labels → (node : ℕ) → node < length g.labels → node_reaches g.lines node target ≡ reaches t (code_of node) (code_of target)
  reached_agree target there =
      nodes_up (λ node. node_reaches g.lines node target ≡ reaches t (code_of node) (code_of target))
      (λ node inside below.
      node_reaches-step target node
      ∙ any_same (λ line. node_is_or_reaches g.lines line.node target) (λ line. is_or_reaches t (code_of line.node) (code_of target)) (node_lines g.lines node)
      (each_two (λ line. line.node < length g.labels) (λ line. node_reaches g.lines line.node target ≡ reaches t (code_of line.node) (code_of target)) (λ line. node_is_or_reaches g.lines line.node target ≡ is_or_reaches t (code_of line.node) (code_of target))
      (λ line at e. ap (λ b. b || node_reaches g.lines line.node target) (labels_differ g bridge.bill line.node target at there) ∙ ap (λ b. same_code (code_of line.node) (code_of target) || b) e)
      (node_lines g.lines node) (each_line (λ child. child < length g.labels) (node_lines g.lines node) (λ child line. bridge.bill.children node child line)) below)
      ∙ any_lines (λ code. is_or_reaches t code (code_of target)) node inside
      ∙ sym (reaches-step t (has_parents t bill.parents) (code_of target) (code_of node)))
    where
      each_two : (P Q R : BillLine → Type 0) → ((line : BillLine) → P line → Q line → R line) → (of_node : List BillLine) → AllByRecursion P of_node → AllByRecursion Q of_node → AllByRecursion R of_node
      each_two P Q R f [] p q = tt
      each_two P Q R f (line ∷ of_node) p q = (f line p.0 q.0, each_two P Q R f of_node p.1 q.1)

  -- marks are findings
  module _ (ordered : IsOrdered t) (number : Finding → ℕ) (own : ℕ → OwnValues) (owned : AreOwnMarks t g number own) where
    pub marked : (node : ℕ) → node < length g.labels → (n : ℕ) → has (mark_numbers_below g.lines own node) n ≡ has_numbered number (findings_at t (code_of node)) n
    marked =
        nodes_up (λ node. (n : ℕ) → has (mark_numbers_below g.lines own node) n ≡ has_numbered number (findings_at t (code_of node)) n)
        (λ node inside below n.
        gathered_has g.lines bridge.bill.ranked.0 bridge.bill.ranked.1 (λ m. mark_numbers (own m).marks) node n
        ∙ ap (λ b. b || list_any (λ line. has (mark_numbers_below g.lines own line.node) n) (node_lines g.lines node)) (owned node inside n)
        ∙ ap (λ b. has_numbered number (own_findings t (code_of node)) n || b)
        (any_same (λ line. has (mark_numbers_below g.lines own line.node) n) (λ line. has_numbered number (findings_at t (code_of line.node)) n) (node_lines g.lines node)
        (each_as (λ line. (m : ℕ) → has (mark_numbers_below g.lines own line.node) m ≡ has_numbered number (findings_at t (code_of line.node)) m) (λ line. has (mark_numbers_below g.lines own line.node) n ≡ has_numbered number (findings_at t (code_of line.node)) n) (λ line h. h n) (node_lines g.lines node) below)
        ∙ any_lines (λ code. has_numbered number (findings_at t code) n) node inside)
        ∙ sym (any_by_lines t ordered bill (λ finding. number finding == n) (code_of node)))
