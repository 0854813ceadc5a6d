-- What a bill keeps after a planned change of a line, and with new nodes.
use Rattle.std.proofs.Common.{◌≡◌, ℕ, zero, suc, ◌+◌, ◌-◌, ◌<◌, ◌≤◌, true, false, ◌==◌, List, [], ◌∷◌, ◌++◌, Option, Some, None, is_some, length, set, refl, sym, ap, ◌∙◌, subst, inl, inr, arith}
use Rattle.std.proofs.lemmas.Bool.{cases_eq, eqb-true, false_from_ne_true, ne_eqb, or_cases, or_parts}
use Rattle.std.proofs.lemmas.List.{append_assoc, append-nil, length-set, length_push}
use Rattle.desk_graph.specs.declared.line.BillLine.{BillLine}
use Rattle.desk_graph.specs.declared.bill_plan.LineChange.{LineChange}
use Rattle.desk_graph.specs.Graph.{AreUsers, Graph, IsByLabel, count_at, has_line, is_line_between, line_count, lines_of_node}
use Rattle.desk_graph.specs.Edits.{is_taken, with_line_of_node, with_node, without_line_of_node}
use Rattle.desk_graph.specs.Order.{AreBothEnds, HasMadeWay, IsInOrder}
use Rattle.desk_graph.specs.Plan.{IsLinePlan, Planned}
use Rattle.desk_graph.specs.Planned.{AreFree, BillEdit, HasMadeWayFor, IsBillPlan, IsChange, IsChangeOf, changed_lines, changed_users, graph_after, with_empty, with_next, with_nodes}
use Rattle.desk_graph.specs.Reaches.{Falls, longest_node_chain, is_node_or_reaches, node_reaches}
use Rattle.desk_graph.proofs.Ends.{has-count, lines_of-more, lines_of-other, lines_of-same, with-other, without-other}
use Rattle.desk_graph.proofs.Kept.{bill_falls, child_there, count-set, ends-more, length-without, users-without}
use Rattle.desk_graph.proofs.Labels.{by_label-without}
use Rattle.desk_graph.proofs.Reached.{lower_within}
use Rattle.desk_graph.proofs.Ordered.{AddsLine, in_order-more, in_order-with}

module _ (labels : List (List ℕ)) (lines users : List (List BillLine)) (ends : AreBothEnds labels lines users) (change : LineChange) (good : IsChange (record { labels = labels; lines = lines }) change) where
  abbrev new_lines : List (List BillLine)
  new_lines = set lines change.parent change.lines

  at_parent : lines_of_node new_lines change.parent ≡ change.lines
  at_parent = lines_of-same lines change.parent change.lines (omega (arith, good.parent_there, ends.lines_size))

  at_other : (node : ℕ) → (node ≡ change.parent → ⊥) → lines_of_node new_lines node ≡ lines_of_node lines node
  at_other node other = lines_of-other lines change.parent node change.lines other

  by_label-changed : (node : ℕ) → IsByLabel labels (lines_of_node new_lines node)
  by_label-changed node =
      elim (cases_eq node change.parent) [
        | inl same ↦ subst (λ n. IsByLabel labels (lines_of_node new_lines n)) (sym same) (subst (IsByLabel labels) (sym at_parent) good.by_label)
        | inr other ↦ subst (IsByLabel labels) (sym (at_other node other)) (ends.by_label node)
      ]

  other_users : (node : ℕ) → (node ≡ change.child → ⊥) → AreUsers new_lines node (lines_of_node users node)
  other_users node other user =
      ends.agree node user
      ∙ elim (cases_eq user change.parent) [
        | inl same ↦
            subst (λ n. count_at (lines_of_node lines n) node ≡ count_at (lines_of_node new_lines n) node) (sym same)
            (sym (ap (λ l. count_at l node) at_parent ∙ good.only node other))
        | inr away ↦ sym (ap (λ l. count_at l node) (at_other user away))
      ]

  -- both ends after the change
  pub ends-changed : AreBothEnds labels new_lines (set users change.child change.users)
  ends-changed =
      let same_list = lines_of-same users change.child change.users (omega (arith, good.child_there, ends.users_size)) in record {
        lines_size = length-set lines change.parent change.lines ∙ ends.lines_size;
        users_size = length-set users change.child change.users ∙ ends.users_size;
        agree = λ node.
            elim (cases_eq node change.child) [
              | inl same ↦ subst (λ n. AreUsers new_lines n (lines_of_node (set users change.child change.users) n)) (sym same) (subst (AreUsers new_lines change.child) (sym same_list) good.users)
              | inr other ↦ subst (AreUsers new_lines node) (sym (lines_of-other users change.child node change.users other)) (other_users node other)
            ];
        by_label = by_label-changed;
        by_user = λ node.
            elim (cases_eq node change.child) [
              | inl same ↦ subst (λ n. IsByLabel labels (lines_of_node (set users change.child change.users) n)) (sym same) (subst (IsByLabel labels) (sym same_list) good.by_user)
              | inr other ↦ subst (IsByLabel labels) (sym (lines_of-other users change.child node change.users other)) (ends.by_user node)
            ];
      }

  -- the line to the child is all that may be added
  adds-changed : AddsLine lines new_lines change.parent change.child
  unfolding AddsLine
  adds-changed x y e =
      elim (cases_eq x change.parent) [
        | inl same ↦
            elim (cases_eq y change.child) [
              | inl child ↦ inr (sym same, sym child)
              | inr other ↦
                  let at : has_line change.lines y ≡ true = subst (λ l. has_line l y ≡ true) at_parent (subst (λ n. has_line (lines_of_node new_lines n) y ≡ true) same e) in
                  let old : has_line (lines_of_node lines change.parent) y ≡ true = has-count (lines_of_node lines change.parent) y ∙ ap (λ c. is_some c) (sym (good.only y other)) ∙ sym (has-count change.lines y) ∙ at in
                  inl (subst (λ n. is_line_between lines n y ≡ true) (sym same) old)
            ]
        | inr other ↦ inl (subst (λ l. has_line l y ≡ true) (at_other x other) e)
      ]

  -- an order that made way
  pub in_order-changed : (order new_order : List ℕ) → IsInOrder lines order → HasMadeWay users change.parent change.child order new_order → IsInOrder new_lines new_order
  in_order-changed order new_order ordered way =
      in_order-with lines new_lines users order change.parent change.child ordered ends.agree (bill_falls labels lines users order ends ordered) adds-changed new_order (length-set lines change.parent change.lines) good.opens way

-- with new nodes
pub record StaysKept (labels : List (List ℕ)) (lines users : List (List BillLine)) (order : List ℕ) : Type 0 where
  pub ends : AreBothEnds labels lines users
  pub in_order : IsInOrder lines order

next-kept : (labels : List (List ℕ)) (lines users : List (List BillLine)) (order label : List ℕ) → StaysKept labels lines users order → StaysKept (labels ++ label ∷ []) (lines ++ [] ∷ []) (users ++ [] ∷ []) (order ++ length order ∷ [])
next-kept labels lines users order label h = record {
  ends = ends-more labels lines users h.ends label;
  in_order = in_order-more lines order h.in_order (λ parent child e. omega (arith, child_there labels lines users h.ends parent child e, h.ends.lines_size));
}

-- the labels that the new nodes bring
abbrev pub with_labels : List (List ℕ) → List (List ℕ) → List (List ℕ)
with_labels [] labels = labels
with_labels (label ∷ more) labels = with_labels more (labels ++ label ∷ [])

pub more-kept : (new labels : List (List ℕ)) (lines users : List (List BillLine)) (order : List ℕ) → StaysKept labels lines users order → StaysKept (with_labels new labels) (with_empty (length new) lines) (with_empty (length new) users) (with_next (length new) order)
more-kept [] labels lines users order h = h
more-kept (label ∷ new) labels lines users order h = more-kept new (labels ++ label ∷ []) (lines ++ [] ∷ []) (users ++ [] ∷ []) (order ++ length order ∷ []) (next-kept labels lines users order label h)

-- the graph with new nodes
pub with_nodes-is : (new : List (List ℕ)) (g : Graph) → with_nodes new g ≡ record { labels = with_labels new g.labels; lines = with_empty (length new) g.lines }
with_nodes-is [] g = refl
with_nodes-is (label ∷ new) g = with_nodes-is new (with_node label g)

-- new nodes have no lines
pub lines_of-empty : (more : ℕ) (lines : List (List BillLine)) (node : ℕ) → lines_of_node (with_empty more lines) node ≡ lines_of_node lines node
lines_of-empty zero lines node = refl
lines_of-empty (suc more) lines node = lines_of-empty more (lines ++ [] ∷ []) node ∙ lines_of-more lines node

pub length-empty : (more : ℕ) (lines : List (List BillLine)) → length (with_empty more lines) ≡ length lines + more
length-empty zero lines = omega arith
length-empty (suc more) lines = omega (arith, length-empty more (lines ++ [] ∷ []), length_push lines [])

pub length-labels : (new labels : List (List ℕ)) → length (with_labels new labels) ≡ length labels + length new
length-labels [] labels = omega arith
length-labels (label ∷ new) labels = omega (arith, length-labels new (labels ++ label ∷ []), length_push labels label)

-- a plan of a line is a change of it
pub planned_change : (labels : List (List ℕ)) (lines users : List (List BillLine)) (plan : Planned) → IsLinePlan (record { labels = labels; lines = lines }) plan → ((node : ℕ) → IsByLabel labels (lines_of_node (set lines plan.parent (with_line_of_node labels (record { node = plan.child; count = plan.count }) (lines_of_node lines plan.parent))) node)) → plan.parent < length lines → IsChange (record { labels = labels; lines = lines }) (record { parent = plan.parent; child = plan.child; lines = plan.lines; users = plan.users })
planned_change labels lines users plan good by_label low =
    let new : BillLine = record { node = plan.child; count = plan.count } in
    let with_it = with_line_of_node labels new (lines_of_node lines plan.parent) in
    record {
      parent_there = good.parent_there;
      child_there = good.child_there;
      opens = good.opens;
      fits = subst (λ l. line_count (set lines plan.parent l) ≤ 131072) (sym good.new_lines) good.fits;
      only = λ node other. ap (λ l. count_at l node) good.new_lines ∙ with-other new labels node (ne_eqb plan.child node (λ e. other (sym e))) (lines_of_node lines plan.parent);
      users = subst (λ l. AreUsers (set lines plan.parent l) plan.child plan.users) (sym good.new_lines) good.new_users;
      by_label = subst (IsByLabel labels) (lines_of-same lines plan.parent with_it low ∙ sym good.new_lines) (by_label plan.parent);
      by_user = good.by_user;
    }

-- the ends after a change, and with new nodes
pub changed-ends : (labels : List (List ℕ)) (lines users : List (List BillLine)) (line : Option LineChange) → AreBothEnds labels lines users → IsChangeOf (record { labels = labels; lines = lines }) line → AreBothEnds labels (changed_lines line lines) (changed_users line users)
changed-ends labels lines users None ends good = ends
changed-ends labels lines users (Some change) ends good = ends-changed labels lines users ends change good

pub more-ends : (new labels : List (List ℕ)) (lines users : List (List BillLine)) → AreBothEnds labels lines users → AreBothEnds (with_labels new labels) (with_empty (length new) lines) (with_empty (length new) users)
more-ends [] labels lines users ends = ends
more-ends (label ∷ new) labels lines users ends = more-ends new (labels ++ label ∷ []) (lines ++ [] ∷ []) (users ++ [] ∷ []) (ends-more labels lines users ends label)

-- what a bill keeps after a change for which way was made
pub changed-kept : (labels : List (List ℕ)) (lines users : List (List BillLine)) (order new : List ℕ) (line : Option LineChange) → AreBothEnds labels lines users → IsInOrder lines order → IsChangeOf (record { labels = labels; lines = lines }) line → HasMadeWayFor users line order new → StaysKept labels (changed_lines line lines) (changed_users line users) new
changed-kept labels lines users order new None ends ordered good way = record { ends = ends; in_order = subst (IsInOrder lines) (sym way) ordered }
changed-kept labels lines users order new (Some change) ends ordered good way = record {
  ends = ends-changed labels lines users ends change good;
  in_order = in_order-changed labels lines users ends change good order new ordered way;
}

-- the lines of a node after a plan
pub planned_lines_of : (edit : BillEdit) (g : Graph) (node : ℕ) → lines_of_node (graph_after edit g).lines node ≡ lines_of_node (changed_lines edit.line g.lines) node
planned_lines_of edit g node =
    ap (λ h. lines_of_node h.lines node) (with_nodes-is edit.labels (record { labels = g.labels; lines = changed_lines edit.line g.lines }))
    ∙ lines_of-empty (length edit.labels) (changed_lines edit.line g.lines) node

-- they stand in the order of their labels
pub planned_by_label : (edit : BillEdit) (labels : List (List ℕ)) (lines users : List (List BillLine)) → AreBothEnds labels lines users → IsBillPlan (record { labels = labels; lines = lines }) edit → (node : ℕ) → IsByLabel (graph_after edit (record { labels = labels; lines = lines })).labels (lines_of_node (graph_after edit (record { labels = labels; lines = lines })).lines node)
planned_by_label edit labels lines users ends good node =
    let after = more-ends edit.labels labels (changed_lines edit.line lines) (changed_users edit.line users) (changed-ends labels lines users edit.line ends good.line) in
    subst (λ h. IsByLabel h.labels (lines_of_node h.lines node)) (sym (with_nodes-is edit.labels (record { labels = labels; lines = changed_lines edit.line lines }))) (after.by_label node)

-- a child doesn't reach its parent
pub line_opens : (lines : List (List BillLine)) (rank : ℕ → ℕ) → Falls lines rank → (parent child : ℕ) → is_line_between lines parent child ≡ true → is_node_or_reaches lines child parent ≡ false
line_opens lines rank ranked parent child line =
    false_from_ne_true (is_node_or_reaches lines child parent) (λ e.
    let lower = ranked.falls parent child line in
    elim (or_cases (child == parent) (node_reaches lines child parent) e) [
      | inl same ↦ absurd (omega (arith, ap rank (eqb-true child parent same), lower))
      | inr reached ↦ absurd (omega (arith, lower_within lines rank ranked parent (longest_node_chain lines) child reached, lower))
    ])

-- a line that is dropped is a change
pub dropped_change : (labels : List (List ℕ)) (lines users : List (List BillLine)) (rank : ℕ → ℕ) (parent child : ℕ) → AreBothEnds labels lines users → Falls lines rank → line_count lines ≤ 131072 → parent < length labels → child < length labels → is_line_between lines parent child ≡ true →
    IsChange (record { labels = labels; lines = lines }) (record { parent = parent; child = child; lines = without_line_of_node child (lines_of_node lines parent); users = without_line_of_node parent (lines_of_node users child) })
dropped_change labels lines users rank parent child ends ranked fit low there line = record {
  parent_there = low;
  child_there = there;
  opens = line_opens lines rank ranked parent child line;
  fits = omega (arith, count-set lines parent (without_line_of_node child (lines_of_node lines parent)) (omega (arith, low, ends.lines_size)), length-without child (lines_of_node lines parent), fit);
  only = λ node other. without-other child node (ne_eqb child node (λ e. other (sym e))) (lines_of_node lines parent);
  users = users-without labels lines users ends parent child low there;
  by_label = by_label-without labels child (lines_of_node lines parent) (ends.by_label parent);
  by_user = by_label-without labels parent (lines_of_node users child) (ends.by_user child);
}

-- a line that isn't there changes nothing where it is dropped
none_dropped : (child : ℕ) (of_node : List BillLine) → has_line of_node child ≡ false → without_line_of_node child of_node ≡ of_node
none_dropped child [] e = refl
none_dropped child (line ∷ of_node) e =
    let parts = or_parts (line.node == child) (has_line of_node child) e in
    rw parts.0 (ap (λ rest. line ∷ rest) (none_dropped child of_node parts.1))

set_same : (lines : List (List BillLine)) (node : ℕ) → set lines node (lines_of_node lines node) ≡ lines
set_same [] node = refl
set_same (first ∷ lines) zero = refl
set_same (first ∷ lines) (suc node) = ap (λ rest. first ∷ rest) (set_same lines node)

pub nothing_dropped : (lines : List (List BillLine)) (parent child : ℕ) → is_line_between lines parent child ≡ false → lines ≡ set lines parent (without_line_of_node child (lines_of_node lines parent))
nothing_dropped lines parent child e = sym (ap (λ l. set lines parent l) (none_dropped child (lines_of_node lines parent) e) ∙ set_same lines parent)

-- the labels with new ones are the old ones and then the new ones
pub with_labels-is : (new labels : List (List ℕ)) → with_labels new labels ≡ labels ++ new
with_labels-is [] labels = sym (append-nil labels)
with_labels-is (label ∷ new) labels = with_labels-is new (labels ++ label ∷ []) ∙ append_assoc labels (label ∷ []) new

pub with_nodes-push : (new : List (List ℕ)) (label : List ℕ) (g : Graph) → with_nodes (new ++ label ∷ []) g ≡ with_node label (with_nodes new g)
with_nodes-push [] label g = refl
with_nodes-push (first ∷ new) label g = with_nodes-push new label (with_node first g)

pub free-push : (new labels : List (List ℕ)) (label : List ℕ) → AreFree new labels → is_taken (labels ++ new) label ≡ false → AreFree (new ++ label ∷ []) labels
free-push [] labels label free none = (ap (λ l. is_taken l label) (sym (append-nil labels)) ∙ none, tt)
free-push (first ∷ new) labels label free none = (free.0, free-push new (labels ++ first ∷ []) label free.1 (ap (λ l. is_taken l label) (append_assoc labels (first ∷ []) new) ∙ none))

-- one node fewer to come
pub next_step : (k more : ℕ) (order : List ℕ) → k < more → with_next (more - k) order ≡ with_next (more - (k + 1)) (order ++ length order ∷ [])
next_step k more order h =
    let one : more - k ≡ suc (more - (k + 1)) = omega (arith, h) in
    ap (λ n. with_next n order) one
