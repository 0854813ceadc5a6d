-- A sweep over the bill after a plan gives what is affected there, and what a plan of a new node says.
use Rattle.std.proofs.Common.{◌≡◌, ℕ, ◌+◌, ◌<◌, ◌≤◌, Bool, true, false, cond, ◌||◌, List, Ok, Err, filter, length, sym, ap, ◌∙◌, subst, arith}
use Rattle.std.specs.Prelude.{nat_le}
use Rattle.std.proofs.lemmas.Bool.{cond-false, cond-true, le-leb, lt-leb}
use Rattle.std.proofs.lemmas.List.Folds.{list_any-append}
use Rattle.std.proofs.lemmas.List.Kept.{AllPairs-filter}
use Rattle.desk_graph.specs.declared.line.BillLine.{BillLine}
use Rattle.desk_graph.specs.declared.fault.NodeFault.TheVariants.{Taken, Full}
use Rattle.desk_graph.specs.declared.fault.PlanFault.TheVariants.{Node}
use Rattle.std.specs.Ordering.{is_eq}
use Rattle.desk_graph.specs.Graph.{Graph, is_line_between, label_cmp}
use Rattle.desk_graph.specs.Edits.{is_taken}
use Rattle.desk_graph.specs.Order.{AreBothEnds, AreMarkedUp, AreSweptUp, HasOnce, IsInOrder, IsSwept, has_mark}
use Rattle.desk_graph.specs.Planned.{BillEdit, HasMadeWayFor, IsBillPlan, as_planned, changed_lines, changed_users, plan_answer, graph_after, with_empty, with_next}
use Rattle.desk_graph.specs.Reaches.{AreAffected, AreChildrenFirst}
use Rattle.desk_graph.proofs.ChangedLines.{StaysKept, changed-kept, length-labels, more-kept, with_labels, with_labels-is, with_nodes-is}
use Rattle.desk_graph.proofs.Kept.{bill_falls, bill_swept}
use Rattle.desk_graph.proofs.Ordered.{marked_once, order_pairs, rank}
use Rattle.desk_graph.proofs.Reached.{marks_are}

module _ (labels : List (List ℕ)) (lines users : List (List BillLine)) (order : List ℕ) (ends : AreBothEnds labels lines users) (ordered : IsInOrder lines order) (edit : BillEdit) (good : IsBillPlan (record { labels = labels; lines = lines }) edit)
    (made new_order : List ℕ) (way : HasMadeWayFor users edit.line order made) (next : new_order ≡ with_next (length edit.labels) made)
    (new_users : List (List BillLine)) (are : new_users ≡ with_empty (length edit.labels) (changed_users edit.line users)) where
  abbrev new_labels : List (List ℕ)
  new_labels = with_labels edit.labels labels

  abbrev new_lines : List (List BillLine)
  new_lines = with_empty (length edit.labels) (changed_lines edit.line lines)

  after : StaysKept new_labels new_lines new_users new_order
  after =
      subst (λ o. StaysKept new_labels new_lines new_users o) (sym next)
      (subst (λ u. StaysKept new_labels new_lines u (with_next (length edit.labels) made)) (sym are)
      (more-kept edit.labels labels (changed_lines edit.line lines) (changed_users edit.line users) made (changed-kept labels lines users order made edit.line ends ordered good.line way)))

  pub swept_after : IsSwept new_users new_order
  swept_after = bill_swept new_labels new_lines new_users new_order after.ends after.in_order

  pub once_after : HasOnce new_order
  once_after = after.in_order.once

  pub sizes_after : (length new_order ≡ length new_users) × (length new_users ≡ length (graph_after edit (record { labels = labels; lines = lines })).labels)
  sizes_after = (
    swept_after.size,
    after.ends.users_size ∙ ap (λ g. length g.labels) (sym (with_nodes-is edit.labels (record { labels = labels; lines = changed_lines edit.line lines }))),
  )

  lines_are : (graph_after edit (record { labels = labels; lines = lines })).lines ≡ new_lines
  lines_are = ap (λ g. g.lines) (with_nodes-is edit.labels (record { labels = labels; lines = changed_lines edit.line lines }))

  affected_by_marks : (seeds : List ℕ) (marks : List Bool) → AreMarkedUp new_users seeds marks → AreAffected (graph_after edit (record { labels = labels; lines = lines })).lines seeds (filter (has_mark true marks) new_order)
  affected_by_marks seeds marks up =
      subst (λ l. AreAffected l seeds (filter (has_mark true marks) new_order)) (sym lines_are)
      (λ node. marked_once marks new_order after.in_order.once (up.size ∙ sym swept_after.size) node
      ∙ ap (λ b. cond b 1 0) (marks_are new_lines (rank new_order) (bill_falls new_labels new_lines new_users new_order after.ends after.in_order) seeds new_users marks after.ends.agree up node))

  first_by_marks : (marks : List Bool) → AreChildrenFirst (graph_after edit (record { labels = labels; lines = lines })).lines (filter (has_mark true marks) new_order)
  first_by_marks marks =
      subst (λ l. AreChildrenFirst l (filter (has_mark true marks) new_order)) (sym lines_are)
      (AllPairs-filter (λ x y. is_line_between new_lines x y ≡ false) (has_mark true marks) new_order (order_pairs new_lines new_order after.in_order))

  pub nodes_after : (seeds nodes : List ℕ) → AreSweptUp new_users new_order seeds nodes → AreAffected (graph_after edit (record { labels = labels; lines = lines })).lines seeds nodes
  nodes_after seeds nodes swept = subst (AreAffected (graph_after edit (record { labels = labels; lines = lines })).lines seeds) (sym swept.2) (affected_by_marks seeds swept.0 swept.1)

  pub first_after : (seeds nodes : List ℕ) → AreSweptUp new_users new_order seeds nodes → AreChildrenFirst (graph_after edit (record { labels = labels; lines = lines })).lines nodes
  first_after seeds nodes swept = subst (AreChildrenFirst (graph_after edit (record { labels = labels; lines = lines })).lines) (sym swept.2) (first_by_marks swept.0)

-- whether a label is taken after a plan
pub taken_after : (new labels : List (List ℕ)) (label : List ℕ) → is_taken (with_labels new labels) label ≡ (is_taken labels label || is_taken new label)
taken_after new labels label = ap (λ l. is_taken l label) (with_labels-is new labels) ∙ list_any-append (λ kept. is_eq (label_cmp kept label)) labels new

module _ (edit : BillEdit) (g : Graph) (label : List ℕ) where
  pub labels_are : (graph_after edit g).labels ≡ with_labels edit.labels g.labels
  labels_are = ap (λ h. h.labels) (with_nodes-is edit.labels (record { labels = g.labels; lines = changed_lines edit.line g.lines }))

  pub count_after : length (graph_after edit g).labels ≡ length g.labels + length edit.labels
  count_after = ap (λ l. length l) labels_are ∙ length-labels edit.labels g.labels

  pub taken_in : is_taken (graph_after edit g).labels label ≡ (is_taken g.labels label || is_taken edit.labels label)
  taken_in = ap (λ l. is_taken l label) labels_are ∙ taken_after edit.labels g.labels label

  pub answer_taken : (is_taken g.labels label || is_taken edit.labels label) ≡ true → plan_answer label (graph_after edit g) ≡ Err (Node Taken)
  answer_taken e = ap as_planned (cond-true (is_taken (graph_after edit g).labels label) (Err Taken) (cond (nat_le 24576 (length (graph_after edit g).labels)) (Err Full) (Ok (length (graph_after edit g).labels))) (taken_in ∙ e))

  pub answer_full : (is_taken g.labels label || is_taken edit.labels label) ≡ false → 24576 ≤ length g.labels + length edit.labels → plan_answer label (graph_after edit g) ≡ Err (Node Full)
  answer_full e h =
      ap as_planned (cond-false (is_taken (graph_after edit g).labels label) (Err Taken) (cond (nat_le 24576 (length (graph_after edit g).labels)) (Err Full) (Ok (length (graph_after edit g).labels))) (taken_in ∙ e)
      ∙ cond-true (nat_le 24576 (length (graph_after edit g).labels)) (Err Full) (Ok (length (graph_after edit g).labels)) (le-leb 24576 (length (graph_after edit g).labels) (omega (arith, h, count_after))))

  pub answer_ok : (is_taken g.labels label || is_taken edit.labels label) ≡ false → length g.labels + length edit.labels < 24576 → plan_answer label (graph_after edit g) ≡ Ok (length g.labels + length edit.labels)
  answer_ok e h =
      ap as_planned (cond-false (is_taken (graph_after edit g).labels label) (Err Taken) (cond (nat_le 24576 (length (graph_after edit g).labels)) (Err Full) (Ok (length (graph_after edit g).labels))) (taken_in ∙ e)
      ∙ cond-false (nat_le 24576 (length (graph_after edit g).labels)) (Err Full) (Ok (length (graph_after edit g).labels)) (lt-leb 24576 (length (graph_after edit g).labels) (omega (arith, h, count_after)))
      ∙ ap (λ n. Ok n) count_after)
