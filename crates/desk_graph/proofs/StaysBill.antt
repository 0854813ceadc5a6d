-- A bill after a plan is a bill: there is an order for it.
use Rattle.std.proofs.Common.{◌≡◌, ℕ, zero, suc, ◌<◌, ◌≤◌, Bool, true, false, ◌==◌, List, [], ◌∷◌, ◌++◌, Option, Some, None, filter, length, refl, sym, ap, ◌∙◌, subst, inl, inr, arith}
use Rattle.std.proofs.lemmas.Bool.{cases_lt, eq-eqb, eqb-true, false≢true, or_cases}
use Rattle.std.proofs.lemmas.List.{get_or_append_left, get_or_at, length_push}
use Rattle.desk_graph.specs.declared.line.BillLine.{BillLine}
use Rattle.desk_graph.specs.declared.bill_plan.LineChange.{LineChange}
use Rattle.desk_graph.specs.Bill.{IsBillGraph}
use Rattle.desk_graph.specs.Graph.{is_line_between, line_count, lines_of_node}
use Rattle.desk_graph.specs.Order.{AreBothEnds, AreMarkedUp, IsInOrder, has_mark, mark_of}
use Rattle.desk_graph.specs.Planned.{AreFree, BillEdit, HasMadeWayFor, IsBillPlan, IsChangeOf, changed_lines, changed_users, graph_after, with_empty, with_next}
use Rattle.desk_graph.specs.Reaches.{Falls, longest_node_chain, has_node, is_node_affected, is_node_or_reaches, node_reaches}
use Rattle.desk_graph.proofs.ChangedLines.{changed-kept, length-labels, more-kept, with_labels, with_nodes-is}
use Rattle.desk_graph.proofs.Ends.{user_is}
use Rattle.desk_graph.proofs.Kept.{AreUnique, bill_falls, count-more, is_bill, unique-more, user_there}
use Rattle.desk_graph.proofs.Marks.{marked_below}
use Rattle.desk_graph.proofs.Ordered.{rank}
use Rattle.desk_graph.proofs.Reached.{affected-one, affected-seed, affected-up, up}

-- the answers of a test, as marks
marks_of : (ℕ → Bool) → ℕ → List Bool
marks_of test zero = []
marks_of test (suc n) = marks_of test n ++ test n ∷ []

length-marks : (test : ℕ → Bool) (n : ℕ) → length (marks_of test n) ≡ n
unfolding marks_of
length-marks test zero = refl
length-marks test (suc n) = omega (arith, length-marks test n, length_push (marks_of test n) (test n))

mark-is : (test : ℕ → Bool) (n node : ℕ) → node < n → mark_of (marks_of test n) node ≡ test node
unfolding marks_of
mark-is test zero node h = absurd (omega arith)
mark-is test (suc n) node h =
    let size = length-marks test n in
    elim (cases_lt node n) [
      | inl below ↦ get_or_append_left (marks_of test n) (test n ∷ []) false node (omega (arith, size, below)) ∙ mark-is test n node below
      | inr past ↦ let same : node ≡ n = omega arith in get_or_at (marks_of test n) (test n) [] false node (omega (arith, size, same)) ∙ ap test (sym same)
    ]

module _ (labels : List (List ℕ)) (lines users : List (List BillLine)) (order : List ℕ) (ends : AreBothEnds labels lines users) (ordered : IsInOrder lines order) where
  falls : Falls lines (rank order)
  falls = bill_falls labels lines users order ends ordered

  -- the marks of a node and of what reaches it
  module _ (seed : ℕ) (there : seed < length labels) where
    marks : List Bool
    marks = marks_of (is_node_affected lines (seed ∷ [])) (length labels)

    below : (node : ℕ) → mark_of marks node ≡ true → node < length labels
    unfolding marks
    below node e = omega (arith, marked_below marks node e, length-marks (is_node_affected lines (seed ∷ [])) (length labels))

    is_marked : (node : ℕ) → node < length labels → mark_of marks node ≡ is_node_affected lines (seed ∷ []) node
    unfolding marks
    is_marked node h = mark-is (is_node_affected lines (seed ∷ [])) (length labels) node h

    one_seed : (node : ℕ) → has_node (seed ∷ []) node ≡ true → seed ≡ node
    one_seed node e = elim (or_cases (seed == node) false e) [ inl same ↦ eqb-true seed node same | inr none ↦ absurd (false≢true none) ]

    marked_up : AreMarkedUp users (seed ∷ []) marks
    unfolding marks
    marked_up = record {
      size = length-marks (is_node_affected lines (seed ∷ [])) (length labels) ∙ sym ends.users_size;
      seeded = λ node e.
          let same = one_seed node e in
          is_marked node (omega (arith, same, there)) ∙ affected-seed lines (rank order) falls (seed ∷ []) node e;
      closed = λ node user e used.
          let line : is_line_between lines user node ≡ true = sym (user_is lines node (lines_of_node users node) (ends.agree node) user) ∙ used in
          is_marked user (user_there labels lines users ends node user used) ∙ affected-up lines (rank order) falls (seed ∷ []) user node line (sym (is_marked node (below node e)) ∙ e);
      least = λ holds seeds step node e.
          let at : holds seed ≡ true = seeds seed (Rattle.std.proofs.lemmas.Bool.or_left (seed == seed) false (eq-eqb seed seed refl)) in
          let affected : is_node_or_reaches lines node seed ≡ true = sym (affected-one lines seed node) ∙ sym (is_marked node (below node e)) ∙ e in
          elim (or_cases (node == seed) (node_reaches lines node seed) affected) [
            | inl same ↦ subst (λ n. holds n ≡ true) (sym (eqb-true node seed same)) at
            | inr reached ↦ up lines seed holds at (λ child user h line. step child user h (user_is lines child (lines_of_node users child) (ends.agree child) user ∙ line)) (longest_node_chain lines) node reached
          ];
    }

  -- so way can be made for each change
  way-for : (line : Option LineChange) → IsChangeOf (record { labels = labels; lines = lines }) line → (made : List ℕ) × HasMadeWayFor users line order made
  way-for None good = (order, refl)
  way-for (Some change) good =
      let m = marks change.parent good.parent_there in
      (filter (has_mark false m) order ++ filter (has_mark true m) order, inr (m, marked_up change.parent good.parent_there, refl))

-- labels stay apart
unique-all : (new labels : List (List ℕ)) → AreUnique labels → AreFree new labels → AreUnique (with_labels new labels)
unique-all [] labels unique free = unique
unique-all (label ∷ new) labels unique free = unique-all new (labels ++ label ∷ []) (unique-more labels label unique free.0) free.1

count-empty : (more : ℕ) (lines : List (List BillLine)) → line_count (with_empty more lines) ≡ line_count lines
count-empty zero lines = refl
count-empty (suc more) lines = count-empty more (lines ++ [] ∷ []) ∙ count-more lines

fits-changed : (labels : List (List ℕ)) (lines : List (List BillLine)) (line : Option LineChange) → IsChangeOf (record { labels = labels; lines = lines }) line → line_count lines ≤ 131072 → line_count (changed_lines line lines) ≤ 131072
fits-changed labels lines None good fit = fit
fits-changed labels lines (Some change) good fit = good.fits

-- what holds of every bill holds of the bill after a plan
pub bill_after : (labels : List (List ℕ)) (lines users : List (List BillLine)) (order : List ℕ) (edit : BillEdit) → AreBothEnds labels lines users → AreUnique labels → IsInOrder lines order → line_count lines ≤ 131072 → IsBillPlan (record { labels = labels; lines = lines }) edit → IsBillGraph (graph_after edit (record { labels = labels; lines = lines }))
bill_after labels lines users order edit ends unique ordered fit good =
    let way = way-for labels lines users order ends ordered edit.line good.line in
    let made = changed-kept labels lines users order way.0 edit.line ends ordered good.line way.1 in
    let kept = more-kept edit.labels labels (changed_lines edit.line lines) (changed_users edit.line users) way.0 made in
    let apart = unique-all edit.labels labels unique good.free in
    let count = count-empty (length edit.labels) (changed_lines edit.line lines) in
    subst IsBillGraph (sym (with_nodes-is edit.labels (record { labels = labels; lines = changed_lines edit.line lines })))
    (is_bill (with_labels edit.labels labels) (with_empty (length edit.labels) (changed_lines edit.line lines)) (with_empty (length edit.labels) (changed_users edit.line users)) (with_next (length edit.labels) way.0) kept.ends apart kept.in_order
    (omega (arith, length-labels edit.labels labels, good.nodes_fit)) (omega (arith, count, fits-changed labels lines edit.line good.line fit)))
