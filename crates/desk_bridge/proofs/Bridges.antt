-- A bill of tables, in the words of the tables: each kept code labels one node, and the ends of its lines are those of its rows.
use Rattle.std.proofs.Common.{◌≡◌, ℕ, zero, suc, ◌<◌, ◌≤◌, Bool, true, false, cond, List, [], ◌∷◌, length, map, count_by, refl, sym, ap, ◌∙◌, inl, inr, arith}
use Rattle.std.specs.List.{AllByRecursion}
use Rattle.std.proofs.lemmas.Bool.{cases_Bool, false_from_ne_true}
use Rattle.desk_text.specs.Code.{same_code}
use Rattle.desk_model.specs.declared.rows.line.LineRow.{LineRow}
use Rattle.desk_model.specs.Lists.{Lists, is_kept}
use Rattle.desk_model.proofs.Elements.{count_by-cons, each, each_filter, each_map}
use Rattle.desk_model.proofs.Kept.{same_code-true}
use Rattle.desk_findings.specs.Bill.{IsRight}
use Rattle.desk_findings.specs.Numbering.{AreLabels}
use Rattle.desk_findings.specs.Reaches.{lines_of}
use Rattle.desk_findings.proofs.Counted.{none_counted, some_counted}
use Rattle.desk_findings.proofs.Numbering.{label_count}
use Rattle.desk_history.specs.Sound.{IsConsistent}
use Rattle.desk_history.proofs.SoundClauses.{right_of}
use Rattle.desk_graph.specs.declared.line.BillLine.{BillLine}
use Rattle.desk_graph.specs.Bill.{IsBillGraph}
use Rattle.desk_graph.specs.Edits.{is_taken}
use Rattle.desk_graph.specs.Graph.{Graph, label_of, lines_of_node as node_lines}
use Rattle.desk_bridge.specs.Bridge.{IsBridge, line_row_at}
use Rattle.desk_bridge.proofs.Nodes.{node_of_taken}

-- where lines lead, and how often
abbrev pub ends_of : List LineRow → List (List ℕ × ℕ)
ends_of lines = map (λ line. (line.child, line.count)) lines

-- the same of the lines of a node, by label
abbrev pub ends_at : List (List ℕ) → List BillLine → List (List ℕ × ℕ)
ends_at labels lines = map (λ line. (label_of labels line.node, line.count)) lines

-- the codes of materials differ from those of parts, and the lines lead to the right children
pub right_tables : (t : Lists) → IsConsistent t → IsRight t
right_tables t s = record { children = right_of t s; apart = s.codes_apart; acyclic = s.acyclic }

-- labels that differ have a code once, where they have it
pub once : (labels : List (List ℕ)) → ((a b : ℕ) → a < length labels → b < length labels → label_of labels a ≡ label_of labels b → a ≡ b) →
    (code : List ℕ) → count_by (λ listed. same_code listed code) labels ≡ cond (is_taken labels code) 1 0
once [] unique code = refl
once (label ∷ labels) unique code =
    let rest : count_by (λ listed. same_code listed code) labels ≡ cond (is_taken labels code) 1 0 =
    once labels (λ a b ha hb e. let next : suc a ≡ suc b = unique (suc a) (suc b) (omega (arith, ha)) (omega (arith, hb)) e in omega (arith, next)) code in
    elim (cases_Bool (same_code label code)) [
      | inl here ↦
          let absent : is_taken labels code ≡ false =
          false_from_ne_true (is_taken labels code)
          (λ taken.
          let found = node_of_taken labels code taken in
          let same : zero ≡ suc found.0 = unique zero (suc found.0) (omega arith) (omega (arith, found.1)) (same_code-true label code here ∙ sym found.2) in
          omega (arith, same)) in
          count_by-cons (λ listed. same_code listed code) label labels ∙ rw (here, rest ∙ ap (λ b. cond b 1 0) absent) refl
      | inr away ↦ count_by-cons (λ listed. same_code listed code) label labels ∙ rw (away, rest) (omega arith)
    ]

same_ends : (labels : List (List ℕ)) (node : ℕ) (lines : List BillLine) → ends_at labels lines ≡ ends_of (map (line_row_at labels node) lines)
same_ends labels node [] = refl
same_ends labels node (line ∷ lines) = ap (λ rest. (label_of labels line.node, line.count) ∷ rest) (same_ends labels node lines)

-- each kept code labels one node
pub labels_of : (t : Lists) (g : Graph) → IsBridge t g → AreLabels t g.labels
labels_of t g bridge code = once g.labels bridge.bill.unique code ∙ ap (λ b. cond b 1 0) (bridge.of.numbered.taken code)

-- the lines of a node have the ends of the rows of its code
pub ends_alike : (t : Lists) (g : Graph) → IsBridge t g → (node : ℕ) → node < length g.labels → ends_at g.labels (node_lines g.lines node) ≡ ends_of (lines_of t.lines (label_of g.labels node))
ends_alike t g bridge node inside = same_ends g.labels node (node_lines g.lines node) ∙ ap ends_of (sym (bridge.of.lines node inside))

kept_by : (n : ℕ) (b : Bool) → n ≡ cond b 1 0 → 1 ≤ n → b ≡ true
kept_by n true e some = refl
kept_by n false e some = absurd (omega (arith, e, some))

gone_by : (n : ℕ) (b : Bool) → n ≡ cond b 1 0 → n ≡ 0 → b ≡ false
gone_by n true e none = absurd (omega (arith, e, none))
gone_by n false e none = refl

-- labels that stand as often as their codes are kept are taken where these are kept
pub taken_by : (t : Lists) (labels : List (List ℕ)) → AreLabels t labels → (code : List ℕ) → is_taken labels code ≡ is_kept t code
taken_by t labels are code =
    elim (cases_Bool (is_taken labels code)) [
      | inl there ↦ there ∙ sym (kept_by (count_by (λ listed. same_code listed code) labels) (is_kept t code) (are code) (some_counted (λ listed. same_code listed code) labels there))
      | inr away ↦ away ∙ sym (gone_by (count_by (λ listed. same_code listed code) labels) (is_kept t code) (are code) (none_counted (λ listed. same_code listed code) labels away))
    ]

first_same : {X : Type 0} (x y : X) (xs ys : List X) → (x ∷ xs) ≡ (y ∷ ys) → x ≡ y
first_same x y xs ys e = cc

rest_same : {X : Type 0} (x y : X) (xs ys : List X) → (x ∷ xs) ≡ (y ∷ ys) → xs ≡ ys
rest_same x y xs ys e = cc

none_some : {X : Type 0} (x : X) (xs : List X) {G : Type 0} → [] ≡ (x ∷ xs) → G
none_some x xs e = cc

some_none : {X : Type 0} (x : X) (xs : List X) {G : Type 0} → (x ∷ xs) ≡ [] → G
some_none x xs e = cc

row_by : List ℕ → List ℕ × ℕ → LineRow
row_by parent end = record { parent = parent; child = end.0; count = end.1 }

-- rows of one parent are told by their ends
rows_by : (labels : List (List ℕ)) (node : ℕ) (lines : List BillLine) (rows : List LineRow) → AllByRecursion (λ row. row.parent ≡ label_of labels node) rows → ends_at labels lines ≡ ends_of rows → rows ≡ map (line_row_at labels node) lines
unfolding row_by
rows_by labels node [] [] a e = refl
rows_by labels node [] (row ∷ rows) a e = none_some (row.child, row.count) (ends_of rows) e
rows_by labels node (line ∷ lines) [] a e = some_none (label_of labels line.node, line.count) (ends_at labels lines) e
rows_by labels node (line ∷ lines) (row ∷ rows) a e =
    let first : (label_of labels line.node, line.count) ≡ (row.child, row.count) = first_same (label_of labels line.node, line.count) (row.child, row.count) (ends_at labels lines) (ends_of rows) e in
    let rest : rows ≡ map (line_row_at labels node) lines = rows_by labels node lines rows a.1 (rest_same (label_of labels line.node, line.count) (row.child, row.count) (ends_at labels lines) (ends_of rows) e) in
    let same : row ≡ line_row_at labels node line = ap (λ parent. row_by parent (row.child, row.count)) a.0 ∙ ap (row_by (label_of labels node)) (sym first) in
    λ i. same i ∷ rest i

-- a bill whose labels and ends are those of the tables is that of the tables
pub bridge_by : (t : Lists) → IsConsistent t → (g : Graph) → IsBillGraph g → AreLabels t g.labels → ((node : ℕ) → node < length g.labels → ends_at g.labels (node_lines g.lines node) ≡ ends_of (lines_of t.lines (label_of g.labels node))) → IsBridge t g
bridge_by t s g bill labels ends = record {
  bill = bill;
  of = record {
    numbered = record { taken = taken_by t g.labels labels; count = label_count t s.ordered (right_tables t s) g.labels labels };
    lines = λ node inside.
        rows_by g.labels node (node_lines g.lines node) (lines_of t.lines (label_of g.labels node))
        (each_map (λ row. Unit {0} × (same_code row.parent (label_of g.labels node) ≡ true)) (λ row. row.parent ≡ label_of g.labels node) (λ row is. same_code-true row.parent (label_of g.labels node) is.1) (lines_of t.lines (label_of g.labels node))
        (each_filter (λ row. Unit {0}) (λ row. same_code row.parent (label_of g.labels node)) t.lines (each (λ row. Unit {0}) (λ row. tt) t.lines)))
        (ends node inside);
  };
}
