-- Nodes of kept codes, and rows that are found.
use Rattle.std.proofs.Common.{◌≡◌, ℕ, suc, ◌<◌, ◌≤◌, true, false, List, [], ◌∷◌, length, is_some, refl, ap, ◌∙◌, inl, inr, Ordering, Less, Equal, Greater, is_eq, arith}
use Rattle.std.specs.Ordering.{ordering_then}
use Rattle.std.specs.List.{AllByRecursion}
use Rattle.std.proofs.lemmas.Bool.{cases_Bool, false≢true}
use Rattle.desk_text.specs.Code.{code_cmp, same_code}
use Rattle.desk_rows.specs.Rows.{row_of}
use Rattle.desk_model.specs.declared.rows.line.LineRow.{LineRow}
use Rattle.desk_model.specs.Lists.{Lists, is_kept, line_key, line_key_cmp}
use Rattle.desk_model.proofs.Kept.{same_code-true}
use Rattle.desk_graph.specs.Edits.{is_taken}
use Rattle.desk_graph.specs.Graph.{label_of}
use Rattle.desk_bridge.specs.Bridge.{IsNumbered, node_of}

pub node_of-here : (label : List ℕ) (labels : List (List ℕ)) (code : List ℕ) → same_code label code ≡ true → node_of (label ∷ labels) code ≡ 0
node_of-here label labels code e = rw e refl

pub node_of-later : (label : List ℕ) (labels : List (List ℕ)) (code : List ℕ) → same_code label code ≡ false → node_of (label ∷ labels) code ≡ suc (node_of labels code)
node_of-later label labels code e = rw e (omega arith)

-- the node of a code that is taken has it
pub node_of-taken : (labels : List (List ℕ)) (code : List ℕ) → is_taken labels code ≡ true → (node_of labels code < length labels) × (label_of labels (node_of labels code) ≡ code)
node_of-taken [] code e = absurd (false≢true e)
node_of-taken (label ∷ labels) code e =
    elim (cases_Bool (same_code label code)) [
      | inl here ↦
          let at = node_of-here label labels code here in
          (omega (arith, at), ap (label_of (label ∷ labels)) at ∙ same_code-true label code here)
      | inr other ↦
          let at = node_of-later label labels code other in
          let found = node_of-taken labels code (rw other at e) in
          (omega (arith, at, found.0), ap (label_of (label ∷ labels)) at ∙ found.1)
    ]

-- the node of a kept code
pub node_of-kept : (t : Lists) (labels : List (List ℕ)) → IsNumbered t labels → (code : List ℕ) → is_kept t code ≡ true → (node_of labels code < length labels) × (label_of labels (node_of labels code) ≡ code)
node_of-kept t labels numbered code kept = node_of-taken labels code (numbered.taken code ∙ kept)

then_both : (a b : Ordering) → is_eq (ordering_then a b) ≡ true → (is_eq a ≡ true) × (is_eq b ≡ true)
then_both Less b e = absurd (false≢true e)
then_both Equal b e = (refl, e)
then_both Greater b e = absurd (false≢true e)

-- what holds of each line holds of one that is found, which has that parent and that child
pub found_line : (P : LineRow → Type 0) (parent child : List ℕ) (rows : List LineRow) → AllByRecursion P rows → is_some (row_of line_key line_key_cmp (parent, child) rows) ≡ true → (row : LineRow) × P row × (row.parent ≡ parent) × (row.child ≡ child)
found_line P parent child [] a e = absurd (false≢true e)
found_line P parent child (row ∷ rows) a e =
    elim (cases_Bool (is_eq (line_key_cmp (line_key row) (parent, child)))) [
      | inl same ↦
          let both = then_both (code_cmp row.parent parent) (code_cmp row.child child) same in
          (row, a.0, same_code-true row.parent parent both.0, same_code-true row.child child both.1)
      | inr other ↦ found_line P parent child rows a.1 (rw other at e)
    ]

-- the place of a code is that of a label, or behind them all
pub node_of-most : (labels : List (List ℕ)) (code : List ℕ) → node_of labels code ≤ length labels
node_of-most [] code = omega arith
node_of-most (label ∷ labels) code =
    elim (cases_Bool (same_code label code)) [
      | inl here ↦ let at : node_of (label ∷ labels) code ≡ 0 = rw here refl in omega (arith, at)
      | inr other ↦ let at : node_of (label ∷ labels) code ≡ suc (node_of labels code) = rw other (omega arith) in omega (arith, at, node_of-most labels code)
    ]

pub node_of-found : (labels : List (List ℕ)) (code : List ℕ) → node_of labels code < length labels → label_of labels (node_of labels code) ≡ code
node_of-found [] code h = absurd (omega (arith, h))
node_of-found (label ∷ labels) code h =
    elim (cases_Bool (same_code label code)) [
      | inl here ↦ let at : node_of (label ∷ labels) code ≡ 0 = rw here refl in ap (label_of (label ∷ labels)) at ∙ same_code-true label code here
      | inr other ↦ let at : node_of (label ∷ labels) code ≡ suc (node_of labels code) = rw other (omega arith) in ap (label_of (label ∷ labels)) at ∙ node_of-found labels code (omega (arith, at, h))
    ]
