-- The index stays one when a node is added.
use Rattle.std.proofs.Common.{◌≡◌, ℕ, ◌+◌, Bool, true, false, cond, ◌||◌, ◌==◌, List, [], ◌∷◌, ◌++◌, length, Option, Some, None, is_some, option_map, refl, sym, ap, ◌∙◌, subst, inl, inr, arith}
use Rattle.std.proofs.lemmas.Bool.{cases_Bool, cond-false, cond-true, eq-eqb, ne_eqb}
use Rattle.std.proofs.lemmas.List.Folds.{list_any-append, position_or_len_push}
use Rattle.desk_text.specs.Code.{code_cmp, same_code}
use Rattle.desk_text.proofs.CodeLemmas.{same_code_itself}
use Rattle.desk_rows.specs.Rows.{row_of}
use Rattle.desk_rows.proofs.Lookups.{row_of-with_row, row_of-with_row_other}
use Rattle.desk_model.proofs.Kept.{code_cmp_total, same_code-true}
use Rattle.desk_graph.specs.Edits.{is_taken}
use Rattle.desk_bridge.specs.Bridge.{node_of}
use Rattle.desk_bridge.specs.declared.node_index.NodeRow.{NodeRow}
use Rattle.desk_bridge.specs.Index.{IsIndex, index_with, node_if, node_row_if}
use Rattle.desk_bridge.proofs.Found.{node_of-found, node_of-most, node_of-taken}
use Rattle.desk_bridge.proofs.Nodes.{taken_of_node}

pub or_no : (b : Bool) → (b || false) ≡ b
or_no true = refl
or_no false = refl

pub or_yes : (b : Bool) → (b || true) ≡ true
or_yes true = refl
or_yes false = refl

pub taken-more : (labels : List (List ℕ)) (new code : List ℕ) → is_taken (labels ++ new ∷ []) code ≡ (is_taken labels code || same_code new code)
taken-more labels new code = list_any-append (λ label. same_code label code) labels (new ∷ []) ∙ ap (λ b. is_taken labels code || b) (or_no (same_code new code))

-- the node of a code that is taken stays
pub node_of-kept : (labels : List (List ℕ)) (new code : List ℕ) → is_taken labels code ≡ true → node_of (labels ++ new ∷ []) code ≡ node_of labels code
node_of-kept labels new code e =
    let at = node_of-taken labels code e in
    position_or_len_push (λ label. same_code label code) labels new
    ∙ cond-false (node_of labels code == length labels) (length labels + cond (same_code new code) 0 1) (node_of labels code) (ne_eqb (node_of labels code) (length labels) (λ same. omega (arith, same, at.0)))

-- and the new one is the last
pub node_of-new : (labels : List (List ℕ)) (new : List ℕ) → is_taken labels new ≡ false → node_of (labels ++ new ∷ []) new ≡ length labels
node_of-new labels new e =
    position_or_len_push (λ label. same_code label new) labels new
    ∙ cond-true (node_of labels new == length labels) (length labels + cond (same_code new new) 0 1) (node_of labels new) (eq-eqb (node_of labels new) (length labels) past)
    ∙ rw (same_code_itself new) (omega arith)
  where
    past : node_of labels new ≡ length labels
    past =
        elim (Rattle.std.proofs.lemmas.Bool.cases_lt (node_of labels new) (length labels)) [
          | inl there ↦ absurd (Rattle.std.proofs.lemmas.Bool.false≢true (sym e ∙ ap (is_taken labels) (sym (node_of-found labels new there)) ∙ taken_of_node labels (node_of labels new) there))
          | inr over ↦ omega (arith, over, node_of-most labels new)
        ]

pub index_more : (labels : List (List ℕ)) (rows : List NodeRow) (new : List ℕ) → is_taken labels new ≡ false → IsIndex labels rows → IsIndex (labels ++ new ∷ []) (index_with new (length labels) rows)
index_more labels rows new free index code =
    elim (cases_Bool (same_code new code)) [
      | inl same ↦
          subst (λ c. row_of (λ row. row.code) code_cmp c (index_with new (length labels) rows) ≡ node_row_if (is_taken (labels ++ new ∷ []) c) c (node_of (labels ++ new ∷ []) c)) (same_code-true new code same)
          (row_of-with_row (λ row. row.code) code_cmp code_cmp_total (record { code = new; node = length labels }) rows
          ∙ ap (node_row_if true new) (sym (node_of-new labels new free))
          ∙ ap (λ b. node_row_if b new (node_of (labels ++ new ∷ []) new)) (sym (taken-more labels new new ∙ ap (λ b. is_taken labels new || b) (same_code_itself new) ∙ or_yes (is_taken labels new))))
      | inr other ↦
          row_of-with_row_other (λ row. row.code) code_cmp code_cmp_total (record { code = new; node = length labels }) code rows other
          ∙ index code
          ∙ by_taken (is_taken labels code) refl
          ∙ ap (λ b. node_row_if b code (node_of (labels ++ new ∷ []) code)) (sym (taken-more labels new code ∙ ap (λ b. is_taken labels code || b) other ∙ or_no (is_taken labels code)))
    ]
  where
    by_taken : (b : Bool) → is_taken labels code ≡ b → node_row_if (is_taken labels code) code (node_of labels code) ≡ node_row_if (is_taken labels code) code (node_of (labels ++ new ∷ []) code)
    by_taken true e = ap (node_row_if (is_taken labels code) code) (sym (node_of-kept labels new code e))
    by_taken false e = ap (λ b. node_row_if b code (node_of labels code)) e ∙ ap (λ b. node_row_if b code (node_of (labels ++ new ∷ []) code)) (sym e)

-- what a look-up finds by an index
pub found_by : (labels : List (List ℕ)) (rows : List NodeRow) → IsIndex labels rows → (code : List ℕ) → option_map (λ row. row.node) (row_of (λ row. row.code) code_cmp code rows) ≡ node_if labels code
found_by labels rows index code = ap (option_map (λ row. row.node)) (index code) ∙ there (is_taken labels code)
  where
    there : (b : Bool) → option_map (λ row. row.node) (node_row_if b code (node_of labels code)) ≡ cond b (Some (node_of labels code)) None
    there true = refl
    there false = refl

some_inside : (m n : ℕ) → Some m ≡ Some n → m ≡ n
some_inside m n e = cc

none_some : (n : ℕ) {G : Type 0} → None ≡ Some n → G
none_some n e = cc

-- a code that is there is found at its node
module _ (labels : List (List ℕ)) (rows : List NodeRow) (index : IsIndex labels rows) (code : List ℕ) (taken : is_taken labels code ≡ true) (o : Option ℕ) (found : (of : List (List ℕ)) → IsIndex of rows → o ≡ node_if of code) where
  is_there : o ≡ Some (node_of labels code)
  is_there = found labels index ∙ ap (λ b. cond b (Some (node_of labels code)) None) taken

  pub node_found : (node : ℕ) → o ≡ Some node → node ≡ node_of labels code
  node_found node e = some_inside node (node_of labels code) (sym e ∙ is_there)

  pub node_missing : {G : Type 0} → o ≡ None → G
  node_missing e = none_some (node_of labels code) (sym e ∙ is_there)

-- a code that isn't found is free
pub free_by : (labels : List (List ℕ)) (rows : List NodeRow) → IsIndex labels rows → (code : List ℕ) (o : Option ℕ) → ((of : List (List ℕ)) → IsIndex of rows → o ≡ node_if of code) → is_some o ≡ false → is_taken labels code ≡ false
free_by labels rows index code o found none = there (is_taken labels code) (sym (ap is_some (found labels index)) ∙ none)
  where
    there : (b : Bool) → is_some (cond b (Some (node_of labels code)) None) ≡ false → b ≡ false
    there true e = e
    there false e = refl

pub taken_by : (labels : List (List ℕ)) (rows : List NodeRow) → IsIndex labels rows → (code : List ℕ) (o : Option ℕ) → ((of : List (List ℕ)) → IsIndex of rows → o ≡ node_if of code) → is_some o ≡ true → is_taken labels code ≡ true
taken_by labels rows index code o found some = there (is_taken labels code) (sym (ap is_some (found labels index)) ∙ some)
  where
    there : (b : Bool) → is_some (cond b (Some (node_of labels code)) None) ≡ true → b ≡ true
    there true e = refl
    there false e = e

-- a code is taken exactly where it is found
pub taken_is : (labels : List (List ℕ)) (rows : List NodeRow) → IsIndex labels rows → (code : List ℕ) (o : Option ℕ) → ((of : List (List ℕ)) → IsIndex of rows → o ≡ node_if of code) → is_some o ≡ is_taken labels code
taken_is labels rows index code o found = ap is_some (found labels index) ∙ there (is_taken labels code)
  where
    there : (b : Bool) → is_some (cond b (Some (node_of labels code)) None) ≡ b
    there true = refl
    there false = refl
