-- The two ends of the lines: what a new line and a dropped one change.
use Rattle.std.proofs.Common.{◌≡◌, ℕ, zero, suc, ◌<◌, Bool, true, false, cond, ◌||◌, ◌==◌, List, [], ◌∷◌, ◌++◌, Some, None, length, set, map, is_some, refl, sym, ap, ◌∙◌, ◌⊎◌, inl, inr, arith}
use Rattle.std.specs.Prelude.{if◌then◌else◌}
use Rattle.std.specs.Ordering.{is_lt}
use Rattle.std.proofs.lemmas.Bool.{cases_Bool, cases_lt, eq-eqb, eqb-true, false≢true, or_parts}
use Rattle.std.proofs.lemmas.List.{get_or-set_same, get_or-set_other, get_or_past}
use Rattle.desk_graph.specs.declared.line.BillLine.{BillLine}
use Rattle.desk_graph.specs.Graph.{AreUsers, count_at, has_line, is_line_between, label_cmp, label_of, lines_of_node}
use Rattle.desk_graph.specs.Edits.{inserted_by_label, with_line_of_node, without_line_of_node}

pub has-count : (lines : List BillLine) (node : ℕ) → has_line lines node ≡ is_some (count_at lines node)
has-count [] node = refl
has-count (line ∷ lines) node =
    elim (line.node == node) as (λ b. (b || has_line lines node) ≡ is_some (cond b (Some line.count) (count_at lines node))) [ true ↦ refl | false ↦ has-count lines node ]

-- the users of a node are the nodes that have a line to it
pub user_is : (lines : List (List BillLine)) (child : ℕ) (users : List BillLine) → AreUsers lines child users → (parent : ℕ) → has_line users parent ≡ is_line_between lines parent child
user_is lines child users agree parent = has-count users parent ∙ ap (λ c. is_some c) (agree parent) ∙ sym (has-count (lines_of_node lines parent) child)

-- beyond the nodes there are no lines
pub has_node_there : (lines : List (List BillLine)) (node other : ℕ) → is_line_between lines node other ≡ true → node < length lines
has_node_there lines node other e =
    elim (cases_lt node (length lines)) [
      | inl below ↦ below
      | inr above ↦ absurd (false≢true (sym (ap (λ of_node. has_line of_node other) (get_or_past lines node [] above)) ∙ e))
    ]

module _ (new : BillLine) where
  pub replaced : BillLine → BillLine
  replaced line = if line.node == new.node then new else line

  replaced_yes : (line : BillLine) → (line.node == new.node) ≡ true → replaced line ≡ new
  unfolding replaced
  replaced_yes line e = rw e refl

  replaced_no : (line : BillLine) → (line.node == new.node) ≡ false → replaced line ≡ line
  unfolding replaced
  replaced_no line e = rw e refl

  -- a replaced line leads where it led
  pub replaced_node : (line : BillLine) → (replaced line).node ≡ line.node
  replaced_node line =
      elim (cases_Bool (line.node == new.node)) [
        | inl holds ↦ ap (λ l. l.node) (replaced_yes line holds) ∙ sym (eqb-true line.node new.node holds)
        | inr fails ↦ ap (λ l. l.node) (replaced_no line fails)
      ]

  replaced-other : (node : ℕ) → (new.node == node) ≡ false → (lines : List BillLine) → count_at (map replaced lines) node ≡ count_at lines node
  replaced-other node other [] = refl
  replaced-other node other (line ∷ lines) =
      let ih = replaced-other node other lines in
      elim (cases_Bool (line.node == new.node)) [
        | inl holds ↦
            let away : (line.node == node) ≡ false = ap (λ n. n == node) (eqb-true line.node new.node holds) ∙ other in
            rw (replaced_yes line holds, other, away) ih
        | inr fails ↦ rw (replaced_no line fails) (ap (λ rest. cond (line.node == node) (Some line.count) rest) ih)
      ]

  replaced-same : (lines : List BillLine) → has_line lines new.node ≡ true → count_at (map replaced lines) new.node ≡ Some new.count
  replaced-same [] e = absurd (false≢true e)
  replaced-same (line ∷ lines) e =
      elim (cases_Bool (line.node == new.node)) [
        | inl holds ↦ rw (replaced_yes line holds, eq-eqb new.node new.node refl) refl
        | inr fails ↦ rw (replaced_no line fails, fails) (replaced-same lines (rw fails at e))
      ]

  module _ (labels : List (List ℕ)) where
    abbrev pub goes_here : BillLine → Bool
    goes_here line = is_lt (label_cmp (label_of labels new.node) (label_of labels line.node))

    pub entered_yes : (line : BillLine) (lines : List BillLine) → goes_here line ≡ true → inserted_by_label labels new (line ∷ lines) ≡ new ∷ line ∷ lines
    entered_yes line lines e = rw e refl

    pub entered_no : (line : BillLine) (lines : List BillLine) → goes_here line ≡ false → inserted_by_label labels new (line ∷ lines) ≡ line ∷ inserted_by_label labels new lines
    entered_no line lines e = rw e refl

    entered-other : (node : ℕ) → (new.node == node) ≡ false → (lines : List BillLine) → count_at (inserted_by_label labels new lines) node ≡ count_at lines node
    entered-other node other [] = rw other refl
    entered-other node other (line ∷ lines) =
        elim (cases_Bool (goes_here line)) [
          | inl holds ↦ ap (λ l. count_at l node) (entered_yes line lines holds) ∙ rw other refl
          | inr fails ↦ ap (λ l. count_at l node) (entered_no line lines fails) ∙ ap (λ rest. cond (line.node == node) (Some line.count) rest) (entered-other node other lines)
        ]

    entered-same : (lines : List BillLine) → has_line lines new.node ≡ false → count_at (inserted_by_label labels new lines) new.node ≡ Some new.count
    entered-same [] e = rw (eq-eqb new.node new.node refl) refl
    entered-same (line ∷ lines) e =
        let parts = or_parts (line.node == new.node) (has_line lines new.node) e in
        elim (cases_Bool (goes_here line)) [
          | inl holds ↦ ap (λ l. count_at l new.node) (entered_yes line lines holds) ∙ rw (eq-eqb new.node new.node refl) refl
          | inr fails ↦ ap (λ l. count_at l new.node) (entered_no line lines fails) ∙ rw parts.0 (entered-same lines parts.1)
        ]

    pub with_yes : (lines : List BillLine) → has_line lines new.node ≡ true → with_line_of_node labels new lines ≡ map replaced lines
    unfolding replaced
    with_yes lines e = rw e refl

    pub with_no : (lines : List BillLine) → has_line lines new.node ≡ false → with_line_of_node labels new lines ≡ inserted_by_label labels new lines
    with_no lines e = rw e refl

    -- the new line's count is found at its node, and the others as before
    pub with-other : (node : ℕ) → (new.node == node) ≡ false → (lines : List BillLine) → count_at (with_line_of_node labels new lines) node ≡ count_at lines node
    with-other node other lines =
        elim (cases_Bool (has_line lines new.node)) [
          | inl holds ↦ ap (λ l. count_at l node) (with_yes lines holds) ∙ replaced-other node other lines
          | inr fails ↦ ap (λ l. count_at l node) (with_no lines fails) ∙ entered-other node other lines
        ]

    pub with-same : (lines : List BillLine) → count_at (with_line_of_node labels new lines) new.node ≡ Some new.count
    with-same lines =
        elim (cases_Bool (has_line lines new.node)) [
          | inl holds ↦ ap (λ l. count_at l new.node) (with_yes lines holds) ∙ replaced-same lines holds
          | inr fails ↦ ap (λ l. count_at l new.node) (with_no lines fails) ∙ entered-same lines fails
        ]

    pub has-with : (lines : List BillLine) (node : ℕ) → has_line (with_line_of_node labels new lines) node ≡ true → (has_line lines node ≡ true) ⊎ (new.node ≡ node)
    has-with lines node e =
        elim (cases_Bool (new.node == node)) [
          | inl holds ↦ inr (eqb-true new.node node holds)
          | inr fails ↦ inl (has-count lines node ∙ ap (λ c. is_some c) (sym (with-other node fails lines)) ∙ sym (has-count (with_line_of_node labels new lines) node) ∙ e)
        ]

-- without the line to a node
pub without-other : (away node : ℕ) → (away == node) ≡ false → (lines : List BillLine) → count_at (without_line_of_node away lines) node ≡ count_at lines node
without-other away node other [] = refl
without-other away node other (line ∷ lines) =
    let ih = without-other away node other lines in
    elim (cases_Bool (line.node == away)) [
      | inl holds ↦
          let past : (line.node == node) ≡ false = ap (λ n. n == node) (eqb-true line.node away holds) ∙ other in
          rw (holds, past) ih
      | inr fails ↦ rw fails (ap (λ rest. cond (line.node == node) (Some line.count) rest) ih)
    ]

pub without-same : (away : ℕ) (lines : List BillLine) → count_at (without_line_of_node away lines) away ≡ None
without-same away [] = refl
without-same away (line ∷ lines) =
    elim (cases_Bool (line.node == away)) [
      | inl holds ↦ rw holds (without-same away lines)
      | inr fails ↦ rw (fails, fails) (without-same away lines)
    ]

pub has-without : (away : ℕ) (lines : List BillLine) (node : ℕ) → has_line (without_line_of_node away lines) node ≡ true → has_line lines node ≡ true
has-without away lines node e =
    elim (cases_Bool (away == node)) [
      | inl holds ↦
          let none = has-count (without_line_of_node away lines) node ∙ ap (λ n. is_some (count_at (without_line_of_node away lines) n)) (sym (eqb-true away node holds)) ∙ ap (λ c. is_some c) (without-same away lines) in
          absurd (false≢true (sym none ∙ e))
      | inr fails ↦ has-count lines node ∙ ap (λ c. is_some c) (sym (without-other away node fails lines)) ∙ sym (has-count (without_line_of_node away lines) node) ∙ e
    ]

-- the lines of a node after those of one node changed
pub lines_of-same : (lines : List (List BillLine)) (node : ℕ) (of_node : List BillLine) → node < length lines → lines_of_node (set lines node of_node) node ≡ of_node
lines_of-same lines node of_node h = get_or-set_same lines node of_node [] h

pub lines_of-other : (lines : List (List BillLine)) (node other : ℕ) (of_node : List BillLine) → (other ≡ node → ⊥) → lines_of_node (set lines node of_node) other ≡ lines_of_node lines other
lines_of-other lines node other of_node h = get_or-set_other lines node other of_node [] h

-- a new node has no lines, as before it was there
pub lines_of-more : (lines : List (List BillLine)) (node : ℕ) → lines_of_node (lines ++ [] ∷ []) node ≡ lines_of_node lines node
lines_of-more [] zero = refl
lines_of-more [] (suc node) = get_or_past {X = List BillLine} [] node [] (omega arith)
lines_of-more (of_first ∷ lines) zero = refl
lines_of-more (of_first ∷ lines) (suc node) = lines_of-more lines node
