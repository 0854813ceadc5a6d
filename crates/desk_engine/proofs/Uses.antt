-- Users and what reaches a node, by the bill and by the tables.
use Rattle.std.proofs.Common.{◌≡◌, ℕ, ◌<◌, Bool, true, false, ◌&&◌, ◌||◌, ◌==◌, List, [], ◌∷◌, filter, length, map, Option, Some, None, is_eq, is_some, option_map, refl, sym, ap, ◌∙◌, subst, inl, inr, Ordering, Less, Equal, Greater, arith}
use Rattle.std.specs.Prelude.{IfOk, Result, Ok, Err, if◌then◌else◌, slice_index_or}
use Rattle.std.specs.Ordering.{ordering_then}
use Rattle.std.specs.List.{AllByRecursion}
use Rattle.std.proofs.lemmas.Bool.{and_parts, both_ways, cases_Bool, cases_lt, eq-eqb, eqb-true, false_from_ne_true, false≢true, or_left, or_right}
use Rattle.std.proofs.lemmas.List.{get_or_past}
use Rattle.desk_text.specs.Code.{code_cmp, same_code}
use Rattle.desk_rows.specs.Rows.{IsByKey, row_of}
use Rattle.desk_rows.proofs.Order.{by_key, none_by_key}
use Rattle.desk_graph.specs.declared.line.BillLine.{BillLine}
use Rattle.desk_graph.specs.Bill.{IsBillGraph}
use Rattle.desk_graph.specs.Graph.{AreUsers, Graph, IsByLabel, count_at, label_of, lines_of_node as node_lines}
use Rattle.desk_graph.specs.Reaches as graph
use Rattle.desk_graph.specs.Reaches.{AreAffected, has_node}
use Rattle.desk_rollup.proofs.Frame.{affected_had, affected_inside}
use Rattle.desk_model.specs.declared.rows.line.LineRow.{LineRow}
use Rattle.desk_model.specs.Lists.{Lists, is_kept, is_material, is_part, line_key, line_key_cmp, line_row}
use Rattle.desk_model.proofs.Elements.{each_from_all, each_of_map}
use Rattle.desk_model.proofs.Kept.{line_key_cmp_total, same_code-from, same_code-true}
use Rattle.desk_findings.specs.Bill.{IsRight}
use Rattle.desk_findings.specs.Reaches as tables
use Rattle.desk_history.specs.Sound.{IsConsistent}
use Rattle.desk_history.proofs.SoundClauses.{bill_of, right_of}
use Rattle.desk_scratch.specs.Uses.{lines_to}
use Rattle.desk_bridge.specs.Bridge.{IsBillOf, IsBridge, node_of}
use Rattle.desk_bridge.proofs.Found.{node_of-kept}
use Rattle.desk_bridge.proofs.Hops.{label_kept}
use Rattle.desk_bridge.proofs.LookUps.{bridge_into, same_rows}
use Rattle.desk_bridge.proofs.RolledAlike.{labels_differ, reached_agree}
use Rattle.desk_bridge.proofs.RowsAfter.{by_key-filter}
use Rattle.desk_engine.specs.Answers.{AreMarksOf, user_row}

or_nothing : (b : Bool) → (b || false) ≡ b
or_nothing true = refl
or_nothing false = refl

pub each_node : (P : ℕ → Type 0) (nodes : List ℕ) → ((n : ℕ) → has_node nodes n ≡ true → P n) → AllByRecursion P nodes
each_node P [] h = tt
each_node P (node ∷ nodes) h = (
  h node (or_left (node == node) (has_node nodes node) (eq-eqb node node refl)),
  each_node P nodes (λ n there. h n (or_right (node == n) (has_node nodes n) there)),
)

-- the nodes above one
module _ (g : Graph) (bill : IsBillGraph g) (node : ℕ) (there : node < length g.labels) (nodes : List ℕ) (are : AreAffected g.lines (node ∷ []) nodes) where
  seed_inside : (n : ℕ) → has_node (node ∷ []) n ≡ true → n < length g.labels
  seed_inside n h = subst (λ m. m < length g.labels) (eqb-true node n (sym (or_nothing (node == n)) ∙ h)) there

  pub all_inside : (count : ℕ) → count ≡ length g.labels → AllByRecursion (λ n. n < count) nodes
  all_inside count is = each_node (λ n. n < count) nodes (λ n has. subst (λ m. n < m) (sym is) (affected_inside g bill (node ∷ []) nodes seed_inside are n has))

  pub reaching : (other : ℕ) → has_node nodes other ≡ graph.is_node_or_reaches g.lines other node
  reaching other = affected_had g.lines (node ∷ []) nodes are other ∙ or_nothing (graph.is_node_or_reaches g.lines other node)

  -- their marks
  pub marked : {A E : Type 0} (count : ℕ) → count ≡ length g.labels → (items : A → List Bool) (r : Result A E) → IfOk r (λ marks. length (items marks) ≡ count) → IfOk r (λ marks. (n : ℕ) → slice_index_or (items marks) n false ≡ has_node nodes n) → IfOk r (λ marks. AreMarksOf g node (items marks))
  marked count is items (Ok marks) size tells = record { size = size ∙ is; tells = λ n. tells n ∙ reaching n }
  marked count is items (Err e) size tells = tt

module _ (t : Lists) (s : IsConsistent t) (g : Graph) (bill : IsBillGraph g) (of : IsBillOf t g) where
  right : IsRight t
  right = record { children = right_of t s; apart = s.codes_apart; acyclic = s.acyclic }

  bridge : IsBridge t g
  bridge = record { bill = bill; of = of }

  -- whether a kept code reaches another, or is it
  pub reached_alike : (part code : List ℕ) → is_kept t part ≡ true → is_kept t code ≡ true → graph.is_node_or_reaches g.lines (node_of g.labels part) (node_of g.labels code) ≡ tables.is_or_reaches t part code
  reached_alike part code kept there =
      let from = node_of-kept t g.labels of.numbered part kept in
      let to = node_of-kept t g.labels of.numbered code there in
      ap (λ b. b || graph.node_reaches g.lines (node_of g.labels part) (node_of g.labels code)) (labels_differ g bill (node_of g.labels part) (node_of g.labels code) from.0 to.0)
      ∙ ap (λ b. same_code (label_of g.labels (node_of g.labels part)) (label_of g.labels (node_of g.labels code)) || b) (reached_agree t right g bridge (node_of g.labels code) to.0 (node_of g.labels part) from.0)
      ∙ ap (λ c. tables.is_or_reaches t c (label_of g.labels (node_of g.labels code))) from.1
      ∙ ap (tables.is_or_reaches t part) to.1

-- users of a node are nodes
none_some : {G : Type 0} {n : ℕ} → ◌≡◌ {A = Option ℕ} None (Some n) → G
none_some e = cc

module _ (P : ℕ → Type 0) where
  each_user : (users : List BillLine) → ((n : ℕ) → is_some (count_at users n) ≡ true → P n) → AllByRecursion (λ user. P user.node) users
  each_user [] h = tt
  each_user (user ∷ users) h = (h user.node first, each_user users (λ n there. h n (later n there)))
    where
      first : is_some (count_at (user ∷ users) user.node) ≡ true
      first = ap (λ b. is_some (if b then Some user.count else count_at users user.node)) (eq-eqb user.node user.node refl)

      later : (n : ℕ) → is_some (count_at users n) ≡ true → is_some (count_at (user ∷ users) n) ≡ true
      later n there =
          elim (user.node == n) as (λ b. is_some (if b then Some user.count else count_at users n) ≡ true) [
            | true ↦ refl
            | false ↦ there
          ]

module _ (t : Lists) (s : IsConsistent t) (g : Graph) (bill : IsBillGraph g) (of : IsBillOf t g) (code : List ℕ) (node : ℕ) (inside : node < length g.labels) (label : label_of g.labels node ≡ code) (users : List BillLine) (are : AreUsers g.lines node users) where
  user_there : (n : ℕ) → is_some (count_at users n) ≡ true → n < length g.labels
  user_there n there =
      elim (cases_lt n (length g.labels)) [
        | inl low ↦ low
        | inr past ↦
            let none : node_lines g.lines n ≡ [] = get_or_past g.lines n [] (omega (arith, bill.sizes, past)) in
            absurd (false≢true (ap (λ lines. is_some (count_at lines node)) (sym none) ∙ ap is_some (sym (are n)) ∙ there))
      ]

  pub users_there : AllByRecursion (λ user. user.node < length g.labels) users
  users_there = each_user (λ n. n < length g.labels) users user_there

  abbrev row : BillLine → LineRow
  row user = user_row g.labels code user

  -- they stand in order of parent
  less_first : (a b : Ordering) → a ≡ Less → ordering_then a b ≡ Less
  less_first a b e = rw e refl

  pub rows_by_key : (some : List BillLine) → IsByLabel g.labels some → IsByKey line_key line_key_cmp (map row some)
  rows_by_key [] h = none_by_key line_key line_key_cmp line_key_cmp_total
  rows_by_key (user ∷ some) h =
      by_key line_key line_key_cmp line_key_cmp_total (row user) (map row some)
      (each_of_map (λ k. line_key_cmp (line_key (row user)) k ≡ Less) line_key (map row some)
      (each_of_map (λ later. line_key_cmp (line_key (row user)) (line_key later) ≡ Less) row some
      (Rattle.desk_model.proofs.Elements.each_map (λ later. code_cmp (label_of g.labels user.node) (label_of g.labels later.node) ≡ Less) (λ later. line_key_cmp (line_key (row user)) (line_key (row later)) ≡ Less)
      (λ later below. less_first (code_cmp (label_of g.labels user.node) (label_of g.labels later.node)) (code_cmp code code) below) some h.0)))
      (rows_by_key some h.1)

  key_equal : (a b : Ordering) → is_eq (ordering_then a b) ≡ (is_eq a && is_eq b)
  key_equal Less b = refl
  key_equal Equal b = refl
  key_equal Greater b = refl

  -- a look-up among the rows of users
  with_count : List ℕ → ℕ → LineRow
  with_count parent count = record { parent = parent; child = code; count = count }

  at_other : (parent child : List ℕ) (some : List BillLine) → same_code code child ≡ false → row_of line_key line_key_cmp (parent, child) (map row some) ≡ None
  at_other parent child [] other = refl
  at_other parent child (user ∷ some) other =
      let test : is_eq (line_key_cmp (line_key (row user)) (parent, child)) ≡ false =
      key_equal (code_cmp (label_of g.labels user.node) parent) (code_cmp code child) ∙ ap (λ b. same_code (label_of g.labels user.node) parent && b) other ∙ and_nothing (same_code (label_of g.labels user.node) parent) in
      rw test (at_other parent child some other)
    where
      and_nothing : (b : Bool) → (b && false) ≡ false
      and_nothing true = refl
      and_nothing false = refl

  test_at : (user : BillLine) (parent : List ℕ) → is_eq (line_key_cmp (line_key (row user)) (parent, code)) ≡ same_code (label_of g.labels user.node) parent
  test_at user parent =
      key_equal (code_cmp (label_of g.labels user.node) parent) (code_cmp code code) ∙ ap (λ b. same_code (label_of g.labels user.node) parent && b) (same_code-from code code refl) ∙ and_all (same_code (label_of g.labels user.node) parent)
    where
      and_all : (b : Bool) → (b && true) ≡ b
      and_all true = refl
      and_all false = refl

  at_node : (n : ℕ) → n < length g.labels → (some : List BillLine) → AllByRecursion (λ user. user.node < length g.labels) some →
      row_of line_key line_key_cmp (label_of g.labels n, code) (map row some) ≡ option_map (with_count (label_of g.labels n)) (count_at some n)
  unfolding with_count
  at_node n low [] a = refl
  at_node n low (user ∷ some) a =
      let test = test_at user (label_of g.labels n) ∙ sym (labels_differ g bill user.node n a.0 low) in
      elim (cases_Bool (user.node == n)) [
        | inl same ↦ rw (same, test ∙ same) (ap (λ m. Some (with_count (label_of g.labels m) user.count)) (eqb-true user.node n same))
        | inr other ↦ rw (other, test ∙ other) (at_node n low some a.1)
      ]

  at_none : (parent : List ℕ) (some : List BillLine) → AllByRecursion (λ user. same_code (label_of g.labels user.node) parent ≡ false) some → row_of line_key line_key_cmp (parent, code) (map row some) ≡ None
  at_none parent [] a = refl
  at_none parent (user ∷ some) a = rw (test_at user parent ∙ a.0) (at_none parent some a.1)

  -- a look-up among the lines to the code
  to_other : (parent child : List ℕ) (lines : List LineRow) → same_code code child ≡ false → row_of line_key line_key_cmp (parent, child) (filter (λ line. same_code line.child code) lines) ≡ None
  to_other parent child [] other = refl
  to_other parent child (line ∷ lines) other =
      elim (cases_Bool (same_code line.child code)) [
        | inl its ↦
            let away : is_eq (line_key_cmp (line_key line) (parent, child)) ≡ false =
            key_equal (code_cmp line.parent parent) (code_cmp line.child child) ∙ ap (λ c. same_code line.parent parent && same_code c child) (same_code-true line.child code its) ∙ ap (λ b. same_code line.parent parent && b) other ∙ and_nothing (same_code line.parent parent) in
            rw (its, away) (to_other parent child lines other)
        | inr unlike ↦ rw unlike (to_other parent child lines other)
      ]
    where
      and_nothing : (b : Bool) → (b && false) ≡ false
      and_nothing true = refl
      and_nothing false = refl

  to_code : (parent : List ℕ) (lines : List LineRow) → row_of line_key line_key_cmp (parent, code) (filter (λ line. same_code line.child code) lines) ≡ row_of line_key line_key_cmp (parent, code) lines
  to_code parent [] = refl
  to_code parent (line ∷ lines) =
      elim (cases_Bool (same_code line.child code)) [
        | inl its ↦
            elim (cases_Bool (is_eq (line_key_cmp (line_key line) (parent, code)))) [
              | inl same ↦ rw (its, same) refl
              | inr differs ↦ rw (its, differs) (to_code parent lines)
            ]
        | inr unlike ↦
            let away : is_eq (line_key_cmp (line_key line) (parent, code)) ≡ false =
            key_equal (code_cmp line.parent parent) (code_cmp line.child code) ∙ ap (λ b. same_code line.parent parent && b) unlike ∙ and_nothing (same_code line.parent parent) in
            rw (unlike, away) (to_code parent lines)
      ]
    where
      and_nothing : (b : Bool) → (b && false) ≡ false
      and_nothing true = refl
      and_nothing false = refl

  away_from : (parent : List ℕ) (lines : List LineRow) → AllByRecursion (λ line. same_code line.parent parent ≡ false) lines → row_of line_key line_key_cmp (parent, code) lines ≡ None
  away_from parent [] a = refl
  away_from parent (line ∷ lines) a =
      let away : is_eq (line_key_cmp (line_key line) (parent, code)) ≡ false = key_equal (code_cmp line.parent parent) (code_cmp line.child code) ∙ ap (λ b. b && same_code line.child code) a.0 in
      rw away (away_from parent lines a.1)

  some_one : {x y : LineRow} → Some x ≡ Some y → x ≡ y
  some_one e = cc

  none_one : {G : Type 0} {x : LineRow} → ◌≡◌ {A = Option LineRow} None (Some x) → G
  none_one e = cc

  found_key : (parent : List ℕ) (lines : List LineRow) (r : LineRow) → row_of line_key line_key_cmp (parent, code) lines ≡ Some r → (r.parent ≡ parent) × (r.child ≡ code)
  found_key parent [] r e = none_one e
  found_key parent (line ∷ lines) r e =
      elim (cases_Bool (is_eq (line_key_cmp (line_key line) (parent, code)))) [
        | inl same ↦
            let one : line ≡ r = some_one (sym (ap (λ b. if b then Some line else row_of line_key line_key_cmp (parent, code) lines) same) ∙ e) in
            let parts = and_parts (same_code line.parent parent) (same_code line.child code) (sym (key_equal (code_cmp line.parent parent) (code_cmp line.child code)) ∙ same) in
            (ap (λ l. l.parent) (sym one) ∙ same_code-true line.parent parent parts.0, ap (λ l. l.child) (sym one) ∙ same_code-true line.child code parts.1)
        | inr differs ↦ found_key parent lines r (sym (ap (λ b. if b then Some line else row_of line_key line_key_cmp (parent, code) lines) differs) ∙ e)
      ]

  row_again : (parent : List ℕ) (o : Option LineRow) → line_row t parent code ≡ o → option_map (with_count parent) (option_map (λ line. line.count) o) ≡ o
  unfolding with_count
  row_again parent None e = refl
  row_again parent (Some r) e =
      let is = found_key parent t.lines r e in
      λ i. Some (record { parent = sym is.0 i; child = sym is.1 i; count = r.count })

  found_at : (n : ℕ) (parent : List ℕ) → n < length g.labels → label_of g.labels n ≡ parent → row_of line_key line_key_cmp (parent, code) (map row users) ≡ line_row t parent code
  found_at n parent low is =
      ap (λ p. row_of line_key line_key_cmp (p, code) (map row users)) (sym is)
      ∙ at_node n low users users_there
      ∙ ap (λ p. option_map (with_count p) (count_at users n)) is
      ∙ ap (option_map (with_count parent))
      (are n
      ∙ bridge_into t g (bridge t s g bill of) n node low inside
      ∙ ap (λ p. option_map (λ line. line.count) (line_row t p (label_of g.labels node))) is
      ∙ ap (λ c. option_map (λ line. line.count) (line_row t parent c)) label)
      ∙ row_again parent (line_row t parent code) refl

  not_the : (parent other : List ℕ) → is_kept t parent ≡ false → is_kept t other ≡ true → same_code other parent ≡ false
  not_the parent other none kept = false_from_ne_true (same_code other parent) (λ same. both_ways (is_kept t parent) none (ap (is_kept t) (sym (same_code-true other parent same)) ∙ kept))

  found_nowhere : (parent : List ℕ) → is_kept t parent ≡ false → row_of line_key line_key_cmp (parent, code) (map row users) ≡ line_row t parent code
  found_nowhere parent none =
      at_none parent users
      (Rattle.desk_model.proofs.Elements.each_map (λ user. user.node < length g.labels) (λ user. same_code (label_of g.labels user.node) parent ≡ false)
      (λ user low. not_the parent (label_of g.labels user.node) none (label_kept t (right t s g bill of) g (bridge t s g bill of) user.node low)) users users_there)
      ∙ sym (away_from parent t.lines
      (Rattle.desk_model.proofs.Elements.each_map (λ line. is_part t line.parent ≡ true) (λ line. same_code line.parent parent ≡ false)
      (λ line kept. not_the parent line.parent none (or_right (is_material t line.parent) (is_part t line.parent) kept)) t.lines (each_from_all (λ line. is_part t line.parent) t.lines (bill_of t s).parents)))

  found_by : (parent : List ℕ) → row_of line_key line_key_cmp (parent, code) (map row users) ≡ line_row t parent code
  found_by parent =
      elim (cases_Bool (is_kept t parent)) [
        | inl kept ↦ let at = node_of-kept t g.labels of.numbered parent kept in found_at (node_of g.labels parent) parent at.0 at.1
        | inr none ↦ found_nowhere parent none
      ]

  found_alike : (k : List ℕ × List ℕ) → row_of line_key line_key_cmp k (map row users) ≡ row_of line_key line_key_cmp k (lines_to t code)
  found_alike k =
      elim (cases_Bool (same_code code k.1)) [
        | inl same ↦ subst (λ child. row_of line_key line_key_cmp (k.0, child) (map row users) ≡ row_of line_key line_key_cmp (k.0, child) (lines_to t code)) (same_code-true code k.1 same) (found_by k.0 ∙ sym (to_code k.0 t.lines))
        | inr other ↦ at_other k.0 k.1 users other ∙ sym (to_other k.0 k.1 t.lines other)
      ]

  pub users_are : IsByLabel g.labels users → map row users ≡ lines_to t code
  users_are by_label =
      same_rows line_key line_key_cmp line_key_cmp_total (map row users) (lines_to t code) (rows_by_key users by_label) (by_key-filter line_key line_key_cmp line_key_cmp_total (λ line. same_code line.child code) t.lines s.ordered.lines) found_alike
