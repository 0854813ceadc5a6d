-- A bill whose nodes are added in any order, and its index, which has the codes before they have nodes.
use Rattle.std.proofs.Common.{◌≡◌, ℕ, eqb, ◌+◌, ◌<◌, ◌≤◌, Bool, true, false, cond, not, ◌&&◌, ◌||◌, List, [], ◌∷◌, ◌++◌, filter, length, map, Option, Some, None, option_map, refl, sym, ap, ◌∙◌, subst, inl, inr, arith}
use Rattle.std.specs.Option.{option_eq}
use Rattle.std.proofs.lemmas.Bool.{cases_Bool, eqb-true, false≢true, or_cases}
use Rattle.std.proofs.lemmas.List.{length-append}
use Rattle.desk_text.specs.Code.{code_cmp, same_code}
use Rattle.desk_text.proofs.CodeLemmas.{same_code_itself}
use Rattle.desk_rows.specs.Rows.{row_of, with_row, with_rows}
use Rattle.desk_rows.proofs.Lookups.{row_of-with_row, row_of-with_row_other}
use Rattle.desk_model.specs.Lists.{Lists, is_kept, is_material, is_part, nodes_of}
use Rattle.desk_model.proofs.Anys.{count-append}
use Rattle.desk_model.proofs.Kept.{code_cmp_total, same_code-true}
use Rattle.desk_model.proofs.Times.{times, times_append, times_by_code, times_filter}
use Rattle.desk_findings.specs.Numbering.{AreLabels}
use Rattle.desk_findings.proofs.Children.{not_part}
use Rattle.desk_findings.proofs.Numbering.{label_count}
use Rattle.desk_history.specs.Sound.{IsConsistent, KeepsLimits}
use Rattle.desk_graph.specs.Bill.{IsBillGraph}
use Rattle.desk_graph.specs.Edits.{is_taken, with_node}
use Rattle.desk_graph.specs.Graph.{Graph}
use Rattle.desk_graph.proofs.Ends.{lines_of-more}
use Rattle.desk_bridge.specs.declared.node_index.NodeRow.{NodeRow}
use Rattle.desk_bridge.specs.Bridge.{IsBillOf, node_of}
use Rattle.desk_bridge.specs.Building.{IsFilled, node_or_none, row_without_node, with_first}
use Rattle.desk_bridge.specs.Index.{IsIndex, index_with, node_row_if}
use Rattle.desk_bridge.proofs.Bridges.{once, right_tables, taken_by}
use Rattle.desk_bridge.proofs.Cycles.{fit_bill}
use Rattle.desk_bridge.proofs.Found.{node_of-taken}
use Rattle.desk_bridge.proofs.Indexes.{node_of-kept, node_of-new, or_no, or_yes, taken-more}

or_assoc : (a b c : Bool) → ((a || b) || c) ≡ (a || (b || c))
or_assoc true b c = refl
or_assoc false b c = refl

-- rows without nodes are found by their codes, where the others are such rows too
found_without : (more : List (List ℕ)) (rows : List NodeRow) (there : List ℕ → Bool) → ((code : List ℕ) → row_of (λ row. row.code) code_cmp code rows ≡ node_row_if (there code) code 24576) →
    (code : List ℕ) → row_of (λ row. row.code) code_cmp code (with_rows (λ row. row.code) code_cmp (map row_without_node more) rows) ≡ node_row_if (there code || is_taken more code) code 24576
found_without [] rows there found code = found code ∙ ap (λ b. node_row_if b code 24576) (sym (or_no (there code)))
found_without (new ∷ more) rows there found code =
    found_without more (with_row (λ row. row.code) code_cmp (row_without_node new) rows) (λ other. there other || same_code new other) next code
    ∙ ap (λ b. node_row_if b code 24576) (or_assoc (there code) (same_code new code) (is_taken more code))
  where
    next : (other : List ℕ) → row_of (λ row. row.code) code_cmp other (with_row (λ row. row.code) code_cmp (row_without_node new) rows) ≡ node_row_if (there other || same_code new other) other 24576
    next other =
        elim (cases_Bool (same_code new other)) [
          | inl same ↦
              subst (λ c. row_of (λ row. row.code) code_cmp c (with_row (λ row. row.code) code_cmp (row_without_node new) rows) ≡ node_row_if (there c || same_code new c) c 24576) (same_code-true new other same)
              (row_of-with_row (λ row. row.code) code_cmp code_cmp_total (row_without_node new) rows
              ∙ ap (λ b. node_row_if b new 24576) (sym (ap (λ b. there new || b) (same_code_itself new) ∙ or_yes (there new))))
          | inr away ↦
              row_of-with_row_other (λ row. row.code) code_cmp code_cmp_total (row_without_node new) other rows away
              ∙ found other
              ∙ ap (λ b. node_row_if b other 24576) (sym (ap (λ b. there other || b) away ∙ or_no (there other)))
        ]

module _ (t : Lists) (s : IsConsistent t) where
  times_nodes : (code : List ℕ) → times code (nodes_of t) ≡ cond (is_kept t code) 1 0
  times_nodes code =
      times_append code (map (λ row. row.code) t.materials) (map (λ row. row.code) t.parts)
      ∙ ap (λ n. n + times code (map (λ row. row.code) t.parts)) (times_by_code (λ row. row.code) code t.materials s.ordered.materials)
      ∙ ap (λ n. cond (is_material t code) 1 0 + n) (times_by_code (λ row. row.code) code t.parts s.ordered.parts)
      ∙ one_of (is_material t code) (is_part t code) (not_part t s.codes_apart code)
    where
      one_of : (a b : Bool) → (a ≡ true → b ≡ false) → cond a 1 0 + cond b 1 0 ≡ cond (a || b) 1 0
      one_of true b f = rw (f refl) refl
      one_of false b f = omega arith

  -- the codes of all materials and parts are those that are kept
  pub taken_nodes : (code : List ℕ) → is_taken (nodes_of t) code ≡ is_kept t code
  taken_nodes = taken_by t (nodes_of t) times_nodes

  -- in the beginning no code has a node
  pub filled_first : (codes : List (List ℕ)) (rows : List NodeRow) (g : Graph) → codes ≡ nodes_of t → rows ≡ with_rows (λ row. row.code) code_cmp (map row_without_node codes) [] → g ≡ record { labels = []; lines = [] } → IsFilled t g rows
  filled_first codes rows g codes_are rows_are g_is = subst (λ h. IsFilled t h rows) (sym g_is) (subst (IsFilled t (record { labels = []; lines = [] })) (sym rows_are) none)
    where
      none : IsFilled t (record { labels = []; lines = [] }) (with_rows (λ row. row.code) code_cmp (map row_without_node codes) [])
      none = record {
        index = λ code. found_without codes [] (λ other. false) (λ other. refl) code ∙ ap (λ b. node_row_if b code 24576) (ap (λ list. is_taken list code) codes_are ∙ taken_nodes code);
        kept = λ code e. absurd (false≢true e);
        bare = λ node. Rattle.std.proofs.lemmas.List.get_or_past {X = List Rattle.desk_graph.specs.declared.line.BillLine.BillLine} [] node [] (omega arith);
      }

  module _ (g : Graph) (bill : IsBillGraph g) where
    label_once : (code : List ℕ) → times code g.labels ≡ cond (is_taken g.labels code) 1 0
    label_once = once g.labels bill.unique

    module _ (kept : (code : List ℕ) → is_taken g.labels code ≡ true → is_kept t code ≡ true) where
      others : List (List ℕ)
      others = filter (λ code. not (is_taken g.labels code)) (nodes_of t)

      times_others : (code : List ℕ) → times code others ≡ cond (not (is_taken g.labels code)) (cond (is_kept t code) 1 0) 0
      unfolding others
      times_others code =
          times_filter (λ other. not (is_taken g.labels other)) code (nodes_of t)
          ∙ ap (λ n. cond (not (is_taken g.labels code)) n 0) (times_nodes code)

      both : (a b : Bool) → (a ≡ true → b ≡ true) → cond a 1 0 + cond (not a) (cond b 1 0) 0 ≡ cond b 1 0
      both true b f = rw (f refl) refl
      both false b f = omega arith

      all_labels : AreLabels t (g.labels ++ others)
      all_labels code =
          count-append (λ listed. same_code listed code) g.labels others
          ∙ ap (λ n. n + times code others) (label_once code)
          ∙ ap (λ n. cond (is_taken g.labels code) 1 0 + n) (times_others code)
          ∙ both (is_taken g.labels code) (is_kept t code) (kept code)

      some_there : (code : List ℕ) (codes : List (List ℕ)) → times code codes ≡ 1 → 1 ≤ length codes
      some_there code [] e = absurd (omega (arith, e))
      some_there code (first ∷ codes) e = omega arith

      -- where a kept code has no node there is room for one
      pub room_for_free : KeepsLimits t → (code : List ℕ) → is_kept t code ≡ true → is_taken g.labels code ≡ false → length g.labels < 24576
      room_for_free limits code is_there free =
          let fits = fit_bill t limits.tables_fit in
          let one : times code others ≡ 1 = times_others code ∙ ap (λ b. cond (not b) (cond (is_kept t code) 1 0) 0) free ∙ ap (λ b. cond b 1 0) is_there in
          omega (arith, fits.materials, fits.parts, label_count t s.ordered (right_tables t s) (g.labels ++ others) all_labels, length-append g.labels others, some_there code others one)

  -- the index while a node is added
  pub filled_more : (g : Graph) (rows : List NodeRow) (new : List ℕ) → is_kept t new ≡ true → is_taken g.labels new ≡ false → IsFilled t g rows → IsFilled t (with_node new g) (index_with new (length g.labels) rows)
  filled_more g rows new is_there free filled = record {
    index = λ code.
        elim (cases_Bool (same_code new code)) [
          | inl same ↦ subst (λ c. row_of (λ row. row.code) code_cmp c (index_with new (length g.labels) rows) ≡ node_row_if (is_kept t c) c (node_or_none (g.labels ++ new ∷ []) c)) (same_code-true new code same) here
          | inr away ↦
              row_of-with_row_other (λ row. row.code) code_cmp code_cmp_total (record { code = new; node = length g.labels }) code rows away
              ∙ filled.index code
              ∙ ap (node_row_if (is_kept t code) code) (other code away (is_taken g.labels code) refl)
        ];
    kept = λ code e.
        elim (or_cases (is_taken g.labels code) (same_code new code) (sym (taken-more g.labels new code) ∙ e)) [
          | inl before ↦ filled.kept code before
          | inr same ↦ subst (λ c. is_kept t c ≡ true) (same_code-true new code same) is_there
        ];
    bare = λ node. lines_of-more g.lines node ∙ filled.bare node;
  }
    where
      now_taken : is_taken (g.labels ++ new ∷ []) new ≡ true
      now_taken = taken-more g.labels new new ∙ ap (λ b. is_taken g.labels new || b) (same_code_itself new) ∙ or_yes (is_taken g.labels new)

      here : row_of (λ row. row.code) code_cmp new (index_with new (length g.labels) rows) ≡ node_row_if (is_kept t new) new (node_or_none (g.labels ++ new ∷ []) new)
      here =
          row_of-with_row (λ row. row.code) code_cmp code_cmp_total (record { code = new; node = length g.labels }) rows
          ∙ ap (node_row_if true new) (sym (ap (λ b. cond b (node_of (g.labels ++ new ∷ []) new) 24576) now_taken ∙ node_of-new g.labels new free))
          ∙ ap (λ b. node_row_if b new (node_or_none (g.labels ++ new ∷ []) new)) (sym is_there)

      still : (code : List ℕ) → same_code new code ≡ false → is_taken (g.labels ++ new ∷ []) code ≡ is_taken g.labels code
      still code away = taken-more g.labels new code ∙ ap (λ b. is_taken g.labels code || b) away ∙ or_no (is_taken g.labels code)

      other : (code : List ℕ) → same_code new code ≡ false → (b : Bool) → is_taken g.labels code ≡ b → node_or_none g.labels code ≡ node_or_none (g.labels ++ new ∷ []) code
      other code away true e =
          ap (λ b. cond b (node_of g.labels code) 24576) e
          ∙ sym (node_of-kept g.labels new code e)
          ∙ sym (ap (λ b. cond b (node_of (g.labels ++ new ∷ []) code) 24576) (still code away ∙ e))
      other code away false e =
          ap (λ b. cond b (node_of g.labels code) 24576) e
          ∙ sym (ap (λ b. cond b (node_of (g.labels ++ new ∷ []) code) 24576) (still code away ∙ e))

  -- a look-up tells whether a node is still missing
  module _ (g : Graph) (bill : IsBillGraph g) (rows : List NodeRow) (filled : IsFilled t g rows) (code : List ℕ) (found : Option ℕ) (is : found ≡ option_map (λ row. row.node) (row_of (λ row. row.code) code_cmp code rows)) where
    found_by : found ≡ option_map (λ row. row.node) (node_row_if (is_kept t code) code (node_or_none g.labels code))
    found_by = is ∙ ap (option_map (λ row. row.node)) (filled.index code)

    some_inside : (m n : ℕ) → Some m ≡ Some n → m ≡ n
    some_inside m n e = cc

    none_some : (n : ℕ) {G : Type 0} → None ≡ Some n → G
    none_some n e = cc

    pub is_missing : option_eq eqb found (Some 24576) ≡ true → found ≡ Some 24576
    is_missing = told found
      where
        told : (o : Option ℕ) → option_eq eqb o (Some 24576) ≡ true → o ≡ Some 24576
        told (Some node) e = ap Some (eqb-true node 24576 e)
        told None e = absurd (false≢true e)

    pub isnt_missing : option_eq eqb found (Some 24576) ≡ false → found ≡ Some 24576 → ⊥
    isnt_missing e is_there = false≢true (sym e ∙ ap (λ o. option_eq eqb o (Some 24576)) is_there)

    pub missing_kept : found ≡ Some 24576 → is_kept t code ≡ true
    missing_kept e = there (is_kept t code) (sym found_by ∙ e)
      where
        there : (b : Bool) → option_map (λ row. row.node) (node_row_if b code (node_or_none g.labels code)) ≡ Some 24576 → b ≡ true
        there true h = refl
        there false h = none_some 24576 h

    pub missing_free : found ≡ Some 24576 → is_taken g.labels code ≡ false
    missing_free e = there (is_taken g.labels code) refl
      where
        node : node_or_none g.labels code ≡ 24576
        node = some_inside (node_or_none g.labels code) 24576 (sym (found_by ∙ ap (λ b. option_map (λ row. row.node) (node_row_if b code (node_or_none g.labels code))) (missing_kept e)) ∙ e)

        there : (b : Bool) → is_taken g.labels code ≡ b → is_taken g.labels code ≡ false
        there false h = h
        there true h =
            let inside = (node_of-taken g.labels code h).0 in
            let at : node_of g.labels code ≡ 24576 = sym (ap (λ b. cond b (node_of g.labels code) 24576) h) ∙ node in
            absurd (omega (arith, inside, at, bill.nodes))

    -- where nothing is missing the code has a node or isn't kept
    pub there_already : (found ≡ Some 24576 → ⊥) → (other : List ℕ) → is_taken g.labels other ≡ (is_taken g.labels other || (is_kept t other && is_taken (code ∷ []) other))
    there_already away other = sym (by_kept (is_kept t other) refl (same_code code other) refl (is_taken g.labels other) refl)
      where
        by_kept : (k : Bool) → is_kept t other ≡ k → (same : Bool) → same_code code other ≡ same → (b : Bool) → is_taken g.labels other ≡ b → (b || (k && (same || false))) ≡ b
        by_kept k ke same se true e = refl
        by_kept false ke same se false e = refl
        by_kept true ke false se false e = refl
        by_kept true ke true se false e =
            let is_other = same_code-true code other se in
            let kept_here : is_kept t code ≡ true = ap (is_kept t) is_other ∙ ke in
            let free_here : is_taken g.labels code ≡ false = ap (is_taken g.labels) is_other ∙ e in
            absurd (away (found_by ∙ ap (λ b. option_map (λ row. row.node) (node_row_if b code (node_or_none g.labels code))) kept_here ∙ ap (λ b. Some (cond b (node_of g.labels code) 24576)) free_here))

  -- what is taken with one more node
  pub taken_with : (labels : List (List ℕ)) (new : List ℕ) → is_kept t new ≡ true → (other : List ℕ) → is_taken (labels ++ new ∷ []) other ≡ (is_taken labels other || (is_kept t other && is_taken (new ∷ []) other))
  taken_with labels new is_there other =
      taken-more labels new other ∙ ap (λ b. is_taken labels other || b) (by_same (same_code new other) refl)
    where
      by_same : (b : Bool) → same_code new other ≡ b → same_code new other ≡ (is_kept t other && is_taken (new ∷ []) other)
      by_same true e = e ∙ sym (ap (λ k. k && is_taken (new ∷ []) other) (subst (λ c. is_kept t c ≡ true) (same_code-true new other e) is_there) ∙ or_no (same_code new other) ∙ e)
      by_same false e = e ∙ sym (ap (λ same. is_kept t other && (same || false)) e ∙ and_no (is_kept t other))
        where
          and_no : (b : Bool) → (b && false) ≡ false
          and_no true = refl
          and_no false = refl

  -- when each kept code has been tried, the bill has all nodes
  module _ (limits : KeepsLimits t) (g : Graph) (bill : IsBillGraph g) (rows : List NodeRow) (filled : IsFilled t g rows) (codes : List (List ℕ)) (codes_are : codes ≡ nodes_of t) (before : List ℕ → Bool)
      (taken : (code : List ℕ) → is_taken g.labels code ≡ (before code || (is_kept t code && is_taken codes code))) where
    pub all_taken : (code : List ℕ) → is_taken g.labels code ≡ is_kept t code
    all_taken code = by_kept (is_kept t code) refl (is_taken g.labels code) refl
      where
        by_kept : (k : Bool) → is_kept t code ≡ k → (b : Bool) → is_taken g.labels code ≡ b → is_taken g.labels code ≡ is_kept t code
        by_kept k ke true e = e ∙ sym (filled.kept code e)
        by_kept false ke false e = e ∙ sym ke
        by_kept true ke false e =
            let all : is_taken codes code ≡ true = ap (λ list. is_taken list code) codes_are ∙ taken_nodes code ∙ ke in
            absurd (false≢true (sym e ∙ taken code ∙ ap (λ k. before code || (k && is_taken codes code)) ke ∙ ap (λ b. before code || b) all ∙ or_yes (before code)))

    pub filled_bill : IsBillOf (with_first t 0) g
    filled_bill = record {
      numbered = record {
        taken = all_taken;
        count = label_count t s.ordered (right_tables t s) g.labels (λ code. label_once g bill code ∙ ap (λ b. cond b 1 0) (all_taken code));
      };
      lines = λ node inside. sym (ap (map (Rattle.desk_bridge.specs.Bridge.line_row_at g.labels node)) (filled.bare node));
    }

    pub filled_index : IsIndex g.labels rows
    filled_index code =
        filled.index code
        ∙ ap (λ b. node_row_if b code (node_or_none g.labels code)) (sym (all_taken code))
        ∙ by_taken (is_taken g.labels code) refl
      where
        by_taken : (b : Bool) → is_taken g.labels code ≡ b → node_row_if (is_taken g.labels code) code (node_or_none g.labels code) ≡ node_row_if (is_taken g.labels code) code (node_of g.labels code)
        by_taken true e = ap (λ b. node_row_if (is_taken g.labels code) code (cond b (node_of g.labels code) 24576)) e
        by_taken false e = ap (λ b. node_row_if b code (node_or_none g.labels code)) e ∙ sym (ap (λ b. node_row_if b code (node_of g.labels code)) e)
