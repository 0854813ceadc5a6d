-- The steps by which seeds are found: materials that list a substance, and the nodes of codes.
use Rattle.std.proofs.Common.{◌≡◌, ℕ, ◌+◌, ◌<◌, ◌≤◌, Bool, true, false, cond, ◌&&◌, ◌||◌, ◌==◌, List, [], ◌∷◌, ◌++◌, length, filter, get_or, take, Option, Some, None, refl, sym, ap, ◌∙◌, subst, inl, inr, Less, is_eq, arith}
use Rattle.std.specs.Prelude.{if◌then◌else◌, nat_lt}
use Rattle.std.specs.List.{list_any}
use Rattle.std.specs.Option.{option_map_or}
use Rattle.std.proofs.lemmas.Bool.{and_from, and_parts, cases_Bool, cases_lt, cases_order, eq-eqb, eqb-true, false_from_ne_true, le-ltb, lt-ltb, ltb-true, ne_eqb}
use Rattle.std.proofs.lemmas.List.{get_or_append_left, length-append, take_more}
use Rattle.std.proofs.lemmas.List.Folds.{list_any-append}
use Rattle.desk_text.specs.Code.{code_cmp, same_code}
use Rattle.desk_text.proofs.CodeLemmas.{same_code_itself}
use Rattle.desk_rows.specs.Rows.{IsByKey, row_of}
use Rattle.desk_rows.specs.Runs.{IsOneRun}
use Rattle.desk_rows.proofs.Order.{first_above, rest_by_key}
use Rattle.desk_model.specs.declared.rows.line.LineRow.{LineRow}
use Rattle.desk_model.specs.declared.rows.material.MaterialRow.{MaterialRow}
use Rattle.desk_model.specs.Lists.{IsOrdered, Lists, material_row}
use Rattle.desk_model.proofs.Elements.{any-filter, any-map, any_none, each_in_map, each_map}
use Rattle.desk_model.proofs.Kept.{code_cmp_total, same_code-from, same_code-true}
use Rattle.desk_findings.specs.Reaches.{lines_of}
use Rattle.desk_findings.proofs.FindingRolls.{same_code_back}
use Rattle.desk_findings.proofs.Groups.{lines_together}
use Rattle.desk_graph.specs.Edits.{is_taken}
use Rattle.desk_graph.specs.Graph.{label_of}
use Rattle.desk_graph.specs.Reaches.{has_node}
use Rattle.desk_graph.proofs.Reached.{same_test}
use Rattle.desk_history.specs.Affected.{lists_substance, materials_listing}
use Rattle.desk_bridge.specs.Bridge.{node_of}
use Rattle.desk_bridge.specs.Index.{node_if}
use Rattle.desk_bridge.specs.Seeds.{AreNodesOf}
use Rattle.desk_bridge.proofs.Found.{node_of-taken}
use Rattle.desk_bridge.proofs.Nodes.{taken_of_node}
use Rattle.desk_bridge.proofs.Plans.{node_of-first}

and_no : (b : Bool) → (b && false) ≡ false
and_no true = refl
and_no false = refl

or_no : (b : Bool) → (b || false) ≡ b
or_no true = refl
or_no false = refl

and_either : (a b c : Bool) → ((a && b) || (a && c)) ≡ (a && (b || c))
and_either true b c = refl
and_either false b c = refl

-- the lines of a code are one run of the lines
pub run_is : (t : Lists) → IsOrdered t → (code : List ℕ) (rows run : List LineRow) → rows ≡ t.lines → ((found : List LineRow) → IsOneRun (λ line. line.parent) code_cmp code rows found → run ≡ found) → run ≡ lines_of t.lines code
run_is t ordered code rows run e f = f (lines_of t.lines code) (subst (λ list. IsOneRun (λ line. line.parent) code_cmp code list (lines_of t.lines code)) (sym e) (lines_together t ordered code))

-- a test of the one row that has the code
found_passes : (p : MaterialRow → Bool) (code : List ℕ) (rows : List MaterialRow) → IsByKey (λ row. row.code) code_cmp rows → option_map_or p (row_of (λ row. row.code) code_cmp code rows) false ≡ list_any (λ row. p row && same_code code row.code) rows
found_passes p code [] ordered = refl
found_passes p code (row ∷ rows) ordered =
    elim (cases_Bool (same_code row.code code)) [
      | inl here ↦
          let back : same_code code row.code ≡ true = same_code_back code row.code ∙ here in
          let rest : list_any (λ later. p later && same_code code later.code) rows ≡ false =
          any_none (λ later. p later && same_code code later.code) rows
          (each_map (λ later. code_cmp row.code later.code ≡ Less) (λ later. (p later && same_code code later.code) ≡ false)
          (λ later above. ap (λ c. p later && same_code c later.code) (sym (same_code-true row.code code here)) ∙ ap (λ o. p later && is_eq o) above ∙ and_no (p later)) rows
          (each_in_map (λ k. code_cmp row.code k ≡ Less) (λ r. r.code) rows (first_above (λ r. r.code) code_cmp code_cmp_total row rows ordered))) in
          ap (λ b. option_map_or p (cond b (Some row) (row_of (λ r. r.code) code_cmp code rows)) false) here
          ∙ sym (ap (λ b. (p row && b) || list_any (λ later. p later && same_code code later.code) rows) back ∙ ap (λ b. (p row && true) || b) rest ∙ plain (p row))
      | inr other ↦
          ap (λ b. option_map_or p (cond b (Some row) (row_of (λ r. r.code) code_cmp code rows)) false) other
          ∙ found_passes p code rows (rest_by_key (λ r. r.code) code_cmp code_cmp_total row rows ordered)
          ∙ sym (ap (λ b. (p row && b) || list_any (λ later. p later && same_code code later.code) rows) (same_code_back code row.code ∙ other) ∙ ap (λ b. b || list_any (λ later. p later && same_code code later.code) rows) (and_no (p row)))
    ]
  where
    plain : (b : Bool) → ((b && true) || false) ≡ b
    plain true = refl
    plain false = refl

-- a code is that of a material that lists the substance where the material of the code does
pub found_listing : (t : Lists) → IsOrdered t → (substance code : List ℕ) (o : Option MaterialRow) → o ≡ material_row t code → option_map_or (lists_substance substance) o false ≡ list_any (same_code code) (materials_listing t substance)
found_listing t ordered substance code o is =
    ap (λ found. option_map_or (lists_substance substance) found false) is
    ∙ found_passes (lists_substance substance) code t.materials ordered.materials
    ∙ sym (any-map (same_code code) (λ material. material.code) (filter (lists_substance substance) t.materials) ∙ any-filter (lists_substance substance) (λ material. same_code code material.code) t.materials)

some_inside : (m n : ℕ) → Some m ≡ Some n → m ≡ n
some_inside m n e = cc

none_some : (n : ℕ) {G : Type 0} → None ≡ Some n → G
none_some n e = cc

some_none : (n : ℕ) {G : Type 0} → Some n ≡ None → G
some_none n e = cc

-- a label that differs from the others stands first at its node
pub place_of_label : (labels : List (List ℕ)) → ((a b : ℕ) → a < length labels → b < length labels → label_of labels a ≡ label_of labels b → a ≡ b) → (node : ℕ) → node < length labels → node_of labels (label_of labels node) ≡ node
place_of_label labels unique node inside =
    node_of-first labels (label_of labels node) node inside
    (λ k low.
    false_from_ne_true (same_code (label_of labels k) (label_of labels node)) (λ same.
    let one = unique k node (omega (arith, low, inside)) inside (same_code-true (label_of labels k) (label_of labels node) same) in
    omega (arith, low, one)))
    (same_code_itself (label_of labels node))

module _ (labels : List (List ℕ)) (unique : (a b : ℕ) → a < length labels → b < length labels → label_of labels a ≡ label_of labels b → a ≡ b) (code : List ℕ) where
  -- the node of a code is the one whose label it is
  is_its_node : (node : ℕ) → (is_taken labels code && (node_of labels code == node)) ≡ (nat_lt node (length labels) && same_code (label_of labels node) code)
  is_its_node node = same_test (is_taken labels code && (node_of labels code == node)) (nat_lt node (length labels) && same_code (label_of labels node) code) into from
    where
      into : (is_taken labels code && (node_of labels code == node)) ≡ true → (nat_lt node (length labels) && same_code (label_of labels node) code) ≡ true
      into e =
          let both = and_parts (is_taken labels code) (node_of labels code == node) e in
          let at = node_of-taken labels code both.0 in
          let here = eqb-true (node_of labels code) node both.1 in
          and_from (nat_lt node (length labels)) (same_code (label_of labels node) code) (lt-ltb node (length labels) (omega (arith, at.0, here))) (same_code-from (label_of labels node) code (ap (label_of labels) (sym here) ∙ at.1))

      from : (nat_lt node (length labels) && same_code (label_of labels node) code) ≡ true → (is_taken labels code && (node_of labels code == node)) ≡ true
      from e =
          let both = and_parts (nat_lt node (length labels)) (same_code (label_of labels node) code) e in
          let inside = ltb-true node (length labels) both.0 in
          let is = same_code-true (label_of labels node) code both.1 in
          and_from (is_taken labels code) (node_of labels code == node) (subst (λ c. is_taken labels c ≡ true) is (taken_of_node labels node inside))
          (eq-eqb (node_of labels code) node (ap (node_of labels) (sym is) ∙ place_of_label labels unique node inside))

  -- the node that a look-up finds is appended
  pub pushed_found : (found : ℕ) → Some found ≡ node_if labels code → (old new : List ℕ) → new ≡ old ++ found ∷ [] → (node : ℕ) → has_node new node ≡ (has_node old node || (nat_lt node (length labels) && same_code (label_of labels node) code))
  pushed_found found is old new e node =
      ap (λ nodes. has_node nodes node) e
      ∙ list_any-append (λ other. other == node) old (found ∷ [])
      ∙ ap (λ b. has_node old node || b) (or_no (found == node) ∙ by_taken (is_taken labels code) refl ∙ is_its_node node)
    where
      by_taken : (b : Bool) → is_taken labels code ≡ b → (found == node) ≡ (is_taken labels code && (node_of labels code == node))
      by_taken true taken =
          ap (λ m. m == node) (some_inside found (node_of labels code) (is ∙ ap (λ b. cond b (Some (node_of labels code)) None) taken))
          ∙ sym (ap (λ b. b && (node_of labels code == node)) taken)
      by_taken false free = some_none found (is ∙ ap (λ b. cond b (Some (node_of labels code)) None) free)

  -- a look-up that finds none leaves the nodes
  pub none_found : None ≡ node_if labels code → (old : List ℕ) (node : ℕ) → has_node old node ≡ (has_node old node || (nat_lt node (length labels) && same_code (label_of labels node) code))
  none_found is old node = sym (ap (λ b. has_node old node || b) (sym (is_its_node node) ∙ ap (λ b. b && (node_of labels code == node)) (free (is_taken labels code) is)) ∙ or_no (has_node old node))
    where
      free : (b : Bool) → None ≡ cond b (Some (node_of labels code)) None → b ≡ false
      free true e = none_some (node_of labels code) e
      free false e = refl

-- no node yet
pub known_none : (labels : List (List ℕ)) (nodes : List ℕ) → nodes ≡ [] → (node : ℕ) → has_node nodes node ≡ (nat_lt node (length labels) && false)
known_none labels nodes e node = ap (λ ns. has_node ns node) e ∙ sym (and_no (nat_lt node (length labels)))

-- one code more
pub known_more : (labels codes : List (List ℕ)) (i : ℕ) (code : List ℕ) (old new : List ℕ) → i < length codes → code ≡ get_or codes i code → AreNodesOf labels (take i codes) old →
    ((node : ℕ) → has_node new node ≡ (has_node old node || (nat_lt node (length labels) && same_code (label_of labels node) code))) → AreNodesOf labels (take (i + 1) codes) new
known_more labels codes i code old new h is before step node =
    step node
    ∙ ap (λ b. b || (nat_lt node (length labels) && same_code (label_of labels node) code)) (before node)
    ∙ and_either (nat_lt node (length labels)) (list_any (same_code (label_of labels node)) (take i codes)) (same_code (label_of labels node) code)
    ∙ ap (λ b. nat_lt node (length labels) && b)
    (sym (ap (list_any (same_code (label_of labels node))) (take_more codes i code h)
    ∙ list_any-append (same_code (label_of labels node)) (take i codes) (get_or codes i code ∷ [])
    ∙ ap (λ b. list_any (same_code (label_of labels node)) (take i codes) || b) (or_no (same_code (label_of labels node) (get_or codes i code)) ∙ ap (same_code (label_of labels node)) (sym is))))

-- labels that only grow at their end
module _ (before after more : List (List ℕ)) (grown : after ≡ before ++ more) where
  pub not_fewer : length before ≤ length after
  not_fewer = omega (arith, ap length grown, length-append before more)

  -- the nodes of before are those of the codes below the first new node
  pub known_below : (codes : List (List ℕ)) (nodes : List ℕ) → AreNodesOf before codes nodes → (first : ℕ) → first ≡ length before → (node : ℕ) → has_node nodes node ≡ (nat_lt node first && list_any (same_code (label_of after node)) codes)
  known_below codes nodes are first is node =
      elim (cases_lt node (length before)) [
        | inl low ↦
            are node
            ∙ ap (λ label. nat_lt node (length before) && list_any (same_code label) codes) (sym (ap (λ labels. label_of labels node) grown ∙ get_or_append_left before more [] node low))
            ∙ ap (λ n. nat_lt node n && list_any (same_code (label_of after node)) codes) (sym is)
        | inr past ↦
            are node
            ∙ ap (λ b. b && list_any (same_code (label_of before node)) codes) (le-ltb node (length before) past)
            ∙ sym (ap (λ n. nat_lt node n && list_any (same_code (label_of after node)) codes) is ∙ ap (λ b. b && list_any (same_code (label_of after node)) codes) (le-ltb node (length before) past))
      ]

-- one node more, whose label is among the codes or not
pub seed_more : (labels codes : List (List ℕ)) (id : ℕ) (label : List ℕ) → label ≡ label_of labels id → (found : Bool) → found ≡ list_any (same_code label) codes → (old new : List ℕ) → new ≡ old ++ (if found then id ∷ [] else []) →
    ((node : ℕ) → has_node old node ≡ (nat_lt node id && list_any (same_code (label_of labels node)) codes)) → (node : ℕ) → has_node new node ≡ (nat_lt node (id + 1) && list_any (same_code (label_of labels node)) codes)
seed_more labels codes id label label_is found found_is old new e before node =
    ap (λ nodes. has_node nodes node) e
    ∙ list_any-append (λ other. other == node) old (if found then id ∷ [] else [])
    ∙ ap (λ b. b || has_node (if found then id ∷ [] else []) node) (before node)
    ∙ ap (λ b. (nat_lt node id && is_among node) || b) (one_of found)
    ∙ elim (cases_order node id) [
      | inl same ↦
          let here = eq-eqb id node (sym same) in
          ap (λ b. (b && is_among node) || (found && (id == node))) (le-ltb node id (omega (arith, same)))
          ∙ ap (λ b. found && b) here ∙ and_yes found ∙ found_is
          ∙ ap (λ l. list_any (same_code l) codes) (label_is ∙ ap (label_of labels) (sym same))
          ∙ sym (ap (λ b. b && is_among node) (lt-ltb node (id + 1) (omega (arith, same))))
      | inr (inl less) ↦
          ap (λ b. (b && is_among node) || (found && (id == node))) (lt-ltb node id less)
          ∙ ap (λ b. is_among node || (found && b)) (ne_eqb id node (omega (arith, less)))
          ∙ ap (λ b. is_among node || b) (and_no found) ∙ or_no (is_among node)
          ∙ sym (ap (λ b. b && is_among node) (lt-ltb node (id + 1) (omega (arith, less))))
      | inr (inr more) ↦
          ap (λ b. (b && is_among node) || (found && (id == node))) (le-ltb node id (omega (arith, more)))
          ∙ ap (λ b. found && b) (ne_eqb id node (omega (arith, more))) ∙ and_no found
          ∙ sym (ap (λ b. b && is_among node) (le-ltb node (id + 1) (omega (arith, more))))
    ]
  where
    is_among : ℕ → Bool
    is_among n = list_any (same_code (label_of labels n)) codes

    and_yes : (b : Bool) → (b && true) ≡ b
    and_yes true = refl
    and_yes false = refl

    one_of : (b : Bool) → has_node (if b then id ∷ [] else []) node ≡ (b && (id == node))
    one_of true = or_no (id == node)
    one_of false = refl
