-- Lists in one order with equal look-ups are equal, and so are lines.
use Rattle.std.proofs.Common.{◌≡◌, ℕ, ◌<◌, Bool, true, false, ◌==◌, ◌&&◌, List, [], ◌∷◌, length, Option, Some, None, is_eq, option_map, refl, sym, ap, ◌∙◌, subst, inl, inr, Ordering, Less, Equal, Greater, arith}
use Rattle.std.specs.Prelude.{if◌then◌else◌}
use Rattle.std.specs.Cmp.{IsTotalOrder}
use Rattle.std.specs.List.{AllByRecursion}
use Rattle.std.specs.Ordering.{ordering_then}
use Rattle.std.proofs.lemmas.Bool.{both_ways, cases_Bool, eq-eqb, eqb-true, false_from_ne_true}
use Rattle.std.proofs.lemmas.Cmp.{tied_itself}
use Rattle.desk_text.specs.Code.{code_cmp, same_code}
use Rattle.desk_rows.specs.Rows.{IsByKey, row_of, without_row}
use Rattle.desk_rows.proofs.Lookups.{row_of-with_row, row_of-with_row_other, row_of-without_row_other}
use Rattle.desk_rows.proofs.Order.{AllAbove, AllAbove-down, by_key, first_above, less_back, none_by_key, rest_by_key, row_of-above}
use Rattle.desk_graph.specs.declared.line.BillLine.{BillLine}
use Rattle.desk_graph.specs.Bill.{IsBillGraph as IsGraph}
use Rattle.desk_graph.specs.Graph.{Graph, IsByLabel, count_at, label_of, lines_of_node as node_lines}
use Rattle.desk_rollup.proofs.Lists.{each_line}
use Rattle.desk_model.specs.declared.edit.Edit.TheVariants.{Line, Unline}
use Rattle.desk_model.specs.declared.rows.line.LineRow.{LineRow}
use Rattle.desk_model.specs.Effect.{with_edit_entered, with_edit_made}
use Rattle.desk_model.specs.Lists.{Lists, is_kept, line_key, line_key_cmp, line_row}
use Rattle.desk_model.proofs.Elements.{each_filter, each_from_all, each_in_map, each_map, each_of_map}
use Rattle.desk_model.proofs.Kept.{code_cmp_total, line_key_cmp_total, same_code-from, same_code-true}
use Rattle.desk_findings.specs.Reaches.{lines_of}
use Rattle.desk_findings.proofs.Children.{children_kept}
use Rattle.desk_history.specs.History.{PassesRows}
use Rattle.desk_history.specs.Sound.{IsConsistent}
use Rattle.desk_history.proofs.SoundClauses.{right_of}
use Rattle.desk_history.proofs.SoundSteps.{IsConsistent-entered}
use Rattle.desk_findings.specs.Numbering.{AreLabels}
use Rattle.desk_bridge.specs.Bridge.{IsBridge}
use Rattle.desk_bridge.proofs.Bridges.{bridge_by, ends_alike, ends_at, ends_of, labels_of}
use Rattle.desk_bridge.specs.LookUps.{ChangesLine, DoLookUpsAgree}
use Rattle.desk_bridge.proofs.RolledAlike.{labels_differ}
use Rattle.desk_findings.proofs.Numbering.{kept_label, label_place}

-- rows in order in which each key finds the same are the same
module _ {R K : Type 0} (key : R → K) (cmp : K → K → Ordering) (o : IsTotalOrder cmp) where
  some_some : (x y : R) → Some x ≡ Some y → x ≡ y
  some_some x y e = cc

  none_some : (x : R) {G : Type 0} → None ≡ Some x → G
  none_some x e = cc

  first_found : (row : R) (rows : List R) → row_of key cmp (key row) (row ∷ rows) ≡ Some row
  first_found row rows = rw (tied_itself o (key row)) refl

  -- behind the first row its key isn't found
  rest_found : (row : R) (rows : List R) → IsByKey key cmp (row ∷ rows) → (k : K) → row_of key cmp k rows ≡ (if is_eq (cmp (key row) k) then None else row_of key cmp k (row ∷ rows))
  rest_found row rows h k =
      elim (cases_Bool (is_eq (cmp (key row) k))) [
        | inl same ↦ rw same (nothing same)
        | inr other ↦ rw other refl
      ]
    where
      equal : (answer : Ordering) → is_eq answer ≡ true → answer ≡ Equal
      equal Less e = absurd (Rattle.std.proofs.lemmas.Bool.false≢true e)
      equal Equal e = refl
      equal Greater e = absurd (Rattle.std.proofs.lemmas.Bool.false≢true e)

      above : (others : List R) → cmp (key row) k ≡ Equal → AllAbove key cmp o (key row) others → AllAbove key cmp o k others
      above [] e a = tt
      above (other ∷ others) e a = (sym (o.congr (key row) k (key other) e) ∙ a.0, above others e a.1)

      nothing : is_eq (cmp (key row) k) ≡ true → row_of key cmp k rows ≡ None
      nothing same = row_of-above key cmp o k rows (above rows (equal (cmp (key row) k) same) (first_above key cmp o row rows h))

  pub same_rows : (rows others : List R) → IsByKey key cmp rows → IsByKey key cmp others → ((k : K) → row_of key cmp k rows ≡ row_of key cmp k others) → rows ≡ others
  same_rows [] [] h g same = refl
  same_rows [] (other ∷ others) h g same = none_some other (same (key other) ∙ first_found other others)
  same_rows (row ∷ rows) [] h g same = none_some row (sym (same (key row)) ∙ first_found row rows)
  same_rows (row ∷ rows) (other ∷ others) h g same =
      let first : row ≡ other = heads (cmp (key row) (key other)) refl in
      let rest : rows ≡ others =
      same_rows rows others (rest_by_key key cmp o row rows h) (rest_by_key key cmp o other others g)
      (λ k.
      rest_found row rows h k
      ∙ ap (λ found. if is_eq (cmp (key row) k) then None else found) (same k)
      ∙ ap (λ x. if is_eq (cmp (key x) k) then None else row_of key cmp k (other ∷ others)) first
      ∙ sym (rest_found other others g k)) in
      λ i. first i ∷ rest i
    where
      heads : (answer : Ordering) → cmp (key row) (key other) ≡ answer → row ≡ other
      heads Less e =
          none_some row
          (sym (row_of-above key cmp o (key row) (other ∷ others) (e, AllAbove-down key cmp o (key row) (key other) others e (first_above key cmp o other others g)))
          ∙ sym (same (key row)) ∙ first_found row rows)
      heads Equal e = some_some row other (sym (found_first e) ∙ same (key other) ∙ first_found other others)
        where
          found_first : cmp (key row) (key other) ≡ Equal → row_of key cmp (key other) (row ∷ rows) ≡ Some row
          found_first e = rw e refl
      heads Greater e =
          let less = less_back key cmp o (key row) (key other) e in
          none_some other
          (sym (row_of-above key cmp o (key other) (row ∷ rows) (less, AllAbove-down key cmp o (key other) (key row) rows less (first_above key cmp o row rows h)))
          ∙ same (key other) ∙ first_found other others)

abbrev end_code : List ℕ × ℕ → List ℕ
end_code end = end.0

-- the ends of lines by label stand in order
module _ (labels : List (List ℕ)) where
  ends_in_order : (lines : List BillLine) → IsByLabel labels lines → IsByKey end_code code_cmp (ends_at labels lines)
  ends_in_order [] h = none_by_key end_code code_cmp code_cmp_total
  ends_in_order (line ∷ lines) h =
      by_key end_code code_cmp code_cmp_total (label_of labels line.node, line.count) (ends_at labels lines)
      (each_of_map (λ code. code_cmp (label_of labels line.node) code ≡ Less) end_code (ends_at labels lines)
      (each_of_map (λ end. code_cmp (label_of labels line.node) end.0 ≡ Less) (λ later. (label_of labels later.node, later.count)) lines h.0))
      (ends_in_order lines h.1)

-- the ends of a part's lines stand in order
later_child : (a b : Ordering) → is_eq a ≡ true → ordering_then a b ≡ Less → b ≡ Less
later_child Less b same e = absurd (Rattle.std.proofs.lemmas.Bool.false≢true same)
later_child Equal b same e = e
later_child Greater b same e = absurd (Rattle.std.proofs.lemmas.Bool.false≢true same)

child_later : (part : List ℕ) (line later : LineRow) → same_code line.parent part ≡ true → same_code later.parent part ≡ true → line_key_cmp (line_key line) (line_key later) ≡ Less → code_cmp line.child later.child ≡ Less
child_later part line later mine its e =
    later_child (code_cmp line.parent later.parent) (code_cmp line.child later.child)
    (same_code-from line.parent later.parent (same_code-true line.parent part mine ∙ sym (same_code-true later.parent part its))) e

children_in_order : (part : List ℕ) (lines : List LineRow) → IsByKey line_key line_key_cmp lines → IsByKey end_code code_cmp (ends_of (lines_of lines part))
children_in_order part [] h = none_by_key end_code code_cmp code_cmp_total
children_in_order part (line ∷ lines) h =
    let rest = children_in_order part lines (rest_by_key line_key line_key_cmp line_key_cmp_total line lines h) in
    elim (cases_Bool (same_code line.parent part)) [
      | inl mine ↦
          rw mine
          (by_key end_code code_cmp code_cmp_total (line.child, line.count) (ends_of (lines_of lines part))
          (each_of_map (λ code. code_cmp line.child code ≡ Less) end_code (ends_of (lines_of lines part))
          (each_of_map (λ end. code_cmp line.child end.0 ≡ Less) (λ later. (later.child, later.count)) (lines_of lines part)
          (each_map (λ later. (line_key_cmp (line_key line) (line_key later) ≡ Less) × (same_code later.parent part ≡ true)) (λ later. code_cmp line.child later.child ≡ Less)
          (λ later e. child_later part line later mine e.1 e.0) (lines_of lines part)
          (each_filter (λ later. line_key_cmp (line_key line) (line_key later) ≡ Less) (λ later. same_code later.parent part) lines
          (each_in_map (λ k. line_key_cmp (line_key line) k ≡ Less) line_key lines (first_above line_key line_key_cmp line_key_cmp_total line lines h))))))
          rest)
      | inr other ↦ rw other rest
    ]

-- look-ups among the ends
module _ (g : Graph) (bill : IsGraph g) where
  end_at : (child : ℕ) → child < length g.labels → (lines : List BillLine) → AllByRecursion (λ line. line.node < length g.labels) lines →
      row_of end_code code_cmp (label_of g.labels child) (ends_at g.labels lines) ≡ option_map (λ n. (label_of g.labels child, n)) (count_at lines child)
  end_at child there [] a = refl
  end_at child there (line ∷ lines) a =
      let test = labels_differ g bill line.node child a.0 there in
      elim (cases_Bool (line.node == child)) [
        | inl same ↦
            rw (same, sym test ∙ same)
            (ap (λ code. Some (code, line.count)) (ap (label_of g.labels) (eqb-true line.node child same)))
        | inr other ↦ rw (other, sym test ∙ other) (end_at child there lines a.1)
      ]

both_equal : (a b : Ordering) → is_eq (ordering_then a b) ≡ (is_eq a && is_eq b)
both_equal Less b = refl
both_equal Equal b = refl
both_equal Greater b = refl

child_at : (part child : List ℕ) (lines : List LineRow) → row_of end_code code_cmp child (ends_of (lines_of lines part)) ≡ option_map (λ line. (child, line.count)) (row_of line_key line_key_cmp (part, child) lines)
child_at part child [] = refl
child_at part child (line ∷ lines) =
    let rest = child_at part child lines in
    let key = both_equal (code_cmp line.parent part) (code_cmp line.child child) in
    elim (cases_Bool (same_code line.parent part)) [
      | inl mine ↦
          elim (cases_Bool (same_code line.child child)) [
            | inl its ↦ rw (mine, its, key, mine, its) (ap (λ code. Some (code, line.count)) (same_code-true line.child child its))
            | inr other ↦ rw (mine, other, key, mine, other) rest
          ]
      | inr away ↦ rw (away, key, away) rest
    ]

none_of_key : (code : List ℕ) (ends : List (List ℕ × ℕ)) → AllByRecursion (λ end. same_code end.0 code ≡ false) ends → row_of end_code code_cmp code ends ≡ None
none_of_key code [] a = refl
none_of_key code (end ∷ ends) a = rw a.0 (none_of_key code ends a.1)

with_code : List ℕ → ℕ → List ℕ × ℕ
with_code code n = (code, n)

module _ {X : Type 0} (code : List ℕ) (count : X → ℕ) where
  row_end : X → List ℕ × ℕ
  row_end x = with_code code (count x)

  count_of : (o : Option ℕ) → option_map (λ (end : List ℕ × ℕ). end.1) (option_map (with_code code) o) ≡ o
  unfolding with_code
  count_of None = refl
  count_of (Some n) = refl

  count_of_row : (r : Option X) → option_map (λ (end : List ℕ × ℕ). end.1) (option_map row_end r) ≡ option_map count r
  unfolding with_code row_end
  count_of_row None = refl
  count_of_row (Some x) = refl

  inner : (o : Option ℕ) (r : Option X) → option_map (with_code code) o ≡ option_map row_end r → o ≡ option_map count r
  inner o r e = sym (count_of o) ∙ ap (option_map (λ (end : List ℕ × ℕ). end.1)) e ∙ count_of_row r

  outer_row : (r : Option X) → option_map (with_code code) (option_map count r) ≡ option_map row_end r
  unfolding with_code row_end
  outer_row None = refl
  outer_row (Some x) = refl

  outer : (o : Option ℕ) (r : Option X) → o ≡ option_map count r → option_map (with_code code) o ≡ option_map row_end r
  outer o r e = ap (option_map (with_code code)) e ∙ outer_row r

inside_lines : (g : Graph) → IsGraph g → (node : ℕ) → AllByRecursion (λ line. line.node < length g.labels) (node_lines g.lines node)
inside_lines g bill node = each_line (λ child. child < length g.labels) (node_lines g.lines node) (λ child line. bill.children node child line)

pub bridge_into : (t : Lists) (g : Graph) → IsBridge t g → DoLookUpsAgree t g
unfolding with_code row_end
bridge_into t g bridge node child inside there =
    inner (label_of g.labels child) (λ line. line.count) (count_at (node_lines g.lines node) child) (line_row t (label_of g.labels node) (label_of g.labels child))
    (sym (end_at g bridge.bill child there (node_lines g.lines node) (inside_lines g bridge.bill node))
    ∙ ap (row_of end_code code_cmp (label_of g.labels child)) (ends_alike t g bridge node inside)
    ∙ child_at (label_of g.labels node) (label_of g.labels child) t.lines)

module _ (t : Lists) (s : IsConsistent t) (g : Graph) (bill : IsGraph g) (labels : AreLabels t g.labels) (agree : DoLookUpsAgree t g) (node : ℕ) (inside : node < length g.labels) where
  -- at a kept code both find the same, and at any other nothing
  at_kept : (child : ℕ) → child < length g.labels → row_of end_code code_cmp (label_of g.labels child) (ends_at g.labels (node_lines g.lines node)) ≡ row_of end_code code_cmp (label_of g.labels child) (ends_of (lines_of t.lines (label_of g.labels node)))
  unfolding with_code row_end
  at_kept child there =
      end_at g bill child there (node_lines g.lines node) (inside_lines g bill node)
      ∙ outer (label_of g.labels child) (λ line. line.count) (count_at (node_lines g.lines node) child) (line_row t (label_of g.labels node) (label_of g.labels child)) (agree node child inside there)
      ∙ sym (child_at (label_of g.labels node) (label_of g.labels child) t.lines)

  other_code : (code other : List ℕ) → is_kept t code ≡ false → is_kept t other ≡ true → same_code other code ≡ false
  other_code code other absent kept = false_from_ne_true (same_code other code) (λ same. both_ways (is_kept t code) absent (subst (λ c. is_kept t c ≡ true) (same_code-true other code same) kept))

  nothing_here : (code : List ℕ) → is_kept t code ≡ false → row_of end_code code_cmp code (ends_at g.labels (node_lines g.lines node)) ≡ None
  nothing_here code absent =
      none_of_key code (ends_at g.labels (node_lines g.lines node))
      (each_of_map (λ end. same_code end.0 code ≡ false) (λ line. (label_of g.labels line.node, line.count)) (node_lines g.lines node)
      (each_map (λ line. line.node < length g.labels) (λ line. same_code (label_of g.labels line.node) code ≡ false)
      (λ line at. other_code code (label_of g.labels line.node) absent (kept_label t g.labels labels line.node at)) (node_lines g.lines node) (inside_lines g bill node)))

  nothing_there : (code : List ℕ) → is_kept t code ≡ false → row_of end_code code_cmp code (ends_of (lines_of t.lines (label_of g.labels node))) ≡ None
  nothing_there code absent =
      none_of_key code (ends_of (lines_of t.lines (label_of g.labels node)))
      (each_of_map (λ end. same_code end.0 code ≡ false) (λ line. (line.child, line.count)) (lines_of t.lines (label_of g.labels node))
      (each_map (λ line. (is_kept t line.child ≡ true) × (same_code line.parent (label_of g.labels node) ≡ true)) (λ line. same_code line.child code ≡ false) (λ line h. other_code code line.child absent h.0) (lines_of t.lines (label_of g.labels node))
      (each_filter (λ line. is_kept t line.child ≡ true) (λ line. same_code line.parent (label_of g.labels node)) t.lines (each_from_all (λ line. is_kept t line.child) t.lines (children_kept t (right_of t s))))))

  at_code : (code : List ℕ) → row_of end_code code_cmp code (ends_at g.labels (node_lines g.lines node)) ≡ row_of end_code code_cmp code (ends_of (lines_of t.lines (label_of g.labels node)))
  at_code code =
      elim (cases_Bool (is_kept t code)) [
        | inl kept ↦
            let found = label_place t g.labels labels code kept in
            subst (λ c. row_of end_code code_cmp c (ends_at g.labels (node_lines g.lines node)) ≡ row_of end_code code_cmp c (ends_of (lines_of t.lines (label_of g.labels node)))) found.2 (at_kept found.0 found.1)
        | inr absent ↦ nothing_here code absent ∙ sym (nothing_there code absent)
      ]

  same_ends : ends_at g.labels (node_lines g.lines node) ≡ ends_of (lines_of t.lines (label_of g.labels node))
  same_ends =
      same_rows end_code code_cmp code_cmp_total (ends_at g.labels (node_lines g.lines node)) (ends_of (lines_of t.lines (label_of g.labels node)))
      (ends_in_order g.labels (node_lines g.lines node) (bill.by_label node)) (children_in_order (label_of g.labels node) t.lines s.ordered.lines) at_code

pub bridge_from : (t : Lists) → IsConsistent t → (g : Graph) → IsGraph g → AreLabels t g.labels → DoLookUpsAgree t g → IsBridge t g
bridge_from t s g bill labels agree = bridge_by t s g bill labels (same_ends t s g bill labels agree)

-- one line is put in or taken out
module _ (t u : Lists) (g new : Graph) (bridge : IsBridge t g) (s : IsConsistent u) (parent child : ℕ) (count : Option ℕ) (change : ChangesLine g new parent child count)
    (kept : (code : List ℕ) → is_kept u code ≡ is_kept t code)
    (here : option_map (λ line. line.count) (line_row u (label_of g.labels parent) (label_of g.labels child)) ≡ count)
    (away : (x y : List ℕ) → is_eq (line_key_cmp (label_of g.labels parent, label_of g.labels child) (x, y)) ≡ false → line_row u x y ≡ line_row t x y) where
  differs : (a b : ℕ) → (a == b) ≡ false → a ≡ b → ⊥
  differs a b e same = both_ways (a == b) e (eq-eqb a b same)

  other_parent : (node other : ℕ) → node < length g.labels → (parent == node) ≡ false → is_eq (line_key_cmp (label_of g.labels parent, label_of g.labels child) (label_of g.labels node, label_of g.labels other)) ≡ false
  other_parent node other inside e =
      both_equal (code_cmp (label_of g.labels parent) (label_of g.labels node)) (code_cmp (label_of g.labels child) (label_of g.labels other))
      ∙ ap (λ b. b && same_code (label_of g.labels child) (label_of g.labels other)) (sym (labels_differ g bridge.bill parent node change.parent_there inside) ∙ e)

  other_child : (node other : ℕ) → other < length g.labels → (child == other) ≡ false → is_eq (line_key_cmp (label_of g.labels parent, label_of g.labels child) (label_of g.labels node, label_of g.labels other)) ≡ false
  other_child node other inside e =
      both_equal (code_cmp (label_of g.labels parent) (label_of g.labels node)) (code_cmp (label_of g.labels child) (label_of g.labels other))
      ∙ ap (λ b. same_code (label_of g.labels parent) (label_of g.labels node) && b) (sym (labels_differ g bridge.bill child other change.child_there inside) ∙ e)
      ∙ Rattle.std.proofs.lemmas.Bool.and_right (same_code (label_of g.labels parent) (label_of g.labels node)) false refl

  look_up : (node other : ℕ) → node < length g.labels → other < length g.labels → count_at (node_lines new.lines node) other ≡ option_map (λ line. line.count) (line_row u (label_of g.labels node) (label_of g.labels other))
  look_up node other inside there =
      elim (cases_Bool (parent == node)) [
        | inl mine ↦
            let node_is : parent ≡ node = eqb-true parent node mine in
            subst (λ n. count_at (node_lines new.lines n) other ≡ option_map (λ line. line.count) (line_row u (label_of g.labels n) (label_of g.labels other))) node_is (at_parent other there)
        | inr others ↦
            ap (λ lines. count_at lines other) (change.away node (λ same. differs parent node others (sym same)))
            ∙ bridge_into t g bridge node other inside there
            ∙ ap (option_map (λ line. line.count)) (sym (away (label_of g.labels node) (label_of g.labels other) (other_parent node other inside others)))
      ]
    where
      at_parent : (other : ℕ) → other < length g.labels → count_at (node_lines new.lines parent) other ≡ option_map (λ line. line.count) (line_row u (label_of g.labels parent) (label_of g.labels other))
      at_parent other there =
          elim (cases_Bool (child == other)) [
            | inl its ↦
                let child_is : child ≡ other = eqb-true child other its in
                subst (λ n. count_at (node_lines new.lines parent) n ≡ option_map (λ line. line.count) (line_row u (label_of g.labels parent) (label_of g.labels n))) child_is (change.here ∙ sym here)
            | inr others ↦
                change.beside other (λ same. differs child other others (sym same))
                ∙ bridge_into t g bridge parent other change.parent_there there
                ∙ ap (option_map (λ line. line.count)) (sym (away (label_of g.labels parent) (label_of g.labels other) (other_child parent other there others)))
          ]

  line_changed : IsBridge u new
  line_changed =
      bridge_from u s new change.bill
      (λ code. ap (Rattle.std.proofs.Common.count_by (λ listed. same_code listed code)) change.labels ∙ labels_of t g bridge code ∙ ap (λ b. if b then 1 else 0) (sym (kept code)))
      (λ node other inside there.
      let size : length new.labels ≡ length g.labels = ap length change.labels in
      look_up node other (omega (arith, inside, size)) (omega (arith, there, size))
      ∙ ap (λ list. option_map (λ line. line.count) (line_row u (label_of list node) (label_of list other))) (sym change.labels))

pub line_kept : (t : Lists) → IsConsistent t → (g new : Graph) → IsBridge t g → (ticket : List ℕ) (parent child count : ℕ) →
    PassesRows t (Line ticket (label_of g.labels parent) (label_of g.labels child) count) → ChangesLine g new parent child (Some count) →
    IsBridge (with_edit_entered t (Line ticket (label_of g.labels parent) (label_of g.labels child) count)) new
unfolding with_edit_entered with_edit_made
line_kept t s g new bridge ticket parent child count passes change =
    let line : LineRow = record { parent = label_of g.labels parent; child = label_of g.labels child; count = count } in
    line_changed t (with_edit_entered t (Line ticket (label_of g.labels parent) (label_of g.labels child) count)) g new bridge (IsConsistent-entered t (Line ticket (label_of g.labels parent) (label_of g.labels child) count) s passes) parent child (Some count) change
    (λ code. refl)
    (ap (option_map (λ row. row.count)) (row_of-with_row line_key line_key_cmp line_key_cmp_total (record { parent = label_of g.labels parent; child = label_of g.labels child; count = count }) t.lines))
    (λ x y e. row_of-with_row_other line_key line_key_cmp line_key_cmp_total (record { parent = label_of g.labels parent; child = label_of g.labels child; count = count }) (x, y) t.lines e)

pub unline_kept : (t : Lists) → IsConsistent t → (g new : Graph) → IsBridge t g → (ticket : List ℕ) (parent child : ℕ) →
    PassesRows t (Unline ticket (label_of g.labels parent) (label_of g.labels child)) → ChangesLine g new parent child None →
    IsBridge (with_edit_entered t (Unline ticket (label_of g.labels parent) (label_of g.labels child))) new
unfolding with_edit_entered with_edit_made
unline_kept t s g new bridge ticket parent child passes change =
    line_changed t (with_edit_entered t (Unline ticket (label_of g.labels parent) (label_of g.labels child))) g new bridge (IsConsistent-entered t (Unline ticket (label_of g.labels parent) (label_of g.labels child)) s passes) parent child None change
    (λ code. refl)
    (ap (option_map (λ row. row.count)) (taken_out (label_of g.labels parent, label_of g.labels child) t.lines s.ordered.lines))
    (λ x y e. row_of-without_row_other line_key line_key_cmp line_key_cmp_total (label_of g.labels parent, label_of g.labels child) (x, y) t.lines e)
  where
    -- what is taken out isn't found
    taken_out : (k : List ℕ × List ℕ) (lines : List LineRow) → IsByKey line_key line_key_cmp lines → row_of line_key line_key_cmp k (without_row line_key line_key_cmp k lines) ≡ None
    taken_out k [] h = refl
    taken_out k (line ∷ lines) h =
        elim (cases_Bool (is_eq (line_key_cmp (line_key line) k))) [
          | inl same ↦ rw same (rest_found line_key line_key_cmp line_key_cmp_total line lines h k ∙ rw same refl)
          | inr other ↦ rw (other, other) (taken_out k lines (rest_by_key line_key line_key_cmp line_key_cmp_total line lines h))
        ]
