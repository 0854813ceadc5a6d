-- New nodes, and edits that change no bill.
use Rattle.std.proofs.Common.{◌≡◌, ℕ, ◌+◌, ◌-◌, ◌<◌, ◌≤◌, Bool, true, false, cond, not, ◌==◌, ◌&&◌, ◌||◌, List, [], ◌∷◌, length, map, count_by, None, is_some, is_eq, option_map, refl, sym, ap, ◌∙◌, subst, inl, inr, arith}
use Rattle.std.specs.Prelude.{if◌then◌else◌}
use Rattle.std.specs.List.{AllByRecursion, list_any}
use Rattle.std.proofs.lemmas.Bool.{and_parts, both_ways, cases_Bool, cases_lt, false_from_ne_true, or_left, or_right, true≢false}
use Rattle.std.proofs.lemmas.List.{get_or_append_left, get_or_past, length-append}
use Rattle.desk_text.specs.Code.{code_cmp, same_code}
use Rattle.desk_rows.specs.Rows.{IsByKey, row_of, with_row, with_rows}
use Rattle.desk_rows.proofs.Lookups.{row_of-with_row, row_of-with_row_other}
use Rattle.desk_graph.specs.declared.line.BillLine.{BillLine}
use Rattle.desk_graph.specs.Graph.{Graph, count_at, has_line, label_of, lines_of_node as node_lines}
use Rattle.desk_model.specs.declared.edit.Edit.{Edit}
use Rattle.desk_model.specs.declared.edit.Edit.TheVariants.{Substance, Member, Declare, Part, Line, Unline, Product, Exemption, Unexempt, Candidate, Ship, Unship}
use Rattle.desk_model.specs.declared.part_sort.PartSort.{PartSort}
use Rattle.desk_model.specs.declared.rows.line.LineRow.{LineRow}
use Rattle.desk_model.specs.Declaration.{Declared}
use Rattle.desk_model.specs.Effect.{declared_row, declared_rows, with_edit_entered, with_edit_made}
use Rattle.desk_model.specs.Forms.{is_declaration_in_form, is_edit_in_form}
use Rattle.desk_model.specs.Lists.{Lists, is_kept, is_material, is_part, line_key, line_key_cmp, line_row}
use Rattle.desk_model.proofs.Anys.{count-append, count-once}
use Rattle.desk_model.proofs.Declaring.{parts}
use Rattle.desk_model.proofs.Elements.{any-map, each_both, each_map}
use Rattle.desk_model.proofs.Kept.{code_cmp_total, same_code-true}
use Rattle.desk_model.proofs.Times.{times, times_by_code, times_filter}
use Rattle.desk_findings.specs.Reaches.{lines_of}
use Rattle.desk_findings.proofs.Bill.{has_children, has_parents}
use Rattle.desk_findings.proofs.Children.{children_kept, parents_kept}
use Rattle.desk_history.specs.History.{PassesRows}
use Rattle.desk_history.specs.Sound.{IsConsistent}
use Rattle.desk_history.proofs.SoundClauses.{right_of}
use Rattle.desk_history.proofs.SoundSteps.{IsConsistent-entered}
use Rattle.desk_history.proofs.Untouched.{member_leaves, parts_of_member, parts_of_ship, parts_of_unship, ship_leaves, unship_leaves}
use Rattle.desk_findings.specs.Numbering.{AreLabels}
use Rattle.desk_bridge.specs.Bridge.{IsBridge}
use Rattle.desk_bridge.proofs.Bridges.{bridge_by, ends_alike, ends_of, labels_of}
use Rattle.desk_bridge.specs.NewNodes.{AddsNodes, AreNewCodes, changes_bill, declared_codes, part_codes}
use Rattle.desk_bridge.proofs.LookUps.{bridge_from, bridge_into}
use Rattle.desk_findings.proofs.Numbering.{label_place}

module _ (t u : Lists) (s : IsConsistent t) (r : IsConsistent u) (same : u.lines ≡ t.lines) (stay : (code : List ℕ) → is_kept t code ≡ true → is_kept u code ≡ true)
    (g new : Graph) (bridge : IsBridge t g) (more : List (List ℕ)) (codes : AreNewCodes t u more) (adds : AddsNodes g new more) where
  one_of : (a b : Bool) → (a ≡ true → b ≡ true) → cond a 1 0 + (if b && not a then 1 else 0) ≡ cond b 1 0
  one_of true b f = rw (f refl) refl
  one_of false true f = refl
  one_of false false f = refl

  labels_are : AreLabels u new.labels
  labels_are code =
      ap (count_by (λ listed. same_code listed code)) adds.labels
      ∙ count-append (λ listed. same_code listed code) g.labels more
      ∙ ap (λ n. n + count_by (λ listed. same_code listed code) more) (labels_of t g bridge code)
      ∙ ap (λ n. cond (is_kept t code) 1 0 + n) (codes code)
      ∙ one_of (is_kept t code) (is_kept u code) (stay code)

  old_label : (node : ℕ) → node < length g.labels → label_of new.labels node ≡ label_of g.labels node
  old_label node inside = ap (λ labels. label_of labels node) adds.labels ∙ get_or_append_left g.labels more [] node inside

  grown : length g.labels ≤ length new.labels
  grown = omega (arith, ap length adds.labels, length-append g.labels more)

  -- the code of a new node wasn't kept
  fresh : (node : ℕ) → node < length new.labels → length g.labels ≤ node → is_kept t (label_of new.labels node) ≡ false
  fresh node inside past =
      false_from_ne_true (is_kept t (label_of new.labels node))
      (λ kept.
      let found = label_place t g.labels (labels_of t g bridge) (label_of new.labels node) kept in
      let one = adds.bill.unique found.0 node (omega (arith, found.1, grown)) inside (old_label found.0 found.1 ∙ found.2) in
      omega (arith, one, found.1, past))

  -- no line of the tables has an end that isn't kept
  no_line : (x y : List ℕ) → (lines : List LineRow) → AllByRecursion (λ line. (is_kept t line.parent ≡ true) × (is_kept t line.child ≡ true)) lines → (is_kept t x && is_kept t y) ≡ false → row_of line_key line_key_cmp (x, y) lines ≡ None
  no_line x y [] a e = refl
  no_line x y (line ∷ lines) a e =
      let other : is_eq (line_key_cmp (line_key line) (x, y)) ≡ false =
      false_from_ne_true (is_eq (line_key_cmp (line_key line) (x, y)))
      (λ found.
      let ends = and_parts (same_code line.parent x) (same_code line.child y) (sym (both_equal (code_cmp line.parent x) (code_cmp line.child y)) ∙ found) in
      both_ways (is_kept t x && is_kept t y) e
      (rw (subst (λ c. is_kept t c ≡ true) (same_code-true line.parent x ends.0) a.0.0, subst (λ c. is_kept t c ≡ true) (same_code-true line.child y ends.1) a.0.1) refl)) in
      rw other (no_line x y lines a.1 e)
    where
      both_equal : (a b : Rattle.std.proofs.Common.Ordering) → is_eq (Rattle.std.specs.Ordering.ordering_then a b) ≡ (is_eq a && is_eq b)
      both_equal Rattle.std.proofs.Common.Less b = refl
      both_equal Rattle.std.proofs.Common.Equal b = refl
      both_equal Rattle.std.proofs.Common.Greater b = refl

  ends_kept : AllByRecursion (λ line. (is_kept t line.parent ≡ true) × (is_kept t line.child ≡ true)) t.lines
  ends_kept =
      each_both (λ line. is_kept t line.parent ≡ true) (λ line. is_kept t line.child ≡ true) t.lines
      (each_map (λ line. is_part t line.parent ≡ true) (λ line. is_kept t line.parent ≡ true) (λ line part. or_right (is_material t line.parent) (is_part t line.parent) part) t.lines (has_parents t (parents_kept t (right_of t s))))
      (has_children t (children_kept t (right_of t s)))

  none_at : (child : ℕ) → length g.labels ≤ child → (node : ℕ) → count_at (node_lines g.lines node) child ≡ None
  none_at child past node = nowhere (node_lines g.lines node) (λ other line. bridge.bill.children node other line)
    where
      nowhere : (lines : List BillLine) → ((other : ℕ) → has_line lines other ≡ true → other < length g.labels) → count_at lines child ≡ None
      nowhere [] h = refl
      nowhere (line ∷ lines) h =
          let away : (line.node == child) ≡ false =
          false_from_ne_true (line.node == child) (λ here. omega (arith, h child (or_left (line.node == child) (has_line lines child) here), past)) in
          rw away (nowhere lines (λ other e. h other (or_right (line.node == other) (has_line lines other) e)))

  none_from : (node : ℕ) → length g.labels ≤ node → node_lines g.lines node ≡ []
  none_from node past = get_or_past g.lines node [] (omega (arith, bridge.bill.sizes, past))

  look_up : (node child : ℕ) → node < length new.labels → child < length new.labels → count_at (node_lines new.lines node) child ≡ option_map (λ line. line.count) (line_row u (label_of new.labels node) (label_of new.labels child))
  look_up node child inside there =
      ap (λ lines. count_at lines child) (adds.lines node)
      ∙ before node child inside there
      ∙ ap (λ lines. option_map (λ line. line.count) (row_of line_key line_key_cmp (label_of new.labels node, label_of new.labels child) lines)) (sym same)
    where
      nothing : (node child : ℕ) → (is_kept t (label_of new.labels node) && is_kept t (label_of new.labels child)) ≡ false → None ≡ option_map (λ line. line.count) (line_row t (label_of new.labels node) (label_of new.labels child))
      nothing node child e = sym (ap (option_map (λ line. line.count)) (no_line (label_of new.labels node) (label_of new.labels child) t.lines ends_kept e))

      before : (node child : ℕ) → node < length new.labels → child < length new.labels → count_at (node_lines g.lines node) child ≡ option_map (λ line. line.count) (line_row t (label_of new.labels node) (label_of new.labels child))
      before node child inside there =
          elim (cases_lt node (length g.labels)) [
            | inr past ↦
                ap (λ lines. count_at lines child) (none_from node past)
                ∙ nothing node child (ap (λ b. b && is_kept t (label_of new.labels child)) (fresh node inside past))
            | inl old ↦
                elim (cases_lt child (length g.labels)) [
                  | inr past ↦
                      none_at child past node
                      ∙ nothing node child (ap (λ b. is_kept t (label_of new.labels node) && b) (fresh child there past) ∙ Rattle.std.proofs.lemmas.Bool.and_right (is_kept t (label_of new.labels node)) false refl)
                  | inl also ↦
                      bridge_into t g bridge node child old also
                      ∙ ap (λ code. option_map (λ line. line.count) (line_row t code (label_of g.labels child))) (sym (old_label node old))
                      ∙ ap (λ code. option_map (λ line. line.count) (line_row t (label_of new.labels node) code)) (sym (old_label child also))
                ]
          ]

  pub added : IsBridge u new
  added = bridge_from u r new adds.bill labels_are look_up

pub nodes_added : (t u : Lists) → IsConsistent t → IsConsistent u → u.lines ≡ t.lines → ((code : List ℕ) → is_kept t code ≡ true → is_kept u code ≡ true) →
    (g new : Graph) → IsBridge t g → (more : List (List ℕ)) → AreNewCodes t u more → AddsNodes g new more → IsBridge u new
nodes_added t u s r same stay g new bridge more codes adds = added t u s r same stay g new bridge more codes adds

-- a code is kept after a row is put in where it was, or where it is the row's
kept_with : {R : Type 0} (key : R → List ℕ) (new : R) (code : List ℕ) (rows : List R) → is_some (row_of key code_cmp code (with_row key code_cmp new rows)) ≡ (is_some (row_of key code_cmp code rows) || same_code (key new) code)
kept_with key new code rows =
    elim (cases_Bool (same_code (key new) code)) [
      | inl here ↦
          let is = same_code-true (key new) code here in
          subst (λ c. is_some (row_of key code_cmp c (with_row key code_cmp new rows)) ≡ true) is (ap is_some (row_of-with_row key code_cmp code_cmp_total new rows))
          ∙ sym (or_right (is_some (row_of key code_cmp code rows)) (same_code (key new) code) here)
      | inr other ↦
          ap is_some (row_of-with_row_other key code_cmp code_cmp_total new code rows other)
          ∙ sym (ap (λ b. is_some (row_of key code_cmp code rows) || b) other ∙ or-false (is_some (row_of key code_cmp code rows)))
    ]
  where
    or-false : (b : Bool) → (b || false) ≡ b
    or-false true = refl
    or-false false = refl

kept_with_all : {R : Type 0} (key : R → List ℕ) (more : List R) (code : List ℕ) (rows : List R) → is_some (row_of key code_cmp code (with_rows key code_cmp more rows)) ≡ (is_some (row_of key code_cmp code rows) || list_any (λ row. same_code (key row) code) more)
kept_with_all key [] code rows = or-false (is_some (row_of key code_cmp code rows))
  where
    or-false : (b : Bool) → b ≡ (b || false)
    or-false true = refl
    or-false false = refl
kept_with_all key (new ∷ more) code rows =
    kept_with_all key more code (with_row key code_cmp new rows)
    ∙ ap (λ b. b || list_any (λ row. same_code (key row) code) more) (kept_with key new code rows)
    ∙ regroup (is_some (row_of key code_cmp code rows)) (same_code (key new) code) (list_any (λ row. same_code (key row) code) more)
  where
    regroup : (a b c : Bool) → ((a || b) || c) ≡ (a || (b || c))
    regroup true b c = refl
    regroup false b c = refl

-- parts
kept_after_part : (t : Lists) (ticket code name : List ℕ) (sort : PartSort) (other : List ℕ) → is_kept (with_edit_entered t (Part ticket code sort name)) other ≡ (is_kept t other || same_code code other)
unfolding with_edit_entered with_edit_made
kept_after_part t ticket code name sort other =
    ap (λ b. is_material t other || b) (kept_with (λ row. row.code) (record { code = code; sort = sort; name = name }) other t.parts)
    ∙ regroup (is_material t other) (is_part t other) (same_code code other)
  where
    regroup : (a b c : Bool) → (a || (b || c)) ≡ (a || b || c)
    regroup true b c = refl
    regroup false b c = refl

new_one : (t : Lists) (code other : List ℕ) → count_by (λ listed. same_code listed other) (part_codes t code) ≡ (if (is_kept t other || same_code code other) && not (is_kept t other) then 1 else 0)
new_one t code other = by_cases (is_kept t code) refl
  where
    one : (b : Bool) → count_by (λ listed. same_code listed other) (code ∷ []) ≡ cond (same_code code other) 1 0
    one b = Rattle.desk_model.proofs.Elements.count_by-cons (λ listed. same_code listed other) code [] ∙ omega arith

    turned : (a b : Bool) → (b ≡ true → a ≡ false) → ◌≡◌ {A = ℕ} (cond b 1 0) (if (a || b) && not a then 1 else 0)
    turned true true f = absurd (true≢false (f refl))
    turned true false f = refl
    turned false true f = refl
    turned false false f = refl

    none : (a b : Bool) → (b ≡ true → a ≡ true) → ◌≡◌ {A = ℕ} 0 (if (a || b) && not a then 1 else 0)
    none true b f = refl
    none false true f = absurd (Rattle.std.proofs.lemmas.Bool.false≢true (f refl))
    none false false f = refl

    by_cases : (kept : Bool) → is_kept t code ≡ kept → count_by (λ listed. same_code listed other) (if kept then [] else code ∷ []) ≡ (if (is_kept t other || same_code code other) && not (is_kept t other) then 1 else 0)
    by_cases true e = none (is_kept t other) (same_code code other) (λ same. subst (λ c. is_kept t c ≡ true) (same_code-true code other same) e)
    by_cases false e = one true ∙ turned (is_kept t other) (same_code code other) (λ same. subst (λ c. is_kept t c ≡ false) (same_code-true code other same) e)

lines_after_part : (t : Lists) (ticket code name : List ℕ) (sort : PartSort) → (with_edit_entered t (Part ticket code sort name)).lines ≡ t.lines
unfolding with_edit_entered with_edit_made
lines_after_part t ticket code name sort = refl

pub part_kept : (t : Lists) → IsConsistent t → (ticket code : List ℕ) (sort : PartSort) (name : List ℕ) → PassesRows t (Part ticket code sort name) →
    (g new : Graph) → IsBridge t g → AddsNodes g new (part_codes t code) → IsBridge (with_edit_entered t (Part ticket code sort name)) new
part_kept t s ticket code sort name passes g new bridge adds =
    added t (with_edit_entered t (Part ticket code sort name)) s (IsConsistent-entered t (Part ticket code sort name) s passes) (lines_after_part t ticket code name sort)
    (λ other kept. kept_after_part t ticket code name sort other ∙ or_left (is_kept t other) (same_code code other) kept)
    g new bridge (part_codes t code)
    (λ other. new_one t code other ∙ ap (λ b. if b && not (is_kept t other) then 1 else 0) (sym (kept_after_part t ticket code name sort other))) adds

-- declarations
kept_after_declare : (t : Lists) (d : Declared) (other : List ℕ) → is_kept (with_edit_entered t (Declare d)) other ≡ (is_kept t other || list_any (λ material. same_code material.code other) d.materials)
unfolding with_edit_entered with_edit_made
kept_after_declare t d other =
    ap (λ b. b || is_part t other)
    (kept_with_all (λ row. row.code) (declared_rows d) other t.materials
    ∙ ap (λ b. is_material t other || b) (any-map (λ row. same_code row.code other) (declared_row d) d.materials))
    ∙ regroup (is_material t other) (is_part t other) (list_any (λ material. same_code material.code other) d.materials)
  where
    regroup : (a b c : Bool) → ((a || c) || b) ≡ (a || b || c)
    regroup true b c = refl
    regroup false true true = refl
    regroup false true false = refl
    regroup false false true = refl
    regroup false false false = refl

lines_after_declare : (t : Lists) (d : Declared) → (with_edit_entered t (Declare d)).lines ≡ t.lines
unfolding with_edit_entered with_edit_made
lines_after_declare t d = refl

-- a declaration's codes differ
declared_in_order : (d : Declared) → is_edit_in_form (Declare d) ≡ true → IsByKey (λ material. material.code) code_cmp d.materials
unfolding is_edit_in_form is_declaration_in_form
declared_in_order d e = (parts d (and_parts _ _ (and_parts _ _ e).0).1).by_key

listed_times : (codes : List (List ℕ)) (code : List ℕ) → times code codes ≤ 1 → times code codes ≡ cond (list_any (λ listed. same_code listed code) codes) 1 0
listed_times codes code h = count-once (λ listed. same_code listed code) codes h

at_most_one : (b : Bool) → cond b 1 0 ≤ 1
at_most_one true = omega arith
at_most_one false = omega arith

new_declared : (t : Lists) (d : Declared) → is_edit_in_form (Declare d) ≡ true → (other : List ℕ) → count_by (λ listed. same_code listed other) (declared_codes t d) ≡ (if (is_kept t other || list_any (λ material. same_code material.code other) d.materials) && not (is_kept t other) then 1 else 0)
new_declared t d form other =
    let codes = map (λ material. material.code) d.materials in
    let once = times_by_code (λ material. material.code) other d.materials (declared_in_order d form) in
    times_filter (λ code. not (is_kept t code)) other (map (λ material. material.code) d.materials)
    ∙ ap (λ n. cond (not (is_kept t other)) n 0)
    (listed_times (map (λ material. material.code) d.materials) other (omega (arith, once, at_most_one (is_some (row_of (λ material. material.code) code_cmp other d.materials))))
    ∙ ap (λ b. cond b 1 0) (any-map (λ listed. same_code listed other) (λ material. material.code) d.materials))
    ∙ turned (is_kept t other) (list_any (λ material. same_code material.code other) d.materials)
  where
    turned : (a b : Bool) → ◌≡◌ {A = ℕ} (cond (not a) (cond b 1 0) 0) (if (a || b) && not a then 1 else 0)
    turned true b = refl
    turned false true = refl
    turned false false = refl

pub declare_kept : (t : Lists) → IsConsistent t → (declaration : Declared) → PassesRows t (Declare declaration) →
    (g new : Graph) → IsBridge t g → AddsNodes g new (declared_codes t declaration) → IsBridge (with_edit_entered t (Declare declaration)) new
declare_kept t s d passes g new bridge adds =
    added t (with_edit_entered t (Declare d)) s (IsConsistent-entered t (Declare d) s passes) (lines_after_declare t d)
    (λ other kept. kept_after_declare t d other ∙ or_left (is_kept t other) (list_any (λ material. same_code material.code other) d.materials) kept)
    g new bridge (declared_codes t d)
    (λ other. new_declared t d passes.in_form other ∙ ap (λ b. if b && not (is_kept t other) then 1 else 0) (sym (kept_after_declare t d other))) adds

-- edits that change no bill
record SameBill (t u : Lists) : Type 0 where
  lines : u.lines ≡ t.lines
  materials : u.materials ≡ t.materials
  parts : u.parts ≡ t.parts

bill_stays : (t u : Lists) → IsConsistent u → SameBill t u → (g : Graph) → IsBridge t g → IsBridge u g
bill_stays t u r same g bridge =
    bridge_by u r g bridge.bill
    (λ code.
    labels_of t g bridge code
    ∙ ap (λ rows. if is_some (row_of (λ row. row.code) code_cmp code rows) || is_part t code then 1 else 0) (sym same.materials)
    ∙ ap (λ rows. if is_material u code || is_some (row_of (λ row. row.code) code_cmp code rows) then 1 else 0) (sym same.parts))
    (λ node inside. ends_alike t g bridge node inside ∙ ap (λ lines. ends_of (lines_of lines (label_of g.labels node))) (sym same.lines))

same_bill : (t : Lists) (edit : Edit) → changes_bill edit ≡ false → SameBill t (with_edit_entered t edit)
unfolding with_edit_entered with_edit_made
same_bill t (Substance ticket code name cas) e = record { lines = refl; materials = refl; parts = refl }
same_bill t (Member ticket substance rule factor) e = let leaves = member_leaves t ticket substance rule factor in record { lines = leaves.lines; materials = leaves.materials; parts = parts_of_member t ticket substance rule factor }
same_bill t (Declare declaration) e = absurd (true≢false e)
same_bill t (Part ticket code sort name) e = absurd (true≢false e)
same_bill t (Line ticket parent child count) e = absurd (true≢false e)
same_bill t (Unline ticket parent child) e = absurd (true≢false e)
same_bill t (Product ticket part kind) e = record { lines = refl; materials = refl; parts = refl }
same_bill t (Exemption ticket exemption) e = record { lines = refl; materials = refl; parts = refl }
same_bill t (Unexempt ticket row) e = record { lines = refl; materials = refl; parts = refl }
same_bill t (Candidate ticket substance day) e = record { lines = refl; materials = refl; parts = refl }
same_bill t (Ship ticket product year units) e = let leaves = ship_leaves t ticket product year units in record { lines = leaves.lines; materials = leaves.materials; parts = parts_of_ship t ticket product year units }
same_bill t (Unship ticket product year units) e = let leaves = unship_leaves t ticket product year units in record { lines = leaves.lines; materials = leaves.materials; parts = parts_of_unship t ticket product year units }

pub plain_kept : (t : Lists) → IsConsistent t → (edit : Edit) → PassesRows t edit → changes_bill edit ≡ false → (g : Graph) → IsBridge t g → IsBridge (with_edit_entered t edit) g
plain_kept t s edit passes e g bridge = bill_stays t (with_edit_entered t edit) (IsConsistent-entered t edit s passes) (same_bill t edit e) g bridge
