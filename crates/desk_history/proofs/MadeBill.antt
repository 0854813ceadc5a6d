-- What an accepted edit of a part or of a line makes of sound tables keeps the clauses on rows, names, codes and cycles.
use Rattle.std.proofs.Common.{◌≡◌, ℕ, zero, suc, ◌+◌, ◌-◌, Bool, true, false, cond, not, ◌&&◌, ◌||◌, List, [], ◌∷◌, length, Option, Some, None, is_eq, is_some, refl, sym, ap, ◌∙◌, subst, ◌⊎◌, inl, inr, ⊎_elim, arith}
use Rattle.std.specs.Prelude.{if◌then◌else◌}
use Rattle.std.specs.List.{AllByRecursion, list_all, list_any}
use Rattle.std.specs.Option.{option_map_or}
use Rattle.std.specs.declared.cmp.Ordering.{Ordering}
use Rattle.std.proofs.lemmas.Bool.{and_from, and_parts, both_ways, cases_Bool, false_from_ne_true, false≢true, not-false, not-true, not_from_false, or_cases, or_left, or_right}
use Rattle.desk_text.specs.Code.{code_cmp, same_code}
use Rattle.desk_rows.specs.Rows.{row_of, with_row, without_row}
use Rattle.desk_rows.proofs.Edits.{IsByKey-with_row, IsByKey-without_row}
use Rattle.desk_rows.proofs.Lookups.{each_with_row, kept-with_row, length-with_row-ge, row_of-with_row, row_of-with_row_other}
use Rattle.desk_model.specs.declared.edit.Edit.TheVariants.{Part, Line, Unline}
use Rattle.desk_model.specs.declared.part_sort.PartSort.{PartSort}
use Rattle.desk_model.specs.declared.part_sort.PartSort.TheVariants.{Article, Assembly}
use Rattle.desk_model.specs.declared.rows.line.LineRow.{LineRow}
use Rattle.desk_model.specs.declared.rows.part.PartRow.{PartRow}
use Rattle.desk_model.specs.declared.rule_fault.RuleFault.{RuleFault}
use Rattle.desk_model.specs.declared.rule_fault.RuleFault.TheVariants.{UnknownPart}
use Rattle.desk_findings.specs.Articles.{is_article, is_article_sort, is_assembly, same_sort}
use Rattle.desk_model.specs.Effect.{with_edit_made}
use Rattle.desk_model.specs.Forms.{is_count, is_edit_in_form, is_line_row, is_part_row}
use Rattle.desk_model.specs.Values.{is_code, is_name}
use Rattle.desk_model.specs.Lists.{Lists, is_kept, is_material, is_part, line_key, line_key_cmp, part_row}
use Rattle.desk_findings.specs.Reaches.{enough, is_or_reaches, lines_of, reaches, reaches_within}
use Rattle.desk_history.specs.Refused.{closes_cycle, kind_changed, name_taken, refuse_if, unknown_material, unknown_part, wrong_child}
use Rattle.desk_findings.specs.Bill.{has_right_child}
use Rattle.desk_findings.proofs.Bill.{HasParents, by_line, is_or_reaches_trans, lines_of-none, reaches-deeper, reaches-step}
use Rattle.desk_history.proofs.ChangedTables.{good-lines, good-parts}
use Rattle.desk_model.proofs.Elements.{all_from_each, any-filter, any_gives, any_map, each, each_filter, each_from_all, each_map}
use Rattle.desk_history.proofs.SoundClauses.{IsGood, right_child_from}
use Rattle.desk_model.proofs.Kept.{code_cmp_total, kept_each, line_key_cmp_total, same_code-from, same_code-true}
use Rattle.desk_history.proofs.MadeRows.{all_with_row, all_without_row, refuse_if-none, refuse_unless}
use Rattle.desk_history.proofs.Rules.{IsUnrefused}
use Rattle.desk_findings.proofs.Children.{right_child_cases, is_part-article, is_part-assembly}

-- with fewer lines nothing more is reached
any_without : {R K : Type 0} (key : R → K) (cmp : K → K → Ordering) (k : K) (p : R → Bool) (rows : List R) → list_any p (without_row key cmp k rows) ≡ true → list_any p rows ≡ true
any_without key cmp k p [] e = e
any_without key cmp k p (row ∷ rows) e =
    elim (is_eq (cmp (key row) k)) as (λ b. list_any p (cond b rows (row ∷ without_row key cmp k rows)) ≡ true → list_any p (row ∷ rows) ≡ true) [
      | true ↦ λ h. or_right (p row) (list_any p rows) h
      | false ↦ λ h.
          ⊎_elim (λ here. or_left (p row) (list_any p rows) here) (λ later. or_right (p row) (list_any p rows) (any_without key cmp k p rows later)) (or_cases (p row) (list_any p (without_row key cmp k rows)) h)
    ] e

reaches_fewer : (lines fewer : List LineRow) → ((p : LineRow → Bool) → list_any p fewer ≡ true → list_any p lines ≡ true) → (k : ℕ) (part target : List ℕ) → reaches_within fewer k part target ≡ true → reaches_within lines k part target ≡ true
unfolding reaches_within
reaches_fewer lines fewer sub zero part target e = e
reaches_fewer lines fewer sub (suc k) part target e =
    any-filter (λ line. same_code line.parent part) (λ line. same_code line.child target || reaches_within lines k line.child target) lines
    ∙ sub (λ line. same_code line.parent part && (same_code line.child target || reaches_within lines k line.child target))
    (any_map (λ line. same_code line.parent part && (same_code line.child target || reaches_within fewer k line.child target)) (λ line. same_code line.parent part && (same_code line.child target || reaches_within lines k line.child target)) fewer
    (each (λ line. (same_code line.parent part && (same_code line.child target || reaches_within fewer k line.child target)) ≡ true → (same_code line.parent part && (same_code line.child target || reaches_within lines k line.child target)) ≡ true)
    (λ line h.
    let parts = and_parts (same_code line.parent part) (same_code line.child target || reaches_within fewer k line.child target) h in
    and_from (same_code line.parent part) (same_code line.child target || reaches_within lines k line.child target) parts.0
    (⊎_elim (λ here. or_left (same_code line.child target) (reaches_within lines k line.child target) here)
    (λ there. or_right (same_code line.child target) (reaches_within lines k line.child target) (reaches_fewer lines fewer sub k line.child target there))
    (or_cases (same_code line.child target) (reaches_within fewer k line.child target) parts.1)))
    fewer)
    (sym (any-filter (λ line. same_code line.parent part) (λ line. same_code line.child target || reaches_within fewer k line.child target) fewer) ∙ e))

parents_of : (t : Lists) → IsGood t → HasParents t
parents_of t g =
    each_map (λ line. has_right_child t line ≡ true) (λ line. is_part t line.parent ≡ true)
    (λ line e. ⊎_elim (λ h. is_part-article t line.parent h.0) (λ h. is_part-assembly t line.parent h.0) (right_child_cases t line e))
    t.lines (each_from_all (has_right_child t) t.lines g.names.lines)

-- acyclic still, where nothing more is reached
acyclic_still : (t u : Lists) (parts : List PartRow) → list_all (λ part. not (reaches t part.code part.code)) parts ≡ true → ((code : List ℕ) → reaches u code code ≡ true → reaches t code code ≡ true) → list_all (λ part. not (reaches u part.code part.code)) parts ≡ true
acyclic_still t u parts e f =
    all_from_each (λ part. not (reaches u part.code part.code)) parts
    (each_map (λ part. not (reaches t part.code part.code) ≡ true) (λ part. not (reaches u part.code part.code) ≡ true)
    (λ part h. not_from_false (reaches u part.code part.code) (false_from_ne_true (reaches u part.code part.code) (λ cycle. both_ways (reaches t part.code part.code) (not-true (reaches t part.code part.code) h) (f part.code cycle))))
    parts (each_from_all (λ part. not (reaches t part.code part.code)) parts e))

module _ (t : Lists) (g : IsGood t) where
  pub good-unline : (ticket parent child : List ℕ) → IsGood (with_edit_made t (Unline ticket parent child))
  unfolding with_edit_made
  good-unline ticket parent child =
      let rows = without_row line_key line_key_cmp (parent, child) t.lines in
      good-lines t rows g
      (IsByKey-without_row line_key line_key_cmp line_key_cmp_total (parent, child) t.lines g.ordered.lines)
      (all_without_row line_key line_key_cmp is_line_row (parent, child) t.lines g.forms.lines)
      (all_without_row line_key line_key_cmp (has_right_child t) (parent, child) t.lines g.names.lines)
      (acyclic_still t (record t { lines = rows }) t.parts g.acyclic
      (λ code e. reaches_fewer t.lines rows (λ p. any_without line_key line_key_cmp (parent, child) p t.lines) (enough t) code code e))

  -- the line of an accepted edit: its parent is a part, and its child is of the right sort
  sort_cases : (sort : PartSort) → (is_article_sort sort ≡ true) ⊎ (same_sort sort Assembly ≡ true)
  sort_cases Article = inl refl
  sort_cases Assembly = inr refl

  part_cases : (o : Option PartRow) → is_some o ≡ true → (option_map_or (λ part. is_article_sort part.sort) o false ≡ true) ⊎ (option_map_or (λ part. same_sort part.sort Assembly) o false ≡ true)
  part_cases None e = absurd (false≢true e)
  part_cases (Some part) e = sort_cases part.sort

  known_parent : (kept : Bool) (parent : List ℕ) (rest : Option RuleFault) → (if not kept then Some (UnknownPart parent) else rest) ≡ None → (kept ≡ true) × (rest ≡ None)
  known_parent true parent rest e = (refl, e)
  known_parent false parent rest e = some_none (UnknownPart parent) e
    where
      some_none : (x : RuleFault) {G : Type 0} → Some x ≡ None → G
      some_none x h = cc

  kept_child : (sort kept : Bool) (fault : RuleFault) → sort ≡ true → refuse_if (sort && not kept) fault ≡ None → kept ≡ true
  kept_child sort kept fault s e = not-false kept (sym (rw s refl) ∙ refuse_if-none (sort && not kept) fault e)

  right_new : (ticket parent child : List ℕ) (count : ℕ) → IsUnrefused t (Line ticket parent child count) → has_right_child t (record { parent = parent; child = child; count = count }) ≡ true
  unfolding unknown_material unknown_part wrong_child
  right_new ticket parent child count u =
      let known = known_parent (is_part t parent) parent (refuse_if (is_assembly t parent && not (is_kept t child)) (UnknownPart child)) u.unknown_part in
      let wrong = refuse_if-none (is_article t parent && is_part t child || is_assembly t parent && is_material t child) _ u.wrong_child in
      let parts = Rattle.std.proofs.lemmas.Bool.or_parts (is_article t parent && is_part t child) (is_assembly t parent && is_material t child) wrong in
      right_child_from t (record { parent = parent; child = child; count = count })
      (⊎_elim
      (λ article.
      let kept = kept_child (is_article t parent) (is_kept t child) _ article u.unknown_material in
      ⊎_elim (λ here. inl (article, here)) (λ part. absurd (both_ways (is_article t parent && is_part t child) parts.0 (and_from (is_article t parent) (is_part t child) article part))) (or_cases (is_material t child) (is_part t child) kept))
      (λ assembly.
      let kept = kept_child (is_assembly t parent) (is_kept t child) _ assembly known.1 in
      ⊎_elim (λ material. absurd (both_ways (is_assembly t parent && is_material t child) parts.1 (and_from (is_assembly t parent) (is_material t child) assembly material))) (λ here. inr (assembly, here)) (or_cases (is_material t child) (is_part t child) kept))
      (part_cases (part_row t parent) known.0))

  module _ (new : LineRow) where
    -- a code reaches the target by the old lines, or it comes to the new line's parent and goes on from its child
    Reached : List ℕ → List ℕ → Type 0
    Reached part target = (reaches t part target ≡ true) ⊎ ((is_or_reaches t part new.parent ≡ true) × (is_or_reaches t new.child target ≡ true))

    lines' : List LineRow
    lines' = with_row line_key line_key_cmp new t.lines

    -- each line is the new one, or leads where an old one leads
    IsOldOrNew : LineRow → Type 0
    IsOldOrNew line = ((line.parent ≡ new.parent) × (line.child ≡ new.child)) ⊎ ((target : List ℕ) → is_or_reaches t line.child target ≡ true → reaches t line.parent target ≡ true)

    each_old_or_new : AllByRecursion IsOldOrNew lines'
    unfolding lines' IsOldOrNew
    each_old_or_new =
        each_with_row line_key line_key_cmp IsOldOrNew new t.lines (inl (refl, refl))
        (each_map (λ line. (target : List ℕ) → is_or_reaches t line.child target ≡ true → reaches t line.parent target ≡ true) IsOldOrNew (λ line f. inr f) t.lines (by_line t (parents_of t g)))

    onward_line : (part target : List ℕ) (line : LineRow) (further : Bool) → IsOldOrNew line × (same_code line.parent part ≡ true) → (same_code line.child target || further) ≡ true → (further ≡ true → Reached line.child target) → Reached part target
    unfolding IsOldOrNew Reached
    onward_line part target line further h e ih =
        let same = same_code-true line.parent part h.1 in
        elim h.0 [
          | inl new_line ↦
              let at_parent = or_left (same_code part new.parent) (reaches t part new.parent) (same_code-from part new.parent (sym same ∙ new_line.0)) in
              ⊎_elim
              (λ here. inr (at_parent, or_left (same_code new.child target) (reaches t new.child target) (same_code-from new.child target (sym new_line.1 ∙ same_code-true line.child target here))))
              (λ there.
              ⊎_elim
              (λ old. inr (at_parent, or_right (same_code new.child target) (reaches t new.child target) (subst (λ c. reaches t c target ≡ true) new_line.1 old)))
              (λ both. inr (at_parent, both.1)) (ih there))
              (or_cases (same_code line.child target) further e)
          | inr old_line ↦
              ⊎_elim
              (λ here. inl (subst (λ c. reaches t c target ≡ true) same (old_line target (or_left (same_code line.child target) (reaches t line.child target) here))))
              (λ there.
              ⊎_elim
              (λ old. inl (subst (λ c. reaches t c target ≡ true) same (old_line target (or_right (same_code line.child target) (reaches t line.child target) old))))
              (λ both. inr (or_right (same_code part new.parent) (reaches t part new.parent) (subst (λ c. reaches t c new.parent ≡ true) same (old_line new.parent both.0)), both.1)) (ih there))
              (or_cases (same_code line.child target) further e)
        ]

    onward : (k : ℕ) (part target : List ℕ) → reaches_within lines' k part target ≡ true → Reached part target
    unfolding reaches_within
    onward zero part target e = absurd (false≢true e)
    onward (suc k) part target e =
        any_gives (λ line. same_code line.child target || reaches_within lines' k line.child target) (lines_of lines' part)
        (each_map (λ line. IsOldOrNew line × (same_code line.parent part ≡ true)) (λ line. (same_code line.child target || reaches_within lines' k line.child target) ≡ true → Reached part target)
        (λ line h found. onward_line part target line (reaches_within lines' k line.child target) h found (λ there. onward k line.child target there))
        (lines_of lines' part) (each_filter IsOldOrNew (λ line. same_code line.parent part) lines' each_old_or_new)) e

    -- where the child neither is the parent nor reaches it, no cycle comes to be
    no_cycle : is_or_reaches t new.child new.parent ≡ false → (code : List ℕ) → reaches_within lines' (enough t) code code ≡ true → reaches t code code ≡ true
    unfolding Reached
    no_cycle open_ended code e =
        ⊎_elim (λ old. old)
        (λ both.
        absurd
        (both_ways (is_or_reaches t new.child new.parent) open_ended
        (⊎_elim (λ here. subst (λ c. is_or_reaches t c new.parent ≡ true) (sym (same_code-true new.child code here)) both.0)
        (λ there. or_right (same_code new.child new.parent) (reaches t new.child new.parent) (is_or_reaches_trans t (parents_of t g) new.child code new.parent there both.0))
        (or_cases (same_code new.child code) (reaches t new.child code) both.1))))
        (onward (enough t) code code e)

  pub good-line : (ticket parent child : List ℕ) (count : ℕ) → is_edit_in_form (Line ticket parent child count) ≡ true → IsUnrefused t (Line ticket parent child count) → IsGood (with_edit_made t (Line ticket parent child count))
  unfolding with_edit_made is_edit_in_form closes_cycle lines'
  good-line ticket parent child count form u =
      let new : LineRow = record { parent = parent; child = child; count = count } in
      let f3 = and_parts (is_code ticket && is_code parent && is_code child) (is_count count) form in
      let f2 = and_parts (is_code ticket && is_code parent) (is_code child) f3.0 in
      let f1 = and_parts (is_code ticket) (is_code parent) f2.0 in
      let rows = with_row line_key line_key_cmp new t.lines in
      good-lines t rows g
      (IsByKey-with_row line_key line_key_cmp line_key_cmp_total new t.lines g.ordered.lines)
      (all_with_row line_key line_key_cmp is_line_row new t.lines (and_from (is_code parent && is_code child) (is_count count) (and_from (is_code parent) (is_code child) f1.1 f2.1) f3.1) g.forms.lines)
      (all_with_row line_key line_key_cmp (has_right_child t) new t.lines (right_new ticket parent child count u) g.names.lines)
      (acyclic_still t (record t { lines = rows }) t.parts g.acyclic (no_cycle new (refuse_if-none (is_or_reaches t child parent) _ u.closes_cycle)))

  module _ (new : PartRow) (same_kind : (part : PartRow) → part_row t new.code ≡ Some part → same_sort part.sort new.sort ≡ true) where
    parts' : List PartRow
    parts' = with_row (λ row. row.code) code_cmp new t.parts

    one_of_sort : (a b : PartSort) (f : PartSort → Bool) → same_sort a b ≡ true → f a ≡ true → f b ≡ true
    one_of_sort Article Article f s e = e
    one_of_sort Article Assembly f s e = absurd (false≢true s)
    one_of_sort Assembly Article f s e = absurd (false≢true s)
    one_of_sort Assembly Assembly f s e = e

    sort_of_kept : (f : PartSort → Bool) (o : Option PartRow) → part_row t new.code ≡ o → option_map_or (λ part. f part.sort) o false ≡ true → f new.sort ≡ true
    sort_of_kept f None e h = absurd (false≢true h)
    sort_of_kept f (Some part) e h = one_of_sort part.sort new.sort f (same_kind part e) h

    -- what was an article or an assembly is one still
    sort_grows : (f : PartSort → Bool) (code : List ℕ) → option_map_or (λ part. f part.sort) (part_row t code) false ≡ true → option_map_or (λ part. f part.sort) (row_of (λ row. row.code) code_cmp code parts') false ≡ true
    unfolding parts'
    sort_grows f code e =
        elim (cases_Bool (same_code new.code code)) [
          | inl same ↦
              let is = same_code-true new.code code same in
              let found : row_of (λ row. row.code) code_cmp code (with_row (λ row. row.code) code_cmp new t.parts) ≡ Some new =
              subst (λ c. row_of (λ row. row.code) code_cmp c (with_row (λ row. row.code) code_cmp new t.parts) ≡ Some new) is (row_of-with_row (λ row. row.code) code_cmp code_cmp_total new t.parts) in
              rw found (sort_of_kept f (part_row t new.code) refl (subst (λ c. option_map_or (λ part. f part.sort) (part_row t c) false ≡ true) (sym is) e))
          | inr other ↦ rw (row_of-with_row_other (λ row. row.code) code_cmp code_cmp_total new code t.parts other) e
        ]

    -- one part more is no line more: the same is reached
    same_reached : (part target : List ℕ) → reaches_within t.lines (length parts' + 1) part target ≡ reaches t part target
    unfolding parts'
    same_reached part target =
        let grown = length-with_row-ge (λ row. row.code) code_cmp new t.parts in
        let deep : length (with_row (λ row. row.code) code_cmp new t.parts) + 1 ≡ length (with_row (λ row. row.code) code_cmp new t.parts) - length t.parts + enough t = omega (arith, grown) in
        rw deep (reaches-deeper t (parents_of t g) target (length (with_row (λ row. row.code) code_cmp new t.parts) - length t.parts) part)

    still_acyclic : (code : List ℕ) → not (reaches t code code) ≡ true
    still_acyclic code =
        elim (cases_Bool (is_part t code)) [
          | inl kept ↦ kept_each (λ row. row.code) (λ c. not (reaches t c c) ≡ true) code t.parts (each_from_all (λ part. not (reaches t part.code part.code)) t.parts g.acyclic) kept
          | inr absent ↦ not_from_false (reaches t code code) (reaches-step t (parents_of t g) code code ∙ rw (lines_of-none t (parents_of t g) code absent) refl)
        ]

  pub kind_kept : (ticket code name : List ℕ) (sort : PartSort) → kind_changed t (Part ticket code sort name) ≡ None → (part : PartRow) → part_row t code ≡ Some part → same_sort part.sort sort ≡ true
  unfolding kind_changed
  kind_kept ticket code name sort e part found = refuse_unless (same_sort part.sort sort) _ (rw found at e)

  pub good-part : (ticket code name : List ℕ) (sort : PartSort) → is_edit_in_form (Part ticket code sort name) ≡ true → IsUnrefused t (Part ticket code sort name) → IsGood (with_edit_made t (Part ticket code sort name))
  unfolding with_edit_made is_edit_in_form name_taken parts'
  good-part ticket code name sort form u =
      let new : PartRow = record { code = code; sort = sort; name = name } in
      let f2 = and_parts (is_code ticket && is_code code) (is_name name) form in
      let f1 = and_parts (is_code ticket) (is_code code) f2.0 in
      let rows = with_row (λ row. row.code) code_cmp new t.parts in
      let kind = kind_kept ticket code name sort u.kind_changed in
      good-parts t rows g
      (IsByKey-with_row (λ row. row.code) code_cmp code_cmp_total new t.parts g.ordered.parts)
      (all_with_row (λ row. row.code) code_cmp is_part_row new t.parts (and_from (is_code code) (is_name name) f1.1 f2.1) g.forms.parts)
      (record {
        substances = λ c kept. kept;
        materials = λ c kept. kept;
        parts = λ c kept. kept-with_row (λ row. row.code) code_cmp code_cmp_total c new t.parts kept;
        articles = sort_grows new kind is_article_sort;
        assemblies = sort_grows new kind (λ s. same_sort s Assembly);
        products = λ c kept. kept;
      })
      (all_with_row (λ row. row.code) code_cmp (λ part. not (is_material t part.code)) new t.parts (not_from_false (is_material t code) (refuse_if-none (is_material t code) _ u.name_taken)) g.apart)
      (all_from_each (λ part. not (reaches_within t.lines (length rows + 1) part.code part.code)) rows
      (each (λ part. not (reaches_within t.lines (length rows + 1) part.code part.code) ≡ true) (λ part. ap not (same_reached new kind part.code part.code) ∙ still_acyclic new kind part.code) rows))
