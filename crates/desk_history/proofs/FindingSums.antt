-- An edit that can't add findings leaves as many as there were.
use Rattle.std.proofs.Common.{◌≡◌, ℕ, ◌+◌, ◌*◌, Bool, true, false, not, ◌&&◌, ◌||◌, List, [], ◌∷◌, length, map, sum_by, Option, Some, None, is_some, refl, sym, ap, ◌∙◌, subst, inl, inr, arith}
use Rattle.std.specs.Prelude.{nat_lt}
use Rattle.std.specs.List.{AllByRecursion, flat_map}
use Rattle.std.specs.Option.{option_map_or}
use Rattle.std.proofs.lemmas.Bool.{and_parts, and_right, both_ways, cases_Bool, false_from_ne_true, le-ltb, true≢false}
use Rattle.desk_text.specs.Code.{code_cmp, same_code}
use Rattle.desk_rows.specs.Rows.{with_row}
use Rattle.desk_rows.proofs.Sums.{sum_by-put}
use Rattle.desk_model.specs.declared.edit.Edit.{Edit}
use Rattle.desk_model.specs.declared.edit.Edit.TheVariants.{Substance, Member, Declare, Part, Line, Unline, Product, Exemption, Unexempt, Candidate, Ship, Unship}
use Rattle.desk_model.specs.declared.part_sort.PartSort.{PartSort}
use Rattle.desk_model.specs.declared.rows.part.PartRow.{PartRow}
use Rattle.desk_model.specs.Effect.{with_edit_entered, with_edit_made}
use Rattle.desk_model.specs.Lists.{Lists, is_kept, is_material, is_part, part_row}
use Rattle.desk_model.proofs.Elements.{each, each_filter, each_map, none_kept, sum_same}
use Rattle.desk_model.proofs.Kept.{code_cmp_total, each_kept, found_each, same_code-true}
use Rattle.desk_findings.specs.Above.{content, is_above, is_candidate}
use Rattle.desk_findings.specs.Articles.{articles_in, is_article_sort, materials_in}
use Rattle.desk_findings.specs.Findings.{above, finding_count, findings, findings_of_article}
use Rattle.desk_findings.specs.Mass.{mass}
use Rattle.desk_findings.specs.Reaches.{enough, is_or_reaches, lines_of, reaches, reaches_within}
use Rattle.desk_findings.specs.Totals.{has_too_many_findings}
use Rattle.desk_findings.proofs.Bill.{has_children, lines_of-none, reaches-step}
use Rattle.desk_findings.proofs.Children.{children_kept}
use Rattle.desk_findings.proofs.Lighter.{unreached}
use Rattle.desk_history.specs.Affected.{is_affected, seeds_of_new}
use Rattle.desk_history.specs.History.{PassesRows}
use Rattle.desk_history.specs.Refused.{findings_full, name_taken}
use Rattle.desk_history.specs.Rising.{may_add_findings}
use Rattle.desk_history.specs.Sound.{IsConsistent}
use Rattle.desk_history.proofs.SoundClauses.{parents_of, right_of}
use Rattle.desk_history.proofs.MadeRows.{refuse_if-none}
use Rattle.desk_history.proofs.Rules.{unrefused}
use Rattle.desk_history.proofs.SoundSteps.{IsConsistent-entered}
use Rattle.desk_history.proofs.Unaffected.{findings_stay}
use Rattle.desk_history.proofs.Untouched.{parts_of_ship, parts_of_unship}
use Rattle.desk_history.proofs.Years.{unaffected}

-- how many findings a part has in the tables
found_in : Lists → PartRow → ℕ
found_in t part = length (findings t part.code)

-- a part without lines has no findings
module _ (t : Lists) (s : IsConsistent t) (code : List ℕ) (bare : lines_of t.lines code ≡ []) where
  reaches_nothing : (target : List ℕ) → reaches t code target ≡ false
  reaches_nothing target = reaches-step t (parents_of t s) target code ∙ rw bare refl

  no_materials : materials_in t code ≡ []
  no_materials = none_kept (λ material. reaches t code material.code) t.materials (each (λ material. reaches t code material.code ≡ false) (λ material. reaches_nothing material.code) t.materials)

  holds_nothing : (substance : List ℕ) → content t code substance ≡ 0
  unfolding content
  holds_nothing substance = rw bare refl

  not_above : (substance : List ℕ) → is_above t code substance ≡ false
  unfolding is_above
  not_above substance =
      and_right (is_candidate t substance) (nat_lt (mass t code) (1000 * content t code substance))
      (le-ltb (mass t code) (1000 * content t code substance) (omega (arith, holds_nothing substance)))

  none_of_article : (part : PartRow) → part.code ≡ code → findings_of_article t part ≡ []
  none_of_article part e =
      ap (map (λ candidate. above part.code candidate.substance))
      (none_kept (λ candidate. is_above t part.code candidate.substance) t.candidates
      (each (λ candidate. is_above t part.code candidate.substance ≡ false) (λ candidate. rw e (not_above candidate.substance)) t.candidates))

  flat_none : (parts : List PartRow) → AllByRecursion (λ part. findings_of_article t part ≡ []) parts → flat_map (findings_of_article t) parts ≡ []
  flat_none [] a = refl
  flat_none (part ∷ parts) a = rw (a.0, flat_none parts a.1) refl

  only_itself : (part : PartRow) → (is_article_sort part.sort && is_or_reaches t code part.code) ≡ true → part.code ≡ code
  only_itself part e =
      let here = (and_parts (is_article_sort part.sort) (is_or_reaches t code part.code) e).1 in
      sym (same_code-true code part.code (sym (or_false (same_code code part.code) (reaches t code part.code) (reaches_nothing part.code)) ∙ here))
    where
      or_false : (a b : Bool) → b ≡ false → (a || b) ≡ a
      or_false true b f = refl
      or_false false b f = f

  pub nothing_found : findings t code ≡ []
  unfolding findings
  nothing_found =
      rw (
        no_materials,
        flat_none (articles_in t code)
            (each_map (λ part. Unit {0} × ((is_article_sort part.sort && is_or_reaches t code part.code) ≡ true)) (λ part. findings_of_article t part ≡ []) (λ part h. none_of_article part (only_itself part h.1)) (articles_in t code)
            (each_filter (λ part. Unit {0}) (λ part. is_article_sort part.sort && is_or_reaches t code part.code) t.parts (each (λ part. Unit {0}) (λ part. tt) t.parts))),
      )
      refl

module _ (t : Lists) (s : IsConsistent t) where
  -- without seeds and with the same parts there are as many findings
  same_count : (edit : Edit) → PassesRows t edit → seeds_of_new t edit ≡ [] → (with_edit_entered t edit).parts ≡ t.parts → finding_count (with_edit_entered t edit) ≡ finding_count t
  unfolding finding_count
  same_count edit passed none parts =
      ap (λ rows. sum_by (λ part. length (findings (with_edit_entered t edit) part.code)) rows) parts
      ∙ sum_same (λ part. length (findings (with_edit_entered t edit) part.code)) (λ part. length (findings t part.code)) t.parts
      (each (λ part. length (findings (with_edit_entered t edit) part.code) ≡ length (findings t part.code)) (λ part. ap length (findings_stay t s edit passed part.code (unaffected t edit none part.code))) t.parts)

  module _ (ticket code name : List ℕ) (sort : PartSort) (passed : PassesRows t (Part ticket code sort name)) where
    new_row : PartRow
    new_row = record { code = code; sort = sort; name = name }

    after : Lists
    after = with_edit_entered t (Part ticket code sort name)

    parts_after : after.parts ≡ with_row (λ row. row.code) code_cmp new_row t.parts
    unfolding after new_row with_edit_entered with_edit_made
    parts_after = refl

    lines_after : after.lines ≡ t.lines
    unfolding after with_edit_entered with_edit_made
    lines_after = refl

    summed : (f : PartRow → ℕ) → sum_by f after.parts + option_map_or f (part_row t code) 0 ≡ f new_row + sum_by f t.parts
    unfolding new_row
    summed f = ap (λ rows. sum_by f rows + option_map_or f (part_row t code) 0) parts_after ∙ sum_by-put (λ row. row.code) code_cmp code_cmp_total f new_row t.parts s.ordered.parts

    -- a part that is kept changes its name alone
    kept_count : is_part t code ≡ true → finding_count after ≡ finding_count t
    unfolding finding_count after new_row seeds_of_new
    kept_count kept =
        let none : seeds_of_new t (Part ticket code sort name) ≡ [] = rw kept refl in
        let stays = λ (other : List ℕ). ap length (findings_stay t s (Part ticket code sort name) passed other (unaffected t (Part ticket code sort name) none other)) in
        let whole = summed (λ part. length (findings after part.code)) in
        let others =
        sum_same (λ part. length (findings after part.code)) (λ part. length (findings t part.code)) t.parts
        (each (λ part. length (findings after part.code) ≡ length (findings t part.code)) (λ part. stays part.code) t.parts) in
        let old = old_is (part_row t code) kept refl in
        omega (arith, whole, others, old)
      where
        old_is : (o : Option PartRow) → is_some o ≡ true → part_row t code ≡ o → option_map_or (λ part. length (findings after part.code)) o 0 ≡ length (findings after code)
        old_is None h e = absurd (true≢false (sym h))
        old_is (Some part) h e =
            let found = found_each (λ row. row.code) (λ row. Unit {0}) code t.parts part (each (λ row. Unit {0}) (λ row. tt) t.parts) e in
            ap (λ c. length (findings after c)) found.1

    module _ (absent : is_part t code ≡ false) (material : is_material t code ≡ false) where
      other_code : (other : List ℕ) → (same_code other code ≡ true → ⊥) → same_code other code ≡ false
      other_code other not = false_from_ne_true (same_code other code) not

      no_line : AllByRecursion (λ line. same_code line.child code ≡ false) t.lines
      no_line =
          each_map (λ line. is_kept t line.child ≡ true) (λ line. same_code line.child code ≡ false)
          (λ line kept. other_code line.child (λ same. both_ways (is_kept t code) (rw (material, absent) refl) (subst (λ c. is_kept t c ≡ true) (same_code-true line.child code same) kept)))
          t.lines (has_children t (children_kept t (right_of t s)))

      never_reached : (other : List ℕ) → reaches after other code ≡ false
      never_reached other = ap (λ lines. reaches_within lines (enough after) other code) lines_after ∙ unreached t.lines code no_line (enough after) other

      not_affected : (other : List ℕ) → is_part t other ≡ true → is_affected t (Part ticket code sort name) other ≡ false
      unfolding is_affected seeds_of_new after
      not_affected other kept =
          let differs = other_code other (λ same. both_ways (is_part t code) absent (subst (λ c. is_part t c ≡ true) (same_code-true other code same) kept)) in
          rw (passed.is_new, absent, differs, never_reached other) refl

    -- a new part is led to by no line, and has none
    absent_count : is_part t code ≡ false → finding_count after ≡ finding_count t
    unfolding finding_count after new_row seeds_of_new name_taken
    absent_count absent =
        let material : is_material t code ≡ false = refuse_if-none (is_material t code) _ (unrefused t (Part ticket code sort name) passed).name_taken in
        let whole = summed (λ part. length (findings after part.code)) in
        let none : option_map_or (λ part. length (findings after part.code)) (part_row t code) 0 ≡ 0 = none_is (part_row t code) absent in
        let bare : lines_of after.lines code ≡ [] = ap (λ lines. lines_of lines code) lines_after ∙ lines_of-none t (parents_of t s) code absent in
        let empty : length (findings after code) ≡ 0 = ap length (nothing_found after (IsConsistent-entered t (Part ticket code sort name) s passed) code bare) in
        let others =
        sum_same (λ part. length (findings after part.code)) (λ part. length (findings t part.code)) t.parts
        (each_map (λ part. is_part t part.code ≡ true) (λ part. length (findings after part.code) ≡ length (findings t part.code))
        (λ part kept. ap length (findings_stay t s (Part ticket code sort name) passed part.code (not_affected absent material part.code kept))) t.parts
        (each_kept (λ row. row.code) code_cmp code_cmp_total t.parts)) in
        omega (arith, whole, none, empty, others)
      where
        none_is : (o : Option PartRow) → is_some o ≡ false → option_map_or (λ part. length (findings after part.code)) o 0 ≡ 0
        none_is None h = refl
        none_is (Some part) h = absurd (true≢false h)

  same_findings_count : (edit : Edit) → PassesRows t edit → may_add_findings edit ≡ false → finding_count (with_edit_entered t edit) ≡ finding_count t
  unfolding seeds_of_new with_edit_entered with_edit_made after
  same_findings_count (Substance ticket code name cas) passed e = same_count (Substance ticket code name cas) passed refl refl
  same_findings_count (Member ticket substance rule factor) passed e = absurd (true≢false e)
  same_findings_count (Declare declaration) passed e = absurd (true≢false e)
  same_findings_count (Part ticket code sort name) passed e = elim (cases_Bool (is_part t code)) [
    | inl kept ↦ kept_count ticket code name sort passed kept
    | inr absent ↦ absent_count ticket code name sort passed absent
  ]
  same_findings_count (Line ticket parent child count) passed e = absurd (true≢false e)
  same_findings_count (Unline ticket parent child) passed e = absurd (true≢false e)
  same_findings_count (Product ticket part kind) passed e = same_count (Product ticket part kind) passed refl refl
  same_findings_count (Exemption ticket exemption) passed e = same_count (Exemption ticket exemption) passed refl refl
  same_findings_count (Unexempt ticket row) passed e = same_count (Unexempt ticket row) passed refl refl
  same_findings_count (Candidate ticket substance day) passed e = absurd (true≢false e)
  same_findings_count (Ship ticket product year units) passed e = same_count (Ship ticket product year units) passed refl (parts_of_ship t ticket product year units)
  same_findings_count (Unship ticket product year units) passed e = same_count (Unship ticket product year units) passed refl (parts_of_unship t ticket product year units)

  -- findings that no edit of its sort can add meet no refusal
  pub findings_fit : has_too_many_findings t ≡ false → (edit : Edit) → PassesRows t edit → may_add_findings edit ≡ false → findings_full t edit ≡ None
  unfolding findings_full has_too_many_findings
  findings_fit fits edit passed e = rw (same_findings_count edit passed e, fits) refl
