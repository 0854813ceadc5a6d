-- An assembly whose lines an edit leaves is no seed of it, and keeps what it has.
use Rattle.std.proofs.Common.{◌≡◌, ℕ, Bool, true, false, ◌&&◌, List, [], ◌∷◌, filter, find, map, Option, Some, None, Ordering, Less, Equal, Greater, is_eq, refl, sym, ap, ◌∙◌, subst, inl, inr}
use Rattle.std.specs.Prelude.{if◌then◌else◌}
use Rattle.std.specs.List.{AllByRecursion, list_any}
use Rattle.std.specs.Option.{option_map_or}
use Rattle.std.specs.Ordering.{ordering_then}
use Rattle.std.proofs.lemmas.Bool.{and_parts, both_ways, cases_Bool, false≢true, false_from_ne_true, or_right}
use Rattle.std.proofs.lemmas.Map.Lookups.{exact_bytes}
use Rattle.desk_text.specs.Code.{code_cmp, same_code}
use Rattle.desk_text.proofs.CodeLemmas.{same_code_itself}
use Rattle.desk_rows.specs.Rows.{row_of}
use Rattle.desk_rows.proofs.Lookups.{filter-with_row, filter-without_row, row_of-with_row, row_of-with_row_other}
use Rattle.desk_model.specs.declared.edit.Edit.{Edit}
use Rattle.desk_model.specs.declared.edit.Edit.TheVariants.{Substance, Member, Declare, Part, Line, Unline, Product, Exemption, Unexempt, Candidate, Ship, Unship}
use Rattle.desk_model.specs.declared.part_sort.PartSort.{PartSort}
use Rattle.desk_model.specs.declared.part_sort.PartSort.TheVariants.{Article, Assembly}
use Rattle.desk_model.specs.declared.rows.line.LineRow.{LineRow}
use Rattle.desk_model.specs.declared.rows.part.PartRow.{PartRow}
use Rattle.desk_model.specs.Declaration.{Declared}
use Rattle.desk_model.specs.Effect.{with_edit_entered, with_edit_made}
use Rattle.desk_model.specs.Lists.{Lists, is_material, is_part, line_key, line_key_cmp, part_row}
use Rattle.desk_model.proofs.Elements.{any_gives, each, each_filter, each_map, each_of_map, find-none}
use Rattle.desk_model.proofs.Kept.{code_cmp_total, each_kept, same_code-true}
use Rattle.desk_findings.specs.Above.{is_candidate}
use Rattle.desk_findings.specs.Articles.{is_article, is_article_sort, is_assembly, same_sort}
use Rattle.desk_findings.specs.Reaches.{lines_of}
use Rattle.desk_findings.proofs.Children.{is_part-assembly, not_both, not_part}
use Rattle.desk_findings.proofs.OwnValues.{of_other}
use Rattle.desk_history.specs.Affected.{articles_listing, leads_to_some, lists_substance, materials_listing, seeds_of_new}
use Rattle.desk_history.specs.History.{PassesRows}
use Rattle.desk_history.specs.Refused.{name_taken}
use Rattle.desk_history.specs.Sound.{IsConsistent}
use Rattle.desk_history.proofs.MadeBill.{kind_kept}
use Rattle.desk_history.proofs.MadeDeclared.{unmapped}
use Rattle.desk_history.proofs.Rules.{unrefused}
use Rattle.desk_history.proofs.SoundClauses.{good_of}
use Rattle.desk_history.proofs.SoundSteps.{IsConsistent-entered}
use Rattle.desk_history.proofs.Untouched.{member_leaves, parts_of_member, parts_of_ship, parts_of_unship, ship_leaves, unship_leaves}
use Rattle.desk_tables.proofs.OwnMasses.{each_found}
use Rattle.desk_bridge.specs.AfterEdit.{KeepsOwn}
use Rattle.desk_bridge.specs.OwnAfter.{changes_lines}

-- a code of which something is not so stands among none of which it is so
none_among : (P : List ℕ → Type 0) (code : List ℕ) (codes : List (List ℕ)) → AllByRecursion P codes → (P code → ⊥) → list_any (same_code code) codes ≡ false
none_among P code codes all never =
    false_from_ne_true (list_any (same_code code) codes)
    (λ e. any_gives (same_code code) codes (each_map P (λ other. same_code code other ≡ true → ⊥) (λ other p same. never (subst P (sym (same_code-true code other same)) p)) codes all) e)

-- an assembly is neither a material nor an article
module _ (t : Lists) (s : IsConsistent t) (code : List ℕ) (is : is_assembly t code ≡ true) where
  no_material : is_material t code ≡ false
  no_material = false_from_ne_true (is_material t code) (λ material. both_ways (is_part t code) (not_part t s.codes_apart code material) (is_part-assembly t code is))

  no_article : is_article t code ≡ false
  no_article = false_from_ne_true (is_article t code) (λ article. not_both t code article is)

-- the lines of another part stay
then_equal : (a b : Ordering) → ordering_then a b ≡ Equal → a ≡ Equal
then_equal Less b e = e
then_equal Equal b e = refl
then_equal Greater b e = e

is_equal : (a : Ordering) → is_eq a ≡ true → a ≡ Equal
is_equal Less e = absurd (false≢true e)
is_equal Equal e = refl
is_equal Greater e = absurd (false≢true e)

other_parent : (a b : LineRow) (code : List ℕ) → same_code b.parent code ≡ false → line_key_cmp (line_key a) (line_key b) ≡ Equal → same_code a.parent code ≡ false
other_parent a b code other e = subst (λ c. same_code c code ≡ false) (sym (exact_bytes a.parent b.parent (then_equal (code_cmp a.parent b.parent) (code_cmp a.child b.child) e))) other

lines_stay : (t : Lists) (edit : Edit) (code : List ℕ) → changes_lines edit code ≡ false → lines_of (with_edit_entered t edit).lines code ≡ lines_of t.lines code
unfolding with_edit_entered with_edit_made
lines_stay t (Substance ticket substance name cas) code e = refl
lines_stay t (Member ticket substance rule factor) code e = ap (λ lines. lines_of lines code) (member_leaves t ticket substance rule factor).lines
lines_stay t (Declare declaration) code e = refl
lines_stay t (Part ticket part sort name) code e = refl
lines_stay t (Line ticket parent child count) code e =
    let new : LineRow = record { parent = parent; child = child; count = count } in
    filter-with_row line_key line_key_cmp (λ line. same_code line.parent code) new t.lines e
    (each (λ line. line_key_cmp (line_key line) (line_key new) ≡ Equal → same_code line.parent code ≡ false) (λ line same. other_parent line new code e same) t.lines)
lines_stay t (Unline ticket parent child) code e =
    filter-without_row line_key line_key_cmp (λ line. same_code line.parent code) (parent, child) t.lines
    (each (λ line. is_eq (line_key_cmp (line_key line) (parent, child)) ≡ true → same_code line.parent code ≡ false)
    (λ line same. other_parent line (record { parent = parent; child = child; count = 1 }) code e (is_equal (line_key_cmp (line_key line) (parent, child)) same)) t.lines)
lines_stay t (Product ticket part kind) code e = refl
lines_stay t (Exemption ticket exemption) code e = refl
lines_stay t (Unexempt ticket row) code e = refl
lines_stay t (Candidate ticket substance day) code e = refl
lines_stay t (Ship ticket product year units) code e = ap (λ lines. lines_of lines code) (ship_leaves t ticket product year units).lines
lines_stay t (Unship ticket product year units) code e = ap (λ lines. lines_of lines code) (unship_leaves t ticket product year units).lines

-- a part that is named anew keeps its sort
one_sort : (a b : PartSort) → same_sort a b ≡ true → same_sort a Assembly ≡ true → same_sort b Assembly ≡ true
one_sort Article Article e is = is
one_sort Article Assembly e is = absurd (false≢true e)
one_sort Assembly Article e is = absurd (false≢true e)
one_sort Assembly Assembly e is = is

module _ (t : Lists) (ticket code name : List ℕ) (sort : PartSort) (same_kind : (part : PartRow) → part_row t code ≡ Some part → same_sort part.sort sort ≡ true) where
  sort_found : (o : Option PartRow) → part_row t code ≡ o → option_map_or (λ part. same_sort part.sort Assembly) o false ≡ true → same_sort sort Assembly ≡ true
  sort_found None e is = absurd (false≢true is)
  sort_found (Some part) e is = one_sort part.sort sort (same_kind part e) is

  part_stays : (other : List ℕ) → is_assembly t other ≡ true → is_assembly (with_edit_entered t (Part ticket code sort name)) other ≡ true
  unfolding with_edit_entered with_edit_made
  part_stays other is =
      let new : PartRow = record { code = code; sort = sort; name = name } in
      elim (cases_Bool (same_code code other)) [
        | inl same ↦
            let one = same_code-true code other same in
            subst (λ c. is_assembly (with_edit_entered t (Part ticket code sort name)) c ≡ true) one
            (ap (λ o. option_map_or (λ part. same_sort part.sort Assembly) o false) (row_of-with_row (λ row. row.code) code_cmp code_cmp_total new t.parts)
            ∙ sort_found (part_row t code) refl (subst (λ c. is_assembly t c ≡ true) (sym one) is))
        | inr differs ↦ ap (λ o. option_map_or (λ part. same_sort part.sort Assembly) o false) (row_of-with_row_other (λ row. row.code) code_cmp code_cmp_total new other t.parts differs) ∙ is
      ]

-- an assembly is one after the edit
same_parts : (t u : Lists) (code : List ℕ) → u.parts ≡ t.parts → is_assembly t code ≡ true → is_assembly u code ≡ true
same_parts t u code e is = ap (λ rows. option_map_or (λ part. same_sort part.sort Assembly) (row_of (λ row. row.code) code_cmp code rows) false) e ∙ is

assembly_stays : (t : Lists) → IsConsistent t → (edit : Edit) → PassesRows t edit → (code : List ℕ) → is_assembly t code ≡ true → is_assembly (with_edit_entered t edit) code ≡ true
unfolding with_edit_entered with_edit_made
assembly_stays t s (Substance ticket substance name cas) a code is = is
assembly_stays t s (Member ticket substance rule factor) a code is = same_parts t (with_edit_entered t (Member ticket substance rule factor)) code (parts_of_member t ticket substance rule factor) is
assembly_stays t s (Declare declaration) a code is = is
assembly_stays t s (Part ticket part sort name) a code is =
    part_stays t ticket part name sort (kind_kept t (good_of t s) ticket part name sort (unrefused t (Part ticket part sort name) a).kind_changed) code is
assembly_stays t s (Line ticket parent child count) a code is = is
assembly_stays t s (Unline ticket parent child) a code is = is
assembly_stays t s (Product ticket part kind) a code is = is
assembly_stays t s (Exemption ticket exemption) a code is = is
assembly_stays t s (Unexempt ticket row) a code is = is
assembly_stays t s (Candidate ticket substance day) a code is = is
assembly_stays t s (Ship ticket product year units) a code is = same_parts t (with_edit_entered t (Ship ticket product year units)) code (parts_of_ship t ticket product year units) is
assembly_stays t s (Unship ticket product year units) a code is = same_parts t (with_edit_entered t (Unship ticket product year units)) code (parts_of_unship t ticket product year units) is

-- seeds are materials, articles, new parts, or parents of the edit's line
module _ (t : Lists) (s : IsConsistent t) (code : List ℕ) (is : is_assembly t code ≡ true) where
  seed-material : (substance : List ℕ) → list_any (same_code code) (materials_listing t substance) ≡ false
  seed-material substance =
      none_among (λ c. is_material t c ≡ true) code (materials_listing t substance)
      (each_of_map (λ c. is_material t c ≡ true) (λ row. row.code) (filter (lists_substance substance) t.materials)
      (each_map (λ row. (is_material t row.code ≡ true) × (lists_substance substance row ≡ true)) (λ row. is_material t row.code ≡ true) (λ row h. h.0) (filter (lists_substance substance) t.materials)
      (each_filter (λ row. is_material t row.code ≡ true) (lists_substance substance) t.materials (each_kept (λ row. row.code) code_cmp code_cmp_total t.materials))))
      (λ material. both_ways (is_material t code) (no_material t s code is) material)

  seed-article : (substance : List ℕ) → list_any (same_code code) (articles_listing t substance) ≡ false
  seed-article substance =
      let test : PartRow → Bool = λ part. is_article_sort part.sort && leads_to_some t part.code (materials_listing t substance) in
      none_among (λ c. is_article t c ≡ true) code (articles_listing t substance)
      (each_of_map (λ c. is_article t c ≡ true) (λ row. row.code) (filter test t.parts)
      (each_map (λ row. (part_row t row.code ≡ Some row) × (test row ≡ true)) (λ row. is_article t row.code ≡ true)
      (λ row h. ap (λ o. option_map_or (λ part. is_article_sort part.sort) o false) h.0 ∙ (and_parts (is_article_sort row.sort) (leads_to_some t row.code (materials_listing t substance)) h.1).0) (filter test t.parts)
      (each_filter (λ row. part_row t row.code ≡ Some row) test t.parts (each_found (λ row. row.code) code_cmp code_cmp_total t.parts s.ordered.parts))))
      (λ article. both_ways (is_article t code) (no_article t s code is) article)

  seed-candidate : (substance : List ℕ) (kept : Bool) → list_any (same_code code) (if kept then [] else articles_listing t substance) ≡ false
  seed-candidate substance true = refl
  seed-candidate substance false = seed-article substance

  seed-part : (part : List ℕ) (kept : Bool) → is_part t part ≡ kept → list_any (same_code code) (if kept then [] else part ∷ []) ≡ false
  seed-part part true e = refl
  seed-part part false e = none_among (λ c. is_part t c ≡ false) code (part ∷ []) (e, tt) (λ none. both_ways (is_part t code) none (is_part-assembly t code is))

  seed-parent : (parent : List ℕ) → same_code parent code ≡ false → list_any (same_code code) (parent ∷ []) ≡ false
  seed-parent parent e = none_among (λ c. same_code c code ≡ false) code (parent ∷ []) (e, tt) (λ other. both_ways (same_code code code) other (same_code_itself code))

  seed-declared : (d : Declared) → PassesRows t (Declare d) → list_any (same_code code) (map (λ material. material.code) d.materials) ≡ false
  unfolding name_taken
  seed-declared d a =
      none_among (λ c. is_part t c ≡ false) code (map (λ material. material.code) d.materials)
      (each_of_map (λ c. is_part t c ≡ false) (λ material. material.code) d.materials
      (find-none (λ material. is_part t material.code) d.materials (unmapped _ (find (λ material. is_part t material.code) d.materials) (unrefused t (Declare d) a).name_taken)))
      (λ none. both_ways (is_part t code) none (is_part-assembly t code is))

  pub no_seed : (edit : Edit) → PassesRows t edit → changes_lines edit code ≡ false → list_any (same_code code) (seeds_of_new t edit) ≡ false
  unfolding seeds_of_new
  no_seed (Substance ticket substance name cas) a e = refl
  no_seed (Member ticket substance rule factor) a e = seed-material substance
  no_seed (Declare declaration) a e = seed-declared declaration a
  no_seed (Part ticket part sort name) a e = seed-part part (is_part t part) refl
  no_seed (Line ticket parent child count) a e = seed-parent parent e
  no_seed (Unline ticket parent child) a e = seed-parent parent e
  no_seed (Product ticket part kind) a e = refl
  no_seed (Exemption ticket exemption) a e = refl
  no_seed (Unexempt ticket row) a e = refl
  no_seed (Candidate ticket substance day) a e = seed-candidate substance (is_candidate t substance)
  no_seed (Ship ticket product year units) a e = refl
  no_seed (Unship ticket product year units) a e = refl

  -- it has nothing of its own before and after the edit
  pub keeps_own : (edit : Edit) → PassesRows t edit → changes_lines edit code ≡ false → KeepsOwn t edit code
  keeps_own edit a e =
      let is_still = assembly_stays t s edit a code is in
      let r = IsConsistent-entered t edit s a in
      let before = of_other t code (no_material t s code is) (no_article t s code is) in
      let after = of_other (with_edit_entered t edit) code (no_material (with_edit_entered t edit) r code is_still) (no_article (with_edit_entered t edit) r code is_still) in
      record {
        kept = or_right (is_material (with_edit_entered t edit) code) (is_part (with_edit_entered t edit) code) (is_part-assembly (with_edit_entered t edit) code is_still) ∙ sym (or_right (is_material t code) (is_part t code) (is_part-assembly t code is));
        lines = lines_stay t edit code e;
        masses = after.0 ∙ sym before.0;
        found = after.1 ∙ sym before.1;
        loads = λ substance. after.2 substance ∙ sym (before.2 substance);
      }
