-- At the start tables a declaration meets no refusal but those on its substances and on its masses.
use Rattle.std.proofs.Common.{◌≡◌, ◌+◌, ◌≤◌, ℕ, true, false, not, List, [], ◌∷◌, length, Option, None, Some, refl, arith, nat_lt, map, find}
use Rattle.std.proofs.lemmas.Bool.{leb-true, le-ltb}
use Rattle.std.proofs.lemmas.List.{length-map}
use Rattle.std.specs.Cmp.{first_so, second_so}
use Rattle.std.specs.Prelude.{option_map}
use Rattle.std.specs.declared.cmp.Ordering.{Ordering}
use Rattle.std.specs.declared.cmp.Ordering.TheVariants.{Less, Equal, Greater}
use Rattle.std.specs.Ordering.{match_ordering}
use Rattle.desk_text.specs.Code.{code_cmp}
use Rattle.desk_rows.specs.Rows.{with_row, with_rows}
use Rattle.desk_model.specs.declared.edit.Edit.TheVariants.{Declare}
use Rattle.desk_model.specs.declared.limits.TheConstants.{DECLARED_LIMIT, MATERIAL_LIMIT, TEXT_LIMIT}
use Rattle.desk_model.specs.declared.material_decl.MaterialDecl.{MaterialDecl}
use Rattle.desk_model.specs.declared.rule_fault.RuleFault.{RuleFault}
use Rattle.desk_model.specs.declared.rule_fault.RuleFault.TheVariants.{MassesExceed, UnknownSubstance}
use Rattle.desk_model.specs.Content.{holds_too_much}
use Rattle.desk_model.specs.Declaration.{Declared, is_declaration_in_form}
use Rattle.desk_model.specs.EditText.{edit_text}
use Rattle.desk_model.specs.Effect.{declared_row, declared_rows, with_edit_entered, with_edit_made}
use Rattle.desk_model.specs.Lists.{Lists, is_part, is_substance}
use Rattle.desk_model.specs.Start.{start}
use Rattle.desk_findings.specs.Findings.{finding_count}
use Rattle.desk_findings.specs.Totals.{has_too_many_findings, too_heavy_part, too_heavy_year}
use Rattle.desk_history.specs.Limits.{has_too_much_text, tables_over}
use Rattle.desk_history.specs.Refused.{closes_cycle, declared_substances, exemption_span, findings_full, first_some, foreign_fault, foreign_material, kind_changed, masses_exceed, name_taken}
use Rattle.desk_history.specs.Refused.{no_such_line, outside_annex, refused, ship_below_zero, stale_declaration, stale_fault, table_full, text_full, ticket_reused}
use Rattle.desk_history.specs.Refused.{total_too_large, units_too_large, unknown_exemption, unknown_material, unknown_part, unknown_product, unknown_substance}
use Rattle.desk_history.specs.Refused.{wrong_child, year_too_large}
use Rattle.desk_tables.proofs.DeclaredText.{declared-short}

-- no material has a part's code, or is kept
no-part : (ms : List MaterialDecl) → find (λ m. is_part start m.code) ms ≡ None
unfolding start
no-part [] = refl
no-part (m ∷ ms) = no-part ms

none-foreign : (supplier : List ℕ) (ms : List MaterialDecl) → first_some (map (foreign_fault start supplier) ms) ≡ None
unfolding start
none-foreign supplier [] = refl
none-foreign supplier (m ∷ ms) = none-foreign supplier ms

none-stale : (number : ℕ) (ms : List MaterialDecl) → first_some (map (stale_fault start number) ms) ≡ None
unfolding start
none-stale number [] = refl
none-stale number (m ∷ ms) = none-stale number ms

-- putting in a row makes a list at most one row longer
module _ {R K : Type 0} (key : R → K) (cmp : K → K → Ordering) where
  one-more : (new : R) (rows : List R) → length (with_row key cmp new rows) ≤ length rows + 1
  one-more new [] = omega arith
  one-more new (row ∷ rows) = by (cmp (key row) (key new)) (one-more new rows)
    where
      by : (o : Ordering) → length (with_row key cmp new rows) ≤ length rows + 1
          → length (match_ordering o (row ∷ with_row key cmp new rows) (new ∷ rows) (new ∷ row ∷ rows)) ≤ length (row ∷ rows) + 1
      by Less more = omega arith
      by Equal more = omega arith
      by Greater more = omega arith

  some-more : (more rows : List R) → length (with_rows key cmp more rows) ≤ length rows + length more
  some-more [] rows = omega arith
  some-more (new ∷ more) rows = omega (arith, some-more more (with_row key cmp new rows), one-more new rows)

-- no table is full
none-full : (d : Declared) → is_declaration_in_form d ≡ true → table_full start (Declare d) ≡ None
unfolding with_edit_entered is_declaration_in_form with_edit_made start table_full tables_over
none-full d form =
    let in_range = second_so _ _ (first_so _ _ form) in
    let few = leb-true (length d.materials) DECLARED_LIMIT (second_so _ _ (first_so _ _ (first_so _ _ in_range))) in
    let more = some-more (λ row. row.code) code_cmp (declared_rows d) [] in
    let over : nat_lt MATERIAL_LIMIT (length (with_rows (λ row. row.code) code_cmp (declared_rows d) [])) ≡ false =
    le-ltb _ _ (omega (arith, length-map d.materials (declared_row d))) in
    rw over refl

-- and the text isn't too long
none-long : (d : Declared) → is_declaration_in_form d ≡ true → text_full start (Declare d) ≡ None
unfolding with_edit_entered has_too_much_text with_edit_made start text_full
none-long d form =
    let short = declared-short d form in
    let fits : nat_lt TEXT_LIMIT (0 + length (edit_text (Declare d))) ≡ false = le-ltb _ _ (omega arith) in
    rw fits refl

none-heavy : (d : Declared) → total_too_large start (Declare d) ≡ None
unfolding with_edit_entered with_edit_made start too_heavy_part total_too_large
none-heavy d = refl

none-found : (d : Declared) → findings_full start (Declare d) ≡ None
unfolding with_edit_entered finding_count findings_full has_too_many_findings with_edit_made start
none-found d = refl

none-shipped : (d : Declared) → year_too_large start (Declare d) ≡ None
unfolding with_edit_entered with_edit_made start too_heavy_year year_too_large
none-shipped d = refl

none-kept : (d : Declared) → ticket_reused start (Declare d) ≡ None
unfolding start ticket_reused
none-kept d = refl

-- the two rules that are left
two : (substance mass : Option RuleFault)
    → first_some (None ∷ substance ∷ None ∷ None ∷ None ∷ None ∷ None ∷ None ∷ None ∷ None ∷ None ∷ None ∷ mass ∷ None ∷ None ∷ None ∷ None ∷ None ∷ None ∷ None ∷ None ∷ None ∷ None ∷ [])
    ≡ first_some (substance ∷ mass ∷ [])
two None None = refl
two None (Some fault) = refl
two (Some fault) mass = refl

pub refused_at_start : (d : Declared) → is_declaration_in_form d ≡ true
    → refused start (Declare d) ≡ first_some (unknown_substance start (Declare d) ∷ masses_exceed start (Declare d) ∷ [])
unfolding closes_cycle exemption_span foreign_material kind_changed name_taken no_such_line outside_annex refused ship_below_zero stale_declaration units_too_large unknown_exemption unknown_material unknown_part unknown_product wrong_child
refused_at_start d form =
    rw (none-kept d, no-part d.materials, none-foreign d.supplier d.materials, none-stale d.number d.materials, none-full d form, none-long d form, none-heavy d, none-found d, none-shipped d)
    (two (unknown_substance start (Declare d)) (masses_exceed start (Declare d)))

-- an unknown substance is what is told
pub first_told : (d : Declared) (t : Lists) (fault : RuleFault) → is_declaration_in_form d ≡ true → t ≡ start
    → Some fault ≡ option_map UnknownSubstance (find (λ code. not (is_substance t code)) (declared_substances d)) → Some fault ≡ refused start (Declare d)
unfolding unknown_substance
first_told d t fault form same told = rw (refused_at_start d form, ← same, ← told) refl

-- or else masses that exceed, or nothing
pub second_told : (d : Declared) (t : Lists) (fault : Option RuleFault) → is_declaration_in_form d ≡ true → t ≡ start
    → None ≡ option_map UnknownSubstance (find (λ code. not (is_substance t code)) (declared_substances d))
    → fault ≡ option_map (λ material. MassesExceed material.code) (find (λ material. holds_too_much material.mass material.substances) d.materials)
    → fault ≡ refused start (Declare d)
unfolding masses_exceed unknown_substance
second_told d t fault form same none told = rw (refused_at_start d form, ← same, ← none, ← told) (by fault)
  where
    by : (found : Option RuleFault) → found ≡ first_some (None ∷ found ∷ [])
    by None = refl
    by (Some one) = refl
