-- Which edits are refused, and why: one definition a rule, in the order of the rules.
use Rattle.std.specs.Prelude.{ℕ, ◌+◌, Bool, not, ◌&&◌, ◌||◌, List, [], ◌∷◌, ◌++◌, Option, Some, None, find, is_some, map, nat_lt, option_map, if◌then◌else◌}
use Rattle.std.specs.List.{flat_map}
use Rattle.std.specs.Option.{option_and_then}
use Rattle.desk_text.specs.Code.{same_code}
use Rattle.desk_model.specs.declared.edit.Edit.{Edit}
use Rattle.desk_model.specs.declared.edit.Edit.TheVariants.{Member, Declare, Part, Line, Unline, Product, Exemption, Unexempt, Candidate, Ship, Unship}
use Rattle.desk_model.specs.declared.limits.TheConstants.{UNITS_LIMIT}
use Rattle.desk_model.specs.declared.material_decl.MaterialDecl.{MaterialDecl}
use Rattle.desk_model.specs.declared.rule_fault.RuleFault.{RuleFault}
use Rattle.desk_model.specs.declared.rule_fault.RuleFault.TheVariants.{TicketReused, UnknownSubstance, UnknownMaterial}
use Rattle.desk_model.specs.declared.rule_fault.RuleFault.TheVariants.{UnknownPart, UnknownProduct, UnknownExemption}
use Rattle.desk_model.specs.declared.rule_fault.RuleFault.TheVariants.{NameTaken, KindChanged, WrongChild, NoSuchLine}
use Rattle.desk_model.specs.declared.rule_fault.RuleFault.TheVariants.{ForeignMaterial, StaleDeclaration, MassesExceed}
use Rattle.desk_model.specs.declared.rule_fault.RuleFault.TheVariants.{ExemptionSpan, AnnexKinds, ShipBelowZero}
use Rattle.desk_model.specs.declared.rule_fault.RuleFault.TheVariants.{UnitsTooLarge, TableFull, TextFull, ClosesCycle}
use Rattle.desk_model.specs.declared.rule_fault.RuleFault.TheVariants.{TotalTooLarge, FindingsFull, YearTooLarge}
use Rattle.desk_findings.specs.Articles.{is_article, is_assembly, same_sort}
use Rattle.desk_findings.specs.Chain.{chain}
use Rattle.desk_model.specs.Content.{holds_too_much}
use Rattle.desk_model.specs.Declaration.{Declared}
use Rattle.desk_model.specs.EditText.{edit_text, same_text, ticket_code}
use Rattle.desk_model.specs.Effect.{with_edit_entered, units_of}
use Rattle.desk_model.specs.Lists.{Lists, exemption_row, is_kept, is_line, is_material, is_part, is_product, is_substance, material_row, part_row, ticket_row}
use Rattle.desk_findings.specs.Reaches.{is_or_reaches}
use Rattle.desk_model.specs.Terms.{breaks_annex, breaks_span}
use Rattle.desk_findings.specs.Totals.{has_too_many_findings, too_heavy_part, too_heavy_year}
use Rattle.desk_history.specs.Limits.{has_too_much_text, tables_over}

-- the fault, where the test passes
abbrev pub refuse_if : Bool → RuleFault → Option RuleFault
refuse_if test fault = if test then Some fault else None

-- the first element of a list
abbrev pub first_of : {X : Type 0} → List X → Option X
first_of [] = None
first_of (x ∷ xs) = Some x

-- the first value that is there, in a list of values that may be absent
abbrev pub first_some : {X : Type 0} → List (Option X) → Option X
first_some [] = None
first_some (None ∷ os) = first_some os
first_some (Some x ∷ os) = Some x

-- 1: the ticket is kept with another edit
unfoldable pub ticket_reused : Lists → Edit → Option RuleFault
ticket_reused t edit =
    option_and_then (λ ticket. refuse_if (not (same_text ticket.text (edit_text edit))) TicketReused) (ticket_row t (ticket_code edit))

-- the substances that a declaration lists, in order of material and then of substance
abbrev pub declared_substances : Declared → List (List ℕ)
declared_substances d = flat_map (λ material. map (λ held. held.substance) material.substances) d.materials

-- 2: member or candidate names a substance that isn't kept, or a declared material lists one
unfoldable pub unknown_substance : Lists → Edit → Option RuleFault
unknown_substance t (Member ticket substance rule factor) = refuse_if (not (is_substance t substance)) (UnknownSubstance substance)
unknown_substance t (Declare declaration) = option_map UnknownSubstance (find (λ code. not (is_substance t code)) (declared_substances declaration))
unknown_substance t (Candidate ticket substance day) = refuse_if (not (is_substance t substance)) (UnknownSubstance substance)
unknown_substance t _ = None

-- 3: the line of a kept article leads to what is neither a kept material nor a kept part
unfoldable pub unknown_material : Lists → Edit → Option RuleFault
unknown_material t (Line ticket parent child count) = refuse_if (is_article t parent && not (is_kept t child)) (UnknownMaterial child)
unknown_material t _ = None

-- 4: the parent of a line isn't a kept part; a kept assembly's line leads to what is neither a kept part nor a kept
-- material; the part of a product isn't kept
unfoldable pub unknown_part : Lists → Edit → Option RuleFault
unknown_part t (Line ticket parent child count) =
    if not (is_part t parent) then Some (UnknownPart parent)
    else refuse_if (is_assembly t parent && not (is_kept t child)) (UnknownPart child)
unknown_part t (Unline ticket parent child) = refuse_if (not (is_part t parent)) (UnknownPart parent)
unknown_part t (Product ticket part kind) = refuse_if (not (is_part t part)) (UnknownPart part)
unknown_part t _ = None

-- 5: the shipped product isn't kept
unfoldable pub unknown_product : Lists → Edit → Option RuleFault
unknown_product t (Ship ticket product year units) = refuse_if (not (is_product t product)) (UnknownProduct product)
unknown_product t (Unship ticket product year units) = refuse_if (not (is_product t product)) (UnknownProduct product)
unknown_product t _ = None

-- 6: the exemption row isn't kept
unfoldable pub unknown_exemption : Lists → Edit → Option RuleFault
unknown_exemption t (Unexempt ticket row) = refuse_if (not (is_some (exemption_row t row))) (UnknownExemption row)
unknown_exemption t _ = None

-- 7: a declared material has a part's code, the first such; a part has a material's code
unfoldable pub name_taken : Lists → Edit → Option RuleFault
name_taken t (Declare declaration) = option_map (λ material. NameTaken material.code) (find (λ material. is_part t material.code) declaration.materials)
name_taken t (Part ticket code sort name) = refuse_if (is_material t code) (NameTaken code)
name_taken t _ = None

-- 8: the part is kept as the other of article and assembly
unfoldable pub kind_changed : Lists → Edit → Option RuleFault
kind_changed t (Part ticket code sort name) = option_and_then (λ part. refuse_if (not (same_sort part.sort sort)) (KindChanged code)) (part_row t code)
kind_changed t _ = None

-- 9: the child of an article is a part, or that of an assembly is a material
unfoldable pub wrong_child : Lists → Edit → Option RuleFault
wrong_child t (Line ticket parent child count) =
    refuse_if (is_article t parent && is_part t child || is_assembly t parent && is_material t child) (WrongChild child)
wrong_child t _ = None

-- 10: the line isn't kept
unfoldable pub no_such_line : Lists → Edit → Option RuleFault
no_such_line t (Unline ticket parent child) = refuse_if (not (is_line t parent child)) (NoSuchLine parent child)
no_such_line t _ = None

-- the material is kept from another supplier
abbrev pub foreign_fault : Lists → List ℕ → MaterialDecl → Option RuleFault
foreign_fault t supplier material =
    option_and_then (λ kept. refuse_if (not (same_code kept.supplier supplier)) (ForeignMaterial material.code kept.supplier)) (material_row t material.code)

-- the material is kept with a greater declaration number
abbrev pub stale_fault : Lists → ℕ → MaterialDecl → Option RuleFault
stale_fault t number material =
    option_and_then (λ kept. refuse_if (nat_lt number kept.number) (StaleDeclaration material.code kept.number)) (material_row t material.code)

-- 11: a declared material is kept from another supplier, the first such
unfoldable pub foreign_material : Lists → Edit → Option RuleFault
foreign_material t (Declare declaration) = first_some (map (foreign_fault t declaration.supplier) declaration.materials)
foreign_material t _ = None

-- 12: a declared material is kept with a greater declaration number, the first such
unfoldable pub stale_declaration : Lists → Edit → Option RuleFault
stale_declaration t (Declare declaration) = first_some (map (stale_fault t declaration.number) declaration.materials)
stale_declaration t _ = None

-- 13: a declared material's substance masses sum to more than its mass, the first such
unfoldable pub masses_exceed : Lists → Edit → Option RuleFault
masses_exceed t (Declare declaration) =
    option_map (λ material. MassesExceed material.code) (find (λ material. holds_too_much material.mass material.substances) declaration.materials)
masses_exceed t _ = None

-- 14: the last day is before the first, or the floor is greater than the cap
unfoldable pub exemption_span : Lists → Edit → Option RuleFault
exemption_span t (Exemption ticket exemption) = refuse_if (breaks_span exemption.terms) ExemptionSpan
exemption_span t _ = None

-- 15: the row names a kind that its annex isn't for
unfoldable pub outside_annex : Lists → Edit → Option RuleFault
outside_annex t (Exemption ticket exemption) = refuse_if (breaks_annex exemption.terms) AnnexKinds
outside_annex t _ = None

-- 16: more units are to be taken off than are kept
unfoldable pub ship_below_zero : Lists → Edit → Option RuleFault
ship_below_zero t (Unship ticket product year units) = refuse_if (nat_lt (units_of t year product) units) (ShipBelowZero (units_of t year product))
ship_below_zero t _ = None

-- 17: the year's units of the product would be more than an entry holds
unfoldable pub units_too_large : Lists → Edit → Option RuleFault
units_too_large t (Ship ticket product year units) = refuse_if (nat_lt UNITS_LIMIT (units_of t year product + units)) UnitsTooLarge
units_too_large t _ = None

-- 18: a table would exceed its limit, the first of the ten, or else one parent's lines
unfoldable pub table_full : Lists → Edit → Option RuleFault
table_full t edit = option_map TableFull (first_of (tables_over (with_edit_entered t edit)))

-- 19: the kept edit texts would exceed their limit
unfoldable pub text_full : Lists → Edit → Option RuleFault
text_full t edit = refuse_if (has_too_much_text (with_edit_entered t edit)) TextFull

-- 20: the child of the line is its parent or reaches it; the chain goes from the child to the parent
unfoldable pub closes_cycle : Lists → Edit → Option RuleFault
closes_cycle t (Line ticket parent child count) = refuse_if (is_or_reaches t child parent) (ClosesCycle (chain t child parent))
closes_cycle t _ = None

-- 21: some part's mass after the edit is 2^128 or more; the part with the least code
unfoldable pub total_too_large : Lists → Edit → Option RuleFault
total_too_large t edit = option_map TotalTooLarge (too_heavy_part (with_edit_entered t edit))

-- 22: all parts together would have more findings than the desk keeps
unfoldable pub findings_full : Lists → Edit → Option RuleFault
findings_full t edit = refuse_if (has_too_many_findings (with_edit_entered t edit)) FindingsFull

-- 23: the sum over a year's shipments of units times mass would be 2^128 or more; the least year
unfoldable pub year_too_large : Lists → Edit → Option RuleFault
year_too_large t edit = option_map YearTooLarge (too_heavy_year (with_edit_entered t edit))

-- what the refusals 2 to 10 say of the edit, in order: its names decide them
abbrev pub refusals_of_names : Lists → Edit → List (Option RuleFault)
refusals_of_names t edit =
    unknown_substance t edit
    ∷ unknown_material t edit
    ∷ unknown_part t edit
    ∷ unknown_product t edit
    ∷ unknown_exemption t edit
    ∷ name_taken t edit
    ∷ kind_changed t edit
    ∷ wrong_child t edit
    ∷ no_such_line t edit
    ∷ []

-- what the refusals 11 to 17 say of the edit, in order: its values decide them
abbrev pub refusals_of_values : Lists → Edit → List (Option RuleFault)
refusals_of_values t edit =
    foreign_material t edit
    ∷ stale_declaration t edit
    ∷ masses_exceed t edit
    ∷ exemption_span t edit
    ∷ outside_annex t edit
    ∷ ship_below_zero t edit
    ∷ units_too_large t edit
    ∷ []

-- what the refusals 18 and 19 say of the edit, in order: the lengths of the tables that it leaves decide them
abbrev pub refusals_of_limits : Lists → Edit → List (Option RuleFault)
refusals_of_limits t edit = table_full t edit ∷ text_full t edit ∷ []

-- what the refusals 1 to 19 say of the edit, in order: look-ups and lengths decide them
abbrev pub refusals_of_rows : Lists → Edit → List (Option RuleFault)
refusals_of_rows t edit = ticket_reused t edit ∷ (refusals_of_names t edit ++ (refusals_of_values t edit ++ refusals_of_limits t edit))

-- what the refusals 20 to 23 say of the edit, in order: the bill of materials decides them
abbrev pub refusals_of_bill : Lists → Edit → List (Option RuleFault)
refusals_of_bill t edit = closes_cycle t edit ∷ total_too_large t edit ∷ findings_full t edit ∷ year_too_large t edit ∷ []

-- the first of the refusals 1 to 19 that the edit meets
unfoldable pub refused_by_rows : Lists → Edit → Option RuleFault
refused_by_rows t edit = first_some (refusals_of_rows t edit)

-- the first of the refusals 20 to 23 that the edit meets
unfoldable pub refused_by_bill : Lists → Edit → Option RuleFault
refused_by_bill t edit = first_some (refusals_of_bill t edit)

-- the first refusal that the edit meets, with its values
unfoldable pub refused : Lists → Edit → Option RuleFault
refused t edit = first_some (refusals_of_rows t edit ++ refusals_of_bill t edit)
