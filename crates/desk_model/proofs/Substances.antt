-- A material that takes one more substance.
use Rattle.std.proofs.Common.{◌≡◌, ◌≤◌, true, List, Result, Ok, refl, sym, subst}
use Rattle.std.specs.List.{list_all}
use Rattle.std.proofs.lemmas.Bool.{le-leb}
use Rattle.std.proofs.lemmas.Cmp.{nat_list_cmp_total}
use Rattle.desk_text.specs.Code.{code_cmp}
use Rattle.desk_rows.specs.Rows.{IsByKey}
use Rattle.desk_model.specs.declared.decl_error.DeclError.{DeclError}
use Rattle.desk_model.specs.declared.limits.TheConstants.{CONTENT_LIMIT, MASS_LIMIT}
use Rattle.desk_model.specs.declared.material_decl.MaterialDecl.{MaterialDecl}
use Rattle.desk_model.specs.declared.substance_mass.SubstanceMass.{SubstanceMass}
use Rattle.desk_model.specs.Declaring.{with_new}
use Rattle.desk_model.proofs.Changing.{Part}
use Rattle.desk_model.proofs.Content.{content_parts, from_content_parts, from_substance_parts, is_light, substance_parts}
use Rattle.desk_model.proofs.Declaring.{is_good}
use Rattle.desk_model.proofs.Entering.{entered_keeps, list_all-with_row}

abbrev pub substances : Part SubstanceMass
substances = record {
  items = λ m. m.substances;
  with_items = λ m all. record m { substances = all };
  same_code = λ m all. refl;
  same_items = λ m. refl;
}

abbrev pub one_substance : SubstanceMass → List SubstanceMass → Result (List SubstanceMass) DeclError
one_substance = with_new (λ held. held.substance) code_cmp CONTENT_LIMIT

pub by_substance : (m : MaterialDecl) → is_good m ≡ true → IsByKey (λ held. held.substance) code_cmp m.substances
by_substance m good = (substance_parts m.substances (content_parts m.mass m.substances m.claims good).substances).by_key

pub good_with_substance : (m : MaterialDecl) (new : SubstanceMass) (all : List SubstanceMass) → is_good m ≡ true → new.mass ≤ MASS_LIMIT → one_substance new m.substances ≡ Ok all → is_good (record m { substances = all }) ≡ true
good_with_substance m new all good light e =
    let content = content_parts m.mass m.substances m.claims good in
    let p = substance_parts m.substances content.substances in
    let keeps = entered_keeps (λ held. held.substance) code_cmp nat_list_cmp_total CONTENT_LIMIT new m.substances all e p.by_key in
    let all_light = subst (λ held. list_all is_light held ≡ true) (sym keeps.put) (list_all-with_row (λ held. held.substance) code_cmp is_light new m.substances (le-leb new.mass MASS_LIMIT light) p.light) in
    from_content_parts m.mass all m.claims (record {
      in_range = content.in_range;
      substances = from_substance_parts all (record { fits = keeps.fits; by_key = keeps.by_key; light = all_light });
      claimed = content.claimed;
    })
