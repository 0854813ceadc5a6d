-- A declaration that grows stays in form.
use Rattle.std.proofs.Common.{◌≡◌, ℕ, true, ◌&&◌, List, set, Result, Ok, Err, OnOk, OnErr, sym, ap, subst, ◌∙◌}
use Rattle.std.specs.List.{list_all}
use Rattle.std.proofs.lemmas.Bool.{and_from, and_parts}
use Rattle.std.proofs.lemmas.Cmp.{nat_list_cmp_total}
use Rattle.desk_text.specs.Code.{code_cmp}
use Rattle.desk_text.specs.Day.{is_day}
use Rattle.desk_law.specs.declared.claim.Claim.{Claim}
use Rattle.desk_model.specs.declared.decl_error.DeclError.{DeclError}
use Rattle.desk_model.specs.declared.limits.TheConstants.{CLAIM_LIMIT, CONTENT_LIMIT, DECLARED_LIMIT}
use Rattle.desk_model.specs.declared.material_decl.MaterialDecl.{MaterialDecl}
use Rattle.desk_model.specs.declared.substance_mass.SubstanceMass.{SubstanceMass}
use Rattle.desk_law.specs.Claim.{claim_cmp}
use Rattle.desk_model.specs.Content.{is_content_in_form}
use Rattle.desk_model.specs.Declaration.{Declared, is_declaration, is_declaration_in_form, is_declaration_number, is_material_in_form}
use Rattle.desk_model.specs.Declaring.{with_new}
use Rattle.desk_model.specs.Values.{is_code, is_exemption_number, is_name}
use Rattle.desk_model.proofs.Changing.{Found, Part, found_row, kept, with_part}
use Rattle.desk_model.proofs.Claims.{by_claim, claim_total, one_claim}
use Rattle.desk_model.proofs.Declaring.{after_entering, is_good, parts}
use Rattle.desk_model.proofs.Entering.{entered_keeps, list_all-with_row}
use Rattle.desk_model.proofs.Substances.{by_substance, one_substance}

-- what makes a declaration one in form
pub record FormParts (d : Declared) : Type 0 where
  pub supplier : is_code d.supplier ≡ true
  pub number : is_declaration_number d.number ≡ true
  pub day : is_day d.day ≡ true
  pub declared : is_declaration d ≡ true
  pub materials : list_all is_material_in_form d.materials ≡ true

pub form_parts : (d : Declared) → is_declaration_in_form d ≡ true → FormParts d
unfolding is_declaration_in_form
form_parts d h =
    let s4 = and_parts (is_code d.supplier && is_declaration_number d.number && is_day d.day && is_declaration d) (list_all is_material_in_form d.materials) h in
    let s3 = and_parts (is_code d.supplier && is_declaration_number d.number && is_day d.day) (is_declaration d) s4.0 in
    let s2 = and_parts (is_code d.supplier && is_declaration_number d.number) (is_day d.day) s3.0 in
    let s1 = and_parts (is_code d.supplier) (is_declaration_number d.number) s2.0 in
    record { supplier = s1.0; number = s1.1; day = s2.1; declared = s3.1; materials = s4.1 }

pub from_form_parts : (d : Declared) → FormParts d → is_declaration_in_form d ≡ true
unfolding is_declaration_in_form
from_form_parts d p =
    and_from (is_code d.supplier && is_declaration_number d.number && is_day d.day && is_declaration d) (list_all is_material_in_form d.materials)
    (and_from (is_code d.supplier && is_declaration_number d.number && is_day d.day) (is_declaration d)
    (and_from (is_code d.supplier && is_declaration_number d.number) (is_day d.day)
    (and_from (is_code d.supplier) (is_declaration_number d.number) p.supplier p.number) p.day) p.declared)
    p.materials

-- in particular it is a declaration
pub declared : (d : Declared) → is_declaration_in_form d ≡ true → is_declaration d ≡ true
declared d h = (form_parts d h).declared

-- with other materials
with_materials : (d : Declared) (all : List MaterialDecl) → is_declaration_in_form d ≡ true → is_declaration (record d { materials = all }) ≡ true → list_all is_material_in_form all ≡ true → is_declaration_in_form (record d { materials = all }) ≡ true
with_materials d all h declared forms =
    let p = form_parts d h in
    from_form_parts (record d { materials = all }) (record { supplier = p.supplier; number = p.number; day = p.day; declared = declared; materials = forms })

-- a call that enters a material in form, or leaves the list
pub entered_in_form : {U : Type 0} (d : Declared) (new : MaterialDecl) (all : List MaterialDecl) (r : Result U DeclError) → is_declaration_in_form d ≡ true → is_good new ≡ true → is_material_in_form new ≡ true → OnOk r (with_new (λ material. material.code) code_cmp DECLARED_LIMIT new d.materials ≡ Ok all) → OnErr r (all ≡ d.materials) → is_declaration_in_form (record d { materials = all }) ≡ true
entered_in_form {U} d new all r h good form ok err =
    with_materials d all h (after_entering d new all r (declared d h) good ok err) (forms r ok err)
  where
    forms : (r : Result U DeclError) → OnOk r (with_new (λ material. material.code) code_cmp DECLARED_LIMIT new d.materials ≡ Ok all) → OnErr r (all ≡ d.materials) → list_all is_material_in_form all ≡ true
    forms (Ok done) ok err =
        let p = form_parts d h in
        let keeps = entered_keeps (λ material. material.code) code_cmp nat_list_cmp_total DECLARED_LIMIT new d.materials all ok (parts d p.declared).by_key in
        subst (λ ms. list_all is_material_in_form ms ≡ true) (sym keeps.put)
        (list_all-with_row (λ material. material.code) code_cmp is_material_in_form new d.materials form p.materials)
    forms (Err fault) ok err = subst (λ ms. list_all is_material_in_form ms ≡ true) (sym err) (form_parts d h).materials

-- a material of the declaration is in form
pub found_in_form : (d : Declared) (code : List ℕ) (at : ℕ) (m : MaterialDecl) → is_declaration_in_form d ≡ true → Found d code at m → is_material_in_form m ≡ true
found_in_form d code at m h f = (found_row (λ material. material.code) is_material_in_form code d.materials m (form_parts d h).materials f.kept).0

-- a call that enters something in form into one list of a material, or leaves it as it was
pub kept_in_form : {X U : Type 0} (part : Part X) (entry : List X → Result (List X) DeclError) (d : Declared) (code : List ℕ) (at : ℕ) (m : MaterialDecl) (all : List X) (r : Result U DeclError) → is_declaration_in_form d ≡ true → Found d code at m → (entry (part.items m) ≡ Ok all → is_good (part.with_items m all) ≡ true) → (entry (part.items m) ≡ Ok all → is_material_in_form (part.with_items m all) ≡ true) → OnOk r (entry (part.items m) ≡ Ok all) → OnErr r (all ≡ part.items m) → is_declaration_in_form (with_part part entry d at m all) ≡ true
kept_in_form {X} {U} part entry d code at m all r h f good form ok err =
    with_materials d (set d.materials at (part.with_items m all)) h
    (kept part entry d code at m all r (declared d h) f good ok err)
    (subst (λ ms. list_all is_material_in_form ms ≡ true) (f.put (part.with_items m all) (part.same_code m all))
    (list_all-with_row (λ material. material.code) code_cmp is_material_in_form (part.with_items m all) d.materials (new_form r ok err) (form_parts d h).materials))
  where
    new_form : (r : Result U DeclError) → OnOk r (entry (part.items m) ≡ Ok all) → OnErr r (all ≡ part.items m) → is_material_in_form (part.with_items m all) ≡ true
    new_form (Ok done) ok err = form ok
    new_form (Err fault) ok err =
        subst (λ n. is_material_in_form n ≡ true) (sym (ap (part.with_items m) err ∙ part.same_items m)) (found_in_form d code at m h f)

-- the forms of a material
pub record MaterialForms (m : MaterialDecl) : Type 0 where
  pub names : (is_code m.code && is_name m.name) ≡ true
  pub held : list_all (λ one. is_code one.substance) m.substances ≡ true
  pub claimed : list_all (λ claim. is_exemption_number claim.number) m.claims ≡ true

pub material_forms : (m : MaterialDecl) → is_material_in_form m ≡ true → MaterialForms m
material_forms m h =
    let outer = and_parts (is_code m.code && is_name m.name) (is_content_in_form m.substances m.claims) h in
    let inner = and_parts (list_all (λ one. is_code one.substance) m.substances) (list_all (λ claim. is_exemption_number claim.number) m.claims) outer.1 in
    record { names = outer.0; held = inner.0; claimed = inner.1 }

from_material_forms : (m : MaterialDecl) → MaterialForms m → is_material_in_form m ≡ true
from_material_forms m p =
    and_from (is_code m.code && is_name m.name) (is_content_in_form m.substances m.claims) p.names
    (and_from (list_all (λ one. is_code one.substance) m.substances) (list_all (λ claim. is_exemption_number claim.number) m.claims) p.held p.claimed)

-- with one more substance
pub substance_in_form : (m : MaterialDecl) (new : SubstanceMass) (all : List SubstanceMass) → is_good m ≡ true → is_material_in_form m ≡ true → is_code new.substance ≡ true → one_substance new m.substances ≡ Ok all → is_material_in_form (record m { substances = all }) ≡ true
substance_in_form m new all good form code e =
    let p = material_forms m form in
    let keeps = entered_keeps (λ held. held.substance) code_cmp nat_list_cmp_total CONTENT_LIMIT new m.substances all e (by_substance m good) in
    from_material_forms (record m { substances = all }) (record {
      names = p.names;
      held = subst (λ held. list_all (λ one. is_code one.substance) held ≡ true) (sym keeps.put)
          (list_all-with_row (λ held. held.substance) code_cmp (λ one. is_code one.substance) new m.substances code p.held);
      claimed = p.claimed;
    })

-- with one more claim
pub claim_in_form : (m : MaterialDecl) (new : Claim) (all : List Claim) → is_good m ≡ true → is_material_in_form m ≡ true → is_exemption_number new.number ≡ true → one_claim new m.claims ≡ Ok all → is_material_in_form (record m { claims = all }) ≡ true
claim_in_form m new all good form number e =
    let p = material_forms m form in
    let keeps = entered_keeps (λ claim. claim) claim_cmp claim_total CLAIM_LIMIT new m.claims all e (by_claim m good) in
    from_material_forms (record m { claims = all }) (record {
      names = p.names;
      held = p.held;
      claimed = subst (λ claims. list_all (λ claim. is_exemption_number claim.number) claims ≡ true) (sym keeps.put)
          (list_all-with_row (λ claim. claim) claim_cmp (λ claim. is_exemption_number claim.number) new m.claims number p.claimed);
    })
