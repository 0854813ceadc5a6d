-- A declaration that grows stays one.
use Rattle.std.proofs.Common.{◌≡◌, ℕ, ◌≤◌, Bool, true, ◌&&◌, List, [], map, length, Result, Ok, Err, IfErr, OnOk, OnErr, ◌≢◌, refl, sym, subst}
use Rattle.std.specs.Prelude.{nat_le}
use Rattle.std.specs.List.{list_all}
use Rattle.std.proofs.lemmas.Bool.{and_from, and_parts, le-leb, leb-true}
use Rattle.std.proofs.lemmas.Cmp.{nat_list_cmp_total}
use Rattle.desk_text.specs.Code.{code_cmp}
use Rattle.desk_rows.specs.Rows.{IsByKey}
use Rattle.desk_model.specs.declared.decl_error.DeclError.{DeclError}
use Rattle.desk_model.specs.declared.decl_error.DeclError.TheVariants.{OutOfMemory}
use Rattle.desk_model.specs.declared.limits.TheConstants.{DECLARED_LIMIT, MASS_LIMIT}
use Rattle.desk_model.specs.declared.material_decl.MaterialDecl.{MaterialDecl}
use Rattle.desk_model.specs.Content.{is_content, rises}
use Rattle.desk_model.specs.Declaration.{Declared, is_declaration}
use Rattle.desk_model.specs.Declaring.{with_new, material_added}
use Rattle.desk_model.proofs.Entering.{entered_keeps, list_all-with_row}
use Rattle.desk_model.proofs.Order.{rises_from_sorted, sorted_from_rises}

-- what a material holds is in its range and order
abbrev pub is_good : MaterialDecl → Bool
is_good material = is_content material.mass material.substances material.claims

-- what makes a declaration one
pub record Parts (d : Declared) : Type 0 where
  pub number : nat_le 1 d.number ≡ true
  pub fits : length d.materials ≤ DECLARED_LIMIT
  pub by_key : IsByKey (λ material. material.code) code_cmp d.materials
  pub contents : list_all is_good d.materials ≡ true

pub parts : (d : Declared) → is_declaration d ≡ true → Parts d
parts d h =
    let number = nat_le 1 d.number in
    let fits = nat_le (length d.materials) DECLARED_LIMIT in
    let codes = map (λ material. material.code) d.materials in
    let outer = and_parts (number && fits && rises code_cmp codes) (list_all is_good d.materials) h in
    let inner = and_parts (number && fits) (rises code_cmp codes) outer.0 in
    let first = and_parts number fits inner.0 in
    record {
      number = first.0;
      fits = leb-true (length d.materials) DECLARED_LIMIT first.1;
      by_key = sorted_from_rises code_cmp codes inner.1;
      contents = outer.1;
    }

pub from_parts : (d : Declared) → Parts d → is_declaration d ≡ true
from_parts d p =
    let number = nat_le 1 d.number in
    let fits = nat_le (length d.materials) DECLARED_LIMIT in
    let codes = map (λ material. material.code) d.materials in
    and_from (number && fits && rises code_cmp codes) (list_all is_good d.materials)
    (and_from (number && fits) (rises code_cmp codes)
    (and_from number fits p.number (le-leb (length d.materials) DECLARED_LIMIT p.fits))
    (rises_from_sorted code_cmp codes p.by_key))
    p.contents

pub empty_content : (mass : ℕ) → 1 ≤ mass → mass ≤ MASS_LIMIT → is_content mass [] [] ≡ true
empty_content mass least greatest = rw (le-leb 1 mass least, le-leb mass MASS_LIMIT greatest) refl

-- with one more material
entered_declaration : (d : Declared) (new : MaterialDecl) (all : List MaterialDecl) → Parts d → is_good new ≡ true → with_new (λ material. material.code) code_cmp DECLARED_LIMIT new d.materials ≡ Ok all → is_declaration (record d { materials = all }) ≡ true
entered_declaration d new all p good e =
    let keeps = entered_keeps (λ material. material.code) code_cmp nat_list_cmp_total DECLARED_LIMIT new d.materials all e p.by_key in
    from_parts (record d { materials = all }) (record {
      number = p.number;
      fits = keeps.fits;
      by_key = keeps.by_key;
      contents = subst (λ ms. list_all is_good ms ≡ true) (sym keeps.put) (list_all-with_row (λ material. material.code) code_cmp is_good new d.materials good p.contents);
    })

-- a call that enters a material, or leaves the list, leaves a declaration
pub after_entering : {U : Type 0} (d : Declared) (new : MaterialDecl) (all : List MaterialDecl) (r : Result U DeclError) → is_declaration d ≡ true → is_good new ≡ true → OnOk r (with_new (λ material. material.code) code_cmp DECLARED_LIMIT new d.materials ≡ Ok all) → OnErr r (all ≡ d.materials) → is_declaration (record d { materials = all }) ≡ true
after_entering d new all (Ok done) h good ok err = entered_declaration d new all (parts d h) good ok
after_entering d new all (Err fault) h good ok err = subst (λ ms. is_declaration (record d { materials = ms }) ≡ true) (sym err) h

-- and answers as the declaration with one more material does
pub added_ok : {U : Type 0} (d seen : Declared) → d ≡ seen → (new wanted : MaterialDecl) → new ≡ wanted → (all : List MaterialDecl) (r : Result U DeclError) → OnOk r (with_new (λ material. material.code) code_cmp DECLARED_LIMIT new d.materials ≡ Ok all) → OnOk r (material_added wanted seen ≡ Ok (record d { materials = all }))
unfolding material_added
added_ok d seen is new wanted same all (Ok done) ok =
    subst (λ s. material_added wanted s ≡ Ok (record d { materials = all })) is
    (subst (λ m. material_added m d ≡ Ok (record d { materials = all })) same (rw ok refl))
added_ok d seen is new wanted same all (Err fault) ok = tt

pub added_error : {U : Type 0} (d seen : Declared) → d ≡ seen → (new wanted : MaterialDecl) → new ≡ wanted → (r : Result U DeclError) → IfErr r (λ e. e ≢ OutOfMemory → with_new (λ material. material.code) code_cmp DECLARED_LIMIT new d.materials ≡ Err e) → IfErr r (λ e. e ≢ OutOfMemory → material_added wanted seen ≡ Err e)
unfolding material_added
added_error d seen is new wanted same (Ok done) error = tt
added_error d seen is new wanted same (Err fault) error =
    λ other. subst (λ s. material_added wanted s ≡ Err fault) is (subst (λ m. material_added m d ≡ Err fault) same (rw (error other) refl))
