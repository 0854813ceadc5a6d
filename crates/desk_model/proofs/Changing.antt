-- One material of a declaration changes, and the declaration stays one.
use Rattle.std.proofs.Common.{◌≡◌, ℕ, ◌≤◌, Bool, true, false, cond, List, [], ◌∷◌, get_or, set, Some, None, Result, Ok, Err, is_eq, refl, sym, ap, ◌∙◌, subst, OnOk, OnErr, IfErr, ◌≢◌}
use Rattle.std.specs.List.{list_all}
use Rattle.std.proofs.lemmas.Bool.{and_parts}
use Rattle.std.proofs.lemmas.Cmp.{nat_list_cmp_total}
use Rattle.std.proofs.lemmas.List.{length-set, set-get_or}
use Rattle.desk_text.specs.Code.{code_cmp}
use Rattle.desk_text.proofs.CodeLemmas.{same_code-Decides}
use Rattle.desk_rows.specs.Place.{StandsAt}
use Rattle.desk_rows.specs.Rows.{IsByKey, row_of, with_row}
use Rattle.desk_rows.proofs.Edits.{IsByKey-with_row}
use Rattle.desk_model.specs.declared.decl_error.DeclError.{DeclError}
use Rattle.desk_model.specs.declared.decl_error.DeclError.TheVariants.{Orphan}
use Rattle.desk_model.specs.declared.decl_error.DeclError.TheVariants.{Orphan, OutOfMemory}
use Rattle.desk_model.specs.declared.limits.TheConstants.{DECLARED_LIMIT}
use Rattle.desk_model.specs.declared.material_decl.MaterialDecl.{MaterialDecl}
use Rattle.desk_model.specs.Declaration.{Declared, is_declaration}
use Rattle.desk_model.specs.Declaring.{and_then, declared_material, material_changed}
use Rattle.desk_model.proofs.Declaring.{from_parts, is_good, parts}
use Rattle.desk_model.proofs.Entering.{list_all-with_row}

some_inside : {X : Type 0} (x y : X) → Some x ≡ Some y → x ≡ y
some_inside x y e = cc

none_some : {X : Type 0} (x : X) {G : Type 0} → None ≡ Some x → G
none_some x e = cc

module _ {R : Type 0} (key : R → List ℕ) (p : R → Bool) where
  -- a row that is found has the code, and passes the test that all rows pass
  pub found_row : (code : List ℕ) (rows : List R) (row : R) → list_all p rows ≡ true → row_of key code_cmp code rows ≡ Some row → (p row ≡ true) × (key row ≡ code)
  found_row code [] row all e = none_some row e
  found_row code (first ∷ rows) row all e =
      let tests = and_parts (p first) (list_all p rows) all in
      elim (is_eq (code_cmp (key first) code)) as (λ b. is_eq (code_cmp (key first) code) ≡ b → cond b (Some first) (row_of key code_cmp code rows) ≡ Some row → (p row ≡ true) × (key row ≡ code)) [
        | true ↦ λ same here.
            let is : first ≡ row = some_inside first row here in
            (subst (λ r. p r ≡ true) is tests.0, subst (λ r. key r ≡ code) is ((same_code-Decides (key first) code).0 same))
        | false ↦ λ other later. found_row code rows row tests.1 later
      ] refl e

-- the declaration lists the material under the code, at the place
pub record Found (d : Declared) (code : List ℕ) (at : ℕ) (m : MaterialDecl) : Type 0 where
  pub good : is_good m ≡ true
  pub kept : declared_material d code ≡ Some m
  pub same : set d.materials at m ≡ d.materials
  pub put : (new : MaterialDecl) → new.code ≡ m.code → with_row (λ material. material.code) code_cmp new d.materials ≡ set d.materials at new

pub found : (d : Declared) (code : List ℕ) (at : ℕ) (m : MaterialDecl) (materials : List MaterialDecl) → is_declaration d ≡ true → materials ≡ d.materials → StandsAt (λ material. material.code) code_cmp code materials at → m ≡ get_or d.materials at m → Found d code at m
found d code at m materials h is stands item =
    let here : StandsAt (λ material. material.code) code_cmp code d.materials at = subst (λ ms. StandsAt (λ material. material.code) code_cmp code ms at) is stands in
    let kept : declared_material d code ≡ Some m = here.found m ∙ ap (λ x. Some x) (sym item) in
    let row = found_row (λ material. material.code) is_good code d.materials m (parts d h).contents kept in
    record {
      good = row.0;
      kept = kept;
      same = ap (λ x. set d.materials at x) item ∙ set-get_or d.materials at m;
      put = λ new same. here.put new (same ∙ row.1);
    }

-- with a material of the same code in the place of the one that was there
pub changed_declaration : (d : Declared) (code : List ℕ) (at : ℕ) (m new : MaterialDecl) → is_declaration d ≡ true → Found d code at m → new.code ≡ m.code → is_good new ≡ true → is_declaration (record d { materials = set d.materials at new }) ≡ true
changed_declaration d code at m new h f same good =
    let p = parts d h in
    let put = f.put new same in
    from_parts (record d { materials = set d.materials at new }) (record {
      number = p.number;
      fits = subst (λ n. n ≤ DECLARED_LIMIT) (sym (length-set d.materials at new)) p.fits;
      by_key = subst (IsByKey (λ material. material.code) code_cmp) put (IsByKey-with_row (λ material. material.code) code_cmp nat_list_cmp_total new d.materials p.by_key);
      contents = subst (λ ms. list_all is_good ms ≡ true) put (list_all-with_row (λ material. material.code) code_cmp is_good new d.materials good p.contents);
    })

-- one of the two lists of a material
pub record Part (X : Type 0) : Type 0 where
  pub items : MaterialDecl → List X
  pub with_items : MaterialDecl → List X → MaterialDecl
  pub same_code : (m : MaterialDecl) (all : List X) → (with_items m all).code ≡ m.code
  pub same_items : (m : MaterialDecl) → with_items m (items m) ≡ m

-- a call that enters something into one list of a material, or leaves it as it was
module _ {X : Type 0} (part : Part X) (entry : List X → Result (List X) DeclError) where
  -- the material with the entry made
  abbrev pub change : MaterialDecl → Result MaterialDecl DeclError
  change m = and_then (entry (part.items m)) (part.with_items m)

  -- the declaration with this list
  abbrev pub with_part : Declared → ℕ → MaterialDecl → List X → Declared
  with_part d at m all = record d { materials = set d.materials at (part.with_items m all) }

  as_before : (d : Declared) (code : List ℕ) (at : ℕ) (m : MaterialDecl) (all : List X) → Found d code at m → all ≡ part.items m → with_part d at m all ≡ d
  as_before d code at m all f e =
      ap (λ held. with_part d at m held) e ∙ ap (λ x. record d { materials = set d.materials at x }) (part.same_items m)
      ∙ ap (λ ms. record d { materials = ms }) f.same

  -- a declaration is left
  pub kept : {U : Type 0} (d : Declared) (code : List ℕ) (at : ℕ) (m : MaterialDecl) (all : List X) (r : Result U DeclError) → is_declaration d ≡ true → Found d code at m → (entry (part.items m) ≡ Ok all → is_good (part.with_items m all) ≡ true) → OnOk r (entry (part.items m) ≡ Ok all) → OnErr r (all ≡ part.items m) → is_declaration (with_part d at m all) ≡ true
  kept d code at m all (Ok done) h f good ok err = changed_declaration d code at m (part.with_items m all) h f (part.same_code m all) (good ok)
  kept d code at m all (Err fault) h f good ok err = subst (λ e. is_declaration e ≡ true) (sym (as_before d code at m all f err)) h

  -- the answers are those of the definition
  pub orphan_answer : (d seen : Declared) → d ≡ seen → (code : List ℕ) (materials : List MaterialDecl) → materials ≡ d.materials → row_of (λ material. material.code) code_cmp code materials ≡ None → material_changed change (declared_material seen code) seen ≡ Err Orphan
  orphan_answer d seen is code materials same e =
      subst (λ s. material_changed change (declared_material s code) s ≡ Err Orphan) is
      (rw (subst (λ ms. row_of (λ material. material.code) code_cmp code ms ≡ None) same e) refl)

  module _ {U : Type 0} (d seen : Declared) (is : d ≡ seen) (code : List ℕ) (at : ℕ) (m : MaterialDecl) (f : Found d code at m) (all : List X) where
    pub ok_answer : (r : Result U DeclError) → OnOk r (entry (part.items m) ≡ Ok all) → OnOk r (material_changed change (declared_material seen code) seen ≡ Ok (with_part d at m all))
    ok_answer (Ok done) e =
        subst (λ s. material_changed change (declared_material s code) s ≡ Ok (with_part d at m all)) is
        (rw (f.kept, e) (ap (λ ms. Ok (record d { materials = ms })) (f.put (part.with_items m all) (part.same_code m all))))
    ok_answer (Err fault) e = tt

    pub error_answer : (r : Result U DeclError) → IfErr r (λ e. e ≢ OutOfMemory → entry (part.items m) ≡ Err e) → IfErr r (λ e. e ≢ OutOfMemory → material_changed change (declared_material seen code) seen ≡ Err e)
    error_answer (Ok done) e = tt
    error_answer (Err fault) e = λ other. subst (λ s. material_changed change (declared_material s code) s ≡ Err fault) is (rw (f.kept, e other) refl)

    pub err_answer : (r : Result U DeclError) → OnErr r (all ≡ part.items m) → OnErr r (with_part d at m all ≡ seen)
    err_answer (Ok done) e = tt
    err_answer (Err fault) e = as_before d code at m all f e ∙ is
