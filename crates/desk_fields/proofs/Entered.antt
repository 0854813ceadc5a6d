-- A declaration whose materials are entered in order has them.
use Rattle.std.proofs.Common.{◌≡◌, ℕ, ◌<◌, ◌≤◌, true, List, [], ◌∷◌, ◌++◌, length, map, Some, None, Result, Ok, Err, refl, sym, ap, subst, ◌∙◌, append_assoc, arith, Less, Equal, Ordering}
use Rattle.std.specs.Prelude.{◌≢◌, if◌then◌else◌}
use Rattle.std.specs.Cmp.{tied_itself}
use Rattle.std.specs.List.{AllByRecursion, list_all}
use Rattle.std.specs.List.Sorted.{IsStrictlySortedBy}
use Rattle.std.specs.Result.{IsErrAnd}
use Rattle.std.specs.Ordering.{is_eq, match_ordering}
use Rattle.std.proofs.lemmas.Bool.{leb-true, lt-ltb}
use Rattle.std.proofs.lemmas.Cmp.{nat_list_cmp_total}
use Rattle.std.proofs.lemmas.List.{length-append}
use Rattle.std.proofs.lemmas.List.{append-nil}
use Rattle.desk_text.specs.Code.{code_cmp}
use Rattle.desk_law.specs.declared.claim.Claim.{Claim}
use Rattle.desk_law.specs.Claim.{claim_cmp}
use Rattle.desk_rows.specs.Rows.{IsByKey, row_of, with_row}
use Rattle.desk_model.specs.declared.decl_error.DeclError.{DeclError}
use Rattle.desk_model.specs.declared.decl_error.DeclError.TheVariants.{OutOfMemory, Repeated, TooMany, Orphan}
use Rattle.desk_model.specs.declared.limits.TheConstants.{CLAIM_LIMIT, CONTENT_LIMIT, DECLARED_LIMIT}
use Rattle.desk_model.specs.declared.material_decl.MaterialDecl.{MaterialDecl}
use Rattle.desk_model.specs.declared.substance_mass.SubstanceMass.{SubstanceMass}
use Rattle.desk_model.specs.Declaration.{Declared, is_declaration_in_form}
use Rattle.desk_model.specs.Declaring.{and_then, claim_added, declaration_start, declared_material, empty_material, material_added, substance_added, with_new}
use Rattle.desk_model.proofs.Content.{claim_parts, content_parts, substance_parts}
use Rattle.desk_model.proofs.Declaring.{is_good, parts}
use Rattle.desk_model.proofs.Elements.{each_from_all}
use Rattle.desk_model.proofs.InForm.{form_parts}
use Rattle.desk_fields.specs.declared.field_fault.FieldFault.{FieldFault}
use Rattle.desk_fields.specs.declared.field_fault.FieldFault.TheVariants.{Shape}
use Rattle.desk_fields.specs.Declaring.{claims_added, declaring_fault, material_entered, materials_entered, next, substances_added}

module _ {R K : Type 0} (key : R → K) (cmp : K → K → Ordering) where
  -- the keys of the rows are below this one
  Below : List R → K → Type 0
  Below rows k = AllByRecursion (λ row. cmp (key row) k ≡ Less) rows

  -- a row above all others goes to the end
  none_above : (rows : List R) (k : K) → Below rows k → row_of key cmp k rows ≡ None
  unfolding Below
  none_above [] k below = refl
  none_above (row ∷ rows) k below = ap (λ o. if is_eq o then Some row else row_of key cmp k rows) below.0 ∙ none_above rows k below.1

  to_end : (rows : List R) (new : R) → Below rows (key new) → with_row key cmp new rows ≡ rows ++ (new ∷ [])
  unfolding Below
  to_end [] new below = refl
  to_end (row ∷ rows) new below =
      ap (λ o. match_ordering o (row ∷ with_row key cmp new rows) (new ∷ rows) (new ∷ row ∷ rows)) below.0
      ∙ ap (λ (rest : List R). row ∷ rest) (to_end rows new below.1)

  entered_last : (limit : ℕ) (rows : List R) (new : R) → Below rows (key new) → length rows < limit → with_new key cmp limit new rows ≡ Ok (rows ++ (new ∷ []))
  entered_last limit rows new below room =
      rw (none_above rows (key new) below, lt-ltb (length rows) limit room) (ap (λ (all : List R). Ok all) (to_end rows new below))

  -- the last row is found, and another takes its place
  last_found : (rows : List R) (last : R) → Below rows (key last) → cmp (key last) (key last) ≡ Equal → row_of key cmp (key last) (rows ++ (last ∷ [])) ≡ Some last
  unfolding Below
  last_found [] last below same = ap (λ o. if is_eq o then Some last else None) same
  last_found (row ∷ rows) last below same =
      ap (λ o. if is_eq o then Some row else row_of key cmp (key last) (rows ++ (last ∷ []))) below.0 ∙ last_found rows last below.1 same

  last_replaced : (rows : List R) (last new : R) → Below rows (key new) → cmp (key last) (key new) ≡ Equal → with_row key cmp new (rows ++ (last ∷ [])) ≡ rows ++ (new ∷ [])
  unfolding Below
  last_replaced [] last new below same = ap (λ o. match_ordering o (last ∷ new ∷ []) (new ∷ []) (new ∷ last ∷ [])) same
  last_replaced (row ∷ rows) last new below same =
      ap (λ o. match_ordering o (row ∷ with_row key cmp new (rows ++ (last ∷ []))) (new ∷ rows ++ (last ∷ [])) (new ∷ row ∷ rows ++ (last ∷ []))) below.0
      ∙ ap (λ (rest : List R). row ∷ rest) (last_replaced rows last new below.1 same)

-- each row of a sorted list is above those before it
sorted_split : {R K : Type 0} (key : R → K) (cmp : K → K → Ordering) (rows : List R) (new : R) (rest : List R) → IsByKey key cmp (rows ++ (new ∷ rest)) → Below key cmp rows (key new)
unfolding Below IsStrictlySortedBy
sorted_split key cmp [] new rest by = tt
sorted_split {R} {K} key cmp (row ∷ rows) new rest by = (above rows by.0, sorted_split key cmp rows new rest by.1)
  where
    above : (xs : List R) → AllByRecursion (λ k. cmp (key row) k ≡ Less) (map key (xs ++ (new ∷ rest))) → cmp (key row) (key new) ≡ Less
    above [] all = all.0
    above (x ∷ xs) all = above xs all.1

code_same : (code : List ℕ) → code_cmp code code ≡ Equal
code_same code = tied_itself nat_list_cmp_total code

abbrev by_code : MaterialDecl → List ℕ
by_code material = material.code

-- a declaration with these materials
abbrev with_materials : Declared → List MaterialDecl → Declared
with_materials d ms = record d { materials = ms }

module _ (d : Declared) (before : List MaterialDecl) (code name : List ℕ) (mass : ℕ) (below : Below by_code code_cmp before code) where
  -- the material with what it holds so far
  abbrev so_far : List SubstanceMass → List Claim → MaterialDecl
  so_far held claims = record { code = code; name = name; mass = mass; substances = held; claims = claims }

  abbrev last : List SubstanceMass → List Claim → Declared
  last held claims = with_materials d (before ++ (so_far held claims ∷ []))

  found : (held : List SubstanceMass) (claims : List Claim) → declared_material (last held claims) code ≡ Some (so_far held claims)
  found held claims = last_found by_code code_cmp before (so_far held claims) below (code_same code)

  replaced : (held more : List SubstanceMass) (claims others : List Claim) → with_row by_code code_cmp (so_far more others) (before ++ (so_far held claims ∷ [])) ≡ before ++ (so_far more others ∷ [])
  replaced held more claims others = last_replaced by_code code_cmp before (so_far held claims) (so_far more others) below (code_same code)

  one_substance : (front : List SubstanceMass) (one : SubstanceMass) → Below (λ held. held.substance) code_cmp front one.substance → length front < CONTENT_LIMIT
      → substance_added code one (last front []) ≡ Ok (last (front ++ (one ∷ [])) [])
  unfolding substance_added
  one_substance front one under room =
      rw (found front [], entered_last (λ held. held.substance) code_cmp CONTENT_LIMIT front one under room)
      (ap (λ (ms : List MaterialDecl). Ok (with_materials d ms)) (replaced front (front ++ (one ∷ [])) [] []))

  one_claim : (held : List SubstanceMass) (front : List Claim) (claim : Claim) → Below (λ c. c) claim_cmp front claim → length front < CLAIM_LIMIT
      → claim_added code claim (last held front) ≡ Ok (last held (front ++ (claim ∷ [])))
  unfolding claim_added
  one_claim held front claim under room =
      rw (found held front, entered_last (λ c. c) claim_cmp CLAIM_LIMIT front claim under room)
      (ap (λ (ms : List MaterialDecl). Ok (with_materials d ms)) (replaced held held front (front ++ (claim ∷ []))))

  all_substances : (front held : List SubstanceMass) → IsByKey (λ one. one.substance) code_cmp (front ++ held) → length (front ++ held) ≤ CONTENT_LIMIT
      → substances_added code held (last front []) ≡ Ok (last (front ++ held) [])
  all_substances front [] sorted fits = ap (λ (held : List SubstanceMass). Ok (last held [])) (sym (append-nil front))
  all_substances front (one ∷ held) sorted fits =
      let room : length front < CONTENT_LIMIT = omega (arith, fits, length-append front (one ∷ held)) in
      let regroup : (front ++ (one ∷ [])) ++ held ≡ front ++ (one ∷ held) = append_assoc front (one ∷ []) held in
      ap (λ r. next r (substances_added code held)) (one_substance front one (sorted_split (λ one. one.substance) code_cmp front one held sorted) room)
      ∙ all_substances (front ++ (one ∷ [])) held (subst (IsByKey (λ one. one.substance) code_cmp) (sym regroup) sorted) (subst (λ (xs : List SubstanceMass). length xs ≤ CONTENT_LIMIT) (sym regroup) fits)
      ∙ ap (λ (xs : List SubstanceMass). Ok (last xs [])) regroup

  all_claims : (held : List SubstanceMass) (front claims : List Claim) → IsByKey (λ claim. claim) claim_cmp (front ++ claims) → length (front ++ claims) ≤ CLAIM_LIMIT
      → claims_added code claims (last held front) ≡ Ok (last held (front ++ claims))
  all_claims held front [] sorted fits = ap (λ (claims : List Claim). Ok (last held claims)) (sym (append-nil front))
  all_claims held front (claim ∷ claims) sorted fits =
      let room : length front < CLAIM_LIMIT = omega (arith, fits, length-append front (claim ∷ claims)) in
      let regroup : (front ++ (claim ∷ [])) ++ claims ≡ front ++ (claim ∷ claims) = append_assoc front (claim ∷ []) claims in
      ap (λ r. next r (claims_added code claims)) (one_claim held front claim (sorted_split (λ c. c) claim_cmp front claim claims sorted) room)
      ∙ all_claims held (front ++ (claim ∷ [])) claims (subst (IsByKey (λ claim. claim) claim_cmp) (sym regroup) sorted) (subst (λ (xs : List Claim). length xs ≤ CLAIM_LIMIT) (sym regroup) fits)
      ∙ ap (λ (xs : List Claim). Ok (last held xs)) regroup

one_material : (d : Declared) (before : List MaterialDecl) (m : MaterialDecl) → Below by_code code_cmp before m.code → length before < DECLARED_LIMIT → is_good m ≡ true
    → material_entered m (with_materials d before) ≡ Ok (with_materials d (before ++ (m ∷ [])))
unfolding material_entered material_added
one_material d before m below room good =
    let content = content_parts m.mass m.substances m.claims good in
    let held = substance_parts m.substances content.substances in
    let claimed = claim_parts m.claims content.claimed in
    ap (λ r. next (and_then r (λ all. with_materials d all)) (λ e. next (substances_added m.code m.substances e) (claims_added m.code m.claims)))
    (entered_last by_code code_cmp DECLARED_LIMIT before (empty_material m.code m.name m.mass) below room)
    ∙ ap (λ r. next r (claims_added m.code m.claims)) (all_substances d before m.code m.name m.mass below [] m.substances held.by_key held.fits)
    ∙ all_claims d before m.code m.name m.mass below m.substances [] m.claims claimed.by_key claimed.fits

all_materials : (d : Declared) (before ms : List MaterialDecl) → IsByKey by_code code_cmp (before ++ ms) → length (before ++ ms) ≤ DECLARED_LIMIT → AllByRecursion (λ m. is_good m ≡ true) ms
    → materials_entered ms (with_materials d before) ≡ Ok (with_materials d (before ++ ms))
all_materials d before [] sorted fits good = ap (λ (ms : List MaterialDecl). Ok (with_materials d ms)) (sym (append-nil before))
all_materials d before (m ∷ ms) sorted fits good =
    let room : length before < DECLARED_LIMIT = omega (arith, fits, length-append before (m ∷ ms)) in
    let regroup : (before ++ (m ∷ [])) ++ ms ≡ before ++ (m ∷ ms) = append_assoc before (m ∷ []) ms in
    ap (λ r. next r (materials_entered ms)) (one_material d before m (sorted_split by_code code_cmp before m ms sorted) room good.0)
    ∙ all_materials d (before ++ (m ∷ [])) ms (subst (IsByKey by_code code_cmp) (sym regroup) sorted) (subst (λ (xs : List MaterialDecl). length xs ≤ DECLARED_LIMIT) (sym regroup) fits) good.1
    ∙ ap (λ (xs : List MaterialDecl). Ok (with_materials d xs)) regroup

-- a declaration in form is made of its materials
pub all_entered : (d : Declared) → is_declaration_in_form d ≡ true → materials_entered d.materials (declaration_start d.supplier d.number d.day) ≡ Ok d
all_entered d form =
    let p = parts d (form_parts d form).declared in
    all_materials d [] d.materials p.by_key p.fits (each_from_all is_good d.materials p.contents)

-- what its parts are when it is made
pub contents_good : (d : Declared) → is_declaration_in_form d ≡ true → list_all is_good d.materials ≡ true
contents_good d form = (parts d (form_parts d form).declared).contents

pub number_least : (d : Declared) → is_declaration_in_form d ≡ true → 1 ≤ d.number
number_least d form = leb-true 1 d.number (parts d (form_parts d form).declared).number

-- two answers are one
abbrev Same : Result Declared DeclError → Result Declared DeclError → Type 0
Same a b = a ≡ b

ok_inside : (a b : Declared) → Same (Ok a) (Ok b) → a ≡ b
ok_inside a b e = cc

not_both : {G : Type 0} (a : Declared) (fault : DeclError) → Same (Ok a) (Err fault) → G
not_both a fault e = cc

-- so the answer of the call that enters them is the declaration
pub made_so : (d start new : Declared) → is_declaration_in_form d ≡ true → Same (Ok start) (Ok (declaration_start d.supplier d.number d.day)) → materials_entered d.materials start ≡ Ok new → new ≡ d
made_so d start new form begins entered =
    ok_inside new d (sym entered ∙ ap (materials_entered d.materials) (ok_inside start (declaration_start d.supplier d.number d.day) begins) ∙ all_entered d form)

-- or want of memory
memory_alone : (fault : DeclError) → (fault ≢ OutOfMemory → ⊥) → declaring_fault fault ≡ Shape → ⊥
memory_alone OutOfMemory other e = cc
memory_alone Repeated other e = other (λ same. absurd (repeated same))
  where
    repeated : Repeated ≡ OutOfMemory → ⊥
    repeated same = cc
memory_alone TooMany other e = other (λ same. absurd (many same))
  where
    many : TooMany ≡ OutOfMemory → ⊥
    many same = cc
memory_alone Orphan other e = other (λ same. absurd (orphan same))
  where
    orphan : Orphan ≡ OutOfMemory → ⊥
    orphan same = cc

pub never_bad : (d start : Declared) (fault : DeclError) → is_declaration_in_form d ≡ true → Same (Ok start) (Ok (declaration_start d.supplier d.number d.day))
    → (fault ≢ OutOfMemory → materials_entered d.materials start ≡ Err fault) → declaring_fault fault ≡ Shape → ⊥
never_bad d start fault form begins entered =
    memory_alone fault (λ other.
    not_both d fault (sym (ap (materials_entered d.materials) (ok_inside start (declaration_start d.supplier d.number d.day) begins) ∙ all_entered d form) ∙ entered other))

-- a fault that is handed on
pub handed_on : {T : Type 0} {told : FieldFault} (r : Result T FieldFault) (fault : FieldFault) → IsErrAnd r (λ e. e ≡ fault) → r ≡ Err told → fault ≡ told
handed_on (Ok x) fault is e = absurd is
handed_on {T} {told} (Err f) fault is e = sym is ∙ inside f e
  where
    inside : (f : FieldFault) → ◌≡◌ {A = Result T FieldFault} (Err f) (Err told) → f ≡ told
    inside f e = cc
