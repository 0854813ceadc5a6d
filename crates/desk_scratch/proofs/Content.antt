-- What the content of a material says of its substances.
use Rattle.std.proofs.Common.{◌≡◌, ℕ, ◌<◌, ◌≤◌, Bool, true, false, refl, List, length, get_or}
use Rattle.std.proofs.lemmas.List.Sums.{AllPass-from_list_all}
use Rattle.std.proofs.lemmas.Bool.{leb-true}
use Rattle.std.specs.Prelude.{◌&&◌, nat_le, map}
use Rattle.std.specs.List.{list_all}
use Rattle.desk_text.specs.Code.{code_cmp}
use Rattle.desk_law.specs.declared.claim.Claim.{Claim}
use Rattle.desk_model.specs.declared.limits.TheConstants.{CONTENT_LIMIT, DECLARED_LIMIT, MASS_LIMIT}
use Rattle.desk_model.specs.declared.material_decl.MaterialDecl.{MaterialDecl}
use Rattle.desk_model.specs.declared.substance_mass.SubstanceMass.{SubstanceMass}
use Rattle.desk_model.specs.Content.{are_claims, are_substances, is_content, rises}
use Rattle.desk_model.specs.Declaration.{Declared, is_declaration}

-- of two tests that pass each passes
first : (a b : Bool) → (a && b) ≡ true → a ≡ true
first true b h = refl
first false b h = h

second : (a b : Bool) → (a && b) ≡ true → b ≡ true
second true b h = h
second false b h = cc h

-- a material has no more substances than it may have
pub substance-count : (mass : ℕ) (held : List SubstanceMass) (claims : List Claim) → is_content mass held claims ≡ true → length held ≤ CONTENT_LIMIT
substance-count mass held claims h =
    let substances : are_substances held ≡ true =
    second (nat_le 1 mass && nat_le mass MASS_LIMIT) (are_substances held)
    (first (nat_le 1 mass && nat_le mass MASS_LIMIT && are_substances held) (are_claims claims) h) in
    let rising = rises code_cmp (map (λ (one : SubstanceMass). one.substance) held) in
    leb-true (length held) CONTENT_LIMIT
    (first (nat_le (length held) CONTENT_LIMIT) rising
    (first (nat_le (length held) CONTENT_LIMIT && rising) (list_all (λ one. nat_le one.mass MASS_LIMIT) held) substances))

-- what each material of a declaration holds is in its range
pub content-at : (d : Declared) (i : ℕ) (other : MaterialDecl) → is_declaration d ≡ true → i < length d.materials
    → is_content (get_or d.materials i other).mass (get_or d.materials i other).substances (get_or d.materials i other).claims ≡ true
content-at d i other h inside =
    let rising = rises code_cmp (map (λ (material : MaterialDecl). material.code) d.materials) in
    let content = λ (material : MaterialDecl). is_content material.mass material.substances material.claims in
    AllPass-from_list_all content d.materials
    (second (nat_le 1 d.number && nat_le (length d.materials) DECLARED_LIMIT && rising) (list_all content d.materials) h) i other inside
