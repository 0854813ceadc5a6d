-- The text of a declaration is far shorter than what the texts of all edits may have.
use Rattle.std.proofs.Common.{◌≡◌, ◌+◌, ◌*◌, ◌≤◌, ◌<◌, ◌^◌, ℕ, Bool, true, false, ◌&&◌, List, [], ◌∷◌, ◌++◌, length, length-append, refl, arith, nat_lt, decimal, codes, Result, Err}
use Rattle.std.proofs.lemmas.Bool.{false≢true, leb-true, ltb-false, ltb-true}
use Rattle.std.proofs.lemmas.Fmt.{length-decimal-le}
use Rattle.std.specs.Cmp.{first_so, second_so}
use Rattle.std.specs.List.{flat_map, list_all}
use Rattle.std.specs.Prelude.{is_ok, if◌then◌else◌, nat_le}
use Rattle.desk_text.specs.Code.{code_of, exemption_number_of}
use Rattle.desk_text.specs.Day.{Date, date_text}
use Rattle.desk_text.specs.Name.{name_of}
use Rattle.desk_law.specs.declared.claim.Claim.{Claim}
use Rattle.desk_law.specs.declared.rule.Rule.{Rule}
use Rattle.desk_law.specs.Rule.{rule_code}
use Rattle.desk_law.proofs.Rules.{rule_short}
use Rattle.desk_model.specs.declared.edit.Edit.TheVariants.{Declare}
use Rattle.desk_model.specs.declared.limits.TheConstants.{MASS_LIMIT, CONTENT_LIMIT, CLAIM_LIMIT, DECLARED_LIMIT, TEXT_LIMIT}
use Rattle.desk_model.specs.declared.material_decl.MaterialDecl.{MaterialDecl}
use Rattle.desk_model.specs.declared.substance_mass.SubstanceMass.{SubstanceMass}
use Rattle.desk_model.specs.Content.{are_claims, are_substances, is_content, is_content_in_form}
use Rattle.desk_model.specs.Declaration.{Declared, is_declaration_in_form, is_material_in_form}
use Rattle.desk_model.specs.EditText.{declaration_fields, edit_text, joined, material_fields}
use Rattle.desk_model.specs.Values.{is_code, is_exemption_number, is_name}

-- the bytes of fields, each with a TAB
abbrev weight : List (List ℕ) → ℕ
weight [] = 0
weight (f ∷ fs) = length f + 1 + weight fs

weight-append : (a b : List (List ℕ)) → weight (a ++ b) ≡ weight a + weight b
weight-append [] b = omega arith
weight-append (f ∷ fs) b = omega (arith, weight-append fs b)

joined-weight : (fs : List (List ℕ)) → length (joined fs) ≤ weight fs
joined-weight [] = omega arith
joined-weight (x ∷ []) = omega arith
joined-weight (x ∷ y ∷ xs) = omega (arith, length-append x (9 ∷ joined (y ∷ xs)), joined-weight (y ∷ xs))

-- what was read as a word within a limit is within it
within : {A E : Type 0} (limit n : ℕ) (none long : Bool) (a b : E) (rest : Result A E) → nat_lt limit n ≡ long
    → is_ok (if none then Err a else (if long then Err b else rest)) ≡ true → n ≤ limit
within limit n true long a b rest l h = absurd (false≢true h)
within limit n false true a b rest l h = absurd (false≢true h)
within limit n false false a b rest l h = ltb-false limit n l

code-short : (b : List ℕ) → is_code b ≡ true → length b ≤ 40
unfolding code_of
code-short b h = within 40 (length b) _ _ _ _ _ refl h

name-short : (b : List ℕ) → is_name b ≡ true → length b ≤ 200
unfolding name_of
name-short b h = within 200 (length b) _ _ _ _ _ refl h

number-short : (b : List ℕ) → is_exemption_number b ≡ true → length b ≤ 20
unfolding exemption_number_of
number-short b h = within 20 (length b) _ _ _ _ _ refl h

date-short : (d : Date) → length (date_text d) ≡ 10
unfolding date_text
date-short d = refl

decimal-short : (n : ℕ) → n < 2 ^ 64 → length (decimal n) ≤ 20
decimal-short n h = length-decimal-le 20 n (omega arith) (omega arith) h

held-weight : (held : List SubstanceMass) → list_all (λ one. is_code one.substance) held ≡ true → list_all (λ one. nat_le one.mass MASS_LIMIT) held ≡ true
    → weight (flat_map (λ one. one.substance ∷ decimal one.mass ∷ []) held) ≤ length held * 62
held-weight [] f m = omega arith
held-weight (one ∷ held) f m =
    let code = code-short one.substance (first_so (is_code one.substance) (list_all (λ other. is_code other.substance) held) f) in
    let mass = leb-true one.mass MASS_LIMIT (first_so (nat_le one.mass MASS_LIMIT) (list_all (λ other. nat_le other.mass MASS_LIMIT) held) m) in
    let digits = decimal-short one.mass (omega arith) in
    let rest = held-weight held (second_so (is_code one.substance) (list_all (λ other. is_code other.substance) held) f)
    (second_so (nat_le one.mass MASS_LIMIT) (list_all (λ other. nat_le other.mass MASS_LIMIT) held) m) in
    omega arith

claims-weight : (claims : List Claim) → list_all (λ claim. is_exemption_number claim.number) claims ≡ true
    → weight (flat_map (λ claim. rule_code claim.rule ∷ claim.number ∷ []) claims) ≤ length claims * 33
claims-weight [] f = omega arith
claims-weight (claim ∷ claims) f =
    let number = number-short claim.number (first_so (is_exemption_number claim.number) (list_all (λ other. is_exemption_number other.number) claims) f) in
    let code = rule_short claim.rule in
    let rest = claims-weight claims (second_so (is_exemption_number claim.number) (list_all (λ other. is_exemption_number other.number) claims) f) in
    omega arith

material-weight : (m : MaterialDecl) → is_material_in_form m ≡ true → is_content m.mass m.substances m.claims ≡ true → weight (material_fields m) ≤ 4801
material-weight m form content =
    let names = first_so (is_code m.code && is_name m.name) (is_content_in_form m.substances m.claims) form in
    let texts = second_so (is_code m.code && is_name m.name) (is_content_in_form m.substances m.claims) form in
    let code = code-short m.code (first_so (is_code m.code) (is_name m.name) names) in
    let name = name-short m.name (second_so (is_code m.code) (is_name m.name) names) in
    let masses = first_so ((nat_le 1 m.mass && nat_le m.mass MASS_LIMIT) && are_substances m.substances) (are_claims m.claims) content in
    let claimed = second_so ((nat_le 1 m.mass && nat_le m.mass MASS_LIMIT) && are_substances m.substances) (are_claims m.claims) content in
    let mass = leb-true m.mass MASS_LIMIT (second_so (nat_le 1 m.mass) (nat_le m.mass MASS_LIMIT) (first_so (nat_le 1 m.mass && nat_le m.mass MASS_LIMIT) (are_substances m.substances) masses)) in
    let substances = second_so (nat_le 1 m.mass && nat_le m.mass MASS_LIMIT) (are_substances m.substances) masses in
    let few = leb-true (length m.substances) CONTENT_LIMIT (first_so _ _ (first_so _ _ substances)) in
    let some = leb-true (length m.claims) CLAIM_LIMIT (first_so _ _ claimed) in
    let held = held-weight m.substances (first_so _ _ texts) (second_so _ _ substances) in
    let claims = claims-weight m.claims (second_so _ _ texts) in
    let a = decimal-short m.mass (omega arith) in
    let b = decimal-short (length m.substances) (omega arith) in
    let c = decimal-short (length m.claims) (omega arith) in
    omega (arith, weight-append (decimal (length m.substances) ∷ flat_map (λ one. one.substance ∷ decimal one.mass ∷ []) m.substances) (decimal (length m.claims) ∷ flat_map (λ claim. rule_code claim.rule ∷ claim.number ∷ []) m.claims))

materials-weight : (ms : List MaterialDecl) → list_all is_material_in_form ms ≡ true → list_all (λ m. is_content m.mass m.substances m.claims) ms ≡ true
    → weight (flat_map material_fields ms) ≤ length ms * 4801
materials-weight [] form content = omega arith
materials-weight (m ∷ ms) form content =
    let one = material-weight m (first_so (is_material_in_form m) (list_all is_material_in_form ms) form)
    (first_so (is_content m.mass m.substances m.claims) (list_all (λ m. is_content m.mass m.substances m.claims) ms) content) in
    let rest = materials-weight ms (second_so (is_material_in_form m) (list_all is_material_in_form ms) form)
    (second_so (is_content m.mass m.substances m.claims) (list_all (λ m. is_content m.mass m.substances m.claims) ms) content) in
    omega (arith, weight-append (material_fields m) (flat_map material_fields ms))

-- so is a whole declaration's
pub declared-short : (d : Declared) → is_declaration_in_form d ≡ true → length (edit_text (Declare d)) ≤ TEXT_LIMIT
unfolding edit_text is_declaration_in_form
declared-short d form =
    let all = second_so _ _ form in
    let four = first_so _ _ form in
    let in_range = second_so _ _ four in
    let three = first_so _ _ four in
    let two = first_so _ _ three in
    let supplier = code-short d.supplier (first_so _ _ two) in
    let number = ltb-true d.number (2 ^ 64) (second_so _ _ (second_so _ _ two)) in
    let content = second_so _ _ in_range in
    let few = leb-true (length d.materials) DECLARED_LIMIT (second_so _ _ (first_so _ _ (first_so _ _ in_range))) in
    let materials = materials-weight d.materials all content in
    let a = decimal-short d.number number in
    let b = decimal-short (length d.materials) (omega arith) in
    omega (arith, joined-weight (codes "declare" ∷ declaration_fields d), date-short d.day)
