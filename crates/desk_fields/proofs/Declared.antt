-- Substances, claims, materials, declarations and exemption rows are read from their fields.
use Rattle.std.proofs.Common.{◌≡◌, ℕ, ◌-◌, ◌≤◌, ◌<◌, ◌^◌, true, ◌&&◌, List, [], ◌∷◌, ◌++◌, length, map, Option, Some, None, option_and_then, refl, sym, ◌∙◌, arith, Ordering}
use Rattle.std.specs.Prelude.{decimal, nat_le, nat_lt}
use Rattle.std.specs.List.{AllByRecursion, flat_map, list_all}
use Rattle.std.proofs.lemmas.Bool.{and_from, and_parts, le-leb, leb-true, lt-ltb, ltb-true}
use Rattle.desk_text.specs.Code.{code_cmp}
use Rattle.desk_text.specs.Day.{Date, date_text, is_day}
use Rattle.desk_law.specs.declared.annex.Annex.{Annex}
use Rattle.desk_law.specs.declared.claim.Claim.{Claim}
use Rattle.desk_law.specs.declared.kind.Kind.{Kind}
use Rattle.desk_law.specs.declared.rule.Rule.{Rule}
use Rattle.desk_law.specs.Claim.{claim_cmp}
use Rattle.desk_law.specs.Rule.{rule_code, rule_of}
use Rattle.desk_model.specs.declared.limits.TheConstants.{CLAIM_LIMIT, CONTENT_LIMIT, DECLARED_LIMIT, MASS_LIMIT, PPM_LIMIT}
use Rattle.desk_model.specs.declared.material_decl.MaterialDecl.{MaterialDecl}
use Rattle.desk_model.specs.declared.rows.exemption.ExemptionRow.{ExemptionRow}
use Rattle.desk_model.specs.declared.substance_mass.SubstanceMass.{SubstanceMass}
use Rattle.desk_model.specs.Content.{are_claims, are_substances, rises}
use Rattle.desk_model.specs.Declaration.{Declared, is_declaration_in_form, is_declaration_number, is_material_in_form}
use Rattle.desk_model.specs.EditText.{claim_fields, declaration_fields, exemption_fields, material_fields, substance_fields}
use Rattle.desk_model.specs.Forms.{are_terms, is_exemption_row}
use Rattle.desk_model.specs.Terms.{are_kinds, are_terms_in_range, is_ppm}
use Rattle.desk_model.specs.Values.{is_code, is_exemption_number, is_name}
use Rattle.desk_model.proofs.Claims.{claim_total}
use Rattle.desk_model.proofs.Content.{content_parts, from_content_parts, is_light}
use Rattle.desk_model.proofs.Declaring.{from_parts, is_good, parts}
use Rattle.desk_model.proofs.Elements.{all_from_each, each_both, each_from_all, each_map}
use Rattle.desk_model.proofs.Order.{rises_from_sorted, sorted_from_rises}
use Rattle.desk_model.proofs.EditTold.{four_parts, three_parts}
use Rattle.desk_model.proofs.InForm.{form_parts, from_form_parts}
use Rattle.desk_fields.specs.EditReading.{claim_in, claims_in, declared_in, exemption_behind, exemption_in, held_cmp, held_in, material_cmp, material_in, substances_in}
use Rattle.desk_text.specs.Forms.{a_code, a_day, a_name, a_number, an_exemption_number}
use Rattle.desk_fields.specs.Forms.{annex_of_text, maybe, kinds_of_text}
use Rattle.desk_fields.specs.Reading.{Reader, both, counted_list, five, four, built_of, nine, one, rising, two}
use Rattle.desk_fields.proofs.Codec.{IsCodec, beside, both_codec, codec_same, codec_with, counted_codec, made_codec, making, number_form, one_codec, tested_codec}
use Rattle.desk_fields.proofs.KindFields.{kinds_form}
use Rattle.desk_fields.proofs.Rising.{rises_on}
use Rattle.desk_fields.proofs.Values.{annex_form, code_form, day_form, exemption_number_form, name_form, ppm_form, rule_form}

-- single fields
abbrev pub code_codec : IsCodec (one a_code) (λ code. code ∷ []) (λ code. is_code code ≡ true)
code_codec = one_codec a_code (λ code. code) (λ code. is_code code ≡ true) code_form

abbrev pub name_codec : IsCodec (one a_name) (λ name. name ∷ []) (λ name. is_name name ≡ true)
name_codec = one_codec a_name (λ name. name) (λ name. is_name name ≡ true) name_form

abbrev pub day_codec : IsCodec (one a_day) (λ day. date_text day ∷ []) (λ day. is_day day ≡ true)
day_codec = one_codec a_day date_text (λ day. is_day day ≡ true) day_form

abbrev pub rule_codec : IsCodec (one rule_of) (λ rule. rule_code rule ∷ []) (λ _. Unit {0})
rule_codec = one_codec rule_of rule_code (λ _. Unit {0}) rule_form

abbrev pub exemption_number_codec : IsCodec (one an_exemption_number) (λ number. number ∷ []) (λ number. is_exemption_number number ≡ true)
exemption_number_codec = one_codec an_exemption_number (λ number. number) (λ number. is_exemption_number number ≡ true) exemption_number_form

-- the number is in its range
abbrev pub Within : ℕ → ℕ → ℕ → Type 0
Within least greatest n = (nat_le least n && nat_le n greatest) ≡ true

pub number_codec : (least greatest : ℕ) → greatest < 2 ^ 64 → IsCodec (one (a_number least greatest)) (λ n. decimal n ∷ []) (Within least greatest)
number_codec least greatest small = one_codec (a_number least greatest) decimal (Within least greatest) (number_form least greatest small)

-- a list that rises
pub rising_codec : {A : Type 0} (order : A → A → Ordering) (limit : ℕ) → limit < 2 ^ 64 → (read : Reader A) (f : A → List (List ℕ)) (P : A → Type 0) → IsCodec read f P
    → IsCodec (rising order limit read) (λ xs. decimal (length xs) ∷ flat_map f xs) (λ xs. ((length xs ≤ limit) × AllByRecursion P xs) × (rises order xs ≡ true))
rising_codec order limit small read f P c =
    tested_codec (rises order) (counted_list limit read) (λ xs. decimal (length xs) ∷ flat_map f xs) (λ xs. (length xs ≤ limit) × AllByRecursion P xs) (counted_codec read f P c limit small)

-- a substance of a material
IsHeld : SubstanceMass → Type 0
IsHeld one = (is_code one.substance ≡ true) × Within 0 MASS_LIMIT one.mass

held_codec : IsCodec held_in (λ one. one.substance ∷ decimal one.mass ∷ []) IsHeld
unfolding held_in IsHeld
held_codec =
    made_codec (two (λ substance mass. record { substance = substance; mass = mass })) (λ one. (one.substance, one.mass)) (λ one. refl) (λ x. refl)
    (both (one a_code) (one (a_number 0 MASS_LIMIT))) (λ x. (x.0 ∷ []) ++ (decimal x.1 ∷ [])) (λ x. (is_code x.0 ≡ true) × Within 0 MASS_LIMIT x.1)
    (both_codec (one a_code) (one (a_number 0 MASS_LIMIT)) (λ code. code ∷ []) (λ n. decimal n ∷ []) (λ code. is_code code ≡ true) (Within 0 MASS_LIMIT) code_codec (number_codec 0 MASS_LIMIT (omega arith)))

IsClaim : Claim → Type 0
IsClaim claim = Unit {0} × (is_exemption_number claim.number ≡ true)

claim_codec : IsCodec claim_in (λ claim. rule_code claim.rule ∷ claim.number ∷ []) IsClaim
unfolding claim_in IsClaim
claim_codec =
    made_codec (two (λ rule number. record { rule = rule; number = number })) (λ claim. (claim.rule, claim.number)) (λ claim. refl) (λ x. refl)
    (both (one rule_of) (one an_exemption_number)) (λ x. (rule_code x.0 ∷ []) ++ (x.1 ∷ [])) (λ x. Unit {0} × (is_exemption_number x.1 ≡ true))
    (both_codec (one rule_of) (one an_exemption_number) (λ rule. rule_code rule ∷ []) (λ number. number ∷ []) (λ _. Unit {0}) (λ number. is_exemption_number number ≡ true) rule_codec exemption_number_codec)

-- what a material holds
abbrev pub AreHeld : List SubstanceMass → Type 0
AreHeld held = (are_substances held ≡ true) × (list_all (λ one. is_code one.substance) held ≡ true)

pub substances_codec : IsCodec substances_in substance_fields AreHeld
unfolding IsHeld
substances_codec =
    codec_with substances_in substance_fields Read AreHeld (rising_codec held_cmp CONTENT_LIMIT (omega arith) held_in (λ one. one.substance ∷ decimal one.mass ∷ []) IsHeld held_codec)
    to from
  where
    Read : List SubstanceMass → Type 0
    Read held = ((length held ≤ CONTENT_LIMIT) × AllByRecursion IsHeld held) × (rises held_cmp held ≡ true)

    to : (held : List SubstanceMass) → Read held → AreHeld held
    to held is = (
      and_from (nat_le (length held) CONTENT_LIMIT && rises code_cmp (map (λ one. one.substance) held)) (list_all is_light held)
          (and_from (nat_le (length held) CONTENT_LIMIT) (rises code_cmp (map (λ one. one.substance) held)) (le-leb (length held) CONTENT_LIMIT is.0.0) (rises_on (λ one. one.substance) code_cmp held ∙ is.1))
          (all_from_each is_light held (each_map IsHeld (λ one. is_light one ≡ true) (λ one good. (and_parts (nat_le 0 one.mass) (nat_le one.mass MASS_LIMIT) good.1).1) held is.0.1)),
      all_from_each (λ one. is_code one.substance) held (each_map IsHeld (λ one. is_code one.substance ≡ true) (λ one good. good.0) held is.0.1),
    )

    each : (held : List SubstanceMass) → list_all is_light held ≡ true → list_all (λ one. is_code one.substance) held ≡ true → AllByRecursion IsHeld held
    each [] light codes = tt
    each (one ∷ held) light codes =
        let l = and_parts (is_light one) (list_all is_light held) light in
        let c = and_parts (is_code one.substance) (list_all (λ o. is_code o.substance) held) codes in
        ((c.0, and_from (nat_le 0 one.mass) (nat_le one.mass MASS_LIMIT) (le-leb 0 one.mass (omega arith)) l.0), each held l.1 c.1)

    from : (held : List SubstanceMass) → AreHeld held → Read held
    from held are =
        let outer = and_parts (nat_le (length held) CONTENT_LIMIT && rises code_cmp (map (λ one. one.substance) held)) (list_all is_light held) are.0 in
        let inner = and_parts (nat_le (length held) CONTENT_LIMIT) (rises code_cmp (map (λ one. one.substance) held)) outer.0 in
        ((leb-true (length held) CONTENT_LIMIT inner.0, each held outer.1 are.1), sym (rises_on (λ one. one.substance) code_cmp held) ∙ inner.1)

-- what is claimed for it
abbrev pub AreClaims : List Claim → Type 0
AreClaims claims = (are_claims claims ≡ true) × (list_all (λ claim. is_exemption_number claim.number) claims ≡ true)

pub claims_codec : IsCodec claims_in claim_fields AreClaims
unfolding IsClaim
claims_codec =
    codec_with claims_in claim_fields Read AreClaims (rising_codec claim_cmp CLAIM_LIMIT (omega arith) claim_in (λ claim. rule_code claim.rule ∷ claim.number ∷ []) IsClaim claim_codec)
    to from
  where
    Read : List Claim → Type 0
    Read claims = ((length claims ≤ CLAIM_LIMIT) × AllByRecursion IsClaim claims) × (rises claim_cmp claims ≡ true)

    to : (claims : List Claim) → Read claims → AreClaims claims
    to claims is = (
      and_from (nat_le (length claims) CLAIM_LIMIT) (rises claim_cmp claims) (le-leb (length claims) CLAIM_LIMIT is.0.0) is.1,
      all_from_each (λ claim. is_exemption_number claim.number) claims (each_map IsClaim (λ claim. is_exemption_number claim.number ≡ true) (λ claim good. good.1) claims is.0.1),
    )

    from : (claims : List Claim) → AreClaims claims → Read claims
    from claims are =
        let parts = and_parts (nat_le (length claims) CLAIM_LIMIT) (rises claim_cmp claims) are.0 in
        let each = each_from_all (λ claim. is_exemption_number claim.number) claims are.1 in
        ((leb-true (length claims) CLAIM_LIMIT parts.0, each_map (λ claim. is_exemption_number claim.number ≡ true) IsClaim (λ claim good. (tt, good)) claims each), parts.1)

-- a declared material
abbrev pub IsMaterial : MaterialDecl → Type 0
IsMaterial m = (is_good m ≡ true) × (is_material_in_form m ≡ true)

-- the values of a material, as they are read
abbrev MaterialRead : List ℕ × (List ℕ × (ℕ × (List SubstanceMass × List Claim))) → Type 0
MaterialRead x = (is_code x.0 ≡ true) × ((is_name x.1.0 ≡ true) × (Within 1 MASS_LIMIT x.1.1.0 × (AreHeld x.1.1.1.0 × AreClaims x.1.1.1.1)))

abbrev material_parts : MaterialDecl → List ℕ × (List ℕ × (ℕ × (List SubstanceMass × List Claim)))
material_parts m = (m.code, (m.name, (m.mass, (m.substances, m.claims))))

material_good : (m : MaterialDecl) → MaterialRead (material_parts m) → IsMaterial m
material_good m is = (
  from_content_parts m.mass m.substances m.claims (record { in_range = is.1.1.0; substances = is.1.1.1.0.0; claimed = is.1.1.1.1.0 }),
  and_from (is_code m.code && is_name m.name) _ (and_from (is_code m.code) (is_name m.name) is.0 is.1.0)
      (and_from (list_all (λ one. is_code one.substance) m.substances) (list_all (λ claim. is_exemption_number claim.number) m.claims) is.1.1.1.0.1 is.1.1.1.1.1),
)

material_read : (m : MaterialDecl) → IsMaterial m → MaterialRead (material_parts m)
material_read m is =
    let content = content_parts m.mass m.substances m.claims is.0 in
    let form = and_parts (is_code m.code && is_name m.name) _ is.1 in
    let names = and_parts (is_code m.code) (is_name m.name) form.0 in
    let lists = and_parts (list_all (λ one. is_code one.substance) m.substances) (list_all (λ claim. is_exemption_number claim.number) m.claims) form.1 in
    (names.0, (names.1, (content.in_range, ((content.substances, lists.0), (content.claimed, lists.1)))))

pub material_codec : IsCodec material_in material_fields IsMaterial
unfolding material_in
material_codec =
    codec_with material_in material_fields (λ m. MaterialRead (material_parts m)) IsMaterial
    (made_codec (five (λ code name mass held claims. record { code = code; name = name; mass = mass; substances = held; claims = claims })) material_parts (λ m. refl) (λ x. refl)
    (both (one a_code) (both (one a_name) (both (one (a_number 1 MASS_LIMIT)) (both substances_in claims_in))))
    (λ x. (x.0 ∷ []) ++ ((x.1.0 ∷ []) ++ ((decimal x.1.1.0 ∷ []) ++ (substance_fields x.1.1.1.0 ++ claim_fields x.1.1.1.1)))) MaterialRead
    (both_codec _ _ _ _ _ _ code_codec (both_codec _ _ _ _ _ _ name_codec (both_codec _ _ _ _ _ _ (number_codec 1 MASS_LIMIT (omega arith)) (both_codec _ _ _ _ _ _ substances_codec claims_codec)))))
    material_good material_read

-- a declaration
abbrev DeclaredRead : List ℕ × (ℕ × (Date × List MaterialDecl)) → Type 0
DeclaredRead x =
    (is_code x.0 ≡ true) × (Within 1 (2 ^ 64 - 1) x.1.0 × ((is_day x.1.1.0 ≡ true) × (((length x.1.1.1 ≤ DECLARED_LIMIT) × AllByRecursion IsMaterial x.1.1.1) × (rises material_cmp x.1.1.1 ≡ true))))

abbrev declared_parts : Declared → List ℕ × (ℕ × (Date × List MaterialDecl))
declared_parts d = (d.supplier, (d.number, (d.day, d.materials)))

pub number_good : (n : ℕ) → Within 1 (2 ^ 64 - 1) n → is_declaration_number n ≡ true
number_good n is =
    let parts = and_parts (nat_le 1 n) (nat_le n (2 ^ 64 - 1)) is in
    let below : n ≤ 2 ^ 64 - 1 = leb-true n (2 ^ 64 - 1) parts.1 in
    and_from (nat_le 1 n) (nat_lt n (2 ^ 64)) parts.0 (lt-ltb n (2 ^ 64) (omega (arith, below)))

pub number_read : (n : ℕ) → is_declaration_number n ≡ true → Within 1 (2 ^ 64 - 1) n
number_read n is =
    let parts = and_parts (nat_le 1 n) (nat_lt n (2 ^ 64)) is in
    let below : n < 2 ^ 64 = ltb-true n (2 ^ 64) parts.1 in
    and_from (nat_le 1 n) (nat_le n (2 ^ 64 - 1)) parts.0 (le-leb n (2 ^ 64 - 1) (omega (arith, below)))

declared_good : (d : Declared) → DeclaredRead (declared_parts d) → is_declaration_in_form d ≡ true
declared_good d is =
    from_form_parts d (record {
      supplier = is.0;
      number = number_good d.number is.1.0;
      day = is.1.1.0;
      declared = from_parts d (record {
        number = (and_parts (nat_le 1 d.number) (nat_le d.number (2 ^ 64 - 1)) is.1.0).0;
        fits = is.1.1.1.0.0;
        by_key = sorted_from_rises code_cmp (map (λ material. material.code) d.materials) (rises_on (λ material. material.code) code_cmp d.materials ∙ is.1.1.1.1);
        contents = all_from_each is_good d.materials (each_map IsMaterial (λ m. is_good m ≡ true) (λ m good. good.0) d.materials is.1.1.1.0.1);
      });
      materials = all_from_each is_material_in_form d.materials (each_map IsMaterial (λ m. is_material_in_form m ≡ true) (λ m good. good.1) d.materials is.1.1.1.0.1);
    })

declared_read : (d : Declared) → is_declaration_in_form d ≡ true → DeclaredRead (declared_parts d)
declared_read d is =
    let form = form_parts d is in
    let p = parts d form.declared in
    let all = each_both (λ m. is_good m ≡ true) (λ m. is_material_in_form m ≡ true) d.materials (each_from_all is_good d.materials p.contents) (each_from_all is_material_in_form d.materials form.materials) in
    (form.supplier, (number_read d.number form.number, (form.day, ((p.fits, all), sym (rises_on (λ material. material.code) code_cmp d.materials) ∙ rises_from_sorted code_cmp (map (λ material. material.code) d.materials) p.by_key))))

pub declared_codec : IsCodec declared_in declaration_fields (λ d. is_declaration_in_form d ≡ true)
unfolding declared_in
declared_codec =
    codec_with declared_in declaration_fields (λ d. DeclaredRead (declared_parts d)) (λ d. is_declaration_in_form d ≡ true)
    (made_codec (four (λ supplier number day materials. record { supplier = supplier; number = number; day = day; materials = materials })) declared_parts (λ d. refl) (λ x. refl)
    (both (one a_code) (both (one (a_number 1 (2 ^ 64 - 1))) (both (one a_day) (rising material_cmp DECLARED_LIMIT material_in))))
    (λ x. (x.0 ∷ []) ++ ((decimal x.1.0 ∷ []) ++ ((date_text x.1.1.0 ∷ []) ++ (decimal (length x.1.1.1) ∷ flat_map material_fields x.1.1.1)))) DeclaredRead
    (both_codec _ _ _ _ _ _ code_codec (both_codec _ _ _ _ _ _ (number_codec 1 (2 ^ 64 - 1) (omega arith)) (both_codec _ _ _ _ _ _ day_codec
    (rising_codec material_cmp DECLARED_LIMIT (omega arith) material_in material_fields IsMaterial material_codec)))))
    declared_good declared_read

-- an exemption row
abbrev Parts : Type 0
Parts = List ℕ × (Annex × (List ℕ × (Rule × (List Kind × (Date × (Date × (Option ℕ × (Option ℕ × List ℕ))))))))

abbrev ExemptionRead : Parts → Type 0
ExemptionRead x =
    (is_code x.0 ≡ true) × (Unit {0} × ((is_exemption_number x.1.1.0 ≡ true) × (Unit {0} × ((are_kinds x.1.1.1.1.0 ≡ true) × ((is_day x.1.1.1.1.1.0 ≡ true) × ((is_day x.1.1.1.1.1.1.0 ≡ true)
    × ((is_ppm x.1.1.1.1.1.1.1.0 ≡ true) × ((is_ppm x.1.1.1.1.1.1.1.1.0 ≡ true) × (is_name x.1.1.1.1.1.1.1.1.1 ≡ true)))))))))

abbrev exemption_parts : ExemptionRow → Parts
exemption_parts row =
    let t = row.terms in
    (t.row, (t.annex, (t.number, (t.rule, (t.kinds, (t.first, (t.last, (t.floor, (t.cap, row.application)))))))))

exemption_good : (row : ExemptionRow) → ExemptionRead (exemption_parts row) → is_exemption_row row ≡ true
unfolding is_exemption_row
exemption_good row is =
    let t = row.terms in
    and_from (are_terms t) (is_name row.application)
    (and_from (is_code t.row && is_exemption_number t.number && is_day t.first && is_day t.last) (are_terms_in_range t)
    (and_from (is_code t.row && is_exemption_number t.number && is_day t.first) (is_day t.last)
    (and_from (is_code t.row && is_exemption_number t.number) (is_day t.first) (and_from (is_code t.row) (is_exemption_number t.number) is.0 is.1.1.0) is.1.1.1.1.1.0) is.1.1.1.1.1.1.0)
    (and_from (are_kinds t.kinds && is_ppm t.floor) (is_ppm t.cap) (and_from (are_kinds t.kinds) (is_ppm t.floor) is.1.1.1.1.0 is.1.1.1.1.1.1.1.0) is.1.1.1.1.1.1.1.1.0))
    is.1.1.1.1.1.1.1.1.1

exemption_read : (row : ExemptionRow) → is_exemption_row row ≡ true → ExemptionRead (exemption_parts row)
unfolding is_exemption_row
exemption_read row good =
    let t = row.terms in
    let outer = and_parts (are_terms t) (is_name row.application) good in
    let terms = and_parts (is_code t.row && is_exemption_number t.number && is_day t.first && is_day t.last) (are_terms_in_range t) outer.0 in
    let texts = four_parts (is_code t.row) (is_exemption_number t.number) (is_day t.first) (is_day t.last) terms.0 in
    let ranges = three_parts (are_kinds t.kinds) (is_ppm t.floor) (is_ppm t.cap) terms.1 in
    (texts.0, (tt, (texts.1, (tt, (ranges.0, (texts.2, (texts.3, (ranges.1, (ranges.2, outer.1)))))))))

-- its values behind the code
abbrev Behind : Type 0
Behind = Annex × (List ℕ × (Rule × (List Kind × (Date × (Date × (Option ℕ × (Option ℕ × List ℕ)))))))

abbrev row_of : List ℕ → Annex → List ℕ → Rule → List Kind → Date → Date → Option ℕ → Option ℕ → List ℕ → ExemptionRow
row_of row annex number rule kinds first last floor cap application = record {
  terms = record { row = row; annex = annex; number = number; rule = rule; kinds = kinds; first = first; last = last; floor = floor; cap = cap };
  application = application;
}

abbrev behind_in : Reader Behind
behind_in =
    both (one annex_of_text) (both (one an_exemption_number) (both (one rule_of) (both (one kinds_of_text)
    (both (one a_day) (both (one a_day) (both (one (maybe (a_number 0 PPM_LIMIT))) (both (one (maybe (a_number 0 PPM_LIMIT))) (one a_name))))))))

-- the code and the values behind it, at once
abbrev all_of : Parts → ExemptionRow
all_of x = nine (row_of x.0) x.1

exemption_at_once : (fields : List (List ℕ)) → exemption_in fields ≡ built_of all_of (both (one a_code) behind_in) fields
unfolding exemption_in exemption_behind
exemption_at_once fields = by (one a_code fields)
  where
    then_ : (code : List ℕ) (o : Option (Behind × List (List ℕ))) → making (nine (row_of code)) o ≡ making all_of (beside code o)
    then_ code None = refl
    then_ code (Some x) = refl

    by : (o : Option (List ℕ × List (List ℕ))) → option_and_then (λ row. built_of (nine (row_of row.0)) behind_in row.1) o ≡ making all_of (option_and_then (λ x. beside x.0 (behind_in x.1)) o)
    by None = refl
    by (Some x) = then_ x.0 (behind_in x.1)

pub exemption_codec : IsCodec exemption_in exemption_fields (λ row. is_exemption_row row ≡ true)
exemption_codec =
    codec_same exemption_in (built_of all_of (both (one a_code) behind_in)) exemption_fields (λ row. is_exemption_row row ≡ true) exemption_at_once
    (codec_with (built_of all_of (both (one a_code) behind_in)) exemption_fields (λ row. ExemptionRead (exemption_parts row)) (λ row. is_exemption_row row ≡ true)
    (made_codec all_of exemption_parts (λ row. refl) (λ x. refl) _ _ ExemptionRead
    (both_codec _ _ _ _ _ _ code_codec (both_codec _ _ _ _ _ _ (one_codec _ _ _ annex_form) (both_codec _ _ _ _ _ _ exemption_number_codec (both_codec _ _ _ _ _ _ rule_codec (both_codec _ _ _ _ _ _ (one_codec _ _ _ kinds_form)
    (both_codec _ _ _ _ _ _ day_codec (both_codec _ _ _ _ _ _ day_codec (both_codec _ _ _ _ _ _ (one_codec _ _ _ ppm_form) (both_codec _ _ _ _ _ _ (one_codec _ _ _ ppm_form) name_codec))))))))))
    exemption_good exemption_read)
