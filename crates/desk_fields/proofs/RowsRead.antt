-- Rows of the ten tables are read from their codes and texts.
use Rattle.std.proofs.Common.{◌≡◌, ℕ, ◌-◌, ◌≤◌, ◌^◌, true, ◌&&◌, List, [], ◌∷◌, ◌++◌, refl, arith}
use Rattle.std.specs.Prelude.{decimal, nat_le}
use Rattle.std.proofs.lemmas.Bool.{and_from, and_parts, leb-true}
use Rattle.desk_text.specs.Day.{Date, date_text, is_day}
use Rattle.desk_text.proofs.Fields.{Lacks}
use Rattle.desk_law.specs.declared.claim.Claim.{Claim}
use Rattle.desk_law.specs.Kind.{kind_code}
use Rattle.desk_law.specs.Rule.{rule_code}
use Rattle.desk_model.specs.declared.limits.TheConstants.{FIRST_SHIPMENT_YEAR, LAST_SHIPMENT_YEAR, MASS_LIMIT, UNITS_LIMIT, WHOLE_FACTOR}
use Rattle.desk_model.specs.declared.rows.line.LineRow.{LineRow}
use Rattle.desk_model.specs.declared.rows.material.MaterialRow.{MaterialRow}
use Rattle.desk_model.specs.declared.rows.member.MemberRow.{MemberRow}
use Rattle.desk_model.specs.declared.rows.shipment.ShipmentRow.{ShipmentRow}
use Rattle.desk_model.specs.declared.substance_mass.SubstanceMass.{SubstanceMass}
use Rattle.desk_model.specs.Content.{is_content, is_content_in_form}
use Rattle.desk_model.specs.Declaration.{is_declaration_number}
use Rattle.desk_model.specs.EditText.{claim_fields, optional_field, sort_word, substance_fields}
use Rattle.desk_model.specs.Forms.{are_units, is_candidate_row, is_count, is_line_row, is_material_row, is_member_row, is_optional_cas, is_part_row, is_product_row, is_shipment_row, is_substance_row, is_year}
use Rattle.desk_model.specs.Values.{is_code, is_name}
use Rattle.desk_model.proofs.Content.{content_parts, from_content_parts}
use Rattle.desk_model.proofs.EditTold.{three_parts}
use Rattle.desk_fields.specs.Reading.{eight, three, two}
use Rattle.desk_fields.specs.RowReading.{candidate_row_in, line_row_in, material_row_in, member_row_in, part_row_in, product_row_in, shipment_row_in, substance_row_in}
use Rattle.desk_fields.proofs.Codec.{IsCodec, both_codec, codec_with, made_codec}
use Rattle.desk_fields.proofs.Declared.{AreClaims, AreHeld, Within, claims_codec, code_codec, day_codec, name_codec, number_codec, number_good, number_read, rule_codec, substances_codec}
use Rattle.desk_fields.proofs.EditFields.{candidate_codec, line_codec, part_codec, product_codec, substance_codec}
use Rattle.desk_fields.proofs.RowFields.{code_lacks, number_lacks}

pub substance_row_codec : IsCodec substance_row_in (λ r. r.code ∷ r.name ∷ optional_field r.cas ∷ []) (λ r. is_substance_row r ≡ true)
unfolding substance_row_in
substance_row_codec =
    codec_with substance_row_in _ _ (λ r. is_substance_row r ≡ true)
    (made_codec (three (λ code name cas. record { code = code; name = name; cas = cas })) (λ r. (r.code, (r.name, r.cas))) (λ r. refl) (λ x. refl) _ _ _ substance_codec)
    (λ r is. and_from _ _ (and_from _ _ is.0 is.1.0) is.1.1)
    (λ r is. let p = three_parts (is_code r.code) (is_name r.name) (is_optional_cas r.cas) is in (p.0, (p.1, p.2)))

pub member_row_codec : IsCodec member_row_in (λ r. r.substance ∷ rule_code r.rule ∷ decimal r.factor ∷ []) (λ r. is_member_row r ≡ true)
unfolding member_row_in
member_row_codec =
    codec_with member_row_in _ _ (λ r. is_member_row r ≡ true)
    (made_codec (three (λ substance rule factor. record { substance = substance; rule = rule; factor = factor })) (λ r. (r.substance, (r.rule, r.factor))) (λ r. refl) (λ x. refl) _ _ _
    (both_codec _ _ _ _ _ _ code_codec (both_codec _ _ _ _ _ _ rule_codec (number_codec 1 WHOLE_FACTOR (omega arith)))))
    (λ r is. let f = and_parts (nat_le 1 r.factor) (nat_le r.factor WHOLE_FACTOR) is.1.1 in and_from _ _ (and_from _ _ is.0 f.0) f.1)
    (λ r is. let p = three_parts (is_code r.substance) (nat_le 1 r.factor) (nat_le r.factor WHOLE_FACTOR) is in (p.0, (tt, and_from _ _ p.1 p.2)))

pub part_row_codec : IsCodec part_row_in (λ r. r.code ∷ sort_word r.sort ∷ r.name ∷ []) (λ r. is_part_row r ≡ true)
unfolding part_row_in
part_row_codec =
    codec_with part_row_in _ _ (λ r. is_part_row r ≡ true)
    (made_codec (three (λ code sort name. record { code = code; sort = sort; name = name })) (λ r. (r.code, (r.sort, r.name))) (λ r. refl) (λ x. refl) _ _ _ part_codec)
    (λ r is. and_from _ _ is.0 is.1.1)
    (λ r is. let p = and_parts (is_code r.code) (is_name r.name) is in (p.0, (tt, p.1)))

pub line_row_codec : IsCodec line_row_in (λ r. r.parent ∷ r.child ∷ decimal r.count ∷ []) (λ r. is_line_row r ≡ true)
unfolding line_row_in
line_row_codec =
    codec_with line_row_in _ _ (λ r. is_line_row r ≡ true)
    (made_codec (three (λ parent child count. record { parent = parent; child = child; count = count })) (λ r. (r.parent, (r.child, r.count))) (λ r. refl) (λ x. refl) _ _ _ line_codec)
    (λ r is. and_from _ _ (and_from _ _ is.0 is.1.0) is.1.1)
    (λ r is. let p = three_parts (is_code r.parent) (is_code r.child) (is_count r.count) is in (p.0, (p.1, p.2)))

pub product_row_codec : IsCodec product_row_in (λ r. r.part ∷ kind_code r.kind ∷ []) (λ r. is_product_row r ≡ true)
unfolding product_row_in
product_row_codec =
    codec_with product_row_in _ _ (λ r. is_product_row r ≡ true)
    (made_codec (two (λ part kind. record { part = part; kind = kind })) (λ r. (r.part, r.kind)) (λ r. refl) (λ x. refl) _ _ _ product_codec)
    (λ r is. is.0)
    (λ r is. (is, tt))

pub candidate_row_codec : IsCodec candidate_row_in (λ r. r.substance ∷ date_text r.day ∷ []) (λ r. is_candidate_row r ≡ true)
unfolding candidate_row_in
candidate_row_codec =
    codec_with candidate_row_in _ _ (λ r. is_candidate_row r ≡ true)
    (made_codec (two (λ substance day. record { substance = substance; day = day })) (λ r. (r.substance, r.day)) (λ r. refl) (λ x. refl) _ _ _ candidate_codec)
    (λ r is. and_from _ _ is.0 is.1)
    (λ r is. and_parts (is_code r.substance) (is_day r.day) is)

pub shipment_row_codec : IsCodec shipment_row_in (λ r. decimal r.year ∷ r.product ∷ decimal r.units ∷ []) (λ r. is_shipment_row r ≡ true)
unfolding shipment_row_in
shipment_row_codec =
    codec_with shipment_row_in _ _ (λ r. is_shipment_row r ≡ true)
    (made_codec (three (λ year product units. record { year = year; product = product; units = units })) (λ r. (r.year, (r.product, r.units))) (λ r. refl) (λ x. refl) _ _ _
    (both_codec _ _ _ _ _ _ (number_codec FIRST_SHIPMENT_YEAR LAST_SHIPMENT_YEAR (omega arith)) (both_codec _ _ _ _ _ _ code_codec (number_codec 1 UNITS_LIMIT (omega arith)))))
    (λ r is. and_from _ _ (and_from _ _ is.0 is.1.0) is.1.1)
    (λ r is. let p = three_parts (is_year r.year) (is_code r.product) (are_units r.units) is in (p.0, (p.1, p.2)))

-- a material
abbrev MaterialParts : Type 0
MaterialParts = List ℕ × (List ℕ × (ℕ × (Date × (List ℕ × (ℕ × (List SubstanceMass × List Claim))))))

abbrev material_row_parts : MaterialRow → MaterialParts
material_row_parts r = (r.code, (r.supplier, (r.number, (r.day, (r.name, (r.mass, (r.substances, r.claims)))))))

abbrev MaterialRowRead : MaterialParts → Type 0
MaterialRowRead x =
    (is_code x.0 ≡ true) × ((is_code x.1.0 ≡ true) × (Within 1 (2 ^ 64 - 1) x.1.1.0 × ((is_day x.1.1.1.0 ≡ true) × ((is_name x.1.1.1.1.0 ≡ true)
    × (Within 1 MASS_LIMIT x.1.1.1.1.1.0 × (AreHeld x.1.1.1.1.1.1.0 × AreClaims x.1.1.1.1.1.1.1))))))

material_row_good : (r : MaterialRow) → MaterialRowRead (material_row_parts r) → is_material_row r ≡ true
unfolding is_material_row
material_row_good r is =
    let content = from_content_parts r.mass r.substances r.claims (record { in_range = is.1.1.1.1.1.0; substances = is.1.1.1.1.1.1.0.0; claimed = is.1.1.1.1.1.1.1.0 }) in
    and_from _ _ (and_from _ _ (and_from _ _ (and_from _ _ (and_from _ _ (and_from _ _ is.0 is.1.0) (number_good r.number is.1.1.0)) is.1.1.1.0) is.1.1.1.1.0) content)
    (and_from _ _ is.1.1.1.1.1.1.0.1 is.1.1.1.1.1.1.1.1)

material_row_read : (r : MaterialRow) → is_material_row r ≡ true → MaterialRowRead (material_row_parts r)
unfolding is_material_row
material_row_read r is =
    let s6 = and_parts (is_code r.code && is_code r.supplier && is_declaration_number r.number && is_day r.day && is_name r.name && is_content r.mass r.substances r.claims) (is_content_in_form r.substances r.claims) is in
    let s5 = and_parts (is_code r.code && is_code r.supplier && is_declaration_number r.number && is_day r.day && is_name r.name) (is_content r.mass r.substances r.claims) s6.0 in
    let s4 = and_parts (is_code r.code && is_code r.supplier && is_declaration_number r.number && is_day r.day) (is_name r.name) s5.0 in
    let s3 = and_parts (is_code r.code && is_code r.supplier && is_declaration_number r.number) (is_day r.day) s4.0 in
    let s2 = three_parts (is_code r.code) (is_code r.supplier) (is_declaration_number r.number) s3.0 in
    let content = content_parts r.mass r.substances r.claims s5.1 in
    let lists = and_parts _ _ s6.1 in
    (s2.0, (s2.1, (number_read r.number s2.2, (s3.1, (s4.1, (content.in_range, ((content.substances, lists.0), (content.claimed, lists.1))))))))

pub material_row_codec : IsCodec material_row_in
    (λ r. r.code ∷ r.supplier ∷ decimal r.number ∷ date_text r.day ∷ r.name ∷ decimal r.mass ∷ (substance_fields r.substances ++ claim_fields r.claims)) (λ r. is_material_row r ≡ true)
unfolding material_row_in
material_row_codec =
    codec_with material_row_in _ (λ r. MaterialRowRead (material_row_parts r)) (λ r. is_material_row r ≡ true)
    (made_codec
    (eight (λ code supplier number day name mass held claims. record { code = code; supplier = supplier; number = number; day = day; name = name; mass = mass; substances = held; claims = claims }))
    material_row_parts (λ r. refl) (λ x. refl) _ _ MaterialRowRead
    (both_codec _ _ _ _ _ _ code_codec (both_codec _ _ _ _ _ _ code_codec (both_codec _ _ _ _ _ _ (number_codec 1 (2 ^ 64 - 1) (omega arith)) (both_codec _ _ _ _ _ _ day_codec (both_codec _ _ _ _ _ _ name_codec
    (both_codec _ _ _ _ _ _ (number_codec 1 MASS_LIMIT (omega arith)) (both_codec _ _ _ _ _ _ substances_codec claims_codec))))))))
    material_row_good material_row_read

-- the parts of codes have no slash
pub year_lacks : (r : ShipmentRow) → is_shipment_row r ≡ true → Lacks 47 (decimal r.year)
year_lacks r is =
    let p = three_parts (is_year r.year) (is_code r.product) (are_units r.units) is in
    let below : r.year ≤ LAST_SHIPMENT_YEAR = leb-true r.year LAST_SHIPMENT_YEAR (and_parts (nat_le FIRST_SHIPMENT_YEAR r.year) (nat_le r.year LAST_SHIPMENT_YEAR) p.0).1 in
    number_lacks 47 refl r.year (omega (arith, below))

pub product_lacks : (r : ShipmentRow) → is_shipment_row r ≡ true → Lacks 47 r.product
product_lacks r is = code_lacks 47 refl r.product (three_parts (is_year r.year) (is_code r.product) (are_units r.units) is).1

pub member_lacks : (r : MemberRow) → is_member_row r ≡ true → Lacks 47 r.substance
member_lacks r is = code_lacks 47 refl r.substance (three_parts (is_code r.substance) (nat_le 1 r.factor) (nat_le r.factor WHOLE_FACTOR) is).0

pub parent_lacks : (r : LineRow) → is_line_row r ≡ true → Lacks 47 r.parent
parent_lacks r is = code_lacks 47 refl r.parent (three_parts (is_code r.parent) (is_code r.child) (is_count r.count) is).0

pub child_lacks : (r : LineRow) → is_line_row r ≡ true → Lacks 47 r.child
child_lacks r is = code_lacks 47 refl r.child (three_parts (is_code r.parent) (is_code r.child) (is_count r.count) is).1
