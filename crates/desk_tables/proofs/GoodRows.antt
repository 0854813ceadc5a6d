-- A row that doesn't keep what it has to by itself breaks a clause of soundness, and so does each row of a table with too many.
use Rattle.std.proofs.Common.{◌≡◌, ◌^◌, Bool, true, false, not, ◌&&◌, ◌||◌, length, refl}
use Rattle.std.specs.Prelude.{nat_le, nat_lt}
use Rattle.std.proofs.lemmas.Bool.{or_left, or_right, true≢false}
use Rattle.desk_model.specs.declared.row.Row.TheVariants.{Substance, Member, Material, Part, Line, Product, Exemption, Candidate, Shipment}
use Rattle.desk_model.specs.declared.rows.substance.SubstanceRow.{SubstanceRow}
use Rattle.desk_model.specs.declared.rows.member.MemberRow.{MemberRow}
use Rattle.desk_model.specs.declared.rows.material.MaterialRow.{MaterialRow}
use Rattle.desk_model.specs.declared.rows.part.PartRow.{PartRow}
use Rattle.desk_model.specs.declared.rows.line.LineRow.{LineRow}
use Rattle.desk_model.specs.declared.rows.product.ProductRow.{ProductRow}
use Rattle.desk_model.specs.declared.rows.exemption.ExemptionRow.{ExemptionRow}
use Rattle.desk_model.specs.declared.rows.candidate.CandidateRow.{CandidateRow}
use Rattle.desk_model.specs.declared.rows.shipment.ShipmentRow.{ShipmentRow}
use Rattle.desk_model.specs.declared.table_name.TableName.TheVariants.{Substances, Members, Materials, Parts, Lines, Products, Exemptions, Candidates, Shipments}
use Rattle.desk_model.specs.Lists.{Lists}
use Rattle.desk_findings.specs.Findings.{findings}
use Rattle.desk_findings.specs.Mass.{mass}
use Rattle.desk_findings.specs.Reaches.{is_or_reaches}
use Rattle.desk_findings.specs.Totals.{has_too_many_findings, year_mass}
use Rattle.desk_history.specs.Breaches.{Breaks}
use Rattle.desk_history.specs.Limits.{is_overfull}
use Rattle.desk_history.specs.Fits.{fits_candidate, fits_exemption, fits_line, fits_material, fits_member, fits_part, fits_product, fits_shipment, fits_substance}

broken : (fits rest : Bool) → fits ≡ false → (not fits || rest) ≡ true
broken false rest e = refl
broken true rest e = absurd (true≢false e)

pub substance_breaks : (t : Lists) (row : SubstanceRow) → fits_substance t row ≡ false → Breaks t (Substance row)
substance_breaks t row e = broken (fits_substance t row) (is_overfull t Substances) e

pub member_breaks : (t : Lists) (row : MemberRow) → fits_member t row ≡ false → Breaks t (Member row)
member_breaks t row e = broken (fits_member t row) (is_overfull t Members) e

pub material_breaks : (t : Lists) (row : MaterialRow) → fits_material t row ≡ false → Breaks t (Material row)
material_breaks t row e = broken (fits_material t row) (is_overfull t Materials) e

pub part_breaks : (t : Lists) (row : PartRow) → fits_part t row ≡ false → Breaks t (Part row)
part_breaks t row e =
    or_left (not (fits_part t row) || nat_le (2 ^ 128) (mass t row.code) || has_too_many_findings t && nat_lt 0 (length (findings t row.code))) (is_overfull t Parts)
    (or_left (not (fits_part t row) || nat_le (2 ^ 128) (mass t row.code)) (has_too_many_findings t && nat_lt 0 (length (findings t row.code)))
    (broken (fits_part t row) (nat_le (2 ^ 128) (mass t row.code)) e))

pub line_breaks : (t : Lists) (row : LineRow) → fits_line t row ≡ false → Breaks t (Line row)
line_breaks t row e =
    or_left (not (fits_line t row) || is_or_reaches t row.child row.parent) (is_overfull t Lines)
    (broken (fits_line t row) (is_or_reaches t row.child row.parent) e)

pub product_breaks : (t : Lists) (row : ProductRow) → fits_product t row ≡ false → Breaks t (Product row)
product_breaks t row e = broken (fits_product t row) (is_overfull t Products) e

pub exemption_breaks : (t : Lists) (row : ExemptionRow) → fits_exemption t row ≡ false → Breaks t (Exemption row)
exemption_breaks t row e = broken (fits_exemption t row) (is_overfull t Exemptions) e

pub candidate_breaks : (t : Lists) (row : CandidateRow) → fits_candidate t row ≡ false → Breaks t (Candidate row)
candidate_breaks t row e = broken (fits_candidate t row) (is_overfull t Candidates) e

pub shipment_breaks : (t : Lists) (row : ShipmentRow) → fits_shipment t row ≡ false → Breaks t (Shipment row)
shipment_breaks t row e =
    or_left (not (fits_shipment t row) || nat_le (2 ^ 128) (year_mass t row.year)) (is_overfull t Shipments)
    (broken (fits_shipment t row) (nat_le (2 ^ 128) (year_mass t row.year)) e)

pub overfull_substance : (t : Lists) → is_overfull t Substances ≡ true → (row : SubstanceRow) → Breaks t (Substance row)
overfull_substance t over row = or_right (not (fits_substance t row)) (is_overfull t Substances) over

pub overfull_member : (t : Lists) → is_overfull t Members ≡ true → (row : MemberRow) → Breaks t (Member row)
overfull_member t over row = or_right (not (fits_member t row)) (is_overfull t Members) over

pub overfull_material : (t : Lists) → is_overfull t Materials ≡ true → (row : MaterialRow) → Breaks t (Material row)
overfull_material t over row = or_right (not (fits_material t row)) (is_overfull t Materials) over

pub overfull_part : (t : Lists) → is_overfull t Parts ≡ true → (row : PartRow) → Breaks t (Part row)
overfull_part t over row = or_right (not (fits_part t row) || nat_le (2 ^ 128) (mass t row.code) || has_too_many_findings t && nat_lt 0 (length (findings t row.code))) (is_overfull t Parts) over

pub overfull_line : (t : Lists) → is_overfull t Lines ≡ true → (row : LineRow) → Breaks t (Line row)
overfull_line t over row = or_right (not (fits_line t row) || is_or_reaches t row.child row.parent) (is_overfull t Lines) over

pub overfull_product : (t : Lists) → is_overfull t Products ≡ true → (row : ProductRow) → Breaks t (Product row)
overfull_product t over row = or_right (not (fits_product t row)) (is_overfull t Products) over

pub overfull_exemption : (t : Lists) → is_overfull t Exemptions ≡ true → (row : ExemptionRow) → Breaks t (Exemption row)
overfull_exemption t over row = or_right (not (fits_exemption t row)) (is_overfull t Exemptions) over

pub overfull_candidate : (t : Lists) → is_overfull t Candidates ≡ true → (row : CandidateRow) → Breaks t (Candidate row)
overfull_candidate t over row = or_right (not (fits_candidate t row)) (is_overfull t Candidates) over

pub overfull_shipment : (t : Lists) → is_overfull t Shipments ≡ true → (row : ShipmentRow) → Breaks t (Shipment row)
overfull_shipment t over row = or_right (not (fits_shipment t row) || nat_le (2 ^ 128) (year_mass t row.year)) (is_overfull t Shipments) over
