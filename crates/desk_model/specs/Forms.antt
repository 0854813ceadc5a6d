-- Values of their form and in their range, in rows and in edits.
use Rattle.std.specs.Prelude.{ℕ, Bool, true, false, ◌&&◌, List, Option, Some, None, is_ok, nat_le}
use Rattle.desk_text.specs.Cas.{cas_of}
use Rattle.desk_text.specs.Day.{is_day}
use Rattle.desk_law.specs.declared.terms.Terms.{Terms}
use Rattle.desk_model.specs.declared.edit.Edit.{Edit}
use Rattle.desk_model.specs.declared.edit.Edit.TheVariants.{Substance, Member, Declare, Part, Line, Unline, Product}
use Rattle.desk_model.specs.declared.edit.Edit.TheVariants.{Exemption, Unexempt, Candidate, Ship, Unship}
use Rattle.desk_model.specs.declared.limits.TheConstants.{COUNT_LIMIT, FIRST_SHIPMENT_YEAR, LAST_SHIPMENT_YEAR, UNITS_LIMIT, WHOLE_FACTOR}
use Rattle.desk_model.specs.declared.rows.substance.SubstanceRow.{SubstanceRow}
use Rattle.desk_model.specs.declared.rows.member.MemberRow.{MemberRow}
use Rattle.desk_model.specs.declared.rows.material.MaterialRow.{MaterialRow}
use Rattle.desk_model.specs.declared.rows.part.PartRow.{PartRow}
use Rattle.desk_model.specs.declared.rows.line.LineRow.{LineRow}
use Rattle.desk_model.specs.declared.rows.product.ProductRow.{ProductRow}
use Rattle.desk_model.specs.declared.rows.exemption.ExemptionRow.{ExemptionRow}
use Rattle.desk_model.specs.declared.rows.candidate.CandidateRow.{CandidateRow}
use Rattle.desk_model.specs.declared.rows.shipment.ShipmentRow.{ShipmentRow}
use Rattle.desk_model.specs.Content.{is_content}
use Rattle.desk_model.specs.Terms.{are_terms_in_range}
pub use Rattle.desk_model.specs.Content.{is_content_in_form}
pub use Rattle.desk_model.specs.Declaration.{is_declaration_number}
unfoldable pub use Rattle.desk_model.specs.Declaration.{is_declaration_in_form}
pub use Rattle.desk_model.specs.Values.{is_code, is_exemption_number, is_name}

-- there is no CAS number, or it is one
abbrev pub is_optional_cas : Option (List ℕ) → Bool
is_optional_cas None = true
is_optional_cas (Some bytes) = is_ok (cas_of bytes)

-- the number is a count of a line, from 1 to 1,000,000
abbrev pub is_count : ℕ → Bool
is_count n = nat_le 1 n && nat_le n COUNT_LIMIT

-- the number is a factor of an edit, from 0, which takes the member out, to 1,000,000
abbrev pub is_factor : ℕ → Bool
is_factor n = nat_le n WHOLE_FACTOR

-- the number is a year of shipments, from 2008 to 2099
abbrev pub is_year : ℕ → Bool
is_year n = nat_le FIRST_SHIPMENT_YEAR n && nat_le n LAST_SHIPMENT_YEAR

-- the number is one of units of a shipment, from 1 to 1,000,000,000,000
abbrev pub are_units : ℕ → Bool
are_units n = nat_le 1 n && nat_le n UNITS_LIMIT

-- the values of a row of table 1, a substance, are of their form and in their range
abbrev pub is_substance_row : SubstanceRow → Bool
is_substance_row row = is_code row.code && is_name row.name && is_optional_cas row.cas

-- the values of a row of table 2, a member of a rule, are of their form and in their range, with a factor of at least 1
abbrev pub is_member_row : MemberRow → Bool
is_member_row row = is_code row.substance && nat_le 1 row.factor && nat_le row.factor WHOLE_FACTOR

-- the values of a row of table 3, a material with what it holds and claims, are of their form and in their range
unfoldable pub is_material_row : MaterialRow → Bool
is_material_row row =
    is_code row.code && is_code row.supplier && is_declaration_number row.number && is_day row.day && is_name row.name
    && is_content row.mass row.substances row.claims && is_content_in_form row.substances row.claims

-- the values of a row of table 4, a part, are of their form and in their range
abbrev pub is_part_row : PartRow → Bool
is_part_row row = is_code row.code && is_name row.name

-- the values of a row of table 5, a line of the bill of materials, are of their form and in their range
abbrev pub is_line_row : LineRow → Bool
is_line_row row = is_code row.parent && is_code row.child && is_count row.count

-- the values of a row of table 6, a product, are of their form and in their range
abbrev pub is_product_row : ProductRow → Bool
is_product_row row = is_code row.part

-- the terms of an exemption are of their form and in their range
abbrev pub are_terms : Terms → Bool
are_terms terms =
    is_code terms.row && is_exemption_number terms.number && is_day terms.first && is_day terms.last && are_terms_in_range terms

-- the values of a row of table 7, an exemption with its application, are of their form and in their range
unfoldable pub is_exemption_row : ExemptionRow → Bool
is_exemption_row row = are_terms row.terms && is_name row.application

-- the values of a row of table 8, a candidate of the list of Article 59 of Regulation (EC) 1907/2006, are of their form and in their
-- range
abbrev pub is_candidate_row : CandidateRow → Bool
is_candidate_row row = is_code row.substance && is_day row.day

-- the values of a row of table 9, a shipment, are of their form and in their range
abbrev pub is_shipment_row : ShipmentRow → Bool
is_shipment_row row = is_year row.year && is_code row.product && are_units row.units

-- the edit is of a part, a line, a product or its shipments
abbrev pub is_of_bill : Edit → Bool
is_of_bill (Part ticket code sort name) = true
is_of_bill (Line ticket parent child count) = true
is_of_bill (Unline ticket parent child) = true
is_of_bill (Product ticket part kind) = true
is_of_bill (Ship ticket product year units) = true
is_of_bill (Unship ticket product year units) = true
is_of_bill _ = false

-- the values of an edit are of their form and in their range
unfoldable pub is_edit_in_form : Edit → Bool
is_edit_in_form (Substance ticket code name cas) = is_code ticket && is_code code && is_name name && is_optional_cas cas
is_edit_in_form (Member ticket substance rule factor) = is_code ticket && is_code substance && is_factor factor
is_edit_in_form (Declare declaration) = is_declaration_in_form declaration
is_edit_in_form (Part ticket code sort name) = is_code ticket && is_code code && is_name name
is_edit_in_form (Line ticket parent child count) = is_code ticket && is_code parent && is_code child && is_count count
is_edit_in_form (Unline ticket parent child) = is_code ticket && is_code parent && is_code child
is_edit_in_form (Product ticket part kind) = is_code ticket && is_code part
is_edit_in_form (Exemption ticket exemption) = is_code ticket && is_exemption_row exemption
is_edit_in_form (Unexempt ticket row) = is_code ticket && is_code row
is_edit_in_form (Candidate ticket substance day) = is_code ticket && is_code substance && is_day day
is_edit_in_form (Ship ticket product year units) = is_code ticket && is_code product && is_year year && are_units units
is_edit_in_form (Unship ticket product year units) = is_code ticket && is_code product && is_year year && are_units units
