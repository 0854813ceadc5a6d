-- What a row of each table keeps by itself: its form and range, that what it names is kept, and what its own values have to keep.
use Rattle.std.specs.Prelude.{◌≡◌, Bool, true, not, ◌&&◌, length, nat_lt}
use Rattle.std.specs.List.{list_all}
use Rattle.desk_model.specs.declared.limits.TheConstants.{LINES_OF_PARENT_LIMIT}
use Rattle.desk_model.specs.declared.rows.substance.SubstanceRow.{SubstanceRow}
use Rattle.desk_model.specs.declared.rows.member.MemberRow.{MemberRow}
use Rattle.desk_model.specs.declared.rows.material.MaterialRow.{MaterialRow}
use Rattle.desk_model.specs.declared.rows.part.PartRow.{PartRow}
use Rattle.desk_model.specs.declared.rows.line.LineRow.{LineRow}
use Rattle.desk_model.specs.declared.rows.product.ProductRow.{ProductRow}
use Rattle.desk_model.specs.declared.rows.exemption.ExemptionRow.{ExemptionRow}
use Rattle.desk_model.specs.declared.rows.candidate.CandidateRow.{CandidateRow}
use Rattle.desk_model.specs.declared.rows.shipment.ShipmentRow.{ShipmentRow}
use Rattle.desk_model.specs.Content.{holds_too_much}
use Rattle.desk_model.specs.Forms.{is_candidate_row, is_exemption_row, is_line_row, is_material_row, is_member_row}
use Rattle.desk_model.specs.Forms.{is_part_row, is_product_row, is_shipment_row, is_substance_row}
use Rattle.desk_model.specs.Lists.{Lists, is_material, is_part, is_product, is_substance}
use Rattle.desk_model.specs.Terms.{breaks_annex, breaks_span}
use Rattle.desk_findings.specs.Bill.{has_right_child}
use Rattle.desk_findings.specs.Reaches.{lines_of}

-- a row of table 1: its form and range, as of each row below
abbrev pub fits_substance : Lists → SubstanceRow → Bool
fits_substance t row = is_substance_row row

-- a row of table 2: its substance is kept
abbrev pub fits_member : Lists → MemberRow → Bool
fits_member t row = is_member_row row && is_substance t row.substance

-- a row of table 3: the substances that it lists are kept, and don't weigh more than it
abbrev pub fits_material : Lists → MaterialRow → Bool
fits_material t row =
    is_material_row row && list_all (λ held. is_substance t held.substance) row.substances && not (holds_too_much row.mass row.substances)

-- a row of table 4: it hasn't the code of a material
abbrev pub fits_part : Lists → PartRow → Bool
fits_part t row = is_part_row row && not (is_material t row.code)

-- a row of table 5: its child is kept and of the right sort, and its parent hasn't too many lines
abbrev pub fits_line : Lists → LineRow → Bool
fits_line t row = is_line_row row && has_right_child t row && not (nat_lt LINES_OF_PARENT_LIMIT (length (lines_of t.lines row.parent)))

-- a row of table 6: its part is kept
abbrev pub fits_product : Lists → ProductRow → Bool
fits_product t row = is_product_row row && is_part t row.part

-- a row of table 7: it doesn't end before it begins, has no floor over its cap, and keeps to the kinds of its annex
abbrev pub fits_exemption : Lists → ExemptionRow → Bool
fits_exemption t row = is_exemption_row row && not (breaks_span row.terms) && not (breaks_annex row.terms)

-- a row of table 8: its substance is kept
abbrev pub fits_candidate : Lists → CandidateRow → Bool
fits_candidate t row = is_candidate_row row && is_substance t row.substance

-- a row of table 9: its product is kept
abbrev pub fits_shipment : Lists → ShipmentRow → Bool
fits_shipment t row = is_shipment_row row && is_product t row.product

-- each row of the tables 1 to 9 keeps what it has to keep by itself
pub record DoRowsFit (t : Lists) : Type 0 where
  pub substances : list_all (fits_substance t) t.substances ≡ true
  pub members : list_all (fits_member t) t.members ≡ true
  pub materials : list_all (fits_material t) t.materials ≡ true
  pub parts : list_all (fits_part t) t.parts ≡ true
  pub lines : list_all (fits_line t) t.lines ≡ true
  pub products : list_all (fits_product t) t.products ≡ true
  pub exemptions : list_all (fits_exemption t) t.exemptions ≡ true
  pub candidates : list_all (fits_candidate t) t.candidates ≡ true
  pub shipments : list_all (fits_shipment t) t.shipments ≡ true
