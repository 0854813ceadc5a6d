-- The desk's tables: ten lists of rows, each in the order of its key, and what is kept at a key.
use Rattle.std.specs.Prelude.{ℕ, Bool, ◌||◌, List, ◌++◌, Option, is_some, length, map}
use Rattle.std.specs.Ordering.{nat_cmp, on, then_cmp}
use Rattle.std.specs.declared.cmp.Ordering.{Ordering}
use Rattle.desk_text.specs.Code.{code_cmp}
use Rattle.desk_law.specs.declared.rule.Rule.{Rule}
use Rattle.desk_law.specs.Rule.{rule_number}
use Rattle.desk_rows.specs.Rows.{IsByKey, row_of}
use Rattle.desk_model.specs.declared.rows.substance.SubstanceRow.{SubstanceRow}
use Rattle.desk_model.specs.declared.rows.member.MemberRow.{MemberRow}
use Rattle.desk_model.specs.declared.rows.material.MaterialRow.{MaterialRow}
use Rattle.desk_model.specs.declared.rows.part.PartRow.{PartRow}
use Rattle.desk_model.specs.declared.rows.line.LineRow.{LineRow}
use Rattle.desk_model.specs.declared.rows.product.ProductRow.{ProductRow}
use Rattle.desk_model.specs.declared.rows.exemption.ExemptionRow.{ExemptionRow}
use Rattle.desk_model.specs.declared.rows.candidate.CandidateRow.{CandidateRow}
use Rattle.desk_model.specs.declared.rows.shipment.ShipmentRow.{ShipmentRow}
use Rattle.desk_model.specs.declared.rows.ticket.TicketRow.{TicketRow}

-- the tables, by number 1 to 10
pub record Lists : Type 0 where
  pub substances : List SubstanceRow
  pub members : List MemberRow
  pub materials : List MaterialRow
  pub parts : List PartRow
  pub lines : List LineRow
  pub products : List ProductRow
  pub exemptions : List ExemptionRow
  pub candidates : List CandidateRow
  pub shipments : List ShipmentRow
  pub tickets : List TicketRow

-- the number of the tables: how many edits they have accepted
abbrev pub number_at : Lists → ℕ
number_at t = length t.tickets

-- the nodes of the bill of materials: the codes of the materials and then of the parts, each in order
abbrev pub nodes_of : Lists → List (List ℕ)
nodes_of t = map (λ row. row.code) t.materials ++ map (λ row. row.code) t.parts

-- the key of a member: its substance and the number of its rule. In keys, codes are ordered by bytes, rules and years by number
abbrev pub member_key : MemberRow → List ℕ × ℕ
member_key member = (member.substance, rule_number member.rule)

-- members are ordered by substance and then by the number of the rule
abbrev pub member_key_cmp : List ℕ × ℕ → List ℕ × ℕ → Ordering
member_key_cmp = then_cmp (on (λ key. key.0) code_cmp) (on (λ key. key.1) nat_cmp)

-- the key of a line: its parent and its child
abbrev pub line_key : LineRow → List ℕ × List ℕ
line_key line = (line.parent, line.child)

-- lines are ordered by parent and then by child
abbrev pub line_key_cmp : List ℕ × List ℕ → List ℕ × List ℕ → Ordering
line_key_cmp = then_cmp (on (λ key. key.0) code_cmp) (on (λ key. key.1) code_cmp)

-- the key of a shipment: its year and its product
abbrev pub shipment_key : ShipmentRow → ℕ × List ℕ
shipment_key shipment = (shipment.year, shipment.product)

-- shipments are ordered by year and then by product
abbrev pub shipment_key_cmp : ℕ × List ℕ → ℕ × List ℕ → Ordering
shipment_key_cmp = then_cmp (on (λ key. key.0) nat_cmp) (on (λ key. key.1) code_cmp)

-- the substance of a code
abbrev pub substance_row : Lists → List ℕ → Option SubstanceRow
substance_row t code = row_of (λ row. row.code) code_cmp code t.substances

-- what the tables keep of a substance for a rule
abbrev pub member_row : Lists → List ℕ → Rule → Option MemberRow
member_row t substance rule = row_of member_key member_key_cmp (substance, rule_number rule) t.members

-- the material of a code
abbrev pub material_row : Lists → List ℕ → Option MaterialRow
material_row t code = row_of (λ row. row.code) code_cmp code t.materials

-- the part of a code
abbrev pub part_row : Lists → List ℕ → Option PartRow
part_row t code = row_of (λ row. row.code) code_cmp code t.parts

-- the line from a parent to a child
abbrev pub line_row : Lists → List ℕ → List ℕ → Option LineRow
line_row t parent child = row_of line_key line_key_cmp (parent, child) t.lines

-- the product of a part
abbrev pub product_row : Lists → List ℕ → Option ProductRow
product_row t part = row_of (λ row. row.part) code_cmp part t.products

-- the exemption of a row code
abbrev pub exemption_row : Lists → List ℕ → Option ExemptionRow
exemption_row t row = row_of (λ row. row.terms.row) code_cmp row t.exemptions

-- the candidate of a substance
abbrev pub candidate_row : Lists → List ℕ → Option CandidateRow
candidate_row t substance = row_of (λ row. row.substance) code_cmp substance t.candidates

-- the shipment of a product in a year
abbrev pub shipment_row : Lists → ℕ → List ℕ → Option ShipmentRow
shipment_row t year product = row_of shipment_key shipment_key_cmp (year, product) t.shipments

-- the ticket of a code
abbrev pub ticket_row : Lists → List ℕ → Option TicketRow
ticket_row t code = row_of (λ row. row.code) code_cmp code t.tickets

-- the tables keep a substance of the code
abbrev pub is_substance : Lists → List ℕ → Bool
is_substance t code = is_some (substance_row t code)

-- the tables keep a material of the code
abbrev pub is_material : Lists → List ℕ → Bool
is_material t code = is_some (material_row t code)

-- the tables keep a part of the code
abbrev pub is_part : Lists → List ℕ → Bool
is_part t code = is_some (part_row t code)

-- the tables keep a material or a part of the code; the two share one space of codes
abbrev pub is_kept : Lists → List ℕ → Bool
is_kept t code = is_material t code || is_part t code

-- the tables keep a line from the parent to the child
abbrev pub is_line : Lists → List ℕ → List ℕ → Bool
is_line t parent child = is_some (line_row t parent child)

-- the tables keep a product of the code
abbrev pub is_product : Lists → List ℕ → Bool
is_product t code = is_some (product_row t code)

-- each list stands in the order of its key, each key once
pub record IsOrdered (t : Lists) : Type 0 where
  pub substances : IsByKey (λ row. row.code) code_cmp t.substances
  pub members : IsByKey member_key member_key_cmp t.members
  pub materials : IsByKey (λ row. row.code) code_cmp t.materials
  pub parts : IsByKey (λ row. row.code) code_cmp t.parts
  pub lines : IsByKey line_key line_key_cmp t.lines
  pub products : IsByKey (λ row. row.part) code_cmp t.products
  pub exemptions : IsByKey (λ row. row.terms.row) code_cmp t.exemptions
  pub candidates : IsByKey (λ row. row.substance) code_cmp t.candidates
  pub shipments : IsByKey shipment_key shipment_key_cmp t.shipments
  pub tickets : IsByKey (λ row. row.code) code_cmp t.tickets
