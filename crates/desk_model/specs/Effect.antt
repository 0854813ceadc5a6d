-- What an accepted edit makes of the tables.
use Rattle.std.specs.Prelude.{ℕ, zero, suc, ◌+◌, ◌-◌, List, map}
use Rattle.std.specs.Option.{option_map_or}
use Rattle.desk_text.specs.Code.{code_cmp}
use Rattle.desk_law.specs.declared.rule.Rule.{Rule}
use Rattle.desk_rows.specs.Rows.{with_row, with_rows}
use Rattle.desk_model.specs.declared.edit.Edit.{Edit}
use Rattle.desk_model.specs.declared.edit.Edit.TheVariants.{Substance, Member, Declare, Part, Line, Unline, Product}
use Rattle.desk_model.specs.declared.edit.Edit.TheVariants.{Exemption, Unexempt, Candidate, Ship, Unship}
use Rattle.desk_model.specs.declared.material_decl.MaterialDecl.{MaterialDecl}
use Rattle.desk_model.specs.declared.row.Row.TheVariants as row
use Rattle.desk_model.specs.declared.rows.material.MaterialRow.{MaterialRow}
use Rattle.desk_model.specs.Declaration.{Declared}
use Rattle.desk_model.specs.EditText.{edit_text, ticket_code}
use Rattle.desk_model.specs.Lists.{Lists, number_at, shipment_row}
use Rattle.desk_model.specs.PutRows.{put_in, without_exemption, without_line, without_member, without_shipment}

-- the row of a declared material
abbrev pub declared_row : Declared → MaterialDecl → MaterialRow
declared_row d material = record {
  code = material.code;
  supplier = d.supplier;
  number = d.number;
  day = d.day;
  name = material.name;
  mass = material.mass;
  substances = material.substances;
  claims = material.claims;
}

-- the rows of a declaration's materials
abbrev pub declared_rows : Declared → List MaterialRow
declared_rows d = map (declared_row d) d.materials

-- how many units of the product the year's entry holds: 0 where there is none
abbrev pub units_of : Lists → ℕ → List ℕ → ℕ
units_of t year product = option_map_or (λ shipment. shipment.units) (shipment_row t year product) 0

-- the tables where the year's entry of the product holds so many units; there is no entry where that is 0
abbrev pub with_units : Lists → ℕ → List ℕ → ℕ → Lists
with_units t year product zero = without_shipment t year product
with_units t year product (suc fewer) = put_in (row.Shipment (record { year = year; product = product; units = suc fewer })) t

-- the tables where the substance counts for the rule by this factor; it is no member where that is 0
abbrev pub with_factor : Lists → List ℕ → Rule → ℕ → Lists
with_factor t substance rule zero = without_member t substance rule
with_factor t substance rule (suc fewer) = put_in (row.Member (record { substance = substance; rule = rule; factor = suc fewer })) t

-- the tables with the edit made
unfoldable pub with_edit_made : Lists → Edit → Lists
with_edit_made t (Substance ticket code name cas) = put_in (row.Substance (record { code = code; name = name; cas = cas })) t
with_edit_made t (Member ticket substance rule factor) = with_factor t substance rule factor
with_edit_made t (Declare declaration) = record t { materials = with_rows (λ row. row.code) code_cmp (declared_rows declaration) t.materials }
with_edit_made t (Part ticket code sort name) = put_in (row.Part (record { code = code; sort = sort; name = name })) t
with_edit_made t (Line ticket parent child count) = put_in (row.Line (record { parent = parent; child = child; count = count })) t
with_edit_made t (Unline ticket parent child) = without_line t parent child
with_edit_made t (Product ticket part kind) = put_in (row.Product (record { part = part; kind = kind })) t
with_edit_made t (Exemption ticket exemption) = put_in (row.Exemption exemption) t
with_edit_made t (Unexempt ticket code) = without_exemption t code
with_edit_made t (Candidate ticket substance day) = put_in (row.Candidate (record { substance = substance; day = day })) t
with_edit_made t (Ship ticket product year units) = with_units t year product (units_of t year product + units)
with_edit_made t (Unship ticket product year units) = with_units t year product (units_of t year product - units)

-- the number of the next edit that is accepted: one more than there are tickets
abbrev pub next_number : Lists → ℕ
next_number t = number_at t + 1

-- the tables with the edit made and its ticket entered with the next number
unfoldable pub with_edit_entered : Lists → Edit → Lists
with_edit_entered t edit =
    record (with_edit_made t edit) {
      tickets = with_row (λ row. row.code) code_cmp (record { code = ticket_code edit; number = next_number t; text = edit_text edit }) t.tickets;
    }
