-- How a row is read from its table's number, its code and its fields. No clause of a public call speaks of these words.
use Rattle.std.specs.Prelude.{ℕ, ◌^◌, ◌-◌, Bool, false, ◌&&◌, ◌==◌, if◌then◌else◌, List, [], ◌∷◌, codes, is_some}
use Rattle.std.specs.Prelude.{Option, Some, None, option_map, option_and_then}
use Rattle.std.specs.List.{slice_split}
use Rattle.std.specs.Str.{bytes_eq}
use Rattle.desk_law.specs.Kind.{kind_of}
use Rattle.desk_law.specs.Rule.{rule_of}
use Rattle.desk_model.specs.declared.limits.TheConstants.{COUNT_LIMIT, FIRST_SHIPMENT_YEAR, LAST_SHIPMENT_YEAR, MASS_LIMIT, UNITS_LIMIT, WHOLE_FACTOR}
use Rattle.desk_model.specs.declared.row.Row.{Row}
use Rattle.desk_model.specs.declared.row.Row.TheVariants as row
use Rattle.desk_model.specs.declared.rows.candidate.CandidateRow.{CandidateRow}
use Rattle.desk_model.specs.declared.rows.line.LineRow.{LineRow}
use Rattle.desk_model.specs.declared.rows.material.MaterialRow.{MaterialRow}
use Rattle.desk_model.specs.declared.rows.member.MemberRow.{MemberRow}
use Rattle.desk_model.specs.declared.rows.part.PartRow.{PartRow}
use Rattle.desk_model.specs.declared.rows.product.ProductRow.{ProductRow}
use Rattle.desk_model.specs.declared.rows.shipment.ShipmentRow.{ShipmentRow}
use Rattle.desk_model.specs.declared.rows.substance.SubstanceRow.{SubstanceRow}
use Rattle.desk_model.specs.declared.rows.ticket.TicketRow.{TicketRow}
use Rattle.desk_model.specs.EditText.{joined, sort_of}
use Rattle.desk_fields.specs.EditReading.{claims_in, edit_of_text, exemption_in, substances_in}
use Rattle.desk_text.specs.Forms.{a_cas, a_code, a_day, a_name, a_number}
use Rattle.desk_fields.specs.Forms.{maybe}
use Rattle.desk_fields.specs.Reading.{Reader, both, eight, built_of, one, three, two, all_fields}

-- a substance, of its code and its fields
unfoldable pub substance_row_in : Reader SubstanceRow
substance_row_in = built_of (three (λ code name cas. record { code = code; name = name; cas = cas })) (both (one a_code) (both (one a_name) (one (maybe a_cas))))

-- a member, of its substance, its rule and its field
unfoldable pub member_row_in : Reader MemberRow
member_row_in =
    built_of (three (λ substance rule factor. record { substance = substance; rule = rule; factor = factor }))
    (both (one a_code) (both (one rule_of) (one (a_number 1 WHOLE_FACTOR))))

-- a material, of its code and its fields
unfoldable pub material_row_in : Reader MaterialRow
material_row_in =
    built_of
    (eight (λ code supplier number day name mass held claims. record {
      code = code;
      supplier = supplier;
      number = number;
      day = day;
      name = name;
      mass = mass;
      substances = held;
      claims = claims;
    }))
    (both (one a_code) (both (one a_code) (both (one (a_number 1 (2 ^ 64 - 1))) (both (one a_day) (both (one a_name)
    (both (one (a_number 1 MASS_LIMIT)) (both substances_in claims_in)))))))

-- a part, of its code and its fields
unfoldable pub part_row_in : Reader PartRow
part_row_in = built_of (three (λ code sort name. record { code = code; sort = sort; name = name })) (both (one a_code) (both (one sort_of) (one a_name)))

-- a line, of its parent, its child and its field
unfoldable pub line_row_in : Reader LineRow
line_row_in =
    built_of (three (λ parent child count. record { parent = parent; child = child; count = count }))
    (both (one a_code) (both (one a_code) (one (a_number 1 COUNT_LIMIT))))

-- a product, of its part and its field
unfoldable pub product_row_in : Reader ProductRow
product_row_in = built_of (two (λ part kind. record { part = part; kind = kind })) (both (one a_code) (one kind_of))

-- a candidate, of its substance and its field
unfoldable pub candidate_row_in : Reader CandidateRow
candidate_row_in = built_of (two (λ substance day. record { substance = substance; day = day })) (both (one a_code) (one a_day))

-- a shipment, of its year, its product and its field
unfoldable pub shipment_row_in : Reader ShipmentRow
shipment_row_in =
    built_of (three (λ year product units. record { year = year; product = product; units = units }))
    (both (one (a_number FIRST_SHIPMENT_YEAR LAST_SHIPMENT_YEAR)) (both (one a_code) (one (a_number 1 UNITS_LIMIT))))

-- two parts of a code, if these are all
abbrev pub two_parts : List (List ℕ) → Option (List ℕ × List ℕ)
two_parts (first ∷ second ∷ []) = Some (first, second)
two_parts parts = None

-- the two parts of a code that has two
unfoldable pub pair_in : List ℕ → Option (List ℕ × List ℕ)
pair_in code = two_parts (slice_split (λ b. b == 47) code)

-- a row whose code has two parts
abbrev pub paired : {R : Type 0} → Reader R → List ℕ → List (List ℕ) → Option R
paired read code fields = option_and_then (λ key. all_fields read (key.0 ∷ key.1 ∷ fields)) (pair_in code)

-- the parts are those of a ticket's code
abbrev pub are_ticket_parts : List (List ℕ) → Bool
are_ticket_parts [] = false
are_ticket_parts (word ∷ parts) =
    if bytes_eq word (codes "E") then is_some (all_fields (one a_code) parts)
    else (bytes_eq word (codes "D") && is_some (all_fields (both (one a_code) (one (a_number 1 (2 ^ 64 - 1)))) parts))

-- the code is a ticket's
unfoldable pub is_ticket_code : List ℕ → Bool
is_ticket_code code = are_ticket_parts (slice_split (λ b. b == 58) code)

-- a ticket of a number and a text, if the code is a ticket's and the text an edit's
abbrev pub ticket_of : List ℕ → ℕ → List ℕ → Option TicketRow
ticket_of code number text =
    if is_ticket_code code && is_some (edit_of_text (codes "D") text) then Some (record { code = code; number = number; text = text }) else None

-- a ticket, of its code and its fields: the last of them are those of the edit's text
unfoldable pub ticket_row_in : List ℕ → List (List ℕ) → Option TicketRow
ticket_row_in code fields = option_and_then (λ number. ticket_of code number.0 (joined number.1)) (one (a_number 1 (2 ^ 64 - 1)) fields)

-- the row of a table, of its code and its fields behind the version
unfoldable pub row_of_fields : ℕ → List ℕ → List (List ℕ) → Option Row
row_of_fields table code fields =
    if table == 1 then option_map row.Substance (all_fields substance_row_in (code ∷ fields))
    else (if table == 2 then option_map row.Member (paired member_row_in code fields)
    else (if table == 3 then option_map row.Material (all_fields material_row_in (code ∷ fields))
    else (if table == 4 then option_map row.Part (all_fields part_row_in (code ∷ fields))
    else (if table == 5 then option_map row.Line (paired line_row_in code fields)
    else (if table == 6 then option_map row.Product (all_fields product_row_in (code ∷ fields))
    else (if table == 7 then option_map row.Exemption (all_fields exemption_in (code ∷ fields))
    else (if table == 8 then option_map row.Candidate (all_fields candidate_row_in (code ∷ fields))
    else (if table == 9 then option_map row.Shipment (paired shipment_row_in code fields)
    else (if table == 10 then option_map row.Ticket (ticket_row_in code fields) else None)))))))))
