-- By which row an unsound desk is told: each clause of soundness names a row that breaks it.
use Rattle.std.specs.Prelude.{◌≡◌, ℕ, ◌^◌, Bool, true, not, ◌&&◌, ◌||◌, ◌==◌, ◌⊎◌, List, count_by, length, nat_le, nat_lt}
use Rattle.std.specs.List.{Any}
use Rattle.desk_model.specs.declared.row.Row.{Row}
use Rattle.desk_model.specs.declared.row.Row.TheVariants.{Substance, Member, Material, Part, Line, Product, Exemption, Candidate, Shipment, Ticket}
use Rattle.desk_model.specs.declared.rows.substance.SubstanceRow.{SubstanceRow}
use Rattle.desk_model.specs.declared.rows.member.MemberRow.{MemberRow}
use Rattle.desk_model.specs.declared.rows.material.MaterialRow.{MaterialRow}
use Rattle.desk_model.specs.declared.rows.part.PartRow.{PartRow}
use Rattle.desk_model.specs.declared.rows.line.LineRow.{LineRow}
use Rattle.desk_model.specs.declared.rows.product.ProductRow.{ProductRow}
use Rattle.desk_model.specs.declared.rows.exemption.ExemptionRow.{ExemptionRow}
use Rattle.desk_model.specs.declared.rows.candidate.CandidateRow.{CandidateRow}
use Rattle.desk_model.specs.declared.rows.shipment.ShipmentRow.{ShipmentRow}
use Rattle.desk_model.specs.declared.rows.ticket.TicketRow.{TicketRow}
use Rattle.desk_model.specs.declared.table_name.TableName.TheVariants.{Substances, Members, Materials, Parts, Lines, Products, Exemptions, Candidates, Shipments, Tickets}
use Rattle.desk_model.specs.Lists.{Lists}
use Rattle.desk_model.specs.Rows.{record_code, rows_of, table_number}
use Rattle.desk_findings.specs.Findings.{findings}
use Rattle.desk_findings.specs.Mass.{mass}
use Rattle.desk_findings.specs.Reaches.{is_or_reaches}
use Rattle.desk_findings.specs.Totals.{has_too_many_findings, year_mass}
use Rattle.desk_history.specs.Fits.{fits_candidate, fits_exemption, fits_line, fits_material, fits_member, fits_part, fits_product}
use Rattle.desk_history.specs.Fits.{fits_shipment, fits_substance}
use Rattle.desk_history.specs.Limits.{has_too_much_text, is_overfull}
use Rattle.desk_history.specs.Sound.{IsTicketOfEdit}

-- a row of table 1 breaks a clause of soundness: it doesn't keep what it has to by itself, or its table has too many rows; each row
-- below is tested for both too
abbrev pub breaks_substance : Lists → SubstanceRow → Bool
breaks_substance t row = not (fits_substance t row) || is_overfull t Substances

-- a row of table 2 breaks a clause
abbrev pub breaks_member : Lists → MemberRow → Bool
breaks_member t row = not (fits_member t row) || is_overfull t Members

-- a row of table 3 breaks a clause
abbrev pub breaks_material : Lists → MaterialRow → Bool
breaks_material t row = not (fits_material t row) || is_overfull t Materials

-- a row of table 4 breaks a clause: it is too heavy, or it has findings, where all parts have too many
abbrev pub breaks_part : Lists → PartRow → Bool
breaks_part t row =
    not (fits_part t row)
    || nat_le (2 ^ 128) (mass t row.code)
    || has_too_many_findings t && nat_lt 0 (length (findings t row.code))
    || is_overfull t Parts

-- a row of table 5 breaks a clause: it is on a cycle
abbrev pub breaks_line : Lists → LineRow → Bool
breaks_line t row = not (fits_line t row) || is_or_reaches t row.child row.parent || is_overfull t Lines

-- a row of table 6 breaks a clause
abbrev pub breaks_product : Lists → ProductRow → Bool
breaks_product t row = not (fits_product t row) || is_overfull t Products

-- a row of table 7 breaks a clause
abbrev pub breaks_exemption : Lists → ExemptionRow → Bool
breaks_exemption t row = not (fits_exemption t row) || is_overfull t Exemptions

-- a row of table 8 breaks a clause
abbrev pub breaks_candidate : Lists → CandidateRow → Bool
breaks_candidate t row = not (fits_candidate t row) || is_overfull t Candidates

-- a row of table 9 breaks a clause: it is of a year that is too heavy
abbrev pub breaks_shipment : Lists → ShipmentRow → Bool
breaks_shipment t row = not (fits_shipment t row) || nat_le (2 ^ 128) (year_mass t row.year) || is_overfull t Shipments

-- the number is one of 1 to n, n the number of tickets, and stands at one of them alone
abbrev pub is_number_once : List TicketRow → ℕ → Bool
is_number_once tickets number =
    nat_le 1 number && nat_le number (length tickets) && count_by (λ ticket. ticket.number == number) tickets == 1

-- a row of table 10 breaks a clause: its number isn't one of 1 to n or stands twice, or the texts are too long together
abbrev pub breaks_ticket : Lists → TicketRow → Bool
breaks_ticket t row = not (is_number_once t.tickets row.number) || has_too_much_text t || is_overfull t Tickets

-- the row breaks a clause of soundness; a ticket also where it is that of no edit
abbrev pub Breaks : Lists → Row → Type 0
Breaks t (Substance row) = breaks_substance t row ≡ true
Breaks t (Member row) = breaks_member t row ≡ true
Breaks t (Material row) = breaks_material t row ≡ true
Breaks t (Part row) = breaks_part t row ≡ true
Breaks t (Line row) = breaks_line t row ≡ true
Breaks t (Product row) = breaks_product t row ≡ true
Breaks t (Exemption row) = breaks_exemption t row ≡ true
Breaks t (Candidate row) = breaks_candidate t row ≡ true
Breaks t (Shipment row) = breaks_shipment t row ≡ true
Breaks t (Ticket row) = (breaks_ticket t row ≡ true) ⊎ (IsTicketOfEdit row → ⊥)

-- some row of the table, under this code, breaks a clause of soundness
abbrev pub IsBrokenAt : Lists → ℕ → List ℕ → Type 0
IsBrokenAt t table code = Any (λ row. (table_number row ≡ table) × (record_code row ≡ code) × Breaks t row) (rows_of t)

-- it is known whether the ticket is that of an edit, which a reader of texts finds out
abbrev pub IsDecided : TicketRow → Type 0
IsDecided ticket = IsTicketOfEdit ticket ⊎ (IsTicketOfEdit ticket → ⊥)
