-- What an edit makes of the rows of one table, and the room that this takes.
use Rattle.std.specs.Prelude.{ℕ, List, length}
use Rattle.desk_text.specs.Code.{code_cmp}
use Rattle.desk_rows.specs.Held.{Held, IsRoomFor}
use Rattle.desk_rows.specs.Rows.{IsByKey, with_rows}
use Rattle.desk_model.specs.declared.row.Row.TheVariants as row
use Rattle.desk_model.specs.Lists.{Lists}
use Rattle.desk_model.specs.PutRows.{put_in, without_exemption, without_line, without_member, without_shipment}
use Rattle.desk_tables.specs.declared.row_change.RowChange.{RowChange}
use Rattle.desk_tables.specs.declared.row_change.RowChange.TheVariants as change
use Rattle.desk_tables.specs.Desk.{Desk}

-- the tables with the change made
unfoldable pub with_change_made : Lists → RowChange → Lists
with_change_made t (change.PutSubstance substance room) = put_in (row.Substance substance) t
with_change_made t (change.PutMember member room) = put_in (row.Member member) t
with_change_made t (change.DropMember substance rule) = without_member t substance rule
with_change_made t (change.PutMaterials rows room) = record t { materials = with_rows (λ row. row.code) code_cmp rows t.materials }
with_change_made t (change.PutPart part room) = put_in (row.Part part) t
with_change_made t (change.PutLine line room) = put_in (row.Line line) t
with_change_made t (change.DropLine parent child) = without_line t parent child
with_change_made t (change.PutProduct product room) = put_in (row.Product product) t
with_change_made t (change.PutExemption exemption room) = put_in (row.Exemption exemption) t
with_change_made t (change.DropExemption code) = without_exemption t code
with_change_made t (change.PutCandidate candidate room) = put_in (row.Candidate candidate) t
with_change_made t (change.PutShipment shipment room) = put_in (row.Shipment shipment) t
with_change_made t (change.DropShipment year product) = without_shipment t year product

-- a table of these rows and this room
abbrev pub rows_with_room : {R : Type 0} → List R → ℕ → Held R
rows_with_room rows room = record { rows = rows; room = room }

-- what the change puts in has room at these tables as they stand, and where it puts in several rows, they stand in order
unfoldable pub IsReady : Desk → RowChange → Type 0
IsReady desk (change.PutSubstance row room) = IsRoomFor 1 (rows_with_room desk.lists.substances desk.rooms.substances) room
IsReady desk (change.PutMember row room) = IsRoomFor 1 (rows_with_room desk.lists.members desk.rooms.members) room
IsReady desk (change.DropMember substance rule) = Unit {0}
IsReady desk (change.PutMaterials rows room) =
    IsByKey (λ row. row.code) code_cmp rows × IsRoomFor (length rows) (rows_with_room desk.lists.materials desk.rooms.materials) room
IsReady desk (change.PutPart row room) = IsRoomFor 1 (rows_with_room desk.lists.parts desk.rooms.parts) room
IsReady desk (change.PutLine row room) = IsRoomFor 1 (rows_with_room desk.lists.lines desk.rooms.lines) room
IsReady desk (change.DropLine parent child) = Unit {0}
IsReady desk (change.PutProduct row room) = IsRoomFor 1 (rows_with_room desk.lists.products desk.rooms.products) room
IsReady desk (change.PutExemption row room) = IsRoomFor 1 (rows_with_room desk.lists.exemptions desk.rooms.exemptions) room
IsReady desk (change.DropExemption row) = Unit {0}
IsReady desk (change.PutCandidate row room) = IsRoomFor 1 (rows_with_room desk.lists.candidates desk.rooms.candidates) room
IsReady desk (change.PutShipment row room) = IsRoomFor 1 (rows_with_room desk.lists.shipments desk.rooms.shipments) room
IsReady desk (change.DropShipment year product) = Unit {0}
