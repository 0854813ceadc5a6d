-- The lists with the changed table are the changed lists.
use Rattle.std.proofs.Common.{◌∙◌, ap, sym}
use Rattle.desk_rows.specs.Rows.{with_row, without_row}
use Rattle.desk_model.specs.Lists.{line_key, line_key_cmp, shipment_key, shipment_key_cmp}
use Rattle.desk_tables.specs.Change.{with_change_made}
use Rattle.desk_tables.specs.Desk.{Desk}
use Rattle.desk_tables.proofs.tables.Tables.changed_bill_table.Goals as goal

pub returns-in_ok-lines-in-PutLine : goal.returns-in_ok-lines-in-PutLine
unfolding with_change_made
returns-in_ok-lines-in-PutLine c =
    let rows = c.in_ok-lines-in-PutLine.ensures ∙ ap (λ (d : Desk). with_row line_key line_key_cmp c.in-PutLine.row d.lists.lines) c.self.view_is in
    ap (λ rows. record c.args.self.now.lists { lines = rows }) rows ∙ ap (with_change_made c.args.self.now.lists) (sym c.in-PutLine.is)

pub returns-in_ok-lines-in-DropLine : goal.returns-in_ok-lines-in-DropLine
unfolding with_change_made
returns-in_ok-lines-in-DropLine c =
    let rows = c.in_ok-lines-in-DropLine.ensures ∙ ap (λ (d : Desk). without_row line_key line_key_cmp (c.in-DropLine.parent, c.in-DropLine.child) d.lists.lines) c.self.view_is in
    ap (λ rows. record c.args.self.now.lists { lines = rows }) rows ∙ ap (with_change_made c.args.self.now.lists) (sym c.in-DropLine.is)

pub returns-in_ok-shipments-in-PutShipment : goal.returns-in_ok-shipments-in-PutShipment
unfolding with_change_made
returns-in_ok-shipments-in-PutShipment c =
    let rows = c.in_ok-shipments-in-PutShipment.ensures ∙ ap (λ (d : Desk). with_row shipment_key shipment_key_cmp c.in-PutShipment.row d.lists.shipments) c.self.view_is in
    ap (λ rows. record c.args.self.now.lists { shipments = rows }) rows ∙ ap (with_change_made c.args.self.now.lists) (sym c.in-PutShipment.is)

pub returns-in_ok-shipments-in-DropShipment : goal.returns-in_ok-shipments-in-DropShipment
unfolding with_change_made
returns-in_ok-shipments-in-DropShipment c =
    let rows = c.in_ok-shipments-in-DropShipment.ensures ∙ ap (λ (d : Desk). without_row shipment_key shipment_key_cmp (c.in-DropShipment.year, c.in-DropShipment.product) d.lists.shipments) c.self.view_is in
    ap (λ rows. record c.args.self.now.lists { shipments = rows }) rows ∙ ap (with_change_made c.args.self.now.lists) (sym c.in-DropShipment.is)
