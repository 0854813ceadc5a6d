use Rattle.std.proofs.Common.{◌≡◌, ◌<◌, false, MatchOption, ap, get_or, length, subst, sym, ◌∙◌}
use Rattle.std.specs.Prelude.{◌==◌}
use Rattle.std.specs.List.{list_any}
use Rattle.desk_model.specs.declared.rows.shipment.ShipmentRow.{ShipmentRow}
use Rattle.desk_tables.proofs.SumsTold.{heavy_year, year_breaks, year_has_shipment}
use Rattle.desk_tables.proofs.Telling.{shipment_named}
use Rattle.desk_tables.proofs.tables.Tables.year_fault.Goals as goal

pub unreachable-requires : goal.unreachable-requires
unreachable-requires c =
    let shipments = c.shipments.result.now in
    year_has_shipment c.args.self.now.lists shipments c.args.year c.shipments.ensures c.requires
    (subst (λ found. MatchOption found (list_any (λ shipment. shipment.year == c.args.year) shipments ≡ false) (λ place. (place < length shipments) × ((d : ShipmentRow) → (get_or shipments place d).year ≡ c.args.year)))
    c.in-None.is c.first_of_year.ensures)

pub returns : goal.returns
returns c =
    let t = c.args.self.now.lists in
    let shipments = c.shipments.result.now in
    let place = c.in-Some.place in
    let row = c.index-shipments-place.result in
    let same = c.shipments-in-Some.ensures ∙ sym c.shipments.ensures in
    let there =
    subst (λ found. MatchOption found (list_any (λ shipment. shipment.year == c.args.year) shipments ≡ false) (λ place. (place < length shipments) × ((d : ShipmentRow) → (get_or shipments place d).year ≡ c.args.year)))
    c.in-Some.is c.first_of_year.ensures in
    let here : row ≡ get_or shipments place row = c.index-shipments-place.is ∙ ap (λ all. get_or all place row) same in
    shipment_named t c.shipments-in-Some.result.now place row c.fault_at.result c.shipments-in-Some.ensures (subst (λ all. place < length all) (sym same) there.0) c.index-shipments-place.is
    (year_breaks t row c.args.year (subst (λ r. r.year ≡ c.args.year) (sym here) (there.1 row)) (heavy_year t c.args.year c.requires).1) c.fault_at.ensures
