-- The shipments so far are of other years, so that one is of the year exactly if one of the rest is.
use Rattle.std.proofs.Common.{◌≡◌, drop}
use Rattle.std.specs.Prelude.{◌==◌}
use Rattle.std.specs.List.{list_any}
use Rattle.desk_tables.proofs.sums_sound.first_of_year.Given as goal

abbrev pub invariant-loop-place : goal.invariant-loop-place
invariant-loop-place l = list_any (λ shipment. shipment.year == l.year) l.shipments ≡ list_any (λ shipment. shipment.year == l.year) (drop l.place l.shipments)
