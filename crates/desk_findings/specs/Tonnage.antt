-- Tonnages and notices: Article 7(2) and 7(7) of Regulation (EC) 1907/2006.
use Rattle.std.specs.Prelude.{ℕ, ◌*◌, ◌&&◌, ◌==◌, List, Option, filter, nat_lt, option_map, sum_by, if◌then◌else◌}
use Rattle.desk_text.specs.Day.{Date, is_not_after, six_months_after}
use Rattle.desk_model.specs.declared.limits.TheConstants.{TONNE}
use Rattle.desk_model.specs.declared.rows.candidate.CandidateRow.{CandidateRow}
use Rattle.desk_model.specs.declared.rows.shipment.ShipmentRow.{ShipmentRow}
use Rattle.desk_findings.specs.Carried.{carried}
use Rattle.desk_model.specs.Lists.{Lists}

-- the shipments of a year
abbrev pub shipments_in : Lists → ℕ → List ShipmentRow
shipments_in t year = filter (λ shipment. shipment.year == year) t.shipments

-- the sum over the year's shipments of units times what the product carries of the substance, in micrograms
unfoldable pub tonnage : Lists → ℕ → List ℕ → ℕ
tonnage t year substance = sum_by (λ shipment. shipment.units * carried t substance shipment.product) (shipments_in t year)

-- the candidates that have to be notified for the year on the day: those included by then whose tonnage is over one tonne
unfoldable pub notices : Lists → ℕ → Date → List CandidateRow
notices t year day =
    filter (λ candidate. is_not_after candidate.day day && nat_lt TONNE (tonnage t year candidate.substance)) t.candidates

-- the first day on which a notice can be due: 1 June 2011, Article 7(7)
abbrev pub first_due : Date
first_due = record { year = 2011; month = 6; day = 1 }

-- a notice is due six months after inclusion, or on the first day where that is later. None: past the last day that the desk takes
unfoldable pub due_day : Date → Option Date
due_day included = option_map (λ due. if is_not_after due first_due then first_due else due) (six_months_after included)
