-- Sums over whole tables that have to stay below a bound: masses, findings, and the masses of a year.
use Rattle.std.specs.Prelude.{ℕ, ◌*◌, ◌^◌, Bool, List, Option, find, nat_le, nat_lt, option_map, sum_by}
use Rattle.desk_model.specs.declared.limits.TheConstants.{FINDING_LIMIT}
use Rattle.desk_model.specs.Lists.{Lists}
use Rattle.desk_findings.specs.Findings.{finding_count}
use Rattle.desk_findings.specs.Mass.{mass}
use Rattle.desk_findings.specs.Tonnage.{shipments_in}

-- the part with the least code whose mass is 2^128 micrograms or more
unfoldable pub too_heavy_part : Lists → Option (List ℕ)
too_heavy_part t = option_map (λ part. part.code) (find (λ part. nat_le (2 ^ 128) (mass t part.code)) t.parts)

-- all parts together have more findings than the desk keeps
unfoldable pub has_too_many_findings : Lists → Bool
has_too_many_findings t = nat_lt FINDING_LIMIT (finding_count t)

-- the sum over a year's shipments of units times the product's mass
abbrev pub year_mass : Lists → ℕ → ℕ
year_mass t year = sum_by (λ shipment. shipment.units * mass t shipment.product) (shipments_in t year)

-- the least year whose sum is 2^128 micrograms or more
unfoldable pub too_heavy_year : Lists → Option ℕ
too_heavy_year t = option_map (λ shipment. shipment.year) (find (λ shipment. nat_le (2 ^ 128) (year_mass t shipment.year)) t.shipments)
