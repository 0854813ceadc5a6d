-- Lines on a cycle of the bill.
use Rattle.std.specs.Prelude.{◌≡◌, ℕ, ◌<◌, true, length, slice_index_or}
use Rattle.desk_model.specs.declared.rows.line.LineRow.{LineRow}
use Rattle.desk_model.specs.Lists.{Lists}
use Rattle.desk_findings.specs.Reaches.{is_or_reaches}

-- the line at the place leads to its own parent, or to a part that reaches its parent
abbrev pub IsOnCycle : Lists → ℕ → Type 0
IsOnCycle t place =
    (place < length t.lines)
    × ((d : LineRow) → is_or_reaches t (slice_index_or t.lines place d).child (slice_index_or t.lines place d).parent ≡ true)
