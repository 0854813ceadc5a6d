-- The lines are those of the bytes that the link has given, and no more than one past the limit is asked for.
use Rattle.std.proofs.Common.{◌≡◌, ℕ, ◌+◌, List, length}
use Rattle.std.specs.Io.KnownBytes.{Consumes}
use Rattle.desk_report.specs.Imported.{import_limit}
use Rattle.desk_report.specs.ReadLines.{AreLinesOf}
use Rattle.desk_report.proofs.reading.read_lines.Given as goal

abbrev pub invariant-reading : goal.invariant-reading
invariant-reading g l =
    (bytes : List ℕ)
    × Consumes (g.L.Link.unread l.fn.link) (g.L.Link.unread l.link) bytes
    × (length bytes + l.left ≡ import_limit + 1)
    × AreLinesOf bytes l.lines
    × (g.L.Link.written l.link ≡ g.L.Link.written l.fn.link)
    × (g.L.Link.faults l.link ≡ g.L.Link.faults l.fn.link)

abbrev pub decreases-reading : goal.decreases-reading
decreases-reading g l = l.left
