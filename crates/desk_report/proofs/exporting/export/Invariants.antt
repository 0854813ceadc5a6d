-- The lines of the first tables were written.
use Rattle.std.proofs.Common.{◌≡◌, length, take}
use Rattle.std.specs.Io.KnownBytes.{Appends}
use Rattle.std.specs.List.{flat_map}
use Rattle.desk_report.specs.File.{tables_in}
use Rattle.desk_report.specs.Lines.{record_lines, sorted}
use Rattle.desk_report.proofs.exporting.export.Given as goal

abbrev pub invariant-loop-place : goal.invariant-loop-place
invariant-loop-place g l =
    Appends (g.L.Link.written l.fn.link) (g.L.Link.written l.link) (record_lines (flat_map sorted (take l.place (tables_in l.tables.lists))))
    × (l.number ≡ length (flat_map sorted (take l.place (tables_in l.tables.lists))))
    × (g.L.Link.unread l.link ≡ g.L.Link.unread l.fn.link)
    × (g.L.Link.faults l.link ≡ g.L.Link.faults l.fn.link)
