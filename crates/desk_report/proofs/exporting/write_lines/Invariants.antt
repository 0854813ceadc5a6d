-- The lines of the records before those that are left were written.
use Rattle.std.proofs.Common.{◌≡◌, ℕ, List, ◌++◌}
use Rattle.std.specs.Io.KnownBytes.{Appends}
use Rattle.std.specs.Slice.Iter.{chunks_rest, chunks_size}
use Rattle.desk_report.specs.Lines.{record_lines}
use Rattle.desk_report.proofs.exporting.write_lines.Given as goal

abbrev pub invariant-loop-few : goal.invariant-loop-few
invariant-loop-few g l =
    (goal.iterator-loop-few g).can_next l.few-iterator
    × (goal.iterator-loop-few g).is_finite l.few-iterator
    × (chunks_size l.few-iterator ≡ 64)
    × ((front : List ℕ) × Appends (g.L.Link.written l.fn.link) (g.L.Link.written l.link) front
    × (record_lines l.records ≡ front ++ record_lines (chunks_rest l.few-iterator)))
    × (g.L.Link.unread l.link ≡ g.L.Link.unread l.fn.link)
    × (g.L.Link.faults l.link ≡ g.L.Link.faults l.fn.link)
