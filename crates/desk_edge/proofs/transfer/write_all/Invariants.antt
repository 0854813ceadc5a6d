-- What was taken so far is the beginning of the bytes, and what is left is the rest of them.
use Rattle.std.proofs.Common.{◌≡◌, List, ℕ, ◌++◌, length}
use Rattle.std.specs.Io.KnownBytes.{Appends}
use Rattle.desk_edge.proofs.transfer.write_all.Given as goal

abbrev pub invariant-loop-rest : goal.invariant-loop-rest
invariant-loop-rest g l = (done : List ℕ) × (l.bytes ≡ done ++ l.rest)
    × Appends (g.L.Link.written l.fn.link) (g.L.Link.written l.link) done
    × (g.L.Link.unread l.link ≡ g.L.Link.unread l.fn.link)
    × (g.L.Link.faults l.link ≡ g.L.Link.faults l.fn.link)
    × (g.L.Link.read_faults l.link ≡ g.L.Link.read_faults l.fn.link)

abbrev pub decreases-loop-rest : goal.decreases-loop-rest
decreases-loop-rest g l = length l.rest
