use Rattle.std.proofs.Common.{◌≡◌, ◌≤◌, length, map, take, vec_len, vec_capacity}
use Rattle.desk_totals.specs.Places.{ArePlaces, line_at}
use Rattle.desk_totals.proofs.place.links_of.Given as goal

abbrev pub invariant-loop-line : goal.invariant-loop-line
invariant-loop-line l =
    (vec_len l.links ≡ l.line-index)
    × (length l.lines ≤ vec_capacity l.links)
    × (map (line_at l.nodes) l.links.items ≡ take l.line-index l.lines)
    × ArePlaces (length l.nodes) l.links.items
