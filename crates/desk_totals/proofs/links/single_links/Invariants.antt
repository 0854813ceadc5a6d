use Rattle.std.proofs.Common.{◌≡◌, ◌≤◌, length, map, take, vec_len, vec_capacity}
use Rattle.desk_totals.specs.Places.{single_link}
use Rattle.desk_totals.proofs.links.single_links.Given as goal

abbrev pub invariant-loop-link : goal.invariant-loop-link
invariant-loop-link l =
    (vec_len l.singles ≡ l.link-index) × (length l.links ≤ vec_capacity l.singles) × (l.singles.items ≡ map single_link (take l.link-index l.links))
