use Rattle.std.proofs.Common.{◌≡◌, drop}
use Rattle.desk_totals.specs.Linked.{is_among}
use Rattle.desk_totals.proofs.place.first_place_of.Given as goal

abbrev pub invariant-loop-place : goal.invariant-loop-place
invariant-loop-place l = is_among l.code l.nodes ≡ is_among l.code (drop l.place l.nodes)
