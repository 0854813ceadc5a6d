use Rattle.std.proofs.Common.{◌≡◌, drop}
use Rattle.std.specs.Prelude.{nat_lt, slice_index}
use Rattle.std.specs.List.{list_all}
use Rattle.desk_totals.proofs.acyclic.does_fall.Given as goal

abbrev pub invariant-loop-link : goal.invariant-loop-link
invariant-loop-link l =
    list_all (λ link. nat_lt (slice_index l.heights link.child) (slice_index l.heights link.parent)) l.links
    ≡ list_all (λ link. nat_lt (slice_index l.heights link.child) (slice_index l.heights link.parent)) (drop l.link-index l.links)
