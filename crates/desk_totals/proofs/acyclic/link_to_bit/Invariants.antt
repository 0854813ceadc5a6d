use Rattle.std.proofs.Common.{◌≡◌, ◌&&◌, drop}
use Rattle.std.specs.Prelude.{◌==◌, slice_index}
use Rattle.std.specs.List.{list_any}
use Rattle.desk_totals.specs.Marks.{has_bit}
use Rattle.desk_totals.proofs.acyclic.link_to_bit.Given as goal

abbrev pub invariant-loop-index : goal.invariant-loop-index
invariant-loop-index l =
    list_any (λ link. link.parent == l.place && has_bit 0 (slice_index l.bits link.child)) l.links
    ≡ list_any (λ link. link.parent == l.place && has_bit 0 (slice_index l.bits link.child)) (drop l.index l.links)
