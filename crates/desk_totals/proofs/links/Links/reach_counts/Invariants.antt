use Rattle.std.proofs.Common.{◌≡◌, ◌<◌, ◌++◌, length, map}
use Rattle.std.specs.List.{All}
use Rattle.desk_findings.specs.Bill.{IsBill}
use Rattle.desk_model.specs.Lists.{Lists}
use Rattle.desk_totals.specs.Linked.{IsLinkedOf}
use Rattle.desk_totals.specs.Marks.{reach_count}
use Rattle.desk_totals.specs.Places.{node_at}
use Rattle.desk_totals.proofs.links.Links.reach_counts.Given as goal

abbrev pub invariant-loop-rest : goal.invariant-loop-rest
invariant-loop-rest l =
    All (λ place. place < length l.self.nodes) l.rest
    × ((t : Lists) → IsLinkedOf l.self t → IsBill t → l.counts.items ++ map (λ place. reach_count t (node_at l.self.nodes place)) l.rest ≡ map (λ place. reach_count t (node_at l.self.nodes place)) l.holders)

abbrev pub decreases-loop-rest : goal.decreases-loop-rest
decreases-loop-rest l = length l.rest
