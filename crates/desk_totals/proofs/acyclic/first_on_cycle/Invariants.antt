use Rattle.std.proofs.Common.{◌≡◌, ℕ, ◌<◌, ◌≤◌, true, false}
use Rattle.desk_findings.specs.Bill.{are_parents_kept}
use Rattle.desk_findings.specs.Reaches.{reaches}
use Rattle.desk_model.specs.Lists.{Lists}
use Rattle.desk_totals.specs.Linked.{IsLinkedOf}
use Rattle.desk_totals.specs.Places.{node_at}
use Rattle.desk_totals.proofs.acyclic.first_on_cycle.Given as goal

abbrev pub invariant-loop-place : goal.invariant-loop-place
invariant-loop-place l =
    (t : Lists) → IsLinkedOf l.bill t → are_parents_kept t ≡ true → (place : ℕ) → l.bill.material_count ≤ place → place < l.place → reaches t (node_at l.bill.nodes place) (node_at l.bill.nodes place) ≡ false
