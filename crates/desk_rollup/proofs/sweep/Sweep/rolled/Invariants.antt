use Rattle.std.proofs.Common.{◌≡◌, ◌<◌, ◌≤◌, ◌^◌, ℕ, length, slice_index, sum_by, take}
use Rattle.desk_rollup.specs.Changed.{DoFollow}
use Rattle.desk_rollup.specs.Rolled.{IsRolled, weight}
use Rattle.desk_rollup.specs.Values.{own_with, rolled_at}
use Rattle.desk_rollup.proofs.MarkCount.{marks_at}
use Rattle.desk_rollup.proofs.sweep.Sweep.rolled.Given as goal

abbrev pub invariant-loop-place : goal.invariant-loop-place
invariant-loop-place g l =
    let lines = (g.B.BillView.graph l.self.bill.now).lines in
    let own = own_with l.self.owns.now l.self.kept.now.owns in
    let nodes = l.self.places.now.nodes in
    (length l.rolled.items ≡ l.place)
    × ((spot : ℕ) → spot < l.place → IsRolled lines own (slice_index nodes spot) (rolled_at l.rolled.items spot))
    × ((spot : ℕ) → spot < l.place → weight lines own (slice_index nodes spot) < 2 ^ 128)
    × (l.marks ≡ sum_by (marks_at lines own) (take l.place nodes))
    × (l.marks ≤ 4194304)
    × ((spot : ℕ) → spot < l.place → DoFollow l.roller.changed (rolled_at l.self.kept.now.rolled (slice_index nodes spot)).hops (rolled_at l.rolled.items spot).hops)
