use Rattle.std.proofs.Common.{◌≡◌, ◌≤◌, length, map, take, vec_len, vec_capacity}
use Rattle.std.specs.Prelude.{if◌then◌else◌}
use Rattle.desk_text.specs.Code.{same_code}
use Rattle.desk_totals.proofs.reach.bits_at_target.Given as goal

abbrev pub invariant-loop-node : goal.invariant-loop-node
invariant-loop-node l =
    (vec_len l.bits ≡ l.node-index)
    × (length l.nodes ≤ vec_capacity l.bits)
    × (l.bits.items ≡ map (λ code. if same_code code l.target then 1 else 0) (take l.node-index l.nodes))
