use Rattle.std.proofs.Common.{◌≡◌, ◌≤◌, not, ◌&&◌, length, map, take, vec_len, vec_capacity}
use Rattle.desk_text.specs.Code.{same_code}
use Rattle.desk_totals.specs.Marks.{has_bit}
use Rattle.desk_totals.specs.Rounds.{value_of}
use Rattle.desk_totals.proofs.reach.marks_above.Given as goal

abbrev pub invariant-loop-place : goal.invariant-loop-place
invariant-loop-place l =
    (vec_len l.marks ≡ l.place)
    × (length l.nodes ≤ vec_capacity l.marks)
    × (l.marks.items ≡ map (λ code. has_bit 0 (value_of 0 l.nodes l.bits code) && not (same_code code l.target)) (take l.place l.nodes))
