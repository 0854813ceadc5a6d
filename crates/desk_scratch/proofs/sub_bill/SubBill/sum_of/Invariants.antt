-- What the first lines come to, by each amount whose values these are.
use Rattle.std.proofs.Common.{◌≡◌, ◌*◌, ℕ, List, sum_by, take}
use Rattle.desk_scratch.specs.SubBill.{AreOf}
use Rattle.desk_scratch.proofs.sub_bill.SubBill.sum_of.Given as goal

abbrev pub invariant-loop-line : goal.invariant-loop-line
invariant-loop-line l =
    (amount : List ℕ → ℕ) → AreOf amount l.amounts l.self.codes → l.sum ≡ sum_by (λ line. line.count * amount line.child) (take l.line-index l.lines)
