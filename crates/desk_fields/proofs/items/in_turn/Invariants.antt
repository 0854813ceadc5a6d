-- The values rise exactly if those from the place before on do.
use Rattle.std.proofs.Common.{◌≡◌, ◌-◌, ◌≤◌, drop}
use Rattle.desk_fields.specs.Reading.{in_turn}
use Rattle.desk_fields.proofs.items.in_turn.Given as goal

abbrev pub invariant-loop-place : goal.invariant-loop-place
invariant-loop-place g l = (1 ≤ l.place) × (in_turn g.T.Item.order (drop (l.place - 1) l.list) ≡ in_turn g.T.Item.order l.list)
