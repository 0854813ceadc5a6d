-- The keys rise exactly if those from the place before on do.
use Rattle.std.proofs.Common.{◌≡◌, ◌-◌, ◌≤◌, drop}
use Rattle.std.specs.Ordering.{on}
use Rattle.desk_fields.specs.Reading.{in_turn}
use Rattle.desk_bridge.proofs.rows_after.do_keys_rise.Given as goal

abbrev pub invariant-loop-place : goal.invariant-loop-place
invariant-loop-place g l = (1 ≤ l.place) × (in_turn (on g.R.Keyed.key g.R.Key.Ord.cmp) (drop (l.place - 1) l.rows) ≡ in_turn (on g.R.Keyed.key g.R.Key.Ord.cmp) l.rows)
