-- The held rise exactly if those from the place before on do.
use Rattle.std.proofs.Common.{◌≡◌, ◌-◌, ◌≤◌, drop}
use Rattle.std.specs.Ordering.{on}
use Rattle.desk_text.specs.Code.{code_cmp}
use Rattle.desk_fields.specs.Reading.{in_turn}
use Rattle.desk_tables.proofs.content.is_each_code_below.Given as goal

abbrev pub invariant-loop-place : goal.invariant-loop-place
invariant-loop-place l = (1 ≤ l.place) × (in_turn (on (λ one. one.substance) code_cmp) (drop (l.place - 1) l.held) ≡ in_turn (on (λ one. one.substance) code_cmp) l.held)
