-- The claims rise exactly if those from the place before on do.
use Rattle.std.proofs.Common.{◌≡◌, ◌-◌, ◌≤◌, drop}
use Rattle.desk_law.specs.Claim.{claim_cmp}
use Rattle.desk_fields.specs.Reading.{in_turn}
use Rattle.desk_tables.proofs.content.is_each_claim_below.Given as goal

abbrev pub invariant-loop-place : goal.invariant-loop-place
invariant-loop-place l = (1 ≤ l.place) × (in_turn claim_cmp (drop (l.place - 1) l.claims) ≡ in_turn claim_cmp l.claims)
