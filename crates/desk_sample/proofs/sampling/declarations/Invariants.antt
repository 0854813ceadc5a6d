-- The declarations of the numbers so far are made.
use Rattle.std.proofs.Common.{◌≡◌, ◌≤◌, ◌-◌, [], ◌∷◌}
use Rattle.desk_sample.specs.Sample.{declaration_edit, each_to}
use Rattle.desk_sample.proofs.sampling.declarations.Given as goal

abbrev pub invariant-declarations : goal.invariant-declarations
invariant-declarations l = (l.edits.items ≡ each_to l.number (λ i. declaration_edit i ∷ [])) × (l.number ≤ l.n)

abbrev pub decreases-declarations : goal.decreases-declarations
decreases-declarations l = l.n - l.number
