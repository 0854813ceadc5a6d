-- The kinds so far with those that are left make the set of all.
use Rattle.std.proofs.Common.{◌≡◌, ◌==◌, [], length}
use Rattle.std.specs.List.{slice_split}
use Rattle.desk_fields.specs.Forms.{kinds_with}
use Rattle.desk_fields.proofs.exemption.kinds_of.Given as goal

abbrev pub invariant-loop-code : goal.invariant-loop-code
invariant-loop-code l = kinds_with l.kinds l.codes ≡ kinds_with [] (slice_split (λ b. b == 44) l.field)

abbrev pub decreases-loop-code : goal.decreases-loop-code
decreases-loop-code l = length l.codes
