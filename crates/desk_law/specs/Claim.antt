-- Claims of exemption.
use Rattle.std.specs.Ordering.{on, then_cmp}
use Rattle.std.specs.declared.cmp.Ordering.{Ordering}
use Rattle.desk_text.specs.Code.{code_cmp}
use Rattle.desk_law.specs.declared.claim.Claim.{Claim}
use Rattle.desk_law.specs.Rule.{rule_cmp}

-- claims are ordered by their rule, and then by the bytes of the exemption's number
abbrev pub claim_cmp : Claim → Claim → Ordering
claim_cmp = then_cmp (on (λ claim. claim.rule) rule_cmp) (on (λ claim. claim.number) code_cmp)
