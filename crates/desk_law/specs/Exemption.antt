-- Exemptions of Annexes III and IV to Directive 2011/65/EU: Article 4(6).
use Rattle.std.specs.Prelude.{ℕ, ◌*◌, Bool, true, ◌&&◌, List, Option, None, Some, nat_le}
use Rattle.std.specs.List.{list_any}
use Rattle.desk_text.specs.Code.{same_code}
use Rattle.desk_text.specs.Day.{Date, is_not_after}
use Rattle.desk_law.specs.declared.claim.Claim.{Claim}
use Rattle.desk_law.specs.declared.kind.Kind.{Kind}
use Rattle.desk_law.specs.declared.rule.Rule.{Rule}
use Rattle.desk_law.specs.declared.terms.Terms.{Terms}
use Rattle.desk_law.specs.KindSet.{has_kind}
use Rattle.desk_law.specs.Rule.{same_rule}

-- the material claims the exemption of this number from the rule
abbrev pub is_claimed : List Claim → Rule → List ℕ → Bool
is_claimed claims rule number = list_any (λ claim. same_rule claim.rule rule && same_code claim.number number) claims

-- the share is at least floor ppm of the mass, where there is a floor
abbrev pub reaches_floor : Option ℕ → ℕ → ℕ → Bool
reaches_floor None share mass = true
reaches_floor (Some floor) share mass = nat_le (floor * mass) share

-- the share is at most cap ppm of the mass, where there is a cap
abbrev pub keeps_cap : Option ℕ → ℕ → ℕ → Bool
keeps_cap None share mass = true
keeps_cap (Some cap) share mass = nat_le share (cap * mass)

-- the exemption row is for the rule and the kind
abbrev pub is_for : Terms → Rule → Kind → Bool
is_for row rule kind = same_rule row.rule rule && has_kind row.kinds kind

-- the day is none before the exemption row's first and none after its last
unfoldable pub is_valid_on : Terms → Date → Bool
is_valid_on row day = is_not_after row.first day && is_not_after day row.last

-- whether an exemption's row covers a material for a rule, a kind and a day: the material claims the rule with the
-- row's number, the row is for the rule and the kind and valid on the day, and the share lies from its floor to its cap
unfoldable pub covers : Terms → List Claim → Rule → Kind → Date → ℕ → ℕ → Bool
covers row claims rule kind day share mass =
    is_claimed claims rule row.number
    && is_for row rule kind
    && is_valid_on row day
    && reaches_floor row.floor share mass
    && keeps_cap row.cap share mass
