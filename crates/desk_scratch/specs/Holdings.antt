-- What a material holds, substance by substance, each with the rules that count it.
use Rattle.std.specs.Prelude.{ℕ, List, find, map}
use Rattle.std.specs.Option.{option_map_or}
use Rattle.desk_law.specs.Rule.{same_rule}
use Rattle.desk_law.specs.declared.rule.Rule.{Rule}
use Rattle.desk_model.specs.declared.rows.member.MemberRow.{MemberRow}
use Rattle.desk_model.specs.declared.substance_mass.SubstanceMass.{SubstanceMass}
use Rattle.desk_model.specs.Lists.{Lists}
use Rattle.desk_findings.specs.Share.{members_of}

-- so much of a substance, in micrograms, and the members of the substance
pub record Holding : Type 0 where
  pub mass : ℕ
  pub members : List MemberRow

-- what is held of a substance, with what the tables say of that
abbrev pub holding_of : Lists → SubstanceMass → Holding
holding_of t held = record { mass = held.mass; members = members_of t held.substance }

-- what is held of each of the substances, with what the tables say of it
abbrev pub holdings_of : Lists → List SubstanceMass → List Holding
holdings_of t substances = map (holding_of t) substances

-- how much of a substance's mass the rule counts, in millionths, by the members of the substance: 0 where none is the rule's
unfoldable pub factor_in : Rule → List MemberRow → ℕ
factor_in rule members = option_map_or (λ member. member.factor) (find (λ member. same_rule member.rule rule) members) 0
