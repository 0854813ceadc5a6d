-- Share of a restricted substance in a homogeneous material: Article 4(1) of Directive 2011/65/EU with its Annex II.
use Rattle.std.specs.Prelude.{ℕ, ◌*◌, Bool, List, filter, sum_by}
use Rattle.std.specs.Option.{option_map_or}
use Rattle.desk_text.specs.Code.{same_code}
use Rattle.desk_law.specs.declared.rule.Rule.{Rule}
use Rattle.desk_law.specs.Limit.{is_over, limit_of}
use Rattle.desk_model.specs.declared.rows.member.MemberRow.{MemberRow}
use Rattle.desk_model.specs.declared.rows.material.MaterialRow.{MaterialRow}
use Rattle.desk_model.specs.Lists.{Lists, member_row}

-- what the tables keep of a substance, rule by rule
abbrev pub members_of : Lists → List ℕ → List MemberRow
members_of t substance = filter (λ member. same_code member.substance substance) t.members

-- how much of a substance's mass the rule counts, in millionths: 0 where the substance is no member
abbrev pub factor_of : Lists → Rule → List ℕ → ℕ
factor_of t rule substance = option_map_or (λ member. member.factor) (member_row t substance rule) 0

-- the sum over the material's substances of mass times factor, in millionths of a microgram
unfoldable pub share : Lists → Rule → MaterialRow → ℕ
share t rule material = sum_by (λ held. held.mass * factor_of t rule held.substance) material.substances

-- the share is over the rule's limit: share > limit in ppm * mass
abbrev pub is_over_limit : Lists → Rule → MaterialRow → Bool
is_over_limit t rule material = is_over (share t rule material) material.mass (limit_of rule)
