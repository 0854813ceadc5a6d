-- What a rule counts of a substance is told by the members of the substance alone.
use Rattle.std.proofs.Common.{◌≡◌, ◌*◌, ◌∙◌, ℕ, cond, List, [], ◌∷◌, Some, filter, find, refl, sym, ap, sum_by, Less, Equal, Greater, is_eq}
use Rattle.std.specs.Option.{option_map_or}
use Rattle.std.specs.Ordering.{nat_cmp, ordering_then}
use Rattle.std.proofs.lemmas.List.Sums.{sum_by-cons}
use Rattle.desk_text.specs.Code.{code_cmp}
use Rattle.desk_law.specs.Rule.{rule_number, same_rule}
use Rattle.desk_law.specs.declared.rule.Rule.{Rule}
use Rattle.desk_rows.specs.Rows.{row_of}
use Rattle.desk_model.specs.Lists.{Lists, member_key, member_key_cmp}
use Rattle.desk_model.specs.declared.rows.member.MemberRow.{MemberRow}
use Rattle.desk_model.specs.declared.rows.material.MaterialRow.{MaterialRow}
use Rattle.desk_model.specs.declared.substance_mass.SubstanceMass.{SubstanceMass}
use Rattle.desk_findings.proofs.Groups.{same_number}
use Rattle.desk_findings.specs.Share.{factor_of, members_of, share}
use Rattle.desk_scratch.specs.Holdings.{Holding, factor_in, holdings_of}

-- among the members of a substance, the first of a rule is the row of both
found : (substance : List ℕ) (rule : Rule) (members : List MemberRow)
    → find (λ member. same_rule member.rule rule) (filter (λ member. is_eq (code_cmp member.substance substance)) members)
    ≡ row_of member_key member_key_cmp (substance, rule_number rule) members
unfolding rule_number
found substance rule [] = refl
found substance rule (member ∷ members) =
    let rest = found substance rule members in
    let others = filter (λ member. is_eq (code_cmp member.substance substance)) members in
    elim (code_cmp member.substance substance) as (λ o. find (λ member. same_rule member.rule rule) (cond (is_eq o) (member ∷ others) others)
    ≡ cond (is_eq (ordering_then o (nat_cmp (rule_number member.rule) (rule_number rule)))) (Some member) (row_of member_key member_key_cmp (substance, rule_number rule) members)) [
      | Less ↦ rest
      | Equal ↦ rw (same_number (rule_number member.rule) (rule_number rule)) (ap (λ other. cond (same_rule member.rule rule) (Some member) other) rest)
      | Greater ↦ rest
    ]

-- the factor of a substance is the one among its members
factor_found : (t : Lists) (rule : Rule) (substance : List ℕ) → factor_in rule (members_of t substance) ≡ factor_of t rule substance
unfolding factor_in
factor_found t rule substance = ap (λ member. option_map_or (λ member. member.factor) member 0) (found substance rule t.members)

-- the sum over what is held is the share
pub share_by_holdings : (t : Lists) (rule : Rule) (material : MaterialRow)
    → sum_by (λ (holding : Holding). holding.mass * factor_in rule holding.members) (holdings_of t material.substances) ≡ share t rule material
unfolding share
share_by_holdings t rule material = each material.substances
  where
    each : (substances : List SubstanceMass) → sum_by (λ (holding : Holding). holding.mass * factor_in rule holding.members) (holdings_of t substances) ≡ sum_by (λ held. held.mass * factor_of t rule held.substance) substances
    each [] = refl
    each (held ∷ substances) =
        sum_by-cons (λ (holding : Holding). holding.mass * factor_in rule holding.members) _ (holdings_of t substances)
        ∙ rw (factor_found t rule held.substance, each substances) (sym (sum_by-cons (λ held. held.mass * factor_of t rule held.substance) held substances))

-- and so is the sum over the substances, by the members of each
pub share_by_members : (t : Lists) (rule : Rule) (material : MaterialRow)
    → sum_by (λ (held : SubstanceMass). held.mass * factor_in rule (members_of t held.substance)) material.substances ≡ share t rule material
unfolding share
share_by_members t rule material = each material.substances
  where
    each : (substances : List SubstanceMass) → sum_by (λ (held : SubstanceMass). held.mass * factor_in rule (members_of t held.substance)) substances ≡ sum_by (λ held. held.mass * factor_of t rule held.substance) substances
    each [] = refl
    each (held ∷ substances) =
        sum_by-cons (λ (one : SubstanceMass). one.mass * factor_in rule (members_of t one.substance)) held substances
        ∙ rw (factor_found t rule held.substance, each substances) (sym (sum_by-cons (λ one. one.mass * factor_of t rule one.substance) held substances))
