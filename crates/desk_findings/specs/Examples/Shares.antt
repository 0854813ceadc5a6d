-- Shares and limits in homogeneous materials.
use Rattle.std.specs.Prelude.{◌≡◌, ℕ, List, [], ◌∷◌, ◌++◌, Option, Some, None, codes, option_map}
use Rattle.desk_law.specs.declared.rule.Rule.{Rule}
use Rattle.desk_law.specs.declared.rule.Rule.TheVariants.{Lead, Mercury, Cadmium}
use Rattle.desk_model.specs.declared.edit.Edit.{Edit}
use Rattle.desk_model.specs.declared.edit.Edit.TheVariants.{Substance, Member}
use Rattle.desk_findings.specs.Findings.{rules_over}
use Rattle.desk_model.specs.Lists.{Lists, material_row, member_row}
use Rattle.desk_findings.specs.Share.{share}
use Rattle.desk_model.specs.Examples.Desks.{declares, desk_with, holds, material}

-- the share of a kept material
abbrev pub share_at : Lists → List ℕ → Rule → Option ℕ
share_at t code rule = option_map (share t rule) (material_row t code)

abbrev pub rules_over_at : Lists → List ℕ → Option (List Rule)
rules_over_at t code = option_map (rules_over t) (material_row t code)

-- lead oxide is 92.832 percent lead
abbrev pub oxide_edits : List Edit
oxide_edits =
    Substance (codes "t1") (codes "lead-oxide") (codes "Lead oxide") (Some (codes "1317-36-8"))
    ∷ Member (codes "t2") (codes "lead-oxide") Lead 928320
    ∷ declares (codes "ACME") 1 (material (codes "OX1") 1000000 (holds (codes "lead-oxide") 1078 ∷ [])
    ∷ material (codes "OX2") 1000000 (holds (codes "lead-oxide") 1077 ∷ []) ∷ [])
    ∷ []

abbrev pub oxide : Lists
oxide = desk_with oxide_edits

-- a solder paste of 1 g
abbrev pub solder : List ℕ → ℕ → Edit
solder substance mass = declares (codes "ACME") 7 (material (codes "SOLDER") 1000000 (holds substance mass ∷ []) ∷ [])

abbrev pub clear_factor : Edit
clear_factor = Member (codes "t3") (codes "lead-oxide") Lead 0

pub record ShareExamples : Type 0 where
  pub oxide_over : share_at oxide (codes "OX1") Lead ≡ Some 1000728960
  pub oxide_over_limit : rules_over_at oxide (codes "OX1") ≡ Some (Lead ∷ [])
  pub oxide_within : share_at oxide (codes "OX2") Lead ≡ Some 999800640
  pub oxide_within_limit : rules_over_at oxide (codes "OX2") ≡ Some []
  pub no_member_no_share : share_at oxide (codes "OX1") Mercury ≡ Some 0
  -- 0.1 percent to the microgram is no breach, one microgram more is
  pub at_limit : rules_over_at (desk_with (solder (codes "lead") 1000 ∷ [])) (codes "SOLDER") ≡ Some []
  pub over_limit : rules_over_at (desk_with (solder (codes "lead") 1001 ∷ [])) (codes "SOLDER") ≡ Some (Lead ∷ [])
  -- the limit of cadmium is 0.01 percent
  pub cadmium_at_limit : rules_over_at (desk_with (solder (codes "cadmium") 100 ∷ [])) (codes "SOLDER") ≡ Some []
  pub cadmium_over_limit : rules_over_at (desk_with (solder (codes "cadmium") 101 ∷ [])) (codes "SOLDER") ≡ Some (Cadmium ∷ [])
  -- a factor of 0 takes the member out, and affects the materials that list the substance
  pub cleared : member_row (desk_with (oxide_edits ++ clear_factor ∷ [])) (codes "lead-oxide") Lead ≡ None
  pub cleared_share : share_at (desk_with (oxide_edits ++ clear_factor ∷ [])) (codes "OX1") Lead ≡ Some 0
