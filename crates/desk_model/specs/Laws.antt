-- Laws of the definitions. Each is the contract of a function without a body in `src/laws.rt`, so that the check proves it.
use Rattle.std.specs.Prelude.{◌≡◌, ℕ, List, Some, is_some}
use Rattle.desk_law.specs.declared.rule.Rule.{Rule}
use Rattle.desk_law.specs.Rule.{rule_code, rule_of}
use Rattle.desk_model.specs.Lists.{is_substance, member_row, substance_row}
use Rattle.desk_model.specs.Start.{base_member, base_substance, start}

-- the substances of the start tables are those that have a rule's code, each with its name and CAS number, and each is a member of its
-- own rule
pub record BaseSubstances : Type 0 where
  pub codes : (code : List ℕ) → is_substance start code ≡ is_some (rule_of code)
  pub rows : (rule : Rule) → substance_row start (rule_code rule) ≡ Some (base_substance rule)
  pub members : (rule : Rule) → member_row start (rule_code rule) rule ≡ Some (base_member rule)
