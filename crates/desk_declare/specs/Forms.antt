-- What a field of a declaration may be: a text of a form, or a whole number of a range.
use Rattle.std.specs.Prelude.{ℕ, ◌^◌, ◌-◌, List, Option}
use Rattle.desk_text.specs.Forms.{a_number}
use Rattle.desk_law.specs.declared.rule.Rule.{Rule}
use Rattle.desk_law.specs.Rule.{rule_of}
use Rattle.desk_model.specs.declared.limits.TheConstants.{MASS_LIMIT}

-- a rule, by its code
unfoldable pub a_rule : List ℕ → Option Rule
a_rule bytes = rule_of bytes

-- the number of a declaration: from 1 on
unfoldable pub a_declaration_number : List ℕ → Option ℕ
a_declaration_number = a_number 1 (2 ^ 64 - 1)

-- the mass of a material in micrograms: from 1 to 10^15
unfoldable pub a_mass : List ℕ → Option ℕ
a_mass = a_number 1 MASS_LIMIT

-- the mass of a substance in micrograms: from 0 to 10^15
unfoldable pub a_substance_mass : List ℕ → Option ℕ
a_substance_mass = a_number 0 MASS_LIMIT
