-- The rules: the restricted substances of Annex II to Directive 2011/65/EU, as amended by Delegated Directive (EU) 2015/863.
use Rattle.std.specs.Prelude.{ℕ, Bool, ◌==◌, List, [], ◌∷◌, Option, find, codes}
use Rattle.std.specs.Ordering.{nat_cmp, on}
use Rattle.std.specs.Str.{bytes_eq}
use Rattle.std.specs.declared.cmp.Ordering.{Ordering}
use Rattle.desk_law.specs.declared.rule.Rule.{Rule}
use Rattle.desk_law.specs.declared.rule.Rule.TheVariants.{Lead, Mercury, Cadmium, ChromiumVi, Pbb, Pbde, Dehp, Bbp, Dbp, Dibp}

-- the number of a rule
unfoldable pub rule_number : Rule → ℕ
rule_number Lead = 1
rule_number Mercury = 2
rule_number Cadmium = 3
rule_number ChromiumVi = 4
rule_number Pbb = 5
rule_number Pbde = 6
rule_number Dehp = 7
rule_number Bbp = 8
rule_number Dbp = 9
rule_number Dibp = 10

-- rules are ordered by their numbers
abbrev pub rule_cmp : Rule → Rule → Ordering
rule_cmp = on rule_number nat_cmp

-- the two are the same rule
abbrev pub same_rule : Rule → Rule → Bool
same_rule a b = rule_number a == rule_number b

-- the code of a rule
unfoldable pub rule_code : Rule → List ℕ
rule_code Lead = codes "lead"
rule_code Mercury = codes "mercury"
rule_code Cadmium = codes "cadmium"
rule_code ChromiumVi = codes "chromium-vi"
rule_code Pbb = codes "pbb"
rule_code Pbde = codes "pbde"
rule_code Dehp = codes "dehp"
rule_code Bbp = codes "bbp"
rule_code Dbp = codes "dbp"
rule_code Dibp = codes "dibp"

-- every rule that a text may name, in the order of the numbers
abbrev pub all_rules : List Rule
all_rules =
    Lead ∷ Mercury ∷ Cadmium ∷ ChromiumVi ∷ Pbb ∷ Pbde ∷ Dehp ∷ Bbp ∷ Dbp ∷ Dibp ∷ []

-- the rules by which a material is judged: those that the law has a maximum concentration and first days for
abbrev pub restricting_rules : List Rule
restricting_rules = all_rules

-- the rules of which a desk knows the substance from the start
abbrev pub base_rules : List Rule
base_rules = all_rules

-- the rule that has this code, if one does
unfoldable pub rule_of : List ℕ → Option Rule
rule_of code = find (λ rule. bytes_eq (rule_code rule) code) all_rules
