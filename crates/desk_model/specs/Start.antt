-- The tables that a desk starts with: the ten restricted substances, each all of it what its rule restricts.
use Rattle.std.specs.Prelude.{ℕ, List, [], ◌∷◌, Option, Some, None, codes, map}
use Rattle.desk_law.specs.declared.rule.Rule.{Rule}
use Rattle.desk_law.specs.declared.rule.Rule.TheVariants.{Lead, Mercury, Cadmium, ChromiumVi, Pbb, Pbde, Dehp, Bbp, Dbp, Dibp}
use Rattle.desk_law.specs.Rule.{rule_code}
use Rattle.desk_model.specs.declared.limits.TheConstants.{WHOLE_FACTOR}
use Rattle.desk_model.specs.declared.rows.substance.SubstanceRow.{SubstanceRow}
use Rattle.desk_model.specs.declared.rows.member.MemberRow.{MemberRow}
use Rattle.desk_model.specs.Lists.{Lists}

-- the rules of which a desk knows the substance from the start, in order of their codes
abbrev pub rules_by_code : List Rule
rules_by_code = Bbp ∷ Cadmium ∷ ChromiumVi ∷ Dbp ∷ Dehp ∷ Dibp ∷ Lead ∷ Mercury ∷ Pbb ∷ Pbde ∷ []

-- the name of the base substance of a rule
abbrev pub base_name : Rule → List ℕ
base_name Lead = codes "Lead"
base_name Mercury = codes "Mercury"
base_name Cadmium = codes "Cadmium"
base_name ChromiumVi = codes "Hexavalent chromium"
base_name Pbb = codes "Polybrominated biphenyls (PBB)"
base_name Pbde = codes "Polybrominated diphenyl ethers (PBDE)"
base_name Dehp = codes "Bis(2-ethylhexyl) phthalate (DEHP)"
base_name Bbp = codes "Butyl benzyl phthalate (BBP)"
base_name Dbp = codes "Dibutyl phthalate (DBP)"
base_name Dibp = codes "Diisobutyl phthalate (DIBP)"

-- the CAS number of the base substance of a rule; groups of substances have none
abbrev pub base_cas : Rule → Option (List ℕ)
base_cas Lead = Some (codes "7439-92-1")
base_cas Mercury = Some (codes "7439-97-6")
base_cas Cadmium = Some (codes "7440-43-9")
base_cas ChromiumVi = Some (codes "18540-29-9")
base_cas Pbb = None
base_cas Pbde = None
base_cas Dehp = Some (codes "117-81-7")
base_cas Bbp = Some (codes "85-68-7")
base_cas Dbp = Some (codes "84-74-2")
base_cas Dibp = Some (codes "84-69-5")

-- the base substance of a rule: it has the rule's code
abbrev pub base_substance : Rule → SubstanceRow
base_substance rule = record { code = rule_code rule; name = base_name rule; cas = base_cas rule }

-- the base substance of a rule is a member of it, and all of its mass counts
abbrev pub base_member : Rule → MemberRow
base_member rule = record { substance = rule_code rule; rule = rule; factor = WHOLE_FACTOR }

-- the tables that a desk starts with: the ten base substances, each a member of its rule, and nothing else
unfoldable pub start : Lists
start = record {
  substances = map base_substance rules_by_code;
  members = map base_member rules_by_code;
  materials = [];
  parts = [];
  lines = [];
  products = [];
  exemptions = [];
  candidates = [];
  shipments = [];
  tickets = [];
}
