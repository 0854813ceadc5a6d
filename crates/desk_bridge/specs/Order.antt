-- The order in which answers tell findings.
use Rattle.std.specs.Prelude.{◌≡◌, ℕ, List, []}
use Rattle.std.specs.List.Sorted.{IsStrictlySortedBy}
use Rattle.std.specs.Ordering.{nat_cmp, on, then_cmp}
use Rattle.std.specs.declared.cmp.Ordering.{Ordering}
use Rattle.desk_text.specs.Code.{code_cmp}
use Rattle.desk_law.specs.Rule.{rule_number}
use Rattle.desk_model.specs.Lists.{IsOrdered, Lists}
use Rattle.desk_findings.specs.Findings.{Finding, above, findings, is_in, over}
use Rattle.desk_findings.specs.Holders.{holder}

-- 0 for a finding in a material, 1 for one on an article
abbrev pub finding_kind : Finding → ℕ
finding_kind (over material rule) = 0
finding_kind (above article substance) = 1

-- the number of the rule whose limit is passed; 0 where it is that of candidates
abbrev pub finding_rule : Finding → ℕ
finding_rule (over material rule) = rule_number rule
finding_rule (above article substance) = 0

-- the candidate that is above; no code where it is no candidate
abbrev pub finding_candidate : Finding → List ℕ
finding_candidate (over material rule) = []
finding_candidate (above article substance) = substance

-- those in materials stand before those on articles; then they go by the code of the material or the article; and then by the number of
-- the rule, or the code of the candidate
abbrev pub finding_cmp : Finding → Finding → Ordering
finding_cmp = then_cmp (on finding_kind nat_cmp) (then_cmp (on holder code_cmp) (then_cmp (on finding_rule nat_cmp) (on finding_candidate code_cmp)))

-- just the findings of a part, each once and in that order, are the list of its findings that answers tell
abbrev pub FindingsAreOrdered : Type 0
FindingsAreOrdered = (t : Lists) → IsOrdered t → (part : List ℕ) (found : List Finding) → IsStrictlySortedBy finding_cmp found →
    ((finding : Finding) → is_in finding found ≡ is_in finding (findings t part)) → found ≡ findings t part
