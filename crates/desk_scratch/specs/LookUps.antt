-- What answers look up, and what they make of a part's findings.
use Rattle.std.specs.Prelude.{◌≡◌, ℕ, Bool, true, false, List, [], ◌++◌, codes, map}
use Rattle.std.specs.Fmt.{decimal}
use Rattle.std.specs.List.{list_any}
use Rattle.std.specs.Option.{option_map_or}
use Rattle.desk_text.specs.Day.{Date, is_not_after}
use Rattle.desk_law.specs.declared.kind.Kind.{Kind}
use Rattle.desk_law.specs.declared.rule.Rule.{Rule}
use Rattle.desk_model.specs.declared.rows.candidate.CandidateRow.{CandidateRow}
use Rattle.desk_model.specs.declared.rows.product.ProductRow.{ProductRow}
use Rattle.desk_model.specs.Lists.{Lists, candidate_row, is_part, material_row}
use Rattle.desk_findings.specs.Above.{is_above, is_candidate}
use Rattle.desk_findings.specs.Articles.{is_article}
use Rattle.desk_findings.specs.Carried.{carried}
use Rattle.desk_findings.specs.Duties.{Duty}
use Rattle.desk_findings.specs.Findings.{Finding, above, findings, is_in, over}
use Rattle.desk_scratch.specs.declared.finding.Finding.{Finding as Told}
use Rattle.desk_scratch.specs.declared.finding.Finding.TheVariants as told
use Rattle.desk_scratch.specs.declared.load.Load.{Load}
use Rattle.desk_scratch.specs.Judgement.{is_breached}
use Rattle.desk_scratch.specs.Part.{carried_by_part}
use Rattle.desk_scratch.specs.Rohs.{over_lines}

-- the finding that a material is over the limit of a rule
abbrev pub finding_over : List ℕ → Rule → Finding
finding_over material rule = over material rule

-- the finding that a candidate is above in an article
abbrev pub finding_above : List ℕ → List ℕ → Finding
finding_above article substance = above article substance

-- a finding as the program has it is this one
abbrev pub finding_of : Told → Finding
finding_of (told.Over material rule) = over material rule
finding_of (told.Above article substance) = above article substance

-- the material or the article that a finding is on
abbrev pub holder_of : Finding → List ℕ
holder_of (over material rule) = material
holder_of (above article substance) = article

-- the code is that of an article, and the substance a candidate that is above in it
pub record IsHeldAbove (t : Lists) (article substance : List ℕ) : Type 0 where
  pub kept : is_part t article ≡ true
  pub is_article : is_article t article ≡ true
  pub above : is_above t article substance ≡ true

-- what a part carries of a candidate
abbrev pub load_of : Lists → List ℕ → CandidateRow → Load
load_of t part candidate = record { substance = candidate.substance; amount = carried t candidate.substance part }

-- what a part carries of each candidate that it carries
abbrev pub loads_of : Lists → List ℕ → List Load
loads_of t part = map (load_of t part) (carried_by_part t part)

-- what the finding says of its article, where it is on one
abbrev pub IsRightlyAbove : Lists → Finding → Type 0
IsRightlyAbove t (over material rule) = Unit {0}
IsRightlyAbove t (above article substance) = IsHeldAbove t article substance

-- `carried SUBSTANCE MASS`
unfoldable pub load_line : Load → List ℕ
load_line load = codes "carried " ++ load.substance ++ codes " " ++ decimal load.amount ++ codes "\n"

-- a finding of the part
pub record IsFound (t : Lists) (part : List ℕ) (finding : Finding) : Type 0 where
  pub there : is_in finding (findings t part) ≡ true
  pub above : IsRightlyAbove t finding

-- what the answer on a product's compliance has on a finding: the lines on a material that is over a limit
unfoldable pub lines_on : Lists → ProductRow → Date → Finding → List ℕ
lines_on t product day (over material rule) = option_map_or (λ row. over_lines t product day row rule) (material_row t material) []
lines_on t product day (above article substance) = []

-- the finding is on a material that breaches the rule
unfoldable pub is_finding_breached : Lists → Kind → Date → Finding → Bool
is_finding_breached t kind day (over material rule) = option_map_or (λ row. is_breached t kind day row rule) (material_row t material) false
is_finding_breached t kind day (above article substance) = false

-- one has to inform of the finding on the day: it is on an article, and the candidate was included by then
unfoldable pub is_finding_due : Lists → Date → Finding → Bool
is_finding_due t day (over material rule) = false
is_finding_due t day (above article substance) = option_map_or (λ candidate. is_not_after candidate.day day) (candidate_row t substance) false

-- the duty that a finding on an article is; one on a material is none
abbrev pub duty_of : Finding → Duty
duty_of (over material rule) = record { article = material; substance = [] }
duty_of (above article substance) = record { article = article; substance = substance }

-- the code is that of a material that holds a candidate
unfoldable pub holds_candidate : Lists → List ℕ → Bool
holds_candidate t code = option_map_or (λ material. list_any (λ one. is_candidate t one.substance) material.substances) (material_row t code) false
