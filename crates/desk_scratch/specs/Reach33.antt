-- The answer on duties to inform: Article 33(1) of Regulation (EC) 1907/2006.
use Rattle.std.specs.Prelude.{ℕ, List, [], ◌++◌, codes, length}
use Rattle.std.specs.Fmt.{decimal}
use Rattle.std.specs.List.{flat_map}
use Rattle.std.specs.Option.{option_map_or}
use Rattle.desk_text.specs.Day.{Date, date_text}
use Rattle.desk_model.specs.Lists.{Lists, candidate_row, substance_row}
use Rattle.desk_findings.specs.Above.{content}
use Rattle.desk_findings.specs.Chain.{chain}
use Rattle.desk_findings.specs.Duties.{Duty, duties}
use Rattle.desk_findings.specs.Mass.{mass}
use Rattle.desk_scratch.specs.SharedLines.{chain_line, name_line, version_line}

-- `part CODE day DAY`
unfoldable pub asked_part_line : List ℕ → Date → List ℕ
asked_part_line part day = codes "part " ++ part ++ codes " day " ++ date_text day ++ codes "\n"

-- the day on which a candidate was included; the substance of a duty is one
abbrev pub included_text : Lists → List ℕ → List ℕ
included_text t substance = option_map_or (λ candidate. date_text candidate.day) (candidate_row t substance) []

-- the name of a kept substance; each candidate of sound tables is one
abbrev pub substance_name : Lists → List ℕ → List ℕ
substance_name t substance = option_map_or (λ row. row.name) (substance_row t substance) []

-- `duty ARTICLE SUBSTANCE mass X of M included DAY`: X of the article's mass M are of the substance
unfoldable pub duty_line : Lists → Duty → List ℕ
duty_line t duty =
    codes "duty " ++ duty.article ++ codes " " ++ duty.substance ++ codes " mass " ++ decimal (content t duty.article duty.substance)
    ++ codes " of " ++ decimal (mass t duty.article) ++ codes " included " ++ included_text t duty.substance ++ codes "\n"

-- the three lines on a duty: of which substance in which article, the substance's name, and the chain from the part to the article
unfoldable pub duty_lines : Lists → List ℕ → Duty → List ℕ
duty_lines t part duty = duty_line t duty ++ name_line (substance_name t duty.substance) ++ chain_line (chain t part duty.article)

-- `duties COUNT`
unfoldable pub duty_count_line : ℕ → List ℕ
duty_count_line count = codes "duties " ++ decimal count ++ codes "\n"

-- the number of the tables, what was asked, the part's duties on the day in order of article and then of substance, and their number
unfoldable pub reach33_text : Lists → List ℕ → Date → List ℕ
reach33_text t part day =
    version_line t
    ++ asked_part_line part day
    ++ flat_map (duty_lines t part) (duties t part day)
    ++ duty_count_line (length (duties t part day))
