-- The answer on notifications: Article 7(2) and 7(7) of Regulation (EC) 1907/2006.
use Rattle.std.specs.Prelude.{ℕ, List, ◌++◌, Option, None, Some, codes, length}
use Rattle.std.specs.Fmt.{decimal}
use Rattle.std.specs.List.{flat_map}
use Rattle.desk_text.specs.Day.{Date, date_text}
use Rattle.desk_model.specs.declared.rows.candidate.CandidateRow.{CandidateRow}
use Rattle.desk_model.specs.Lists.{Lists}
use Rattle.desk_findings.specs.Tonnage.{due_day, notices, tonnage}
use Rattle.desk_scratch.specs.SharedLines.{version_line}

-- `year YEAR day DAY`
unfoldable pub asked_year_line : ℕ → Date → List ℕ
asked_year_line year day = codes "year " ++ decimal year ++ codes " day " ++ date_text day ++ codes "\n"

-- the day on which a notice is due: `none` where that is past the last day that the desk takes
abbrev pub due_text : Option Date → List ℕ
due_text None = codes "none"
due_text (Some day) = date_text day

-- `notice SUBSTANCE tonnage T included DAY due DAY`
unfoldable pub notice_line : Lists → ℕ → CandidateRow → List ℕ
notice_line t year candidate =
    codes "notice " ++ candidate.substance ++ codes " tonnage " ++ decimal (tonnage t year candidate.substance)
    ++ codes " included " ++ date_text candidate.day ++ codes " due " ++ due_text (due_day candidate.day) ++ codes "\n"

-- `notices COUNT`
unfoldable pub notice_count_line : ℕ → List ℕ
notice_count_line count = codes "notices " ++ decimal count ++ codes "\n"

-- the number of the tables, what was asked, the notices of the year on the day in order of substance, and their number
unfoldable pub reach7_text : Lists → ℕ → Date → List ℕ
reach7_text t year day =
    version_line t
    ++ asked_year_line year day
    ++ flat_map (notice_line t year) (notices t year day)
    ++ notice_count_line (length (notices t year day))
