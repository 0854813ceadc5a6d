-- The answer on a part: what is kept of it, what it weighs and what it carries.
use Rattle.std.specs.Prelude.{ℕ, not, ◌==◌, List, [], ◌++◌, codes, filter}
use Rattle.std.specs.Fmt.{decimal}
use Rattle.std.specs.List.{flat_map}
use Rattle.std.specs.Option.{option_map_or}
use Rattle.desk_law.specs.Kind.{kind_code}
use Rattle.desk_model.specs.declared.rows.candidate.CandidateRow.{CandidateRow}
use Rattle.desk_model.specs.declared.rows.line.LineRow.{LineRow}
use Rattle.desk_model.specs.declared.rows.part.PartRow.{PartRow}
use Rattle.desk_model.specs.declared.rows.product.ProductRow.{ProductRow}
use Rattle.desk_model.specs.EditText.{sort_word}
use Rattle.desk_model.specs.Lists.{Lists, product_row}
use Rattle.desk_findings.specs.Carried.{carried}
use Rattle.desk_findings.specs.Mass.{mass}
use Rattle.desk_findings.specs.Reaches.{lines_of}
use Rattle.desk_scratch.specs.SharedLines.{name_line, version_line}

-- `part CODE article mass MASS` or `part CODE assembly mass MASS`
unfoldable pub part_line : Lists → PartRow → List ℕ
part_line t part = codes "part " ++ part.code ++ codes " " ++ sort_word part.sort ++ codes " mass " ++ decimal (mass t part.code) ++ codes "\n"

-- `product kind KIND`
unfoldable pub kind_line : ProductRow → List ℕ
kind_line product = codes "product kind " ++ kind_code product.kind ++ codes "\n"

-- `line CHILD COUNT`
unfoldable pub child_line : LineRow → List ℕ
child_line line = codes "line " ++ line.child ++ codes " " ++ decimal line.count ++ codes "\n"

-- the candidates that the part carries; nothing else is carried
abbrev pub carried_by_part : Lists → List ℕ → List CandidateRow
carried_by_part t part = filter (λ candidate. not (carried t candidate.substance part == 0)) t.candidates

-- `carried SUBSTANCE MASS`
unfoldable pub carried_line : Lists → List ℕ → CandidateRow → List ℕ
carried_line t part candidate = codes "carried " ++ candidate.substance ++ codes " " ++ decimal (carried t candidate.substance part) ++ codes "\n"

-- the number of the tables, the part with its name, its kind where it is a product, its lines in order of child, and what it
-- carries in order of substance
unfoldable pub part_text : Lists → PartRow → List ℕ
part_text t part =
    version_line t
    ++ part_line t part
    ++ name_line part.name
    ++ option_map_or kind_line (product_row t part.code) []
    ++ flat_map child_line (lines_of t.lines part.code)
    ++ flat_map (carried_line t part.code) (carried_by_part t part.code)
