-- The answer on the whole desk: how much is kept, and how each product stands on a day.
use Rattle.std.specs.Prelude.{ℕ, not, List, ◌++◌, codes, length}
use Rattle.std.specs.Fmt.{decimal}
use Rattle.std.specs.List.{flat_map}
use Rattle.desk_text.specs.Day.{Date, date_text}
use Rattle.desk_law.specs.Kind.{kind_code}
use Rattle.desk_model.specs.declared.rows.product.ProductRow.{ProductRow}
use Rattle.desk_model.specs.Lists.{Lists}
use Rattle.desk_findings.specs.Duties.{duties}
use Rattle.desk_scratch.specs.Judgement.{breach_count, reaches_breach}
use Rattle.desk_scratch.specs.SharedLines.{compliance_word, version_line}

-- `day DAY`
unfoldable pub asked_day_line : Date → List ℕ
asked_day_line day = codes "day " ++ date_text day ++ codes "\n"

-- `TABLE N`: how many rows a table has
unfoldable pub count_line : List ℕ → ℕ → List ℕ
count_line table count = table ++ codes " " ++ decimal count ++ codes "\n"

-- how many rows each table has, but for the tickets, which the number of the tables counts
unfoldable pub count_lines : Lists → List ℕ
count_lines t =
    count_line (codes "substances") (length t.substances)
    ++ count_line (codes "members") (length t.members)
    ++ count_line (codes "materials") (length t.materials)
    ++ count_line (codes "parts") (length t.parts)
    ++ count_line (codes "lines") (length t.lines)
    ++ count_line (codes "products") (length t.products)
    ++ count_line (codes "exemptions") (length t.exemptions)
    ++ count_line (codes "candidates") (length t.candidates)
    ++ count_line (codes "shipments") (length t.shipments)

-- `product CODE kind KIND compliant breaches N duties N`, or `not-compliant` where there is a breach
unfoldable pub standing_line : Lists → Date → ProductRow → List ℕ
standing_line t day product =
    codes "product " ++ product.part ++ codes " kind " ++ kind_code product.kind
    ++ codes " " ++ compliance_word (not (reaches_breach t product.kind day product.part))
    ++ codes " breaches " ++ decimal (breach_count t product.kind day product.part)
    ++ codes " duties " ++ decimal (length (duties t product.part day)) ++ codes "\n"

-- the number of the tables, what was asked, how much is kept, and how each product stands, in order of code
unfoldable pub summary_text : Lists → Date → List ℕ
summary_text t day = version_line t ++ asked_day_line day ++ count_lines t ++ flat_map (standing_line t day) t.products
