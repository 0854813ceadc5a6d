-- The answer on uses: which lines lead to a material or a part, and which products hold it.
use Rattle.std.specs.Prelude.{ℕ, List, ◌++◌, codes, filter}
use Rattle.std.specs.Fmt.{decimal}
use Rattle.std.specs.List.{flat_map}
use Rattle.desk_text.specs.Code.{same_code}
use Rattle.desk_law.specs.Kind.{kind_code}
use Rattle.desk_model.specs.declared.rows.line.LineRow.{LineRow}
use Rattle.desk_model.specs.declared.rows.product.ProductRow.{ProductRow}
use Rattle.desk_model.specs.Lists.{Lists}
use Rattle.desk_findings.specs.Reaches.{is_or_reaches}
use Rattle.desk_scratch.specs.SharedLines.{version_line}

-- `uses CODE`
unfoldable pub asked_code_line : List ℕ → List ℕ
asked_code_line code = codes "uses " ++ code ++ codes "\n"

-- the lines that lead to a code, in order of parent
abbrev pub lines_to : Lists → List ℕ → List LineRow
lines_to t code = filter (λ line. same_code line.child code) t.lines

-- `user PARENT COUNT`
unfoldable pub user_line : LineRow → List ℕ
user_line line = codes "user " ++ line.parent ++ codes " " ++ decimal line.count ++ codes "\n"

-- the products that reach a code, or are it, in order of code
abbrev pub products_with : Lists → List ℕ → List ProductRow
products_with t code = filter (λ product. is_or_reaches t product.part code) t.products

-- `product CODE kind KIND`
unfoldable pub product_line : ProductRow → List ℕ
product_line product = codes "product " ++ product.part ++ codes " kind " ++ kind_code product.kind ++ codes "\n"

-- the number of the tables, what was asked, each line that leads to it, and each product that holds it or is it
unfoldable pub uses_text : Lists → List ℕ → List ℕ
uses_text t code =
    version_line t
    ++ asked_code_line code
    ++ flat_map user_line (lines_to t code)
    ++ flat_map product_line (products_with t code)
