-- How many stored values an answer on compliance looks up.
use Rattle.std.specs.Prelude.{◌≡◌, ℕ, ◌+◌, ◌-◌, List, Some, length, sum_by, if◌then◌else◌}
use Rattle.desk_text.specs.Day.{Date}
use Rattle.desk_model.specs.declared.rows.product.ProductRow.{ProductRow}
use Rattle.desk_model.specs.Lists.{Lists, product_row}
use Rattle.desk_findings.specs.Chain.{chain}
use Rattle.desk_findings.specs.Findings.{Finding, findings}
use Rattle.desk_scratch.specs.declared.question.Question.{Question}
use Rattle.desk_scratch.specs.declared.question.Question.TheVariants.{Material, Rohs, Reach33, Reach7, Part, Uses, Summary, Version}
use Rattle.desk_scratch.specs.LookUps.{holder_of, is_finding_breached}

-- how many lines of the bill a chain goes down
abbrev pub chain_line_count : List (List ℕ) → ℕ
chain_line_count chain = length chain - 1

-- the lines of the chain that the answer on a product's compliance prints on a finding: the chain to the material, where that is a breach
unfoldable pub printed_lines : Lists → ProductRow → Date → Finding → ℕ
printed_lines t product day finding =
    if is_finding_breached t product.kind day finding then chain_line_count (chain t product.part (holder_of finding)) else 0

-- the steps of the answer on a product's compliance: one for the product, and one for each line of the chains that it prints
abbrev pub rohs_steps : Lists → ProductRow → Date → ℕ
rohs_steps t product day = 1 + sum_by (printed_lines t product day) (findings t product.part)

-- the answer on a product's compliance took these steps; of other questions nothing is said
abbrev pub HasStepped : Lists → Question → ℕ → ℕ → Type 0
HasStepped t (Rohs code day) before after =
    (product : ProductRow) → product_row t code ≡ Some product → after ≡ before + rohs_steps t product day
HasStepped t (Material code kind day) before after = Unit {0}
HasStepped t (Reach33 code day) before after = Unit {0}
HasStepped t (Reach7 year day) before after = Unit {0}
HasStepped t (Part code) before after = Unit {0}
HasStepped t (Uses code) before after = Unit {0}
HasStepped t (Summary day) before after = Unit {0}
HasStepped t Version before after = Unit {0}
