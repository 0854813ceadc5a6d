-- The words, and then the numbers.
use Rattle.std.proofs.Common.{◌++◌, ◌==◌, ◌∙◌, ℕ, List, ap, codes, decimal, string_bytes}
use Rattle.desk_law.specs.Kind.{kind_code}
use Rattle.desk_scratch.specs.SharedLines.{compliance_word}
use Rattle.desk_scratch.proofs.Lines.{five_behind}
use Rattle.desk_scratch.proofs.summary.push_standing_line.Goals as goal

pub returns : goal.returns
returns c =
    let product = c.args.product.now in
    let words = λ (word : List ℕ). codes "product " ++ product.part ++ codes " kind " ++ kind_code product.kind ++ codes " " ++ word in
    let numbers = codes " breaches " ++ decimal c.args.breaches ++ codes " duties " ++ decimal c.args.duties ++ codes "\n" in
    let old = string_bytes c.args.out.now in
    c.in_ok-push_numbers.ensures
    ∙ ap (λ (l : List ℕ). l ++ numbers) (c.in_ok-push_product_words.ensures ∙ ap (λ (word : List ℕ). old ++ words word) c.compliance_word.ensures)
    ∙ five_behind old (words (compliance_word (c.args.breaches == 0))) (codes " breaches ") (decimal c.args.breaches) (codes " duties ") (decimal c.args.duties) (codes "\n")
