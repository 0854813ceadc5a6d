-- The pieces of the line, joined in another order.
use Rattle.std.proofs.Common.{◌++◌, ◌∙◌, ℕ, List, ap, append_assoc, codes, decimal, refl, string_bytes}
use Rattle.desk_findings.specs.Above.{content}
use Rattle.desk_findings.specs.Mass.{mass}
use Rattle.desk_scratch.specs.Reach33.{duty_line, included_text}
use Rattle.desk_scratch.proofs.reach33.push_duty_line.Goals as goal

pub returns : goal.returns
unfolding duty_line
returns g c =
    let t = (g.S.AnswerSource.lists c.args.source.now) in
    let article = c.args.article.now in
    let substance = c.args.substance.now in
    let old = string_bytes c.args.out.now in
    let words =
    codes "duty " ++ article ++ codes " " ++ substance ++ codes " mass " ++ decimal (content t article substance) ++ codes " of " ++ decimal (mass t article) ++ codes " included " in
    c.in_ok-push_str.ensures.bytes
    ∙ ap (λ (l : List ℕ). l ++ codes "\n")
    (c.in_ok-push_inclusion.ensures
    ∙ rw (c.candidate.ensures, c.tables.ensures.lists, c.in_ok-push_duty_words.ensures, c.content.ensures, c.mass.ensures) refl
    ∙ append_assoc old words (included_text t substance))
    ∙ append_assoc old (words ++ included_text t substance) (codes "\n")
