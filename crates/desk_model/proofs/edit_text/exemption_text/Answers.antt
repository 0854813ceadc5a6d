-- The pieces of the text, joined in another order.
use Rattle.std.proofs.Common.{◌≡◌, List, ℕ, [], ◌∷◌, ◌++◌, ◌∙◌, append_assoc, codes, decimal, string_bytes, subst}
use Rattle.desk_text.specs.Day.{date_text}
use Rattle.desk_law.specs.Annex.{annex_number}
use Rattle.desk_law.specs.KindSet.{kinds_text}
use Rattle.desk_law.specs.Rule.{rule_code}
use Rattle.desk_model.specs.EditText.{exemption_fields, joined}
use Rattle.desk_model.proofs.edit_text.exemption_text.Goals as goal

regroup : (a b c d e f g h i j : List ℕ) → (a ++ (9 ∷ (b ++ (9 ∷ (c ++ (9 ∷ (d ++ (9 ∷ (e ++ (9 ∷ f)))))))))) ++ (9 ∷ (g ++ (9 ∷ (h ++ (9 ∷ (i ++ (9 ∷ j))))))) ≡ joined (a ∷ b ∷ c ∷ d ∷ e ∷ f ∷ g ∷ h ∷ i ∷ j ∷ [])
regroup a b c d e f g h i j = simp append_assoc

pub returns : goal.returns
returns c =
    let terms = c.exemption.inside.terms in
    let application = c.exemption.inside.application in
    subst (λ seen. string_bytes c.in_ok-format.field-0 ≡ joined (codes "exemption" ∷ exemption_fields seen)) c.exemption.view_is
    (c.in_ok-format.ensures.ok
    ∙ λ i. codes "exemption" ++ (9 ∷ regroup terms.row (decimal (annex_number terms.annex)) terms.number (rule_code terms.rule) (kinds_text terms.kinds) (date_text terms.first) (date_text terms.last) (c.in_ok-floor.ensures i) (c.in_ok-cap.ensures i) application i))
