-- The head, and then the substances and the claims.
use Rattle.std.proofs.Common.{List, ℕ, [], ◌∷◌, ◌++◌, ◌∙◌, ap, decimal}
use Rattle.desk_text.specs.Day.{date_text}
use Rattle.desk_model.specs.EditText.{claim_fields, substance_fields, tabbed}
use Rattle.desk_model.proofs.TextFields.{joined_more}
use Rattle.desk_model.specs.RowTexts.{version}
use Rattle.desk_model.proofs.rows.material.text_of.Goals as goal

pub returns : goal.returns
returns c =
    let row = c.args.row.now in
    let head : List (List ℕ) = row.supplier ∷ decimal row.number ∷ date_text row.day ∷ row.name ∷ decimal row.mass ∷ [] in
    c.in_ok-push_claims.ensures
    ∙ (λ i. c.in_ok-push_substances.ensures i ++ tabbed (claim_fields (c.as_slice-2.ensures i)))
    ∙ (λ i. (c.in_ok-text.ensures.ok i ++ tabbed (substance_fields (c.as_slice.ensures i))) ++ tabbed (claim_fields row.claims))
    ∙ ap (λ (text : List ℕ). text ++ tabbed (claim_fields row.claims)) (joined_more version head (substance_fields row.substances))
    ∙ joined_more version (head ++ substance_fields row.substances) (claim_fields row.claims)
