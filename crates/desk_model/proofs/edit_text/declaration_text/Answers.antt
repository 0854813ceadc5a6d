-- The head, and then the fields of the materials.
use Rattle.std.proofs.Common.{[], ◌∷◌, ◌++◌, ◌∙◌, codes, decimal, length}
use Rattle.std.specs.List.{flat_map}
use Rattle.desk_text.specs.Day.{date_text}
use Rattle.desk_model.specs.EditText.{joined, material_fields, tabbed}
use Rattle.desk_model.proofs.TextFields.{joined_more}
use Rattle.desk_model.proofs.edit_text.declaration_text.Goals as goal

pub returns : goal.returns
returns c =
    let d = c.args.declaration.now in
    let materials = c.materials-materials.ensures.value in
    let head = c.in_ok-text.ensures.ok
    ∙ λ i. joined (codes "declare" ∷ c.supplier-supplier.ensures i ∷ decimal (c.number-number.ensures.value i) ∷ date_text (c.day-day.ensures i) ∷ decimal (length (materials i)) ∷ []) in
    c.in_ok-push_materials.ensures ∙ (λ i. head i ++ tabbed (flat_map material_fields (materials i)))
    ∙ joined_more (codes "declare") (d.supplier ∷ decimal d.number ∷ date_text d.day ∷ decimal (length d.materials) ∷ []) (flat_map material_fields d.materials)
