-- The pieces of the code, joined in another order.
use Rattle.std.proofs.Common.{◌∙◌, append_assoc}
use Rattle.desk_model.proofs.edit_text.declaration_code.Goals as goal

pub returns : goal.returns
returns c = c.in_ok-format.ensures.ok ∙ rw (c.supplier-supplier.ensures, c.number-number.ensures.value) (simp append_assoc)
