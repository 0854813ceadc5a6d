-- The lines one after another.
use Rattle.std.proofs.Common.{◌∙◌, refl}
use Rattle.desk_scratch.specs.Uses.{uses_text}
use Rattle.desk_scratch.proofs.uses.uses_text.Goals as goal

pub returns : goal.returns
unfolding uses_text
returns g c =
    c.from.ensures ∙ rw c.into_bytes.ensures.value refl ∙ c.in_ok-push_product_lines.ensures
    ∙ rw (c.as_slice-2.ensures.value, c.in_ok-products.ensures, c.in_ok-push_user_lines.ensures, c.as_slice.ensures.value, c.in_ok-lines.ensures, c.in_ok-push_asked_code_line.ensures, c.in_ok-push_version_line.ensures, c.tables.ensures.lists, c.into_string-text.ensures) refl
