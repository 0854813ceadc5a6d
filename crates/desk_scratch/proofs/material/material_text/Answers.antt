-- The lines one after another.
use Rattle.std.proofs.Common.{◌∙◌, refl}
use Rattle.desk_scratch.specs.Material.{material_text}
use Rattle.desk_scratch.proofs.material.material_text.Goals as goal

pub returns : goal.returns
unfolding material_text
returns c =
    c.from-2.ensures ∙ rw c.into_bytes.ensures.value refl ∙ c.in_ok-push_compliance_line.ensures
    ∙ rw (c.in_ok-breach.ensures.block c.args.material.now c.from.ensures, c.in_ok-breach.ensures.breach c.args.material.now c.from.ensures, c.in_ok-push_version_line.ensures, c.into_string-text.ensures, c.new-by.ensures) refl
