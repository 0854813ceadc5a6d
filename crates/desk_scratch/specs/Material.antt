-- The answer on a material: what was declared of it, and its verdicts.
use Rattle.std.specs.Prelude.{ℕ, not, List, ◌++◌}
use Rattle.desk_text.specs.Day.{Date}
use Rattle.desk_law.specs.declared.kind.Kind.{Kind}
use Rattle.desk_model.specs.declared.rows.material.MaterialRow.{MaterialRow}
use Rattle.desk_model.specs.Lists.{Lists}
use Rattle.desk_scratch.specs.Judgement.{has_breach}
use Rattle.desk_scratch.specs.MaterialBlock.{material_block}
use Rattle.desk_scratch.specs.SharedLines.{compliance_line, version_line}

-- the number of the tables, the material's block, and whether it breaches no rule
unfoldable pub material_text : Lists → Kind → Date → MaterialRow → List ℕ
material_text t kind day material =
    version_line t ++ material_block t kind day material ++ compliance_line (not (has_breach t kind day material))
