use Rattle.desk_sample.proofs.NameForms.{material_name}
use Rattle.desk_sample.proofs.declared.with_material.Goals as goal

pub name-requires : goal.name-requires
name-requires c = material_name
