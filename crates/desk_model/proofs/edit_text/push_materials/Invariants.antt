-- What was appended so far are the fields of the first materials.
use Rattle.std.proofs.Common.{◌≡◌, ◌++◌, string_bytes, take}
use Rattle.std.specs.List.{flat_map}
use Rattle.desk_model.specs.EditText.{material_fields, tabbed}
use Rattle.desk_model.proofs.edit_text.push_materials.Given as goal

abbrev pub invariant-loop-material : goal.invariant-loop-material
invariant-loop-material l = string_bytes l.text ≡ string_bytes l.fn.text ++ tabbed (flat_map material_fields (take l.material-index l.materials))
