-- Short spellings for the examples' edits, and small desks.
use Rattle.std.specs.Prelude.{ℕ, List, [], ◌∷◌}
use Rattle.desk_text.specs.Day.{Date}
use Rattle.desk_model.specs.declared.edit.Edit.{Edit}
use Rattle.desk_model.specs.declared.edit.Edit.TheVariants.{Declare, Part}
use Rattle.desk_model.specs.declared.material_decl.MaterialDecl.{MaterialDecl}
use Rattle.desk_model.specs.declared.part_sort.PartSort.TheVariants.{Article, Assembly}
use Rattle.desk_model.specs.declared.substance_mass.SubstanceMass.{SubstanceMass}
use Rattle.desk_model.specs.Effect.{with_edit_entered}
use Rattle.desk_model.specs.Lists.{Lists}
use Rattle.desk_model.specs.Start.{start}

abbrev pub date : ℕ → ℕ → ℕ → Date
date year month day = record { year = year; month = month; day = day }

abbrev pub holds : List ℕ → ℕ → SubstanceMass
holds substance mass = record { substance = substance; mass = mass }

abbrev pub material : List ℕ → ℕ → List SubstanceMass → MaterialDecl
material code mass held = record { code = code; name = code; mass = mass; substances = held; claims = [] }

abbrev pub declares : List ℕ → ℕ → List MaterialDecl → Edit
declares supplier number materials =
    Declare (record { supplier = supplier; number = number; day = date 2024 1 23; materials = materials })

abbrev pub article : List ℕ → List ℕ → Edit
article ticket code = Part ticket code Article code

abbrev pub assembly : List ℕ → List ℕ → Edit
assembly ticket code = Part ticket code Assembly code

-- the tables with these edits made, one after another
abbrev pub all_entered : Lists → List Edit → Lists
all_entered t [] = t
all_entered t (edit ∷ edits) = all_entered (with_edit_entered t edit) edits

-- the start tables with these edits made, whether or not a rule would refuse them
abbrev pub desk_with : List Edit → Lists
desk_with edits = all_entered start edits
