-- What is left to enter into the declaration so far is what was to be entered at first.
use Rattle.std.proofs.Common.{◌≡◌, true}
use Rattle.std.specs.List.{list_all}
use Rattle.std.specs.Vec.Iter.{into_iter_items}
use Rattle.desk_model.specs.Content.{is_content}
use Rattle.desk_fields.specs.Declaring.{materials_entered}
use Rattle.desk_fields.proofs.declaration.enter_materials.Given as goal

abbrev pub invariant-loop-material : goal.invariant-loop-material
invariant-loop-material l =
    (goal.iterator-loop-material).can_next l.material-iterator ×
    (goal.iterator-loop-material).is_finite l.material-iterator ×
    (list_all (λ m. is_content m.mass m.substances m.claims) (into_iter_items l.material-iterator) ≡ true) ×
    (materials_entered (into_iter_items l.material-iterator) l.declaration ≡ materials_entered l.fn.materials.items l.fn.declaration)
