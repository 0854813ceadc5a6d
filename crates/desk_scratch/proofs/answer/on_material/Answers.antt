use Rattle.std.proofs.Common.{◌≤◌, length, sym}
use Rattle.std.proofs.lemmas.List.Elements.{recursion_from_All}
use Rattle.desk_model.specs.declared.limits.TheConstants.{CONTENT_LIMIT}
use Rattle.desk_model.proofs.Kept.{found_each}
use Rattle.desk_tables.proofs.HeldMasses.{few_held}
use Rattle.desk_scratch.proofs.answer.on_material.Goals as goal

pub material_text-requires-clause-few : goal.material_text-requires-clause-few
material_text-requires-clause-few c =
    let t = c.args.tables.now.lists in
    (found_each (λ row. row.code) (λ row. length row.substances ≤ CONTENT_LIMIT) c.args.code t.materials c.in-Some.material.now
    (recursion_from_All (λ row. length row.substances ≤ CONTENT_LIMIT) t.materials (few_held t c.requires.sound.consistent)) (sym c.in-Some.ensures)).0
