use Rattle.std.proofs.Common.{◌≡◌, ◌≤◌, ℕ, List, Option, Some, None, Bor, length, sym}
use Rattle.std.specs.Prelude.{IfSome, option_copied}
use Rattle.std.proofs.lemmas.List.Elements.{recursion_from_All}
use Rattle.desk_model.specs.declared.limits.TheConstants.{CONTENT_LIMIT}
use Rattle.desk_model.specs.declared.rows.material.MaterialRow.{MaterialRow}
use Rattle.desk_model.specs.Lists.{Lists, material_row}
use Rattle.desk_model.proofs.Kept.{found_each}
use Rattle.desk_history.specs.Sound.{Sound}
use Rattle.desk_tables.proofs.HeldMasses.{few_held}
use Rattle.desk_scratch.proofs.assessment.Assessment.material.Goals as goal

few : (t : Lists) → Sound t → (code : List ℕ) (found : Option (Bor MaterialRow)) → option_copied found ≡ material_row t code → IfSome found (λ row. length row.now.substances ≤ CONTENT_LIMIT)
few t s code None e = tt
few t s code (Some row) e =
    (found_each (λ material. material.code) (λ material. length material.substances ≤ CONTENT_LIMIT) code t.materials row.now
    (recursion_from_All (λ material. length material.substances ≤ CONTENT_LIMIT) t.materials (few_held t s.consistent)) (sym e)).0

pub returns-clause-few : goal.returns-clause-few
returns-clause-few c = few c.self.inside.tables.now.lists c.self.invariant.0 c.args.code.now c.material.result c.material.ensures
