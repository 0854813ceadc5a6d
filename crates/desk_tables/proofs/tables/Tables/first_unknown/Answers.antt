use Rattle.std.proofs.Common.{rules, ◌≡◌, map, not, sym, ◌∙◌, Some, None, find}
use Rattle.desk_model.specs.Lists.{is_substance}
use Rattle.desk_tables.proofs.Finds.{found_here, passed_here}
use Rattle.desk_tables.proofs.tables.Tables.first_unknown.Goals as goal

pub returns-in-Some : goal.returns-in-Some
returns-in-Some c =
    let t = c.args.self.now.lists in
    let found : find (λ code. not (is_substance t code)) (map (λ held. held.substance) c.material-item.result.substances) ≡ Some c.in-Some.code = search rules in
    sym (found_here (λ code. not (is_substance t code)) (λ material. map (λ held. held.substance) material.substances) c.args.materials.now c.loop-material.material-index c.material-item.result c.in-Some.code c.loop-material-test.true c.material-item.is found)
    ∙ c.loop-material.invariant

pub loop-material-preserved : goal.loop-material-preserved
loop-material-preserved c =
    let t = c.args.self.now.lists in
    let none : find (λ code. not (is_substance t code)) (map (λ held. held.substance) c.material-item.result.substances) ≡ None = search rules in
    sym (passed_here (λ code. not (is_substance t code)) (λ material. map (λ held. held.substance) material.substances) c.args.materials.now c.loop-material.material-index c.material-item.result c.loop-material-test.true c.material-item.is none)
    ∙ c.loop-material.invariant
