use Rattle.std.proofs.Common.{◌∙◌, ◌<◌, ◌≤◌, ◌^◌, ℕ, List, Some, ap, sym, subst, length, map}
use Rattle.std.specs.List.{All}
use Rattle.desk_model.specs.declared.limits.TheConstants.{CONTENT_LIMIT}
use Rattle.desk_findings.specs.Above.{content}
use Rattle.desk_findings.specs.Mass.{mass}
use Rattle.desk_tables.proofs.HeldMasses.{contents_fit, few_held, masses_fit}
use Rattle.desk_tables.proofs.table_lists.TableLists.own_counts.Goals as goal

pub material_counts-requires-clause-few : goal.material_counts-requires-clause-few
material_counts-requires-clause-few c =
    subst (All (λ material. length material.substances ≤ CONTENT_LIMIT)) (sym c.materials.ensures) (few_held c.args.self.now c.requires.consistent)

pub part_counts-requires-clause-fits : goal.part_counts-requires-clause-fits
part_counts-requires-clause-fits c =
    subst (All (λ part. (substance : List ℕ) → content c.args.self.now part.code substance < 2 ^ 128)) (sym c.parts.ensures)
    (contents_fit c.args.self.now c.requires.consistent c.requires.light)

pub part_counts-requires-clause-masses : goal.part_counts-requires-clause-masses
part_counts-requires-clause-masses c =
    c.requires.masses ∙ masses_fit c.args.self.now c.requires.consistent c.requires.light
    ∙ ap (map (λ part. Some (mass c.args.self.now part.code))) (sym c.parts.ensures)
