-- The lines to the articles so far went in.
use Rattle.std.proofs.Common.{◌≡◌, ◌+◌, ◌*◌, ◌%◌, ◌≤◌, ◌-◌, [], ◌∷◌}
use Rattle.desk_model.specs.declared.edit.Edit.TheVariants.{Line}
use Rattle.desk_sample.specs.Codes.{article_code, assembly_code}
use Rattle.desk_sample.specs.Sample.{each_to}
use Rattle.desk_sample.specs.Ticketed.{HasGainedAll}
use Rattle.desk_sample.proofs.assembly.push_lines.Given as goal

abbrev pub invariant-lines : goal.invariant-lines
invariant-lines l =
    HasGainedAll (each_to l.count (λ k. (λ t. Line t (assembly_code l.number) (article_code (8 * l.number - 8 + k)) (1 + (8 * l.number - 8 + k) % 4)) ∷ [])) l.fn.edits.items l.edits.items
    × (l.before ≡ 8 * l.number - 8)
    × (l.count ≤ 8)
    × (l.count ≤ l.n - l.before)

abbrev pub decreases-lines : goal.decreases-lines
decreases-lines l = 8 - l.count
