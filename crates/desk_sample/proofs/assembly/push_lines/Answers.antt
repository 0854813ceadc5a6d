use Rattle.std.proofs.Common.{◌+◌, ◌-◌, ◌*◌, ◌%◌, [], ◌∷◌, arith, refl, subst}
use Rattle.desk_model.specs.declared.edit.Edit.TheVariants.{Line}
use Rattle.desk_sample.specs.Codes.{article_code, assembly_code}
use Rattle.desk_sample.specs.Ticketed.{HasGained}
use Rattle.desk_sample.proofs.Gained.{gained_next}
use Rattle.desk_sample.proofs.assembly.push_lines.Goals as goal

pub lines-preserved : goal.lines-preserved
lines-preserved c =
    let j = c.args.number in
    let k = 8 * j - 8 + (c.lines.count + 1) in
    let child = subst (λ child. HasGained (λ t. Line t c.args.code child (1 + k % 4)) c.lines.edits.items c.push_line.new.edits.items) c.numbered.ensures c.in_ok-push_line.ensures in
    let line = subst (λ code. HasGained (λ t. Line t code (article_code k) (1 + k % 4)) c.lines.edits.items c.push_line.new.edits.items) c.requires.code child in
    let next = gained_next c.lines.count (λ k. (λ t. Line t (assembly_code j) (article_code (8 * j - 8 + k)) (1 + (8 * j - 8 + k) % 4)) ∷ []) _ _ _ c.lines.invariant.0 line in
    (next, refl, omega (arith, c.lines-test.true), omega (arith, c.if-before-count.true))
