-- The material's line, and then the rules'.
use Rattle.std.proofs.Common.{◌∙◌, ap, ℕ, List, ◌++◌, append_assoc, string_bytes}
use Rattle.std.proofs.lemmas.Result.{on_ok_weaker}
use Rattle.std.specs.List.{flat_map}
use Rattle.desk_law.specs.Rule.{restricting_rules}
use Rattle.desk_scratch.specs.MaterialBlock.{material_block, material_line_with, rule_line}
use Rattle.desk_scratch.proofs.material_block.push_material_block.Goals as goal

pub returns-clause-block : goal.returns-clause-block
unfolding material_block
returns-clause-block c = on_ok_weaker c.push_rule_lines.result (λ lines material told.
    let rules = flat_map (rule_line c.args.by.now.lists c.args.by.now.kind c.args.by.now.day material) restricting_rules in
    let line = ap (λ f. material_line_with f.code f.supplier f.number f.mass) told in
    lines material told
    ∙ ap (λ (t : List ℕ). t ++ rules) (c.in_ok-push_material_line.ensures ∙ ap (λ (t : List ℕ). string_bytes c.args.out.now ++ t) line)
    ∙ append_assoc (string_bytes c.args.out.now) (material_line_with material.code material.supplier material.number material.mass) rules) c.push_rule_lines.ensures.lines
