-- The pieces of the line, joined in another order.
use Rattle.std.proofs.Common.{◌≡◌, ◌∙◌, ◌++◌, append_assoc, string_bytes, subst}
use Rattle.std.proofs.lemmas.Result.{on_ok_weaker}
use Rattle.desk_scratch.specs.MaterialBlock.{material_line_with}
use Rattle.desk_scratch.proofs.material_block.push_material_line.Goals as goal

pub returns : goal.returns
unfolding material_line_with
returns c =
    on_ok_weaker c.writeln.result
    (λ e.
    subst (λ facts. string_bytes c.writeln.new.self ≡ string_bytes c.args.out.now ++ material_line_with facts.code facts.supplier facts.number facts.mass) c.facts.view_is
    (e ∙ simp append_assoc))
    c.writeln.ensures.bytes
