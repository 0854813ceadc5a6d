-- The pieces of the line, one behind the other.
use Rattle.std.proofs.Common.{◌∙◌, append_assoc}
use Rattle.std.proofs.lemmas.Result.{on_ok_weaker}
use Rattle.desk_scratch.specs.MaterialBlock.{rule_line_with}
use Rattle.desk_scratch.proofs.material_block.push_judged_line.Goals as goal

pub returns : goal.returns
unfolding rule_line_with
returns c =
    on_ok_weaker c.push_verdict.result
    (λ pushed. pushed
    ∙ rw (c.in_ok-push_number-2.ensures, c.in_ok-push_str-2.ensures.bytes, c.in_ok-push_number.ensures, c.in_ok-push_str.ensures.bytes, c.line_start.ensures)
    (simp append_assoc)) c.push_verdict.ensures
