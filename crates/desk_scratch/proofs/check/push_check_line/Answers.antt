-- The pieces of the line, joined in another order.
use Rattle.std.proofs.Common.{◌∙◌, append_assoc}
use Rattle.std.proofs.lemmas.Result.{on_ok_weaker}
use Rattle.desk_scratch.specs.CheckText.{check_line}
use Rattle.desk_scratch.proofs.check.push_check_line.Goals as goal

pub returns : goal.returns
unfolding check_line
returns c = on_ok_weaker c.writeln.result (λ e. e ∙ simp append_assoc) c.writeln.ensures.bytes
