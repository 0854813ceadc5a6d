-- None is left that has one behind it.
use Rattle.std.proofs.Common.{◌-◌, ◌∙◌, arith, sym}
use Rattle.std.specs.Ordering.{on}
use Rattle.desk_text.specs.Code.{code_cmp}
use Rattle.desk_fields.proofs.Times.{turn_end}
use Rattle.desk_tables.proofs.content.is_each_code_below.Goals as goal

pub returns : goal.returns
returns c = sym (turn_end (on (λ one. one.substance) code_cmp) c.args.held.now (c.loop-place.place - 1) (omega (arith, c.loop-place-test.false, c.loop-place.invariant.0))) ∙ c.loop-place.invariant.1
