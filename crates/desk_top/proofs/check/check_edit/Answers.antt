-- The text over the start tables is the one over the tables after the declaration.
use Rattle.std.proofs.Common.{◌∙◌, sym}
use Rattle.desk_top.proofs.Tables.{text_told}
use Rattle.desk_top.proofs.check.check_edit.Goals as goal

pub returns : goal.returns
returns c = record {
  answer = λ d is. text_told c.args.check.now _ _ d _ _ c.in_ok-tables.ensures.lists c.in-Declare.is is (sym c.in-None.is ∙ c.refused_at_start.ensures) c.in_ok-check_text-in-None.ensures.value;
}
