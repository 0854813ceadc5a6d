-- The lines one after another, and what the last of them tells.
use Rattle.std.proofs.Common.{◌∙◌, refl}
use Rattle.desk_scratch.specs.CheckText.{check_text}
use Rattle.desk_scratch.proofs.LastLine.{compliant-last}
use Rattle.desk_scratch.proofs.check.check_text.Goals as goal

pub returns-clause-value : goal.returns-clause-value
unfolding check_text
returns-clause-value c =
    c.from.ensures ∙ rw c.into_bytes.ensures.value refl ∙ c.in_ok-push_compliance_line.ensures
    ∙ rw (c.in_ok-breach.ensures.blocks, c.in_ok-breach.ensures.breach, c.in_ok-push_check_line.ensures, c.new-text.ensures.bytes, c.new-by.ensures, c.supplier.ensures, c.number.ensures.value) refl

pub returns-clause-compliant : goal.returns-clause-compliant
returns-clause-compliant c =
    compliant-last c.args.tables.now.lists c.args.asked.now.kind c.args.asked.now.day c.args.declaration.now c.from.result (returns-clause-value c)
