use Rattle.std.proofs.Common.{◌^◌}
use Rattle.desk_model.specs.Lists.{material_row}
use Rattle.desk_findings.specs.OwnValues.{content_of_lines}
use Rattle.desk_bridge.specs.Own.{amount_held}
use Rattle.desk_bridge.proofs.HeldAmounts.{line_added, line_fits, lines_added}
use Rattle.desk_bridge.proofs.holdings.held_by.Goals as goal

pub add_line-requires-clause-fits : goal.add_line-requires-clause-fits
add_line-requires-clause-fits c = λ substance.
    line_fits c.args.lists.now c.args.lines.now c.loop-line.line-index c.line-item.result c.loop-line-test.true c.line-item.is substance (2 ^ 128)
    (amount_held c.loop-line.held.rows substance) (content_of_lines (material_row c.args.lists.now) c.args.lines.now substance) (c.loop-line.invariant substance) (c.requires.fits substance)

pub returns : goal.returns
returns c = λ substance.
    lines_added c.args.lists.now c.args.lines.now c.loop-line.line-index substance
    (amount_held c.loop-line.held.rows substance) (content_of_lines (material_row c.args.lists.now) c.args.lines.now substance) c.loop-line-test.false (c.loop-line.invariant substance)

pub loop-line-preserved : goal.loop-line-preserved
loop-line-preserved c = λ substance.
    line_added c.args.lists.now c.args.lines.now c.loop-line.line-index c.line-item.result c.loop-line-test.true c.line-item.is substance
    (amount_held c.loop-line.held.rows substance) (amount_held c.add_line.new.held.rows substance) (content_of_lines (material_row c.args.lists.now) c.args.lines.now substance)
    (c.loop-line.invariant substance) (c.in_ok-add_line.ensures substance)
