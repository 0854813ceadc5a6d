use Rattle.std.proofs.Common.{arith}
use Rattle.desk_graph.proofs.Lists.{entered_here, entered_later, has_line-at}
use Rattle.desk_graph.proofs.line_list.place_of_new.Goals as goal

pub stands_before-requires-clause-other : goal.stands_before-requires-clause-other
stands_before-requires-clause-other c = c.requires.kept _ (has_line-at c.args.lines.now c.loop-place.place (record { node = 0; count = 0 }) (omega arith))

pub returns-then-stands_before-clause-place : goal.returns-then-stands_before-clause-place
returns-then-stands_before-clause-place c = λ count. entered_here c.args.labels.now _ c.args.lines.now c.loop-place.place (record { node = 0; count = 0 }) (omega arith) (cc) (c.loop-place.invariant count)

pub loop-place-preserved : goal.loop-place-preserved
loop-place-preserved c = λ count. entered_later c.args.labels.now _ c.args.lines.now c.loop-place.place (record { node = 0; count = 0 }) (omega arith) (cc) (c.loop-place.invariant count)
