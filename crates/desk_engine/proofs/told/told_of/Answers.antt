use Rattle.std.proofs.Common.{arith}
use Rattle.desk_rollup.specs.Numbers.{mark_number}
use Rattle.desk_engine.specs.Answers.{IsNumber}
use Rattle.desk_engine.proofs.Listed.{each_at}
use Rattle.desk_engine.proofs.told.told_of.Goals as goal

pub finding_at-requires-clause-mark : goal.finding_at-requires-clause-mark
finding_at-requires-clause-mark c =
    each_at (λ hop. IsNumber c.args.tables.now.lists c.args.stored.now.bill.labels c.args.stored.now.names (mark_number hop.mark)) c.args.hops.now c.loop-hop.hop-index _ c.requires.marks (omega arith)
