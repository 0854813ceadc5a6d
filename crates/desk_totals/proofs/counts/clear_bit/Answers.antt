use Rattle.desk_totals.proofs.BitMarks.{bit_cleared_at}
use Rattle.desk_totals.proofs.counts.clear_bit.Goals as goal

pub returns-clause-bits : goal.returns-clause-bits
returns-clause-bits c = bit_cleared_at c.args.bits.now c.args.place c.args.bit c.requires.place c.requires.bit
