use Rattle.desk_totals.proofs.BitMarks.{bit_set_at}
use Rattle.desk_totals.proofs.counts.set_bit.Goals as goal

pub returns-clause-bits : goal.returns-clause-bits
returns-clause-bits c = bit_set_at c.args.bits.now c.args.place c.args.bit c.requires.place c.requires.bit
