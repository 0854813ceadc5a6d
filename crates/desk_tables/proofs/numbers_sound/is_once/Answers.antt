use Rattle.desk_tables.proofs.Numbering.{counted_once}
use Rattle.desk_tables.proofs.numbers_sound.is_once.Goals as goal

pub returns : goal.returns
returns c = counted_once c.args._tickets.now c.args.counts.now c.args.number c.count_at.result c.requires.len c.requires.counts c.count_at.ensures
