use Rattle.std.proofs.Common.{sym, subst}
use Rattle.desk_history.specs.Sound.{Sound}
use Rattle.desk_history.proofs.SoundSteps.{Sound-start}
use Rattle.desk_tables.proofs.tables.Tables.start.Goals as goal

pub returns-clause-sound : goal.returns-clause-sound
returns-clause-sound c = subst Sound (sym c.in_ok-tables.ensures) Sound-start
