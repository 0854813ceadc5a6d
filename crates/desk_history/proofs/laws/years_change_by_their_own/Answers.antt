use Rattle.desk_history.proofs.Years.{shipped, taken_off, year_stays}
use Rattle.desk_history.proofs.laws.years_change_by_their_own.Goals as goal

pub returns : goal.returns
returns c = record { shipped = shipped; taken_off = taken_off; stays = year_stays }
