use Rattle.std.proofs.Common.{sym, ap, ◌∙◌}
use Rattle.desk_text.specs.Day.{is_day}
use Rattle.desk_text.proofs.DayTextLemmas.{day_of-date_text}
use Rattle.desk_text.proofs.day.Day.to_text.Goals as goal

pub returns-clause-reads_back : goal.returns-clause-reads_back
returns-clause-reads_back c = day_of-date_text c.args.self (ap is_day (sym c.self.view_is) ∙ c.self.invariant)
