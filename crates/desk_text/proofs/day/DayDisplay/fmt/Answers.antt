use Rattle.desk_text.proofs.DayLemmas.{IsUtf8-date_text}
use Rattle.desk_text.proofs.day.DayDisplay.fmt.Goals as goal

pub from_utf8_unchecked-requires : goal.from_utf8_unchecked-requires
from_utf8_unchecked-requires g c = rw c.to_text-text.ensures.value (IsUtf8-date_text c.args.self.now)
