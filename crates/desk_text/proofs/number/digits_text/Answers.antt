use Rattle.desk_text.proofs.NumberLemmas.{IsUtf8-digits}
use Rattle.desk_text.proofs.number.digits_text.Goals as goal

pub from_utf8_unchecked-requires : goal.from_utf8_unchecked-requires
from_utf8_unchecked-requires c = IsUtf8-digits c.args.digits.now c.requires
