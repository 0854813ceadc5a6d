use Rattle.std.proofs.lemmas.Str.{IsUtf8-from_ascii}
use Rattle.desk_text.proofs.word.Word.as_str.Goals as goal

pub from_utf8_unchecked-requires : goal.from_utf8_unchecked-requires
from_utf8_unchecked-requires g c = rw c.as_bytes.ensures.value (IsUtf8-from_ascii c.args.self.now c.as_bytes.ensures.ascii)
