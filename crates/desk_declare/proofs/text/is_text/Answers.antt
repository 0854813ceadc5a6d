-- Each field of a row of ASCII is text.
use Rattle.desk_declare.proofs.Texts.{ascii_texts}
use Rattle.desk_declare.proofs.text.is_text.Goals as goal

pub returns-then-is_ascii : goal.returns-then-is_ascii
returns-then-is_ascii c = rw (ascii_texts 0 _ _ (rw c.as_slice.ensures at c.if-is_ascii.ensures.cases)) c.if-is_ascii.true
