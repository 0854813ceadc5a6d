-- A field is text where it is read as one.
use Rattle.std.proofs.Common.{◌∙◌, sym}
use Rattle.desk_declare.proofs.Texts.{text_test}
use Rattle.desk_declare.proofs.text.is_text_at.Goals as goal

pub returns-in-Some : goal.returns-in-Some
returns-in-Some c = rw (sym c.get.ensures.value, c.in-Some.is) (c.is_ok.ensures.value ∙ text_test _ _ _ _ c.from_utf8.ensures.cases)
