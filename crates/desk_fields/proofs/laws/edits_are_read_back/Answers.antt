use Rattle.std.proofs.Common.{sym, ◌∙◌}
use Rattle.desk_model.proofs.EditsApart.{texts_apart}
use Rattle.desk_fields.proofs.laws.edits_are_read_back.Goals as goal

pub returns : goal.returns
returns c = λ code text a b first second. texts_apart a b first.0 second.0 (sym first.1 ∙ second.1) (sym first.2 ∙ second.2)
