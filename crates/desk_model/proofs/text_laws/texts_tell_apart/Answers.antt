use Rattle.desk_model.proofs.EditsApart.{texts_apart}
use Rattle.desk_model.proofs.text_laws.texts_tell_apart.Goals as goal

pub returns : goal.returns
returns c = texts_apart
