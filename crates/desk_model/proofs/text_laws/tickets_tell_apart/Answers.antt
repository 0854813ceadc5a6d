use Rattle.desk_model.proofs.EditsApart.{declared_apart, declares, sent_inside}
use Rattle.desk_model.proofs.text_laws.tickets_tell_apart.Goals as goal

pub returns : goal.returns
returns c = record { sorts = declares; sent = sent_inside; declared = declared_apart }
