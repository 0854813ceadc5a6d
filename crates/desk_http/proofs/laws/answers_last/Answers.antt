use Rattle.desk_http.proofs.LaterLemmas.{answer_later}
use Rattle.desk_http.proofs.laws.answers_last.Goals as goal

pub returns : goal.returns
returns c = answer_later
