use Rattle.desk_http.proofs.AnswerLemmas.{same_answer}
use Rattle.desk_http.proofs.laws.one_answer.Goals as goal

pub returns : goal.returns
returns c = same_answer
