use Rattle.desk_http.proofs.AnswerLemmas.{request_len, not_yet_len}
use Rattle.desk_http.proofs.laws.request_is_bounded.Goals as goal

pub returns-clause-whole : goal.returns-clause-whole
returns-clause-whole c = request_len

pub returns-clause-not_yet : goal.returns-clause-not_yet
returns-clause-not_yet c = not_yet_len
