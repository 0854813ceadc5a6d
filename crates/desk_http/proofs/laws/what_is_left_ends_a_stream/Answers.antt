use Rattle.desk_http.proofs.FrontLemmas.{ends_open, ends_refused}
use Rattle.desk_http.proofs.laws.what_is_left_ends_a_stream.Goals as goal

pub returns-clause-not_yet : goal.returns-clause-not_yet
returns-clause-not_yet c = ends_open

pub returns-clause-refused : goal.returns-clause-refused
returns-clause-refused c = ends_refused
