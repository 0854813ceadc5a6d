use Rattle.desk_http.proofs.StreamLemmas.{over_later}
use Rattle.desk_http.proofs.laws.an_ended_stream_stays_ended.Goals as goal

pub returns : goal.returns
returns c = over_later
