use Rattle.desk_http.proofs.FrontLemmas.{leads_first, leads_later, leads_onward, leads_stream}
use Rattle.desk_http.proofs.laws.requests_stay_at_the_front.Goals as goal

pub returns-clause-later : goal.returns-clause-later
returns-clause-later c = leads_later

pub returns-clause-onward : goal.returns-clause-onward
returns-clause-onward c = leads_onward

pub returns-clause-stream : goal.returns-clause-stream
returns-clause-stream c = leads_stream

pub returns-clause-first : goal.returns-clause-first
returns-clause-first c = leads_first
