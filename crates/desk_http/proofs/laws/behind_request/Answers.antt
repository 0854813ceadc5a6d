use Rattle.desk_http.specs.Taken.{message_of}
use Rattle.desk_http.proofs.StreamLemmas.{closing_request, no_request}
use Rattle.desk_http.proofs.laws.behind_request.Goals as goal

pub returns-then-request-clause-ends : goal.returns-then-request-clause-ends
returns-then-request-clause-ends c =
    closing_request c.args.bytes.now (message_of c.args.bytes.now c.in-Whole.request) _ c.if-request.true c.in-Whole.ensures.begins

pub returns-in_default : goal.returns-in_default
returns-in_default c = record {
  goes_on = tt;
  ends = no_request c.args.bytes.now c.take_request.result c.in_default.not-Whole c.take_request.ensures;
}
