use Rattle.std.proofs.Common.{length}
use Rattle.desk_http.specs.Stream.{HasRequests}
use Rattle.desk_http.proofs.laws.each_stream_has_requests.Given as goal

-- where the rest has requests and an end, the whole has
abbrev pub invariant-loop-more : goal.invariant-loop-more
invariant-loop-more l = HasRequests l.rest → HasRequests l.bytes

abbrev pub decreases-loop-more : goal.decreases-loop-more
decreases-loop-more l = length l.rest
