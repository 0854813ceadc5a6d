use Rattle.desk_http.proofs.StreamLemmas.{shorter, requests_before}
use Rattle.desk_http.proofs.laws.each_stream_has_requests.Goals as goal

pub loop-more-smaller : goal.loop-more-smaller
loop-more-smaller c =
    let next = c.in-Some.ensures.goes_on in shorter c.loop-more.rest.now next.0 c.in-Some.more.now next.2

pub loop-more-preserved : goal.loop-more-preserved
loop-more-preserved c x =
    let next = c.in-Some.ensures.goes_on in
    c.loop-more.invariant (requests_before c.loop-more.rest.now next.0 c.in-Some.more.now next.1 next.2 x)
