-- What a request at the front makes of the stream.
use Rattle.std.proofs.Common.{drop}
use Rattle.desk_http.specs.Taken.{message_of}
use Rattle.desk_http.proofs.AnswerLemmas.{request_len}
use Rattle.desk_front.specs.Service.{service}
use Rattle.desk_front.proofs.Streaming.{one_broken, one_goes, one_over}
use Rattle.desk_front.proofs.stream.answer_whole.Goals as goal

pub returns-in-Ok-clause-begins : goal.returns-in-Ok-clause-begins
returns-in-Ok-clause-begins g c =
    let old = service c.args.answerer.now c.args.waiting.now (g.L.Link.written c.args.link.now) (g.L.Link.faults c.args.link.now) in
    let new = service c.answer_request.new.answerer c.answer_request.new.waiting (g.L.Link.written c.answer_request.new.link) (g.L.Link.faults c.answer_request.new.link) in
    let said = c.in-Ok.ensures.ok in
    one_over g.A.Answerer.replies c.args.bytes.now (drop c.args.request.now.used c.args.bytes.now) old new (message_of c.args.bytes.now c.args.request.now)
    said.0 c.requires.begins c.if-request.true said.1 said.2

pub returns-in-Ok-2-clause-begins : goal.returns-in-Ok-2-clause-begins
returns-in-Ok-2-clause-begins g c =
    let old = service c.args.answerer.now c.args.waiting.now (g.L.Link.written c.args.link.now) (g.L.Link.faults c.args.link.now) in
    let new = service c.answer_request.new.answerer c.answer_request.new.waiting (g.L.Link.written c.answer_request.new.link) (g.L.Link.faults c.answer_request.new.link) in
    let said = c.in-Ok.ensures.ok in (
      (request_len c.args.bytes.now c.args.request.now c.requires).0,
      c.requires.used,
      one_goes g.A.Answerer.replies c.args.bytes.now (drop c.args.request.now.used c.args.bytes.now) old new (message_of c.args.bytes.now c.args.request.now)
          said.0 c.requires.begins c.if-request.false said.1 said.2,
    )

pub returns-in-Err-clause-begins : goal.returns-in-Err-clause-begins
returns-in-Err-clause-begins g c =
    let old = service c.args.answerer.now c.args.waiting.now (g.L.Link.written c.args.link.now) (g.L.Link.faults c.args.link.now) in
    let new = service c.answer_request.new.answerer c.answer_request.new.waiting (g.L.Link.written c.answer_request.new.link) (g.L.Link.faults c.answer_request.new.link) in
    let said = c.in-Err.ensures.err in
    one_broken g.A.Answerer.replies c.args.bytes.now (drop c.args.request.now.used c.args.bytes.now) old new (message_of c.args.bytes.now c.args.request.now)
    said.0 c.requires.begins said.1 said.2
