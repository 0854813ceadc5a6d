-- What is refused at the front ends the stream.
use Rattle.std.proofs.Common.{refl, subst, sym}
use Rattle.desk_front.specs.Service.{BreaksOff, Sends, service}
use Rattle.desk_front.proofs.Streaming.{refused_broken, refused_over}
use Rattle.desk_front.proofs.stream.answer_first.Goals as goal

pub returns-in-Ok-clause-begins : goal.returns-in-Ok-clause-begins
returns-in-Ok-clause-begins g c =
    let old = service c.args.answerer.now c.args.waiting.now (g.L.Link.written c.args.link.now) (g.L.Link.faults c.args.link.now) in
    let new = service c.args.answerer.now c.say_now.new.waiting (g.L.Link.written c.say_now.new.link) (g.L.Link.faults c.say_now.new.link) in
    refused_over g.A.Answerer.replies c.args.bytes.now old new c.take_request-taken.result c.in-Some.refusal c.take_request-taken.ensures (sym c.in-Some.ensures)
    refl (subst (λ l. Sends old.out l new.out) c.fixed_reply.ensures c.in-Ok.ensures.ok)

pub returns-in-Err-clause-begins : goal.returns-in-Err-clause-begins
returns-in-Err-clause-begins g c =
    let old = service c.args.answerer.now c.args.waiting.now (g.L.Link.written c.args.link.now) (g.L.Link.faults c.args.link.now) in
    let new = service c.args.answerer.now c.say_now.new.waiting (g.L.Link.written c.say_now.new.link) (g.L.Link.faults c.say_now.new.link) in
    refused_broken g.A.Answerer.replies c.args.bytes.now old new c.take_request-taken.result c.in-Some.refusal c.take_request-taken.ensures (sym c.in-Some.ensures)
    refl (subst (λ l. BreaksOff old.out l new.out) c.fixed_reply.ensures c.in-Err.ensures.err)
