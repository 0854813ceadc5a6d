-- What waited is written, and what was used is taken out.
use Rattle.std.proofs.Common.{refl, subst, sym, drop}
use Rattle.desk_http.specs.Rest.{IsNotYet}
use Rattle.desk_front.specs.Service.{GoesOn, IsBroken, service}
use Rattle.desk_front.proofs.Streaming.{goes_flushed, goes_unflushed, over_unflushed}
use Rattle.desk_front.proofs.stream.answer_held.Goals as goal

pub returns-in-Ok-clause-goes : goal.returns-in-Ok-clause-goes
returns-in-Ok-clause-goes g c =
    let old = service c.args.answerer.now c.args.waiting.now (g.L.Link.written c.args.link.now) (g.L.Link.faults c.args.link.now) in
    let mid = service c.answer_all.new.answerer c.answer_all.new.waiting (g.L.Link.written c.answer_all.new.link) (g.L.Link.faults c.answer_all.new.link) in
    let new = service c.answer_all.new.answerer c.flush.new.waiting (g.L.Link.written c.flush.new.link) (g.L.Link.faults c.flush.new.link) in
    let goes = c.in-Open.ensures.goes in (
      subst (λ l. IsNotYet l) (sym c.drop_front.ensures) (subst (λ l. IsNotYet (drop c.in-Open.used l)) c.as_slice.ensures goes.1),
      c.in-Ok.ensures.empty,
      subst (GoesOn g.A.Answerer.replies c.args.held.now old new) (sym c.drop_front.ensures)
          (subst (λ l. GoesOn g.A.Answerer.replies l old new (drop c.in-Open.used l)) c.as_slice.ensures
          (goes_flushed g.A.Answerer.replies c.as_slice.result.now (drop c.in-Open.used c.as_slice.result.now) old mid new goes.2 refl c.in-Ok.ensures.ok)),
    )

pub returns-in-Err-clause-goes : goal.returns-in-Err-clause-goes
returns-in-Err-clause-goes g c =
    let old = service c.args.answerer.now c.args.waiting.now (g.L.Link.written c.args.link.now) (g.L.Link.faults c.args.link.now) in
    let mid = service c.answer_all.new.answerer c.answer_all.new.waiting (g.L.Link.written c.answer_all.new.link) (g.L.Link.faults c.answer_all.new.link) in
    let new = service c.answer_all.new.answerer c.flush.new.waiting (g.L.Link.written c.flush.new.link) (g.L.Link.faults c.flush.new.link) in
    subst (λ l. IsBroken g.A.Answerer.replies l old new) c.as_slice.ensures
    (goes_unflushed g.A.Answerer.replies c.as_slice.result.now (drop c.in-Open.used c.as_slice.result.now) old mid new c.in-Open.ensures.goes.2 refl c.in-Err.ensures.err)

pub returns-in-Err-flush-clause-goes : goal.returns-in-Err-flush-clause-goes
returns-in-Err-flush-clause-goes g c =
    let old = service c.args.answerer.now c.args.waiting.now (g.L.Link.written c.args.link.now) (g.L.Link.faults c.args.link.now) in
    let mid = service c.answer_all.new.answerer c.answer_all.new.waiting (g.L.Link.written c.answer_all.new.link) (g.L.Link.faults c.answer_all.new.link) in
    let new = service c.answer_all.new.answerer c.flush-in-Over.new.waiting (g.L.Link.written c.flush-in-Over.new.link) (g.L.Link.faults c.flush-in-Over.new.link) in
    subst (λ l. IsBroken g.A.Answerer.replies l old new) c.as_slice.ensures
    (over_unflushed g.A.Answerer.replies c.as_slice.result.now old mid new c.in-Over.ensures.goes refl c.in-Err-flush.ensures.err)
