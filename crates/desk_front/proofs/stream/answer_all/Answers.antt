-- Each request is answered behind the ones before.
use Rattle.std.proofs.Common.{◌∙◌, arith, refl}
use Rattle.desk_front.specs.Service.{service}
use Rattle.desk_front.proofs.Streaming.{goes_nowhere, used_all, used_broken, used_more, used_over}
use Rattle.desk_front.proofs.stream.answer_all.Goals as goal

pub requests-init : goal.requests-init
requests-init g c = record {
  within = omega arith;
  goes = goes_nowhere g.A.Answerer.replies c.args.bytes.now
      (service c.args.answerer.now c.args.waiting.now (g.L.Link.written c.args.link.now) (g.L.Link.faults c.args.link.now));
  input = refl;
}

pub requests-preserved : goal.requests-preserved
requests-preserved g c =
    let old = service c.args.answerer.now c.args.waiting.now (g.L.Link.written c.args.link.now) (g.L.Link.faults c.args.link.now) in
    let mid = service c.requests.answerer c.requests.waiting (g.L.Link.written c.requests.link) (g.L.Link.faults c.requests.link) in
    let new = service c.answer_first.new.answerer c.answer_first.new.waiting (g.L.Link.written c.answer_first.new.link) (g.L.Link.faults c.answer_first.new.link) in
    let more = used_more g.A.Answerer.replies c.args.bytes.now c.split_at.result.1.now c.requests.used old mid new c.requests.invariant.within c.split_at.ensures.back
    c.requests.invariant.goes c.in-Took.count c.in-Took.ensures.begins
    in
    record { within = more.0; goes = more.1; input = c.answer_first.ensures.input_stays ∙ c.requests.invariant.input }

pub returns-in-NotYet-clause-goes : goal.returns-in-NotYet-clause-goes
returns-in-NotYet-clause-goes g c =
    let old = service c.args.answerer.now c.args.waiting.now (g.L.Link.written c.args.link.now) (g.L.Link.faults c.args.link.now) in
    let mid = service c.requests.answerer c.requests.waiting (g.L.Link.written c.requests.link) (g.L.Link.faults c.requests.link) in
    let new = service c.answer_first.new.answerer c.answer_first.new.waiting (g.L.Link.written c.answer_first.new.link) (g.L.Link.faults c.answer_first.new.link) in
    used_all g.A.Answerer.replies c.args.bytes.now c.split_at.result.1.now c.requests.used old mid new c.requests.invariant.within c.split_at.ensures.back
    c.requests.invariant.goes c.in-NotYet.ensures.begins

pub returns-in-Over-clause-goes : goal.returns-in-Over-clause-goes
returns-in-Over-clause-goes g c =
    let old = service c.args.answerer.now c.args.waiting.now (g.L.Link.written c.args.link.now) (g.L.Link.faults c.args.link.now) in
    let mid = service c.requests.answerer c.requests.waiting (g.L.Link.written c.requests.link) (g.L.Link.faults c.requests.link) in
    let new = service c.answer_first.new.answerer c.answer_first.new.waiting (g.L.Link.written c.answer_first.new.link) (g.L.Link.faults c.answer_first.new.link) in
    used_over g.A.Answerer.replies c.args.bytes.now c.split_at.result.1.now c.requests.used old mid new c.requests.invariant.within c.split_at.ensures.back
    c.requests.invariant.goes c.in-Over.ensures.begins

pub returns-in-LinkFault-clause-goes : goal.returns-in-LinkFault-clause-goes
returns-in-LinkFault-clause-goes g c =
    let old = service c.args.answerer.now c.args.waiting.now (g.L.Link.written c.args.link.now) (g.L.Link.faults c.args.link.now) in
    let mid = service c.requests.answerer c.requests.waiting (g.L.Link.written c.requests.link) (g.L.Link.faults c.requests.link) in
    let new = service c.answer_first.new.answerer c.answer_first.new.waiting (g.L.Link.written c.answer_first.new.link) (g.L.Link.faults c.answer_first.new.link) in
    used_broken g.A.Answerer.replies c.args.bytes.now c.split_at.result.1.now c.requests.used old mid new c.requests.invariant.within c.split_at.ensures.back
    c.requests.invariant.goes c.in-LinkFault.ensures.begins
