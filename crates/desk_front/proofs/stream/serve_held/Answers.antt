-- Each read is answered before the next.
use Rattle.std.proofs.Common.{[], refl, ◌≤◌, arith, subst, sym, ap, ◌-◌}
use Rattle.desk_front.specs.Served.{stream_limit}
use Rattle.desk_front.specs.Service.{service}
use Rattle.desk_front.specs.declared.served.Served.TheVariants as served
use Rattle.desk_front.proofs.Serving.{Reading, Answered, held_len, read_broken, read_end, read_failed, read_on, read_over, read_too_long, reading_nothing, same_service}
use Rattle.desk_front.proofs.stream.serve_held.Goals as goal

pub read_from-requires-clause-some : goal.read_from-requires-clause-some
read_from-requires-clause-some g c =
    omega (arith, c.min-most.ensures, c.room.ensures, c.reads-test.true, held_len c.reads.held c.reads.invariant.ends)

pub read_from-requires-clause-room : goal.read_from-requires-clause-room
read_from-requires-clause-room g c =
    omega (arith, c.min-most.ensures, c.room.ensures, held_len c.reads.held c.reads.invariant.ends)

pub reads-init : goal.reads-init
reads-init g c =
    let old = service c.args.answerer.now [] (g.L.Link.written c.args.link.now) (g.L.Link.faults c.args.link.now) in
    let new = service c.args.answerer.now c.start-waiting.result (g.L.Link.written c.args.link.now) (g.L.Link.faults c.args.link.now) in
    let same = ap (λ waiting. service c.args.answerer.now waiting (g.L.Link.written c.args.link.now) (g.L.Link.faults c.args.link.now)) c.start-waiting.ensures in
    subst (λ held. Reading g.A.Answerer.replies stream_limit (g.L.Link.unread c.args.link.now) (g.L.Link.unread c.args.link.now) old new held) (sym c.requires)
    (subst (λ s. Reading g.A.Answerer.replies stream_limit (g.L.Link.unread c.args.link.now) (g.L.Link.unread c.args.link.now) old s []) (sym same)
    (reading_nothing g.A.Answerer.replies (g.L.Link.unread c.args.link.now) old refl))

pub returns-in-Err-clause-served : goal.returns-in-Err-clause-served
returns-in-Err-clause-served g c =
    let R = g.A.Answerer.replies in
    let unread = g.L.Link.unread c.args.link.now in
    let before = g.L.Link.unread c.reads.link in
    let now = g.L.Link.unread c.read_from.new.link in
    let old = service c.args.answerer.now [] (g.L.Link.written c.args.link.now) (g.L.Link.faults c.args.link.now) in
    let asked = service c.reads.answerer c.reads.waiting (g.L.Link.written c.reads.link) (g.L.Link.faults c.reads.link) in
    let mid = service c.reads.answerer c.reads.waiting (g.L.Link.written c.read_from.new.link) (g.L.Link.faults c.read_from.new.link) in
    read_failed R c.reads.left unread before now old asked mid c.reads.held refl c.reads.invariant c.in-Err.ensures.err.1 refl c.read_from.ensures.output_stays

pub returns-then-count-eq0-clause-served : goal.returns-then-count-eq0-clause-served
returns-then-count-eq0-clause-served g c =
    let R = g.A.Answerer.replies in
    let unread = g.L.Link.unread c.args.link.now in
    let before = g.L.Link.unread c.reads.link in
    let now = g.L.Link.unread c.read_from.new.link in
    let old = service c.args.answerer.now [] (g.L.Link.written c.args.link.now) (g.L.Link.faults c.args.link.now) in
    let asked = service c.reads.answerer c.reads.waiting (g.L.Link.written c.reads.link) (g.L.Link.faults c.reads.link) in
    let mid = service c.reads.answerer c.reads.waiting (g.L.Link.written c.read_from.new.link) (g.L.Link.faults c.read_from.new.link) in
    let same = same_service c.reads.answerer c.reads.waiting (g.L.Link.written c.reads.link) (g.L.Link.written c.read_from.new.link) (g.L.Link.faults c.reads.link) (g.L.Link.faults c.read_from.new.link)
    c.read_from.ensures.output_stays (c.in-Ok.ensures.faults.steady (λ failed. cc))
    in
    let x = subst (λ s. Reading R c.reads.left unread before old s c.reads.held) same c.reads.invariant in
    let within : c.min-most.result ≤ c.reads.left = omega (arith, c.min-most.ensures) in
    subst (λ how. Answered R unread now old mid how) (sym c.end_of.ensures)
    (read_end R c.reads.left c.min-most.result c.in-Ok.count unread before now old mid c.reads.held c.read_from.new.self refl x c.in-Ok.ensures.more within c.if-count-eq0.true c.reads-test.true)

pub reads-preserved : goal.reads-preserved
reads-preserved g c =
    let R = g.A.Answerer.replies in
    let unread = g.L.Link.unread c.args.link.now in
    let before = g.L.Link.unread c.reads.link in
    let now = g.L.Link.unread c.read_from.new.link in
    let old = service c.args.answerer.now [] (g.L.Link.written c.args.link.now) (g.L.Link.faults c.args.link.now) in
    let asked = service c.reads.answerer c.reads.waiting (g.L.Link.written c.reads.link) (g.L.Link.faults c.reads.link) in
    let mid = service c.reads.answerer c.reads.waiting (g.L.Link.written c.read_from.new.link) (g.L.Link.faults c.read_from.new.link) in
    let new = service c.answer_held.new.answerer c.answer_held.new.waiting (g.L.Link.written c.answer_held.new.link) (g.L.Link.faults c.answer_held.new.link) in
    let same = same_service c.reads.answerer c.reads.waiting (g.L.Link.written c.reads.link) (g.L.Link.written c.read_from.new.link) (g.L.Link.faults c.reads.link) (g.L.Link.faults c.read_from.new.link)
    c.read_from.ensures.output_stays (c.in-Ok.ensures.faults.steady (λ failed. cc))
    in
    let x = subst (λ s. Reading R c.reads.left unread before old s c.reads.held) same c.reads.invariant in
    let within : c.min-most.result ≤ c.reads.left = omega (arith, c.min-most.ensures) in
    subst (λ left. Reading R (c.reads.left - c.in-Ok.count) unread left old new c.answer_held.new.held) (sym c.answer_held.ensures.input_stays)
    (read_on R c.reads.left c.min-most.result c.in-Ok.count unread before now old mid c.reads.held c.read_from.new.self refl x c.in-Ok.ensures.more within new c.answer_held.new.held c.in-Open.field-0 c.in-Open.ensures.goes)

pub returns-in-Over-clause-served : goal.returns-in-Over-clause-served
returns-in-Over-clause-served g c =
    let R = g.A.Answerer.replies in
    let unread = g.L.Link.unread c.args.link.now in
    let before = g.L.Link.unread c.reads.link in
    let now = g.L.Link.unread c.read_from.new.link in
    let old = service c.args.answerer.now [] (g.L.Link.written c.args.link.now) (g.L.Link.faults c.args.link.now) in
    let asked = service c.reads.answerer c.reads.waiting (g.L.Link.written c.reads.link) (g.L.Link.faults c.reads.link) in
    let mid = service c.reads.answerer c.reads.waiting (g.L.Link.written c.read_from.new.link) (g.L.Link.faults c.read_from.new.link) in
    let new = service c.answer_held.new.answerer c.answer_held.new.waiting (g.L.Link.written c.answer_held.new.link) (g.L.Link.faults c.answer_held.new.link) in
    let same = same_service c.reads.answerer c.reads.waiting (g.L.Link.written c.reads.link) (g.L.Link.written c.read_from.new.link) (g.L.Link.faults c.reads.link) (g.L.Link.faults c.read_from.new.link)
    c.read_from.ensures.output_stays (c.in-Ok.ensures.faults.steady (λ failed. cc))
    in
    let x = subst (λ s. Reading R c.reads.left unread before old s c.reads.held) same c.reads.invariant in
    let within : c.min-most.result ≤ c.reads.left = omega (arith, c.min-most.ensures) in
    subst (λ left. Answered R unread left old new served.Ended) (sym c.answer_held.ensures.input_stays)
    (read_over R c.reads.left c.min-most.result c.in-Ok.count unread before now old mid c.reads.held c.read_from.new.self refl x c.in-Ok.ensures.more within new c.answer_held.new.held c.in-Over.ensures.goes)

pub returns-in-LinkFault-clause-served : goal.returns-in-LinkFault-clause-served
returns-in-LinkFault-clause-served g c =
    let R = g.A.Answerer.replies in
    let unread = g.L.Link.unread c.args.link.now in
    let before = g.L.Link.unread c.reads.link in
    let now = g.L.Link.unread c.read_from.new.link in
    let old = service c.args.answerer.now [] (g.L.Link.written c.args.link.now) (g.L.Link.faults c.args.link.now) in
    let asked = service c.reads.answerer c.reads.waiting (g.L.Link.written c.reads.link) (g.L.Link.faults c.reads.link) in
    let mid = service c.reads.answerer c.reads.waiting (g.L.Link.written c.read_from.new.link) (g.L.Link.faults c.read_from.new.link) in
    let new = service c.answer_held.new.answerer c.answer_held.new.waiting (g.L.Link.written c.answer_held.new.link) (g.L.Link.faults c.answer_held.new.link) in
    let same = same_service c.reads.answerer c.reads.waiting (g.L.Link.written c.reads.link) (g.L.Link.written c.read_from.new.link) (g.L.Link.faults c.reads.link) (g.L.Link.faults c.read_from.new.link)
    c.read_from.ensures.output_stays (c.in-Ok.ensures.faults.steady (λ failed. cc))
    in
    let x = subst (λ s. Reading R c.reads.left unread before old s c.reads.held) same c.reads.invariant in
    let within : c.min-most.result ≤ c.reads.left = omega (arith, c.min-most.ensures) in
    subst (λ left. Answered R unread left old new served.LinkFault) (sym c.answer_held.ensures.input_stays)
    (read_broken R c.reads.left c.min-most.result c.in-Ok.count unread before now old mid c.reads.held c.read_from.new.self refl x c.in-Ok.ensures.more within new c.answer_held.new.held c.in-LinkFault.ensures.goes)

pub returns-clause-served : goal.returns-clause-served
returns-clause-served g c =
    let old = service c.args.answerer.now [] (g.L.Link.written c.args.link.now) (g.L.Link.faults c.args.link.now) in
    let new = service c.reads.answerer c.reads.waiting (g.L.Link.written c.reads.link) (g.L.Link.faults c.reads.link) in
    read_too_long g.A.Answerer.replies c.reads.left (g.L.Link.unread c.args.link.now) (g.L.Link.unread c.reads.link) old new c.reads.held refl c.reads.invariant c.reads-test.false
