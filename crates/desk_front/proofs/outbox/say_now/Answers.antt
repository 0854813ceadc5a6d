-- What waits is written first, and these bytes behind it.
use Rattle.std.proofs.Common.{[]}
use Rattle.desk_front.specs.Service.{Outgoing}
use Rattle.desk_front.proofs.Sending.{breaks_onward, breaks_sooner, breaks_writing, on_err_both, on_error, on_ok_both, rises_on_err, sends_onward, sends_written, steady_on_ok}
use Rattle.desk_front.proofs.outbox.say_now.Goals as goal

pub returns-in_err-flush-clause-err : goal.returns-in_err-flush-clause-err
returns-in_err-flush-clause-err g c =
    let old : Outgoing = record { waiting = c.args.waiting.now; written = g.L.Link.written c.args.link.now; faults = g.L.Link.faults c.args.link.now } in
    let new : Outgoing = record { waiting = c.flush.new.waiting; written = g.L.Link.written c.flush.new.link; faults = g.L.Link.faults c.flush.new.link } in
    on_error c.from_residual.result (breaks_sooner old new [] c.args.said.now c.in_err-flush.ensures.err)

pub returns-clause-ok : goal.returns-clause-ok
returns-clause-ok g c =
    let old : Outgoing = record { waiting = c.args.waiting.now; written = g.L.Link.written c.args.link.now; faults = g.L.Link.faults c.args.link.now } in
    let mid : Outgoing = record { waiting = c.flush.new.waiting; written = g.L.Link.written c.flush.new.link; faults = g.L.Link.faults c.flush.new.link } in
    let new : Outgoing = record { waiting = c.flush.new.waiting; written = g.L.Link.written c.write_all.new.link; faults = g.L.Link.faults c.write_all.new.link } in
    on_ok_both c.write_all.result c.write_all.ensures.ok (steady_on_ok c.write_all.result _ _ c.write_all.ensures.faults) (λ written steady.
    sends_onward old mid new [] c.args.said.now c.in_ok-flush.ensures.ok
    (sends_written mid new c.args.said.now c.in_ok-flush.ensures.empty c.in_ok-flush.ensures.empty written steady))

pub returns-clause-err : goal.returns-clause-err
returns-clause-err g c =
    let old : Outgoing = record { waiting = c.args.waiting.now; written = g.L.Link.written c.args.link.now; faults = g.L.Link.faults c.args.link.now } in
    let mid : Outgoing = record { waiting = c.flush.new.waiting; written = g.L.Link.written c.flush.new.link; faults = g.L.Link.faults c.flush.new.link } in
    let new : Outgoing = record { waiting = c.flush.new.waiting; written = g.L.Link.written c.write_all.new.link; faults = g.L.Link.faults c.write_all.new.link } in
    on_err_both c.write_all.result c.write_all.ensures.err (rises_on_err c.write_all.result _ _ c.write_all.ensures.faults) (λ part rose.
    breaks_onward old mid new [] c.args.said.now c.in_ok-flush.ensures.ok
    (breaks_writing mid new c.args.said.now c.in_ok-flush.ensures.empty part c.write_all.ensures.faults.never_falls rose))
