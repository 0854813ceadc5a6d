use Rattle.std.proofs.Common.{arith}
use Rattle.desk_http.proofs.RestLemmas.{head_begins, taken_from}
use Rattle.desk_http.proofs.take.take_body.Goals as goal

pub overflow_sub-buffer : goal.overflow_sub-buffer
overflow_sub-buffer c =
    let r = c.requires in
    omega (arith, r.4.len, (head_begins c.args.buffer.now r.0 r.1 r.2).fits)

pub returns : goal.returns
returns c =
    let r = c.requires in
    taken_from c.args.buffer.now c.args.head c.in-Known.length r.0 r.1 r.2 r.3 r.4 c.in-Known.is (omega (arith, r.4.len, (head_begins c.args.buffer.now r.0 r.1 r.2).fits))
