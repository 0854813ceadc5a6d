-- What is behind the bytes that are taken out is moved to the front.
use Rattle.std.proofs.Common.{◌≡◌, ◌≤◌, ◌-◌, ◌∙◌, ap, drop, take, length, arith}
use Rattle.std.proofs.lemmas.List.{length-take, with_items_is}
use Rattle.desk_front.proofs.Buffers.{moved}
use Rattle.desk_front.proofs.read_buffer.ReadBuffer.drop_front.Goals as goal

pub returns : goal.returns
returns c =
    let xs = c.as_mut_slice.result.now in
    let len = c.self.inside.len in
    let buffer = c.self.inside.buffer in
    let view : take len buffer.items ≡ c.args.self.now = c.self.view_is in
    let within : len ≤ length xs = omega (arith, ap length c.as_mut_slice.ensures.value, c.self.invariant.0, c.self.invariant.1) in
    let count : c.args.count ≤ len = omega (arith, c.requires, ap length view, length-take len buffer.items) in
    ap (take (len - c.args.count)) (with_items_is buffer c.copy_within.new.self (omega (arith, c.copy_within.ensures.len, ap length c.as_mut_slice.ensures.value)))
    ∙ ap (take (len - c.args.count)) c.copy_within.ensures.after ∙ moved xs len c.args.count count within
    ∙ ap (λ l. drop c.args.count (take len l)) c.as_mut_slice.ensures.value ∙ ap (drop c.args.count) view
