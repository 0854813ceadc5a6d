-- What is read stands behind what was held.
use Rattle.std.proofs.Common.{◌≡◌, ◌≤◌, ◌+◌, ◌-◌, ◌∙◌, ap, drop, take, length, arith, sym, ◌++◌, ℕ}
use borrow.Rule.Slice.PartMut.{put_mid}
use Rattle.std.proofs.lemmas.List.{length-drop, length-take-le, with_items_is}
use Rattle.desk_front.proofs.Buffers.{came_behind, filled_len}
use Rattle.desk_front.proofs.read_buffer.ReadBuffer.read_from.Goals as goal

pub returns-clause-more : goal.returns-clause-more
returns-clause-more g c =
    let xs = c.deref_mut.result.now in
    let len = c.self.inside.len in
    let count = c.in_ok-count.count in
    let into = c.read.new.into in
    let buffer = c.self.inside.buffer in
    let view : take len buffer.items ≡ c.args.self.now = c.self.view_is in
    let within : len ≤ length xs = omega (arith, ap length c.deref_mut.ensures.value, c.self.invariant.0, c.self.invariant.1) in
    let held : length (take len buffer.items) ≡ len = length-take-le len buffer.items (omega (arith, within, ap length c.deref_mut.ensures.value)) in
    let room : len + c.args.most ≤ length xs =
    omega (arith, c.requires.room, ap length view, held, c.self.invariant.1, ap length c.deref_mut.ensures.value)
    in
    let most : length into ≡ c.args.most =
    c.read.auto.into ∙ length-take-le (len + c.args.most - len) (drop len xs) (omega (arith, room, length-drop len xs)) ∙ behind len c.args.most
    in (
      take count into,
      ap (take (len + count)) (with_items_is buffer (put_mid len (len + c.args.most - len) xs into)
          (filled_len xs into len c.args.most room most ∙ ap length c.deref_mut.ensures.value ∙ sym buffer.ok.0))
          ∙ came_behind xs into (drop (len + c.args.most - len) (drop len xs)) len count within c.in_ok-count.ensures.within
          ∙ ap (λ l. take len l ++ take count into) c.deref_mut.ensures.value ∙ ap (λ l. l ++ take count into) view,
      length-take-le count into c.in_ok-count.ensures.within,
      omega (arith, most, c.in_ok-count.ensures.within),
      c.in_ok-count.ensures.gives.0,
      λ none. c.in_ok-count.ensures.gives.1 none (omega (arith, most, c.requires.some)),
    )
  where
    behind : (a b : ℕ) → a + b - a ≡ b
    behind a b = omega arith
