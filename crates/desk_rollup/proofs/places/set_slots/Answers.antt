use Rattle.std.proofs.Common.{◌<◌, ◌+◌, length, slice_index, ◌∙◌, arith}
use Rattle.std.proofs.lemmas.List.{length-set}
use Rattle.desk_rollup.proofs.Counts.{has_at}
use Rattle.desk_rollup.proofs.Puts.{told_next}
use Rattle.desk_rollup.proofs.places.set_slots.Goals as goal

pub bounds-slots-node : goal.bounds-slots-node
bounds-slots-node c =
    let nodes = c.args.nodes.now in
    let place = c.loop-place.place in
    omega (arith, c.requires.nodes (slice_index nodes place) (has_at nodes place c.loop-place-test.true), c.loop-place.auto.slots)

pub loop-place-preserved : goal.loop-place-preserved
loop-place-preserved c =
    let nodes = c.args.nodes.now in
    let place = c.loop-place.place in
    let there : slice_index nodes place < length c.loop-place.slots = omega (arith, c.requires.nodes (slice_index nodes place) (has_at nodes place c.loop-place-test.true), c.loop-place.auto.slots) in (
      length-set c.loop-place.slots (slice_index nodes place) (place + 1) ∙ c.loop-place.invariant.0,
      told_next nodes c.loop-place.slots place c.loop-place-test.true there c.loop-place.invariant.1,
    )
