use Rattle.std.proofs.Common.{◌≡◌, ◌<◌, ◌+◌, ◌==◌, ◌∙◌, ap, arith, refl, sym, take}
use Rattle.std.specs.Prelude.{if◌then◌else◌, length, slice_index_or}
use Rattle.std.proofs.lemmas.Bool.{eq-eqb}
use Rattle.std.proofs.lemmas.List.Sums.{sum_by_more, sum_by_more_le}
use Rattle.desk_rollup.specs.declared.load.Load.{Load}
use Rattle.desk_rollup.specs.Values.{amount_of}
use Rattle.desk_engine.proofs.Sums.{added, room_for}
use Rattle.desk_engine.proofs.stored_loads.add_loads.Goals as goal

pub add_load-requires : goal.add_load-requires
add_load-requires c = λ there.
    let loads = c.args.loads.now in
    let i = c.loop-load.load-index in
    let none : Load = record { what = 0; amount = 0 } in
    let load = slice_index_or loads i none in
    let f = λ (one : Load). if one.what == load.what then one.amount else 0 in
    let here : f load ≡ load.amount = ap (λ b. if b then load.amount else 0) (eq-eqb load.what load.what refl) in
    let low : load.what < length c.args.sums.now = omega (arith, there, c.loop-load.invariant.size) in
    room_for c.args.units (amount_of (take i loads) load.what) load.amount (amount_of loads load.what) (slice_index_or c.loop-load.sums load.what 0) (slice_index_or c.args.sums.now load.what 0) _ (c.loop-load.invariant.sums load.what low)
    (omega (arith, here, sum_by_more_le f loads i none c.loop-load-test.true)) (c.requires load.what low)

pub loop-load-preserved : goal.loop-load-preserved
loop-load-preserved c = record {
  size = c.add_load.ensures.size ∙ c.loop-load.invariant.size;
  sums = λ place low.
      let loads = c.args.loads.now in
      let i = c.loop-load.load-index in
      let none : Load = record { what = 0; amount = 0 } in
      let load = slice_index_or loads i none in
      let f = λ (one : Load). if one.what == place then one.amount else 0 in
      added c.args.units (amount_of (take i loads) place) (f load) (amount_of (take (i + 1) loads) place) (slice_index_or c.loop-load.sums place 0) (slice_index_or c.args.sums.now place 0) (slice_index_or c.add_load.new.sums place 0) (c.loop-load.invariant.sums place low)
      (sym (sum_by_more f loads i none c.loop-load-test.true)) (c.add_load.ensures.sums place (omega (arith, low, c.loop-load.invariant.size)));
}
