-- What the first loads come to is added.
use Rattle.std.proofs.Common.{◌≡◌, ◌+◌, ◌*◌, ◌<◌, ℕ, length, take}
use Rattle.std.specs.Prelude.{slice_index_or}
use Rattle.desk_rollup.specs.Values.{amount_of}
use Rattle.desk_engine.proofs.stored_loads.add_loads.Given as goal

abbrev pub invariant-loop-load : goal.invariant-loop-load
invariant-loop-load l = record {
  size : length l.sums ≡ length l.initial.sums;
  sums : (place : ℕ) → place < length l.initial.sums → slice_index_or l.sums place 0 ≡ slice_index_or l.initial.sums place 0 + l.units * amount_of (take l.load-index l.loads) place;
}
