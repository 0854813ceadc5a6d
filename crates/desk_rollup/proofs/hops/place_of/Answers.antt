use Rattle.std.proofs.Common.{◌≡◌, rules}
use Rattle.std.specs.Prelude.{nat_lt}
use Rattle.std.proofs.lemmas.Fn.{always_returns_same}
use Rattle.std.proofs.lemmas.List.Sorted.{IsPartitionedBy-ltb}
use Rattle.desk_rollup.proofs.Halves.{in_order, number_of}
use Rattle.desk_rollup.proofs.hops.place_of.Goals as goal

pub returns-clause-place : goal.returns-clause-place
returns-clause-place c = λ rises.
    let hops = c.args.hops.now in
    let n = c.args.number in
    c.partition_point.ensures.partitioned (λ hop. nat_lt (number_of hop) n) (always_returns_same _ (λ a r. r ≡ nat_lt (number_of a.0.now) n) _ (λ a r h called. search rules)) (IsPartitionedBy-ltb number_of hops n (in_order hops rises))
