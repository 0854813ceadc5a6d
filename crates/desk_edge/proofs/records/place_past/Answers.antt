use Rattle.std.proofs.Common.{◌≡◌, rules}
use Rattle.std.specs.Ordering.{is_le}
use Rattle.std.proofs.lemmas.Fn.{always_returns_same}
use Rattle.desk_edge.specs.Content.{key_cmp, key_of}
use Rattle.desk_edge.proofs.FirstPast.{found_at}
use Rattle.desk_edge.proofs.Keys.{key_order}
use Rattle.desk_edge.proofs.records.place_past.Goals as goal

pub returns : goal.returns
returns c =
    let sought = c.args.key.now in
    let point = c.partition_point.ensures.partitioned (λ row. is_le (key_cmp (key_of row) sought)) (always_returns_same _ (λ a r. r ≡ is_le (key_cmp (key_of a.0.now) sought)) _ (λ a r h called. search rules)) in
    found_at key_of key_cmp key_order sought c.args.records.now c.requires c.partition_point.result c.partition_point.ensures.bound point
