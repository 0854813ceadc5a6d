-- Keys stand in a total order.
use Rattle.std.proofs.Common.{rules}
use Rattle.std.specs.Cmp.{IsTotalOrder}
use Rattle.std.specs.Cmp.Rules.{comparing}
use Rattle.desk_edge.specs.Content.{key_cmp}

pub key_order : IsTotalOrder key_cmp
key_order = search (comparing, rules)
