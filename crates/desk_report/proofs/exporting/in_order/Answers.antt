use Rattle.std.proofs.Common.{◌≡◌, rules}
use Rattle.std.specs.Ordering.{is_lt}
use Rattle.std.proofs.lemmas.Fn.{always_returns_same}
use Rattle.std.proofs.lemmas.List.MinMax.{ranks_by}
use Rattle.desk_edge.specs.Content.{key_cmp, key_of}
use Rattle.desk_edge.proofs.Keys.{key_order}
use Rattle.desk_edge.proofs.SortedKeys.{sorted_by_key}
use Rattle.desk_report.proofs.Sorting.{sorted_is}
use Rattle.desk_report.proofs.exporting.in_order.Goals as goal

pub returns : goal.returns
returns c =
    let sorted = c.sort_unstable_by.ensures.sorted (λ a b. is_lt (key_cmp (key_of a) (key_of b))) (ranks_by key_order key_of)
    (always_returns_same _ (λ a r. is_lt r ≡ is_lt (key_cmp (key_of a.0.now) (key_of a.1.0.now))) _ (λ a r h called. search rules)) in
    let by_key = sorted_by_key key_of key_cmp key_order c.args.records.items c.sort_unstable_by.new.self.items c.sort_unstable_by.ensures.permutation c.requires sorted in
    sorted_is c.args.records.items c.sort_unstable_by.new.self.items c.sort_unstable_by.ensures.permutation c.requires by_key
