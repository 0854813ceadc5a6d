use Rattle.std.proofs.Common.{rules, ◌≡◌}
use Rattle.std.specs.Ordering.{is_eq, is_lt}
use Rattle.std.proofs.lemmas.Fn.{always_returns_same}
use Rattle.desk_rows.proofs.Partition.{rest_of, run_between, run_near, is_before, is_within, rest_from, Point}
use Rattle.desk_rows.proofs.place.run_of.Goals as goal

pub returns-in-Some : goal.returns-in-Some
unfolding is_before rest_from Point
returns-in-Some g c = λ run one.
    let group = g.R.Grouped.group in
    let cmp = g.R.Group.Ord.cmp in
    let sought = c.args.group.now in
    let rows = c.args.rows.now in
    let first = c.partition_point-first.result in
    let before = c.partition_point-first.ensures.partitioned (λ row. is_lt (cmp (group row) sought)) (always_returns_same _ (λ a r. r ≡ is_lt (cmp (group a.0.now) sought)) _ (λ a r h called. search rules)) in
    let rest = rest_of group cmp sought rows run one first c.partition_point-first.ensures.bound before in
    run_near group cmp sought rows run one first _ c.in-Some.len rest c.in-Some.ensures

pub returns-in-None : goal.returns-in-None
unfolding is_before is_within rest_from Point
returns-in-None g c = λ run one.
    let group = g.R.Grouped.group in
    let cmp = g.R.Group.Ord.cmp in
    let sought = c.args.group.now in
    let rows = c.args.rows.now in
    let first = c.partition_point-first.result in
    let before = c.partition_point-first.ensures.partitioned (λ row. is_lt (cmp (group row) sought)) (always_returns_same _ (λ a r. r ≡ is_lt (cmp (group a.0.now) sought)) _ (λ a r h called. search rules)) in
    let within = c.partition_point-len.ensures.partitioned (λ row. is_eq (cmp (group row) sought)) (always_returns_same _ (λ a r. r ≡ is_eq (cmp (group a.0.now) sought)) _ (λ a r h called. search rules)) in
    let rest = rest_of group cmp sought rows run one first c.partition_point-first.ensures.bound before in
    run_between group cmp sought rows run one first c.partition_point-len.result rest c.partition_point-len.ensures.bound within
