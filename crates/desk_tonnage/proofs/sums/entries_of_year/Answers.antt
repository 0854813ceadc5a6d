use Rattle.std.proofs.Common.{◌≡◌, ◌-◌, length, take, drop, length-drop, sym, ap, ◌∙◌, subst, arith, rules}
use Rattle.std.proofs.lemmas.List.{take_all}
use Rattle.std.specs.Prelude.{nat_le, nat_lt}
use Rattle.std.proofs.lemmas.Fn.{always_returns_same}
use Rattle.desk_tonnage.proofs.OfYear.{IsEnd, IsStart, between, parted_le, parted_lt, start-le-end}
use Rattle.desk_tonnage.proofs.sums.entries_of_year.Goals as goal

pub slice_bounds-result-count : goal.slice_bounds-result-count
slice_bounds-result-count c =
    let entries = c.args.entries.now in
    let year = c.args.year in
    let start : IsStart year entries c.partition_point-start.result = c.partition_point-start.ensures.partitioned (λ entry. nat_lt entry.year year) (always_returns_same _ (λ a r. r ≡ nat_lt a.0.now.year year) _ (λ a r h called. search rules)) (parted_lt year entries c.requires) in
    let end : IsEnd year entries c.partition_point-end.result = c.partition_point-end.ensures.partitioned (λ entry. nat_le entry.year year) (always_returns_same _ (λ a r. r ≡ nat_le a.0.now.year year) _ (λ a r h called. search rules)) (parted_le year entries c.requires) in
    start-le-end year entries c.partition_point-start.result c.partition_point-end.result c.partition_point-start.ensures.bound start end

pub returns : goal.returns
returns c =
    let entries = c.args.entries.now in
    let year = c.args.year in
    let first = c.partition_point-start.result in
    let last = c.partition_point-end.result in
    let start : IsStart year entries first = c.partition_point-start.ensures.partitioned (λ entry. nat_lt entry.year year) (always_returns_same _ (λ a r. r ≡ nat_lt a.0.now.year year) _ (λ a r h called. search rules)) (parted_lt year entries c.requires) in
    let end : IsEnd year entries last = c.partition_point-end.ensures.partitioned (λ entry. nat_le entry.year year) (always_returns_same _ (λ a r. r ≡ nat_le a.0.now.year year) _ (λ a r h called. search rules)) (parted_le year entries c.requires) in
    let le = start-le-end year entries first last c.partition_point-start.ensures.bound start end in
    ap (take (last - first)) (take_all (length entries - first) (drop first entries) (omega (arith, length-drop first entries))) ∙ sym (between year entries first (last - first) c.partition_point-start.ensures.bound start (subst (IsEnd year entries) (omega (arith, le)) end))
