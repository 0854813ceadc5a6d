-- The table of first days.
use Rattle.std.proofs.Common.{◌≡◌, true, refl}
use Rattle.std.specs.Prelude.{◌==◌, count_by}
use Rattle.std.specs.List.{list_all}
use Rattle.desk_law.specs.InForce.{first_days, speaks_of}
use Rattle.desk_law.specs.Kind.{all_kinds, kind_place}
use Rattle.desk_law.specs.Rule.{all_rules, rule_number}

-- each rule stands with each kind in exactly one row, so the order of the rows says nothing
pub each_pair_once : list_all (λ rule. list_all (λ kind. count_by (speaks_of rule kind) first_days == 1) all_kinds) all_rules ≡ true
unfolding kind_place rule_number
each_pair_once = refl
