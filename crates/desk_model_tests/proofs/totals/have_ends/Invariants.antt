use Rattle.std.proofs.Common.{◌≡◌, drop}
use Rattle.std.specs.List.{list_all}
use Rattle.desk_totals.specs.Linked.{has_ends_in}
use Rattle.desk_model_tests.proofs.totals.have_ends.Given as goal

abbrev pub invariant-loop-line : goal.invariant-loop-line
invariant-loop-line l = list_all (has_ends_in l.codes) l.lines ≡ list_all (has_ends_in l.codes) (drop l.line-index l.lines)
