use Rattle.std.proofs.Common.{◌≡◌, drop}
use Rattle.desk_totals.specs.Linked.{is_among}
use Rattle.desk_model_tests.proofs.totals.is_among.Given as goal

abbrev pub invariant-loop-other : goal.invariant-loop-other
invariant-loop-other l = is_among l.code l.codes ≡ is_among l.code (drop l.other-index l.codes)
