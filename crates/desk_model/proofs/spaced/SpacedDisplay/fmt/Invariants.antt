use Rattle.std.proofs.Common.{take}
use Rattle.std.specs.Fmt.{HasWritten, IsPlainFormatter}
use Rattle.desk_model.specs.Refusals.{spaced}
use Rattle.desk_model.proofs.spaced.SpacedDisplay.fmt.Given as goal

abbrev pub invariant-loop-code : goal.invariant-loop-code
invariant-loop-code g l = IsPlainFormatter l.initial.f → HasWritten g.W.Write.write_str_gives l.initial.f (spaced (take l.code-index l.code-items)) l.f
