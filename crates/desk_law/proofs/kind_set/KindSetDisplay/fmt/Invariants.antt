use Rattle.std.proofs.Common.{◌≡◌}
use Rattle.std.specs.Fmt.{HasWritten, IsPlainFormatter}
use Rattle.desk_law.specs.KindSet.{kinds_text}
use Rattle.desk_law.proofs.KindTexts.{is_nil, marked_before}
use Rattle.desk_law.proofs.kind_set.KindSetDisplay.fmt.Given as goal

abbrev pub invariant-loop-kind : goal.invariant-loop-kind
invariant-loop-kind g l = record {
  first : l.is_first ≡ is_nil (marked_before l.marks l.kind-index);
  text : IsPlainFormatter l.initial.f → HasWritten g.W.Write.write_str_gives l.initial.f (kinds_text (marked_before l.marks l.kind-index)) l.f;
}
