-- A part of a line without LF behind another is one.
use Rattle.std.proofs.Common.{◌≡◌, false, subst, sym}
use Rattle.std.specs.Prelude.{◌==◌}
use Rattle.std.proofs.lemmas.List.Elements.{All-append}
use Rattle.desk_report.specs.Reading.{HasNoLineEnd}
use Rattle.desk_report.proofs.good_lines.GoodLines.with_held.Goals as goal

pub invariant_of-good-2 : goal.invariant_of-good-2
invariant_of-good-2 c =
    let (by_key, are, one_line) = c.good.invariant in
    (by_key, are, subst HasNoLineEnd (sym c.in_ok-push_all.ensures.ok) (All-append (λ b. (b == 10) ≡ false) c.good.inside.held c.args.bytes.now one_line c.requires))
