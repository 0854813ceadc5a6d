use Rattle.std.proofs.Common.{◌+◌, [], ◌∷◌, ◌++◌, take, sym, ap, ◌∙◌}
use Rattle.std.proofs.lemmas.List.{take_rest}
use Rattle.desk_report.proofs.LineEnds.{cut_at, none_at_all, none_before}
use Rattle.desk_report.proofs.lines.cut_line.Goals as goal

pub returns-in-Some-clause-cut : goal.returns-in-Some-clause-cut
returns-in-Some-clause-cut c =
    let bytes = c.args.bytes.now in
    let end = c.in-Some.end in
    let found = sym c.in-Some.ensures in
    (cut_at bytes end found ∙ ap (λ l. (take end bytes ++ 10 ∷ []) ++ l) (sym (take_rest bytes (end + 1))), none_before bytes end found)

pub returns-in-None-clause-whole : goal.returns-in-None-clause-whole
returns-in-None-clause-whole c = none_at_all c.args.bytes.now (sym c.in-None.ensures)
