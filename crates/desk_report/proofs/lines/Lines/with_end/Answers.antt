-- Good lines become more of them, or the one that ends is bad; and bad ones stay so.
use Rattle.std.proofs.Common.{[], ◌∷◌, ◌++◌}
use Rattle.std.proofs.lemmas.Result.{IfOk-weaker}
use Rattle.desk_report.proofs.BadLines.{bad_later}
use Rattle.desk_report.proofs.Readings.{are_bad, read_bad, read_good}
use Rattle.desk_report.proofs.lines.Lines.with_end.Goals as goal

pub returns-in-Good : goal.returns-in-Good
returns-in-Good c =
    let end = c.args.end.now in
    IfOk-weaker c.with_lf.result _ _ (λ lines h read is.
    h (read ++ end) (read_good (read ++ end) c.in_ok-good.field-0 c.in-Good.good c.in-Good.is (c.in_ok-good.ensures read is))) c.with_lf.ensures

pub returns-in-Bad : goal.returns-in-Bad
returns-in-Bad c = λ read is.
    let end = c.args.end.now in
    are_bad _ _ (bad_later _ (10 ∷ []) _ (read_bad (read ++ end) c.in_ok-good.field-0 c.in-Bad.line c.in-Bad.is (c.in_ok-good.ensures read is)))
