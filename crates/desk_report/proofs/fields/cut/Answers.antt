use Rattle.std.proofs.Common.{sym}
use Rattle.desk_fields.proofs.FirstField.{first_cut, no_cut}
use Rattle.desk_report.proofs.fields.cut.Goals as goal

pub returns-in-Some : goal.returns-in-Some
returns-in-Some c = first_cut 9 c.args.text.now c.in-Some.at (sym c.in-Some.ensures)

pub returns-in-None : goal.returns-in-None
returns-in-None c = no_cut 9 c.args.text.now (sym c.in-None.ensures)
