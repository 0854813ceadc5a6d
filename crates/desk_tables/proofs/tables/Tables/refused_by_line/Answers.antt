use Rattle.std.proofs.Common.{◌≡◌, ◌∙◌, IfOk, None, ap, refl, subst, sym}
use Rattle.desk_history.specs.History.{PassesRows}
use Rattle.desk_history.specs.Refused.{closes_cycle, first_some}
use Rattle.desk_tables.specs.PutLine.{with_line}
use Rattle.desk_tables.proofs.Accepting.{bill_by_sums, consistent_made, sums_made}
use Rattle.desk_tables.proofs.tables.Tables.refused_by_line.Goals as goal

pub sums_fault_with_line-requires-clause-consistent : goal.sums_fault_with_line-requires-clause-consistent
sums_fault_with_line-requires-clause-consistent c =
    let t = c.args.self.now.lists in
    let edit = c.args.edit.now in
    let open_ended : closes_cycle t edit ≡ None = c.requires.cycle ∙ sym c.in_ok-fault.ensures ∙ c.in-None.is in
    let passed : PassesRows t edit = record { in_form = c.requires.form; is_new = c.requires.new; by_rows = c.requires.unrefused; by_cycle = open_ended } in
    consistent_made t edit c.requires.sound passed (with_line t c.args.line.now) (sym c.requires.made) refl

pub returns-in-None : goal.returns-in-None
returns-in-None c =
    let t = c.args.self.now.lists in
    let edit = c.args.edit.now in
    let open_ended : closes_cycle t edit ≡ None = c.requires.cycle ∙ sym c.in_ok-fault.ensures ∙ c.in-None.is in
    let passed : PassesRows t edit = record { in_form = c.requires.form; is_new = c.requires.new; by_rows = c.requires.unrefused; by_cycle = open_ended } in
    subst (λ found. IfOk c.sums_fault_with_line.result (λ fault. fault ≡ found))
    (ap first_some (sums_made t edit c.requires.sound passed (with_line t c.args.line.now) (sym c.requires.made)) ∙ sym (bill_by_sums t edit open_ended)) c.sums_fault_with_line.ensures
