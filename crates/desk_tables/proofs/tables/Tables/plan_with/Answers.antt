use Rattle.std.proofs.Common.{◌∙◌, sym}
use Rattle.desk_history.specs.Step.{kept_number}
use Rattle.desk_tables.specs.Judged.{IsRowsFault}
use Rattle.desk_tables.proofs.Judging.{at_names, at_ticket, at_values}
use Rattle.desk_tables.proofs.tables.Tables.plan_with.Goals as goal

pub returns-in-Some-ticket_reused-clause-fault : goal.returns-in-Some-ticket_reused-clause-fault
unfolding IsRowsFault
returns-in-Some-ticket_reused-clause-fault c =
    let t = c.args.self.now.lists in
    (sym c.kept_number.ensures ∙ c.in_default.is, at_ticket t c.args.edit.now c.in-Some-ticket_reused.fault (sym c.ticket_reused.ensures ∙ c.in-Some-ticket_reused.is))

pub returns-in-Some-refused_by_names-clause-fault : goal.returns-in-Some-refused_by_names-clause-fault
unfolding IsRowsFault
returns-in-Some-refused_by_names-clause-fault c =
    let t = c.args.self.now.lists in
    let unused = sym c.ticket_reused.ensures ∙ c.in_default-ticket_reused.is in
    (sym c.kept_number.ensures ∙ c.in_default.is, at_names t c.args.edit.now c.in-Some-refused_by_names.fault unused (sym c.refused_by_names.ensures ∙ c.in-Some-refused_by_names.is))

pub returns-in-Some-refused_by_values-clause-fault : goal.returns-in-Some-refused_by_values-clause-fault
unfolding IsRowsFault
returns-in-Some-refused_by_values-clause-fault c =
    let t = c.args.self.now.lists in
    let unused = sym c.ticket_reused.ensures ∙ c.in_default-ticket_reused.is in
    let names = sym c.refused_by_names.ensures ∙ c.in_default-refused_by_names.is in
    (sym c.kept_number.ensures ∙ c.in_default.is, at_values t c.args.edit.now c.in-Some-refused_by_values.fault unused names (sym c.refused_by_values.ensures ∙ c.in-Some-refused_by_values.is))

pub returns-clause-memory : goal.returns-clause-memory
returns-clause-memory c = λ _. record {
  new = sym c.kept_number.ensures ∙ c.in_default.is;
  unused = sym c.ticket_reused.ensures ∙ c.in_default-ticket_reused.is;
  names = sym c.refused_by_names.ensures ∙ c.in_default-refused_by_names.is;
  values = sym c.refused_by_values.ensures ∙ c.in_default-refused_by_values.is;
}
