-- The changes lead from the records of the tables to those after the edit.
use Rattle.std.proofs.Common.{sym, subst}
use Rattle.desk_edge.specs.Content.{IsChanged}
use Rattle.desk_history.specs.Step.{step}
use Rattle.desk_tables.specs.Plan.{IsPlan}
use Rattle.desk_records.specs.Records.{tables_content}
use Rattle.desk_records.proofs.Planned.{if_ok, kept_moves, new_moves}
use Rattle.desk_records.proofs.plan_records.changes.Goals as goal

pub returns-in-Kept-clause-moves : goal.returns-in-Kept-clause-moves
returns-in-Kept-clause-moves c =
    λ desk edit sound form is.
    subst (λ items. IsChanged items (tables_content desk.lists) (tables_content (step desk.lists edit).1)) (sym c.new.ensures.items)
    (kept_moves desk edit c.in-Kept.number (subst (IsPlan desk edit) c.in-Kept.is is))

pub returns-in-New-clause-moves : goal.returns-in-New-clause-moves
returns-in-New-clause-moves c =
    if_ok c.with_ticket.result
    (λ changes are drops desk edit sound form is.
    subst (λ items. IsChanged items (tables_content desk.lists) (tables_content (step desk.lists edit).1)) (sym are)
    (new_moves desk edit c.in-New.change c.in-New.ticket c.in-New.room sound form (subst (IsPlan desk edit) c.in-New.is is) drops))
    c.with_ticket.ensures.changes c.with_ticket.ensures.form
