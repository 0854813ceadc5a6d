-- Desks after edits that were judged one after another.
use Rattle.std.specs.Prelude.{ℕ, List, Result}
use Rattle.desk_model.specs.declared.edit.Edit.{Edit}
use Rattle.desk_model.specs.declared.rule_fault.RuleFault.{RuleFault}
use Rattle.desk_model.specs.Lists.{Lists}
use Rattle.desk_model.specs.Start.{start}
use Rattle.desk_history.specs.History.{tables_after}
use Rattle.desk_history.specs.Step.{step}

-- the desk after these edits, from the start tables on
abbrev pub desk_after : List Edit → Lists
desk_after edits = tables_after start edits

-- the answer to one more edit
abbrev pub answer_at : Lists → Edit → Result ℕ RuleFault
answer_at desk edit = (step desk edit).0
