use Rattle.std.proofs.Common.{◌∙◌, sym}
use Rattle.desk_engine.proofs.Entries.{none_listed, weighs_none}
use Rattle.desk_engine.proofs.years.plan_weighing.Goals as goal

pub returns-then-is_empty-clause-plan : goal.returns-then-is_empty-clause-plan
returns-then-is_empty-clause-plan c =
    weighs_none c.args.years.now c.args.masses.now.rows c.as_slice.ensures.yearly (sym c.as_slice-2.ensures.rows ∙ none_listed c.as_slice-2.result.now (sym c.is_empty.ensures ∙ c.if-is_empty.true))
