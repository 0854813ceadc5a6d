-- The tables after an edit in form are sound where they were before, and what is stored is theirs.
use Rattle.std.proofs.Common.{subst, sym}
use Rattle.desk_tables.specs.Plan.{tables_planned}
use Rattle.desk_engine.specs.Engine.{IsPrepared}
use Rattle.desk_engine.proofs.Engines.{leaves_some, whole_after}
use Rattle.desk_engine.proofs.engine.Engine.commit.Goals as goal

pub invariant_of-self : goal.invariant_of-self
invariant_of-self c =
    let (edit, form, is) = subst (λ engine. IsPrepared engine c.args.plan) (sym c.self.view_is) c.requires in
    let lists = c.self.inside.tables.lists in
    let left = leaves_some c.self.inside.stored lists (tables_planned lists c.args.plan.tables) c.args.plan.stored c.in-Some.stored c.in-Some.is is.stored in
    whole_after c.self.inside.tables c.commit-number.new.self c.commit_stored.new.stored edit c.args.plan.tables c.self.invariant.sound form is.tables c.commit-number.ensures.lists (c.commit_stored.ensures (tables_planned lists c.args.plan.tables) left)
