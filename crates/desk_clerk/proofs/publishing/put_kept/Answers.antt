-- An edit that is accepted behind the list may be put.
use Rattle.std.proofs.Common.{subst, sym, ◌∙◌, ◌++◌}
use Rattle.desk_clerk.specs.Clerk.{list_from}
use Rattle.desk_clerk.specs.Published.{waiting_edit}
use Rattle.desk_clerk.proofs.ToPublish.{adds_one, stays_small}
use Rattle.desk_engine.specs.Engine.{lists_of}
use Rattle.desk_history.specs.History.{IsHistory}
use Rattle.desk_clerk.proofs.publishing.put_kept.Goals as goal

pub put-requires-clause-one : goal.put-requires-clause-one
put-requires-clause-one g c =
    adds_one (lists_of g.J.Naming.opening.engine) c.args.publication.now.whole c.in-Some.edit
    (subst (λ kept. IsHistory (list_from (lists_of g.J.Naming.opening.engine) (c.args.publication.now.whole ++ waiting_edit kept))) (sym c.take.ensures.value ∙ c.in-Some.is) c.requires)

pub put-requires-clause-fits : goal.put-requires-clause-fits
put-requires-clause-fits g c =
    stays_small (lists_of g.J.Naming.opening.engine) c.args.publication.now.whole c.in-Some.edit
    (subst (λ kept. IsHistory (list_from (lists_of g.J.Naming.opening.engine) (c.args.publication.now.whole ++ waiting_edit kept))) (sym c.take.ensures.value ∙ c.in-Some.is) c.requires)
