-- What is published begins the publication's list, and that begins all that is accepted.
use Rattle.std.proofs.Common.{refl, subst, ◌++◌}
use mathlib.Core.List.{IsPrefix}
use Rattle.desk_clerk.specs.Published.{waiting_edit}
use Rattle.desk_publish.proofs.Prefixes.{prefix_trans}
use Rattle.desk_clerk.proofs.clerk.Clerk.engine.Goals as goal

pub returns-clause-begins : goal.returns-clause-begins
returns-clause-begins g c =
    let publication = c.self.inside.publication in
    subst (λ clerk. IsPrefix clerk.published clerk.accepted) c.self.view_is
    (prefix_trans publication.published publication.whole (publication.whole ++ waiting_edit c.self.inside.kept) c.self.invariant.2 (waiting_edit c.self.inside.kept, refl))
