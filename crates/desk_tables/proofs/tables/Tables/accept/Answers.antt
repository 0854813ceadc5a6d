use Rattle.std.proofs.Common.{◌∙◌, ap, sym, subst}
use Rattle.desk_history.specs.Sound.{Sound}
use Rattle.desk_history.proofs.SoundSteps.{Sound-step}
use Rattle.desk_tables.proofs.tables.Tables.accept.Goals as goal

pub returns-clause-sound : goal.returns-clause-sound
returns-clause-sound c =
    subst Sound (ap (λ after. after.1) c.in_ok-plan.ensures.plan.0 ∙ sym c.commit.ensures.lists)
    (Sound-step c.args.self.now.lists c.args.edit c.requires c.in_form.ensures)
