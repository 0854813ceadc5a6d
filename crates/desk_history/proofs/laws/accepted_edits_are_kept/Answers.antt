use Rattle.desk_history.proofs.Histories.{kept-step}
use Rattle.desk_history.proofs.Rules.{unreused}
use Rattle.desk_history.proofs.Steps.{fresh, kept-entered, step-accepted, tickets-length}
use Rattle.desk_history.proofs.laws.accepted_edits_are_kept.Goals as goal

pub returns : goal.returns
returns c = record {
  answer = λ t edit a. step-accepted t edit a.is_new a.is_unrefused;
  kept = kept-entered;
  one_ticket = λ t edit a. tickets-length t edit (fresh t edit a.is_new (unreused t edit a.is_unrefused));
  stays = kept-step;
}
