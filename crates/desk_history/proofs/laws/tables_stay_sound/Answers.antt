use Rattle.desk_history.proofs.SoundSteps.{Sound-start, Sound-step, Sound-tables_after}
use Rattle.desk_history.proofs.laws.tables_stay_sound.Goals as goal

pub returns : goal.returns
returns c = record {
  start = Sound-start;
  step = Sound-step;
  history = λ history h. Sound-tables_after history.opening history.edits h.sound h.accepted;
}
