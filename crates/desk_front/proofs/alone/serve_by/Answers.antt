-- The clerk's list is a history, so its tables are sound.
use Rattle.desk_front.proofs.Talking.{sound_after}
use Rattle.desk_front.proofs.alone.serve_by.Goals as goal

pub serve_over-requires-clause-sound : goal.serve_over-requires-clause-sound
serve_over-requires-clause-sound g c κs within = sound_after _ _ c.engine.ensures.history c.engine.ensures.after
