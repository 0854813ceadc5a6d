-- The line that names a key is the whole text of its status.
use Rattle.std.proofs.Common.{◌∙◌, inl, refl}
use Rattle.desk_top.proofs.store.answer_damage.Goals as goal

pub returns-in-Ok-clause-answer : goal.returns-in-Ok-clause-answer
returns-in-Ok-clause-answer g c = rw c.tell.ensures.status record {
  status = inl refl;
  whole = λ other. cc other;
  steady = rw (c.as_slice.ensures ∙ c.in-Ok.ensures) at c.tell.ensures.steady;
  beginning = rw (c.as_slice.ensures ∙ c.in-Ok.ensures) at c.tell.ensures.beginning;
  fault = λ other. cc other;
}
