-- The line that the doors failed is the whole text of its status.
use Rattle.std.proofs.Common.{inl, refl}
use Rattle.desk_top.proofs.tell.answer_doors_fault.Goals as goal

pub returns-clause-answer : goal.returns-clause-answer
returns-clause-answer g c = rw c.tell.ensures.status record {
  status = inl refl;
  whole = λ other. cc other;
  steady = c.tell.ensures.steady;
  beginning = c.tell.ensures.beginning;
  fault = λ other. cc other;
}
