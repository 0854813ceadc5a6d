-- Where the console fails, a part of the line was written.
use Rattle.std.proofs.Common.{inl, inr, refl}
use Rattle.desk_top.proofs.import.answer_imported.Goals as goal

pub returns-in-Err-clause-answer : goal.returns-in-Err-clause-answer
returns-in-Err-clause-answer g c = record {
  status = inr (inl refl);
  whole = λ other. cc other;
  steady = λ none. absurd (none (c.in-Err.ensures.faults.rises refl));
  beginning = c.in-Err.ensures.beginning;
  fault = λ _. inr (refl, c.in-Err.ensures.err);
}
