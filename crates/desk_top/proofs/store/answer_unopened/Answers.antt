-- What is written of damage is the answer to it.
use Rattle.desk_top.proofs.store.answer_unopened.Goals as goal

pub returns-in-Damaged-clause-answer : goal.returns-in-Damaged-clause-answer
returns-in-Damaged-clause-answer g c = rw c.in-Damaged.is (rw c.as_slice.ensures at c.answer_damage.ensures.answer)
