-- What is told of the clerk's step is told of the seat's list.
use Rattle.desk_clerk.specs.Clerk.{current_tables}
use Rattle.desk_front.proofs.Answering.{told_as_editor}
use Rattle.desk_front.proofs.desk_edit.answer_as_editor.Goals as goal

pub returns-clause-answer : goal.returns-clause-answer
returns-clause-answer g c =
    told_as_editor _ c.args.seat.now.list c.answer_edit-answer.new.seat.list c.args.clerk.now.accepted c.answer_edit-answer.new.clerk.accepted (current_tables c.args.clerk.now)
    (current_tables c.answer_edit-answer.new.clerk) c.args.edit c.args.out.now c.answer_edit-answer.new.out c.answer_edit-answer.result c.engine.ensures.after c.answer_edit-answer.ensures.learnt
    c.answer_edit-answer.ensures.taken_in c.answer_edit-answer.ensures.answer c.answer_edit-answer.ensures.body
