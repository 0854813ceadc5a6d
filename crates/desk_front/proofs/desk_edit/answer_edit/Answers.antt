-- The seat learns the clerk's whole list.
use Rattle.std.proofs.Common.{◌∙◌, ap, sym}
use Rattle.desk_clerk.specs.Clerk.{current_tables}
use Rattle.desk_front.proofs.Answering.{learns_all}
use Rattle.desk_front.proofs.desk_edit.answer_edit.Goals as goal

pub returns-in-Ok-clause-learnt : goal.returns-in-Ok-clause-learnt
returns-in-Ok-clause-learnt g c =
    learns_all _ c.args.clerk.now.accepted c.edit_clerk.new.clerk.accepted (current_tables c.args.clerk.now) (current_tables c.edit_clerk.new.clerk) c.args.edit c.args.seat.now c.news.result
    c.learn.new.self c.seen-seen.ensures.history c.engine.ensures.history c.engine.ensures.after c.requires c.in-Ok.ensures.taken_in
    (c.news.ensures.told ∙ c.in-Ok.ensures.published) c.learn.ensures.longer c.learn.ensures.learnt
    ∙ sym (ap (λ k. k.accepted) c.news.ensures.kept)
