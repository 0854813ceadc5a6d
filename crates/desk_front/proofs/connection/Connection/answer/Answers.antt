-- A question is answered, or there is no memory for the answer. What was published meanwhile changes no table.
use Rattle.std.proofs.Common.{◌≡◌, ◌++◌, ◌∙◌, ap, refl, subst, sym}
use Rattle.desk_clerk.specs.Clerk.{tables_of}
use Rattle.desk_engine.specs.Engine.{lists_of}
use Rattle.desk_http.specs.Reply.{bytes_with, fixed_reply}
use Rattle.desk_http.specs.declared.fixed.Fixed.TheVariants as refusal
use Rattle.desk_front.specs.Asked.{question}
use Rattle.desk_front.specs.Replies.{answer_at}
use Rattle.desk_front.specs.Told.{Says}
use Rattle.desk_front.specs.Turn.{Standing, Turn}
use Rattle.desk_front.proofs.Saying.{says_memory}
use Rattle.desk_front.proofs.Turning.{lacks, refuses, says_answer}
use Rattle.desk_front.proofs.connection.Connection.answer.Goals as goal

pub returns-then-is_err-clause-fixed : goal.returns-then-is_err-clause-fixed
returns-then-is_err-clause-fixed g c =
    let old : Standing = record { current = tables_of c.args.self.now.clerk.now.desk; last_seen = c.args.self.now.last_seen; faults = g.K.Keeper.faults c.args.self.now.clerk.now.desk.keeper } in
    subst
    (λ d. Says Turn old (question c.args.question.now) c.args.close (fixed_reply refusal.Memory c.args.close)
    (record { current = tables_of d; last_seen = c.args.self.now.last_seen; faults = g.K.Keeper.faults d.keeper }))
    (sym c.catch_up.ensures.desk) (says_memory Turn refuses lacks old (question c.args.question.now) c.args.close refusal.Memory refl)

pub returns-in-Err-clause-fixed : goal.returns-in-Err-clause-fixed
returns-in-Err-clause-fixed g c =
    let old : Standing = record { current = tables_of c.args.self.now.clerk.now.desk; last_seen = c.args.self.now.last_seen; faults = g.K.Keeper.faults c.args.self.now.clerk.now.desk.keeper } in
    subst
    (λ d. Says Turn old (question c.args.question.now) c.args.close (fixed_reply c.in-Err.fixed c.args.close)
    (record { current = tables_of d; last_seen = c.args.self.now.last_seen; faults = g.K.Keeper.faults d.keeper }))
    (sym c.catch_up.ensures.desk) (says_memory Turn refuses lacks old (question c.args.question.now) c.args.close c.in-Err.fixed c.in-Err.ensures.memory)

pub returns-in-Ok-clause-ok : goal.returns-in-Ok-clause-ok
returns-in-Ok-clause-ok g c =
    let desk = c.catch_up.new.self.desk in
    let asked = c.args.question.now in
    let said = bytes_with c.args.close (answer_at (tables_of desk) asked) in
    let new : Standing = record { current = tables_of desk; last_seen = c.number-self.result; faults = g.K.Keeper.faults desk.keeper } in (
      said,
      c.in-Ok.ensures.ok ∙ ap (λ e. c.args.out.now ++ bytes_with c.args.close (answer_at (lists_of e) asked)) c.engine.ensures.engine,
      subst (λ d. Says Turn (record { current = tables_of d; last_seen = c.args.self.now.last_seen; faults = g.K.Keeper.faults d.keeper }) (question asked) c.args.close said new)
          c.catch_up.ensures.desk
          (says_answer (record { current = tables_of desk; last_seen = c.args.self.now.last_seen; faults = g.K.Keeper.faults desk.keeper }) asked c.args.close c.number-self.result c.number-self.ensures),
    )
