-- How an edit was judged is told, or why it isn't.
use Rattle.std.proofs.Common.{◌≡◌, ◌≢◌, refl, ap, Err, IsErrOf, ℕ, Result}
use Rattle.desk_clerk.specs.Clerk.{keeper_of, current_tables}
use Rattle.desk_clerk.specs.declared.submit_fault.SubmitFault.{SubmitFault}
use Rattle.desk_clerk.specs.declared.submit_fault.SubmitFault.TheVariants as fault
use Rattle.desk_history.proofs.Steps.{refused-leaves}
use Rattle.desk_clerk.specs.declared.accepted.Accepted.{Accepted}
use Rattle.desk_http.specs.declared.fixed.Fixed.TheVariants as refusal
use Rattle.desk_model.specs.declared.rule_fault.RuleFault.{RuleFault}
use Rattle.desk_front.specs.Asked.{edit}
use Rattle.desk_http.specs.Reply.{bytes_with, with_body}
use Rattle.desk_front.specs.Replies.{accepted_body, refused_body}
use Rattle.desk_front.specs.Turn.{Standing}
use Rattle.desk_front.proofs.Turning.{says_accepted, says_failed, says_made, says_refused, says_unmade, says_untold}
use Rattle.desk_front.proofs.connection.Connection.enter.Goals as goal

unlike_rule : (x : SubmitFault) (cause : RuleFault) (n : ℕ) → x ≡ fault.Rule cause n → ◌≢◌ {A = Result Accepted SubmitFault} (Err x) (Err fault.KeeperFault)
unlike_rule x cause n e h = cc

unlike_memory : (x : SubmitFault) → x ≡ fault.OutOfMemory → ◌≢◌ {A = Result Accepted SubmitFault} (Err x) (Err fault.KeeperFault)
unlike_memory x e h = cc

rule_not_memory : (x : SubmitFault) (cause : RuleFault) (n : ℕ) → x ≡ fault.Rule cause n → ◌≢◌ {A = Result Accepted SubmitFault} (Err x) (Err fault.OutOfMemory)
rule_not_memory x cause n e h = cc

keeper_not_memory : (x : SubmitFault) → x ≡ fault.KeeperFault → ◌≢◌ {A = Result Accepted SubmitFault} (Err x) (Err fault.OutOfMemory)
keeper_not_memory x e h = cc

sym_fault : (x : SubmitFault) → x ≡ fault.KeeperFault → IsErrOf {T = Accepted} (Err x) fault.KeeperFault
sym_fault x e = ap Err e

pub returns-in-Ok-tell_accepted-clause-ok : goal.returns-in-Ok-tell_accepted-clause-ok
returns-in-Ok-tell_accepted-clause-ok g c =
    let old : Standing = record { current = current_tables c.args.self.now.clerk.now; last_seen = c.args.self.now.last_seen; faults = g.K.Keeper.faults (keeper_of c.args.self.now.clerk.now) } in
    let new : Standing = record { current = current_tables c.submit.new.self; last_seen = c.in-Ok.accepted.whole; faults = g.K.Keeper.faults (keeper_of c.submit.new.self) } in (
      bytes_with c.args.close (with_body 200 (accepted_body c.in-Ok.accepted.whole c.args.self.now.last_seen c.in-Ok.accepted.number)),
      c.in-Ok-tell_accepted.ensures.ok,
      says_accepted old new c.args.edit c.args.close c.in-Ok.accepted.number c.in-Ok.accepted.whole c.in_form.ensures c.in-Ok.ensures.number c.in-Ok.ensures.list
          c.in-Ok.ensures.ok.1 (c.in-Ok.ensures.faults.steady (λ e. cc)) refl,
    )

pub returns-in-Ok-clause-fixed : goal.returns-in-Ok-clause-fixed
returns-in-Ok-clause-fixed g c =
    let old : Standing = record { current = current_tables c.args.self.now.clerk.now; last_seen = c.args.self.now.last_seen; faults = g.K.Keeper.faults (keeper_of c.args.self.now.clerk.now) } in
    let new : Standing = record { current = current_tables c.submit.new.self; last_seen = c.args.self.now.last_seen; faults = g.K.Keeper.faults (keeper_of c.submit.new.self) } in
    says_made old new c.args.edit c.args.close c.in-Err.fixed c.in-Err.ensures.memory c.in_form.ensures c.in-Ok.ensures.ok.1 refl (c.in-Ok.ensures.faults.steady (λ e. cc))

pub returns-in-Ok-tell_refused-clause-ok : goal.returns-in-Ok-tell_refused-clause-ok
returns-in-Ok-tell_refused-clause-ok g c =
    let old : Standing = record { current = current_tables c.args.self.now.clerk.now; last_seen = c.args.self.now.last_seen; faults = g.K.Keeper.faults (keeper_of c.args.self.now.clerk.now) } in
    let new : Standing = record { current = current_tables c.submit.new.self; last_seen = c.in-Err-Rule.whole; faults = g.K.Keeper.faults (keeper_of c.submit.new.self) } in
    let told = c.in-Err-Rule.ensures.rule c.in-Err-Rule.fault c.in-Err-Rule.whole (ap Err c.in-Err-Rule.field-0-is) in (
      bytes_with c.args.close (with_body 409 (refused_body c.in-Err-Rule.whole c.args.self.now.last_seen c.in-Err-Rule.fault)),
      c.in-Ok-tell_refused.ensures.ok,
      says_refused old new c.args.edit c.args.close c.in-Err-Rule.fault c.in-Err-Rule.whole c.in_form.ensures told.0
          (refused-leaves (current_tables c.args.self.now.clerk.now) c.args.edit c.in-Err-Rule.fault told.0) told.1 (c.in-Err-Rule.ensures.memory (rule_not_memory c.in-Err-Rule.field-0 c.in-Err-Rule.fault c.in-Err-Rule.whole c.in-Err-Rule.field-0-is)).1
          (c.in-Err-Rule.ensures.faults.steady (unlike_rule c.in-Err-Rule.field-0 c.in-Err-Rule.fault c.in-Err-Rule.whole c.in-Err-Rule.field-0-is)) refl,
    )

pub returns-in-Err-Rule-clause-fixed : goal.returns-in-Err-Rule-clause-fixed
returns-in-Err-Rule-clause-fixed g c =
    let old : Standing = record { current = current_tables c.args.self.now.clerk.now; last_seen = c.args.self.now.last_seen; faults = g.K.Keeper.faults (keeper_of c.args.self.now.clerk.now) } in
    let new : Standing = record { current = current_tables c.submit.new.self; last_seen = c.args.self.now.last_seen; faults = g.K.Keeper.faults (keeper_of c.submit.new.self) } in
    says_unmade old new (edit c.args.edit) c.args.close c.in-Err-tell_refused.fixed c.in-Err-tell_refused.ensures.memory
    (c.in-Err-Rule.ensures.memory (rule_not_memory c.in-Err-Rule.field-0 c.in-Err-Rule.fault c.in-Err-Rule.whole c.in-Err-Rule.field-0-is)).1 refl
    (c.in-Err-Rule.ensures.faults.steady (unlike_rule c.in-Err-Rule.field-0 c.in-Err-Rule.fault c.in-Err-Rule.whole c.in-Err-Rule.field-0-is))

pub returns-in-Err-KeeperFault-clause-fixed : goal.returns-in-Err-KeeperFault-clause-fixed
returns-in-Err-KeeperFault-clause-fixed g c =
    let old : Standing = record { current = current_tables c.args.self.now.clerk.now; last_seen = c.args.self.now.last_seen; faults = g.K.Keeper.faults (keeper_of c.args.self.now.clerk.now) } in
    let new : Standing = record { current = current_tables c.submit.new.self; last_seen = c.args.self.now.last_seen; faults = g.K.Keeper.faults (keeper_of c.submit.new.self) } in
    says_failed old new c.args.edit c.args.close (c.in-Err-KeeperFault.ensures.memory (keeper_not_memory c.in-Err-KeeperFault.field-0 c.in-Err-KeeperFault.field-0-is)).1 refl c.submit.ensures.faults.never_falls
    (c.in-Err-KeeperFault.ensures.faults.rises (sym_fault c.in-Err-KeeperFault.field-0 c.in-Err-KeeperFault.field-0-is))
    (c.in-Err-KeeperFault.ensures.asked (sym_fault c.in-Err-KeeperFault.field-0 c.in-Err-KeeperFault.field-0-is))

pub returns-clause-fixed : goal.returns-clause-fixed
returns-clause-fixed g c =
    let old : Standing = record { current = current_tables c.args.self.now.clerk.now; last_seen = c.args.self.now.last_seen; faults = g.K.Keeper.faults (keeper_of c.args.self.now.clerk.now) } in
    let new : Standing = record { current = current_tables c.submit.new.self; last_seen = c.args.self.now.last_seen; faults = g.K.Keeper.faults (keeper_of c.submit.new.self) } in
    says_untold old new c.args.edit c.args.close c.in_form.ensures c.in-Err-OutOfMemory.ensures.err refl
    (c.in-Err-OutOfMemory.ensures.faults.steady (unlike_memory c.in-Err-OutOfMemory.field-0 c.in-Err-OutOfMemory.field-0-is))
