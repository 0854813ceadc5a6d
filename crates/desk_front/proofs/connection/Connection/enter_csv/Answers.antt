-- A body that is no declaration is told, or there is no memory for that.
use Rattle.std.proofs.Common.{◌≡◌, ◌≢◌, ap, sym, Result, Err}
use Rattle.desk_clerk.specs.Clerk.{keeper_of, current_tables}
use Rattle.desk_declare.specs.Declaration.{declaration_of}
use Rattle.desk_declare.specs.declared.declare_fault.DeclareFault.{DeclareFault}
use Rattle.desk_declare.specs.declared.declare_fault.DeclareFault.TheVariants as fault
use Rattle.desk_model.specs.declared.edit.Edit.{Edit}
use Rattle.desk_front.specs.Asked.{of_csv}
use Rattle.desk_http.specs.Reply.{with_body}
use Rattle.desk_front.specs.Replies.{bad_declaration_body}
use Rattle.desk_front.specs.Turn.{Standing, Turn}
use Rattle.desk_front.proofs.Saying.{says_memory_of, says_told}
use Rattle.desk_front.proofs.Turning.{lacks, refuses}
use Rattle.desk_front.proofs.connection.Connection.enter_csv.Goals as goal

unlike : (x : DeclareFault) → x ≢ fault.OutOfMemory → ◌≢◌ {A = Result Edit DeclareFault} (Err x) (Err fault.OutOfMemory)
unlike x other e = other (inside x fault.OutOfMemory e)
  where
    inside : (a b : DeclareFault) → ◌≡◌ {A = Result Edit DeclareFault} (Err a) (Err b) → a ≡ b
    inside a b h = cc

pub returns-in-Err-clause-ok : goal.returns-in-Err-clause-ok
returns-in-Err-clause-ok g c =
    let old : Standing = record { current = current_tables c.args.self.now.clerk.now; last_seen = c.args.self.now.last_seen; faults = g.K.Keeper.faults (keeper_of c.args.self.now.clerk.now) } in
    says_told Turn refuses lacks (c.in-Err.fault ≢ fault.OutOfMemory) old (of_csv (declaration_of c.args.body.now)) c.args.close (with_body 400 (bad_declaration_body c.in-Err.fault)) c.args.out.now
    c.tell_bad_declaration.new.out c.tell_bad_declaration.result (λ other. ap of_csv (sym (c.in-Err.ensures.edit (unlike c.in-Err.fault other)))) c.tell_bad_declaration.ensures.ok

pub returns-in-Err-clause-fixed : goal.returns-in-Err-clause-fixed
returns-in-Err-clause-fixed g c =
    let old : Standing = record { current = current_tables c.args.self.now.clerk.now; last_seen = c.args.self.now.last_seen; faults = g.K.Keeper.faults (keeper_of c.args.self.now.clerk.now) } in
    says_memory_of Turn refuses lacks old (of_csv (declaration_of c.args.body.now)) c.args.close c.tell_bad_declaration.result c.tell_bad_declaration.ensures.memory
