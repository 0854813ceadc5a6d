-- A body that is an edit is entered; one that is none is told, or there is no memory for that.
use Rattle.std.proofs.Common.{◌≡◌, ◌≢◌, ap, subst, sym, Result, Err}
use Rattle.desk_http.specs.Reply.{fixed_reply, with_body}
use Rattle.desk_model.specs.declared.edit.Edit.{Edit}
use Rattle.desk_edits.specs.Edit.{edit_of_json}
use Rattle.desk_edits.specs.declared.json_fault.JsonFault.{JsonFault}
use Rattle.desk_edits.specs.declared.json_fault.JsonFault.TheVariants as fault
use Rattle.desk_front.specs.Asked.{an_edit, of_json}
use Rattle.desk_front.specs.Replies.{bad_edit_body}
use Rattle.desk_front.specs.Sitting.{SeatTurn, Sitting, sitting}
use Rattle.desk_front.specs.Told.{Says}
use Rattle.desk_front.proofs.Saying.{if_err_weaker, on_ok_weaker, says_memory_of, says_told}
use Rattle.desk_front.proofs.Seating.{lacks, refuses}
use Rattle.desk_front.proofs.linked.Linked.enter_json.Goals as goal

unlike : (x : JsonFault) → x ≢ fault.OutOfMemory → ◌≢◌ {A = Result Edit JsonFault} (Err x) (Err fault.OutOfMemory)
unlike x other e = other (inside x fault.OutOfMemory e)
  where
    inside : (a b : JsonFault) → ◌≡◌ {A = Result Edit JsonFault} (Err a) (Err b) → a ≡ b
    inside a b h = cc

pub returns-in-Ok-clause-ok : goal.returns-in-Ok-clause-ok
returns-in-Ok-clause-ok g c =
    let old : Sitting = sitting (g.S.Seat.list c.args.self.now.seat.now) (g.E.Editor.faults c.args.self.now.editor.now) (g.E.Editor.given c.args.self.now.editor.now) in
    let new : Sitting = sitting (g.S.Seat.list c.enter.new.self.seat.now) (g.E.Editor.faults c.enter.new.self.editor.now) (g.E.Editor.given c.enter.new.self.editor.now) in
    let is = ap of_json (c.in-Ok.ensures.edit (λ e. cc)) in
    on_ok_weaker c.enter.result (λ told. (told.0, told.1, subst (λ a. Says (SeatTurn g.E.Editor.NeverFails) old a c.args.close told.0 new) is told.2)) c.enter.ensures.ok

pub returns-in-Ok-clause-fixed : goal.returns-in-Ok-clause-fixed
returns-in-Ok-clause-fixed g c =
    let old : Sitting = sitting (g.S.Seat.list c.args.self.now.seat.now) (g.E.Editor.faults c.args.self.now.editor.now) (g.E.Editor.given c.args.self.now.editor.now) in
    let new : Sitting = sitting (g.S.Seat.list c.enter.new.self.seat.now) (g.E.Editor.faults c.enter.new.self.editor.now) (g.E.Editor.given c.enter.new.self.editor.now) in
    let is = ap of_json (c.in-Ok.ensures.edit (λ e. cc)) in
    if_err_weaker (λ told. Says (SeatTurn g.E.Editor.NeverFails) old (an_edit c.in-Ok.edit) c.args.close (fixed_reply told c.args.close) new) _ c.enter.result
    (λ told says. subst (λ a. Says (SeatTurn g.E.Editor.NeverFails) old a c.args.close (fixed_reply told c.args.close) new) is says) c.enter.ensures.fixed

pub returns-in-Err-clause-ok : goal.returns-in-Err-clause-ok
returns-in-Err-clause-ok g c =
    let old : Sitting = sitting (g.S.Seat.list c.args.self.now.seat.now) (g.E.Editor.faults c.args.self.now.editor.now) (g.E.Editor.given c.args.self.now.editor.now) in
    says_told (SeatTurn g.E.Editor.NeverFails) (refuses g.E.Editor.NeverFails) (lacks g.E.Editor.NeverFails) (c.in-Err.fault ≢ fault.OutOfMemory) old (of_json (edit_of_json c.args.text.now)) c.args.close (with_body 400 (bad_edit_body c.in-Err.fault)) c.args.out.now
    c.tell_bad_edit.new.out c.tell_bad_edit.result (λ other. ap of_json (sym (c.in-Err.ensures.edit (unlike c.in-Err.fault other)))) c.tell_bad_edit.ensures.ok

pub returns-in-Err-clause-fixed : goal.returns-in-Err-clause-fixed
returns-in-Err-clause-fixed g c =
    let old : Sitting = sitting (g.S.Seat.list c.args.self.now.seat.now) (g.E.Editor.faults c.args.self.now.editor.now) (g.E.Editor.given c.args.self.now.editor.now) in
    says_memory_of (SeatTurn g.E.Editor.NeverFails) (refuses g.E.Editor.NeverFails) (lacks g.E.Editor.NeverFails) old (of_json (edit_of_json c.args.text.now)) c.args.close c.tell_bad_edit.result c.tell_bad_edit.ensures.memory
