-- An edit is answered by the editor, or it isn't.
use Rattle.std.proofs.Common.{◌≡◌, Err, ap, sym}
use Rattle.desk_http.specs.Reply.{bytes_with, with_body}
use Rattle.desk_http.specs.declared.fixed.Fixed.TheVariants as refusal
use Rattle.desk_front.specs.Sitting.{Sitting, edited_status, sitting}
use Rattle.desk_front.proofs.Saying.{if_err_weaker, on_ok_weaker}
use Rattle.desk_front.proofs.Seating.{IsEdited, says_edited, says_failed, says_unmade, says_untold}
use Rattle.desk_front.proofs.linked.Linked.enter.Goals as goal

pub returns-in-Ok-Accepted-clause-ok : goal.returns-in-Ok-Accepted-clause-ok
returns-in-Ok-Accepted-clause-ok g c =
    let old : Sitting = sitting (g.S.Seat.list c.args.self.now.seat.now) (g.E.Editor.faults c.args.self.now.editor.now) (g.E.Editor.given c.args.self.now.editor.now) in
    let new : Sitting = sitting (g.S.Seat.list c.edit.new.seat) (g.E.Editor.faults c.edit.new.self) (g.E.Editor.given c.edit.new.self) in
    let answer = c.in-Ok-Accepted.field-0 in
    let body = c.as_slice.result.now in
    let edited : IsEdited old c.args.edit answer c.truncate.new.self c.edit.new.out new = record {
      begins = c.in-Ok-Accepted.ensures.grown;
      answers = c.in-Ok-Accepted.ensures.answer;
      counted = c.edit.ensures.faults.never_falls;
      given = c.in-Ok-Accepted.ensures.given;
    } in
    on_ok_weaker c.tell.result
    (λ e. (
      bytes_with c.args.close (with_body 200 body),
      e,
      says_edited g.E.Editor.NeverFails old new c.args.edit answer c.truncate.new.self c.edit.new.out body 200 c.args.close edited c.truncate.ensures c.as_slice.ensures
          (sym (ap edited_status c.in-Ok-Accepted.field-0-is)),
    ))
    c.tell.ensures.ok

pub returns-in-Ok-Accepted-clause-fixed : goal.returns-in-Ok-Accepted-clause-fixed
returns-in-Ok-Accepted-clause-fixed g c =
    let old : Sitting = sitting (g.S.Seat.list c.args.self.now.seat.now) (g.E.Editor.faults c.args.self.now.editor.now) (g.E.Editor.given c.args.self.now.editor.now) in
    let new : Sitting = sitting (g.S.Seat.list c.edit.new.seat) (g.E.Editor.faults c.edit.new.self) (g.E.Editor.given c.edit.new.self) in
    let answer = c.in-Ok-Accepted.field-0 in
    let edited : IsEdited old c.args.edit answer c.truncate.new.self c.edit.new.out new = record {
      begins = c.in-Ok-Accepted.ensures.grown;
      answers = c.in-Ok-Accepted.ensures.answer;
      counted = c.edit.ensures.faults.never_falls;
      given = c.in-Ok-Accepted.ensures.given;
    } in
    if_err_weaker (λ told. told ≡ refusal.Memory) _ c.tell.result
    (λ told memory. says_untold g.E.Editor.NeverFails old new c.args.edit answer c.truncate.new.self c.edit.new.out c.args.close told memory edited)
    c.tell.ensures.memory

pub returns-in-Ok-Refused-clause-ok : goal.returns-in-Ok-Refused-clause-ok
returns-in-Ok-Refused-clause-ok g c =
    let old : Sitting = sitting (g.S.Seat.list c.args.self.now.seat.now) (g.E.Editor.faults c.args.self.now.editor.now) (g.E.Editor.given c.args.self.now.editor.now) in
    let new : Sitting = sitting (g.S.Seat.list c.edit.new.seat) (g.E.Editor.faults c.edit.new.self) (g.E.Editor.given c.edit.new.self) in
    let answer = c.in-Ok-Refused.field-0 in
    let body = c.as_slice-in-Ok-Refused.result.now in
    let edited : IsEdited old c.args.edit answer c.truncate.new.self c.edit.new.out new = record {
      begins = c.in-Ok-Refused.ensures.grown;
      answers = c.in-Ok-Refused.ensures.answer;
      counted = c.edit.ensures.faults.never_falls;
      given = c.in-Ok-Refused.ensures.given;
    } in
    on_ok_weaker c.tell-in-Ok-Refused.result
    (λ e. (
      bytes_with c.args.close (with_body 409 body),
      e,
      says_edited g.E.Editor.NeverFails old new c.args.edit answer c.truncate.new.self c.edit.new.out body 409 c.args.close edited c.truncate.ensures
          c.as_slice-in-Ok-Refused.ensures (sym (ap edited_status c.in-Ok-Refused.field-0-is)),
    ))
    c.tell-in-Ok-Refused.ensures.ok

pub returns-in-Ok-Refused-clause-fixed : goal.returns-in-Ok-Refused-clause-fixed
returns-in-Ok-Refused-clause-fixed g c =
    let old : Sitting = sitting (g.S.Seat.list c.args.self.now.seat.now) (g.E.Editor.faults c.args.self.now.editor.now) (g.E.Editor.given c.args.self.now.editor.now) in
    let new : Sitting = sitting (g.S.Seat.list c.edit.new.seat) (g.E.Editor.faults c.edit.new.self) (g.E.Editor.given c.edit.new.self) in
    let answer = c.in-Ok-Refused.field-0 in
    let edited : IsEdited old c.args.edit answer c.truncate.new.self c.edit.new.out new = record {
      begins = c.in-Ok-Refused.ensures.grown;
      answers = c.in-Ok-Refused.ensures.answer;
      counted = c.edit.ensures.faults.never_falls;
      given = c.in-Ok-Refused.ensures.given;
    } in
    if_err_weaker (λ told. told ≡ refusal.Memory) _ c.tell-in-Ok-Refused.result
    (λ told memory. says_untold g.E.Editor.NeverFails old new c.args.edit answer c.truncate.new.self c.edit.new.out c.args.close told memory edited)
    c.tell-in-Ok-Refused.ensures.memory

pub returns-in-Err-KeeperFault-clause-fixed : goal.returns-in-Err-KeeperFault-clause-fixed
returns-in-Err-KeeperFault-clause-fixed g c =
    let stays = c.in-Err-KeeperFault.ensures.err in
    says_failed g.E.Editor.NeverFails (g.S.Seat.list c.args.self.now.seat.now) (g.S.Seat.list c.edit.new.seat) (g.E.Editor.faults c.args.self.now.editor.now) (g.E.Editor.faults c.edit.new.self)
    (g.E.Editor.given c.args.self.now.editor.now) (g.E.Editor.given c.edit.new.self) c.args.edit c.args.close (ap g.S.Seat.list stays.1) c.edit.ensures.faults.never_falls stays.2
    (c.in-Err-KeeperFault.ensures.faults.rises (ap Err c.in-Err-KeeperFault.field-0-is)) (λ never. c.in-Err-KeeperFault.ensures.sure never (ap Err c.in-Err-KeeperFault.field-0-is))

pub returns-in-Err-OutOfMemory-clause-fixed : goal.returns-in-Err-OutOfMemory-clause-fixed
returns-in-Err-OutOfMemory-clause-fixed g c =
    let stays = c.in-Err-OutOfMemory.ensures.err in
    says_unmade g.E.Editor.NeverFails (g.S.Seat.list c.args.self.now.seat.now) (g.S.Seat.list c.edit.new.seat) (g.E.Editor.faults c.args.self.now.editor.now) (g.E.Editor.faults c.edit.new.self)
    (g.E.Editor.given c.args.self.now.editor.now) (g.E.Editor.given c.edit.new.self) c.args.edit c.args.close (ap g.S.Seat.list stays.1) c.edit.ensures.faults.never_falls stays.2
