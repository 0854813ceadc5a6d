-- What a request asks is answered; where it asks nothing, that is told.
use Rattle.std.proofs.Common.{◌≡◌, ◌≢◌, ◌∙◌, ap, subst, sym, refl, Result, Err, Ok}
use Rattle.desk_declare.specs.Declaration.{declaration_of}
use Rattle.desk_edits.specs.Edit.{edit_of_json}
use Rattle.desk_history.specs.History.{after}
use Rattle.desk_http.specs.Reply.{bytes_with, fixed_reply}
use Rattle.desk_http.specs.Routes.{route_of}
use Rattle.desk_http.specs.Taken.{message_of, span_bytes}
use Rattle.desk_http.specs.declared.ask.Ask.{Ask}
use Rattle.desk_http.specs.declared.ask.Ask.TheVariants as ask
use Rattle.desk_http.specs.declared.fixed.Fixed.TheVariants as refusal
use Rattle.desk_http.specs.declared.http_fault.HttpFault.{HttpFault}
use Rattle.desk_http.specs.declared.http_fault.HttpFault.TheVariants as cause
use Rattle.desk_http.specs.declared.method.Method.{Method}
use Rattle.desk_front.specs.Asked.{asked_of, of_csv, of_json, of_route}
use Rattle.desk_front.specs.Replies.{answer_at, no_ask}
use Rattle.desk_front.specs.Sitting.{SeatTurn, Sitting, sitting}
use Rattle.desk_front.specs.Told.{Says}
use Rattle.desk_front.proofs.Saying.{if_err_weaker, on_ok_weaker, says_refusal, says_told}
use Rattle.desk_front.proofs.Seating.{lacks, refuses, says_answer, says_unanswered}
use Rattle.desk_front.proofs.Turning.{allows_known}
use Rattle.desk_front.proofs.linked.LinkedAnswerer.reply.Goals as goal

unlike : (x : HttpFault) → x ≢ cause.OutOfMemory → ◌≢◌ {A = Result Ask HttpFault} (Err x) (Err cause.OutOfMemory)
unlike x other e = other (inside x cause.OutOfMemory e)
  where
    inside : (a b : HttpFault) → ◌≡◌ {A = Result Ask HttpFault} (Err a) (Err b) → a ≡ b
    inside a b h = cc

unlike_method : (x : HttpFault) (allow : Method) → x ≡ cause.WrongMethod allow → ◌≢◌ {A = Result Ask HttpFault} (Err x) (Err cause.OutOfMemory)
unlike_method x allow e h = cc

pub tell_no_ask-requires : goal.tell_no_ask-requires
tell_no_ask-requires g c allow e =
    allows_known c.args.request.now.method (span_bytes c.args.buffer.now c.args.request.now.target) allow
    (sym (c.in-Err.ensures.value (unlike_method c.in-Err.fault allow e)) ∙ ap Err e)

pub returns-in-Ok-Question-clause-ok : goal.returns-in-Ok-Question-clause-ok
returns-in-Ok-Question-clause-ok g c =
    let request = c.args.request.now in
    let old : Sitting = sitting (g.S.Seat.list c.args.self.now.seat.now) (g.E.Editor.faults c.args.self.now.editor.now) (g.E.Editor.given c.args.self.now.editor.now) in
    let list = g.S.Seat.list c.answer.new.self.seat.now in
    let asked = c.in-Ok-Question.question in
    let routed : Ok (ask.Question asked) ≡ route_of request.method (span_bytes c.args.buffer.now request.target) = ap (λ a. Ok a) (sym c.in-Ok-Question.field-0-is) ∙ c.in-Ok-Question.ensures.value (λ e. cc) in
    let is = ap (of_route (span_bytes c.args.buffer.now request.body)) routed in
    let said = bytes_with request.close (answer_at (after (g.S.Seat.list c.answer.new.self.seat.now)) asked) in
    on_ok_weaker c.answer.result
    (λ e. (
      said,
      e,
      (
        ap (λ e. e.ghost_name) c.answer.ensures.editor_stays,
        c.answer.ensures.same_seat,
        subst (λ e. Says (SeatTurn g.E.Editor.NeverFails) old (asked_of (message_of c.args.buffer.now request)) request.close said (sitting list (g.E.Editor.faults e.now) (g.E.Editor.given e.now))) (sym c.answer.ensures.editor_stays)
            (subst (λ a. Says (SeatTurn g.E.Editor.NeverFails) old a request.close said (sitting list (g.E.Editor.faults c.args.self.now.editor.now) (g.E.Editor.given c.args.self.now.editor.now))) is
            (says_answer g.E.Editor.NeverFails (g.S.Seat.list c.args.self.now.seat.now) (g.S.Seat.list c.answer.new.self.seat.now) (g.E.Editor.faults c.args.self.now.editor.now) (g.E.Editor.given c.args.self.now.editor.now)
            asked request.close c.answer.ensures.grown)),
      ),
    ))
    c.answer.ensures.ok

pub returns-in-Ok-Question-clause-fixed : goal.returns-in-Ok-Question-clause-fixed
returns-in-Ok-Question-clause-fixed g c =
    let request = c.args.request.now in
    let old : Sitting = sitting (g.S.Seat.list c.args.self.now.seat.now) (g.E.Editor.faults c.args.self.now.editor.now) (g.E.Editor.given c.args.self.now.editor.now) in
    let list = g.S.Seat.list c.answer.new.self.seat.now in
    let asked = c.in-Ok-Question.question in
    let routed : Ok (ask.Question asked) ≡ route_of request.method (span_bytes c.args.buffer.now request.target) = ap (λ a. Ok a) (sym c.in-Ok-Question.field-0-is) ∙ c.in-Ok-Question.ensures.value (λ e. cc) in
    let is = ap (of_route (span_bytes c.args.buffer.now request.body)) routed in
    if_err_weaker (λ told. told ≡ refusal.Memory) _ c.answer.result
    (λ told memory. (
      ap (λ e. e.ghost_name) c.answer.ensures.editor_stays,
      c.answer.ensures.same_seat,
      subst (λ e. Says (SeatTurn g.E.Editor.NeverFails) old (asked_of (message_of c.args.buffer.now request)) request.close (fixed_reply told request.close) (sitting list (g.E.Editor.faults e.now) (g.E.Editor.given e.now))) (sym c.answer.ensures.editor_stays)
          (subst (λ a. Says (SeatTurn g.E.Editor.NeverFails) old a request.close (fixed_reply told request.close) (sitting list (g.E.Editor.faults c.args.self.now.editor.now) (g.E.Editor.given c.args.self.now.editor.now))) is
          (says_unanswered g.E.Editor.NeverFails (g.S.Seat.list c.args.self.now.seat.now) (g.S.Seat.list c.answer.new.self.seat.now) (g.E.Editor.faults c.args.self.now.editor.now) (g.E.Editor.given c.args.self.now.editor.now)
          asked request.close told memory c.answer.ensures.grown)),
    ))
    c.answer.ensures.memory

pub returns-in-Ok-Edit-clause-ok : goal.returns-in-Ok-Edit-clause-ok
returns-in-Ok-Edit-clause-ok g c =
    let request = c.args.request.now in
    let old : Sitting = sitting (g.S.Seat.list c.args.self.now.seat.now) (g.E.Editor.faults c.args.self.now.editor.now) (g.E.Editor.given c.args.self.now.editor.now) in
    let new : Sitting = sitting (g.S.Seat.list c.enter_json.new.self.seat.now) (g.E.Editor.faults c.enter_json.new.self.editor.now) (g.E.Editor.given c.enter_json.new.self.editor.now) in
    let is = ap (λ b. of_json (edit_of_json b)) c.of-body.ensures
    ∙ ap (λ a. of_route (span_bytes c.args.buffer.now request.body) (Ok a)) (sym c.in-Ok-Edit.field-0-is)
    ∙ ap (of_route (span_bytes c.args.buffer.now request.body)) (c.in-Ok-Edit.ensures.value (λ e. cc)) in
    on_ok_weaker c.enter_json.result
    (λ told. (told.0, told.1, (c.enter_json.ensures.same_editor, c.enter_json.ensures.same_seat, subst (λ a. Says (SeatTurn g.E.Editor.NeverFails) old a request.close told.0 new) is told.2)))
    c.enter_json.ensures.ok

pub returns-in-Ok-Edit-clause-fixed : goal.returns-in-Ok-Edit-clause-fixed
returns-in-Ok-Edit-clause-fixed g c =
    let request = c.args.request.now in
    let old : Sitting = sitting (g.S.Seat.list c.args.self.now.seat.now) (g.E.Editor.faults c.args.self.now.editor.now) (g.E.Editor.given c.args.self.now.editor.now) in
    let new : Sitting = sitting (g.S.Seat.list c.enter_json.new.self.seat.now) (g.E.Editor.faults c.enter_json.new.self.editor.now) (g.E.Editor.given c.enter_json.new.self.editor.now) in
    let is = ap (λ b. of_json (edit_of_json b)) c.of-body.ensures
    ∙ ap (λ a. of_route (span_bytes c.args.buffer.now request.body) (Ok a)) (sym c.in-Ok-Edit.field-0-is)
    ∙ ap (of_route (span_bytes c.args.buffer.now request.body)) (c.in-Ok-Edit.ensures.value (λ e. cc)) in
    if_err_weaker (λ told. Says (SeatTurn g.E.Editor.NeverFails) old (of_json (edit_of_json c.of-body.result.now)) request.close (fixed_reply told request.close) new) _ c.enter_json.result
    (λ told says. (c.enter_json.ensures.same_editor, c.enter_json.ensures.same_seat, subst (λ a. Says (SeatTurn g.E.Editor.NeverFails) old a request.close (fixed_reply told request.close) new) is says))
    c.enter_json.ensures.fixed

pub returns-in-Ok-Declaration-clause-ok : goal.returns-in-Ok-Declaration-clause-ok
returns-in-Ok-Declaration-clause-ok g c =
    let request = c.args.request.now in
    let old : Sitting = sitting (g.S.Seat.list c.args.self.now.seat.now) (g.E.Editor.faults c.args.self.now.editor.now) (g.E.Editor.given c.args.self.now.editor.now) in
    let new : Sitting = sitting (g.S.Seat.list c.enter_csv.new.self.seat.now) (g.E.Editor.faults c.enter_csv.new.self.editor.now) (g.E.Editor.given c.enter_csv.new.self.editor.now) in
    let is = ap (λ b. of_csv (declaration_of b)) c.of-body.ensures
    ∙ ap (λ a. of_route (span_bytes c.args.buffer.now request.body) (Ok a)) (sym c.in-Ok-Declaration.field-0-is)
    ∙ ap (of_route (span_bytes c.args.buffer.now request.body)) (c.in-Ok-Declaration.ensures.value (λ e. cc)) in
    on_ok_weaker c.enter_csv.result
    (λ told. (told.0, told.1, (c.enter_csv.ensures.same_editor, c.enter_csv.ensures.same_seat, subst (λ a. Says (SeatTurn g.E.Editor.NeverFails) old a request.close told.0 new) is told.2)))
    c.enter_csv.ensures.ok

pub returns-in-Ok-Declaration-clause-fixed : goal.returns-in-Ok-Declaration-clause-fixed
returns-in-Ok-Declaration-clause-fixed g c =
    let request = c.args.request.now in
    let old : Sitting = sitting (g.S.Seat.list c.args.self.now.seat.now) (g.E.Editor.faults c.args.self.now.editor.now) (g.E.Editor.given c.args.self.now.editor.now) in
    let new : Sitting = sitting (g.S.Seat.list c.enter_csv.new.self.seat.now) (g.E.Editor.faults c.enter_csv.new.self.editor.now) (g.E.Editor.given c.enter_csv.new.self.editor.now) in
    let is = ap (λ b. of_csv (declaration_of b)) c.of-body.ensures
    ∙ ap (λ a. of_route (span_bytes c.args.buffer.now request.body) (Ok a)) (sym c.in-Ok-Declaration.field-0-is)
    ∙ ap (of_route (span_bytes c.args.buffer.now request.body)) (c.in-Ok-Declaration.ensures.value (λ e. cc)) in
    if_err_weaker (λ told. Says (SeatTurn g.E.Editor.NeverFails) old (of_csv (declaration_of c.of-body.result.now)) request.close (fixed_reply told request.close) new) _ c.enter_csv.result
    (λ told says. (c.enter_csv.ensures.same_editor, c.enter_csv.ensures.same_seat, subst (λ a. Says (SeatTurn g.E.Editor.NeverFails) old a request.close (fixed_reply told request.close) new) is says))
    c.enter_csv.ensures.fixed

pub returns-in-Err-clause-ok : goal.returns-in-Err-clause-ok
returns-in-Err-clause-ok g c =
    let request = c.args.request.now in
    let old : Sitting = sitting (g.S.Seat.list c.args.self.now.seat.now) (g.E.Editor.faults c.args.self.now.editor.now) (g.E.Editor.given c.args.self.now.editor.now) in
    let asked = asked_of (message_of c.args.buffer.now request) in
    on_ok_weaker c.tell_no_ask.result (λ told. (told.0, told.1, (refl, refl, told.2)))
    (says_told (SeatTurn g.E.Editor.NeverFails) (refuses g.E.Editor.NeverFails) (lacks g.E.Editor.NeverFails) (c.in-Err.fault ≢ cause.OutOfMemory) old asked request.close (no_ask c.in-Err.fault) c.args.out.now c.tell_no_ask.new.out c.tell_no_ask.result
    (λ other. ap (of_route (span_bytes c.args.buffer.now request.body)) (sym (c.in-Err.ensures.value (unlike c.in-Err.fault other)))) c.tell_no_ask.ensures.ok)

pub returns-in-Err-clause-fixed : goal.returns-in-Err-clause-fixed
returns-in-Err-clause-fixed g c =
    let request = c.args.request.now in
    let old : Sitting = sitting (g.S.Seat.list c.args.self.now.seat.now) (g.E.Editor.faults c.args.self.now.editor.now) (g.E.Editor.given c.args.self.now.editor.now) in
    let asked = asked_of (message_of c.args.buffer.now request) in
    if_err_weaker (λ told. Says (SeatTurn g.E.Editor.NeverFails) old asked request.close (fixed_reply told request.close) old) _ c.tell_no_ask.result (λ told h. (refl, refl, h))
    (says_refusal (SeatTurn g.E.Editor.NeverFails) (refuses g.E.Editor.NeverFails) (lacks g.E.Editor.NeverFails) (c.in-Err.fault ≢ cause.OutOfMemory) old asked request.close (no_ask c.in-Err.fault) c.tell_no_ask.result
    (λ other. ap (of_route (span_bytes c.args.buffer.now request.body)) (sym (c.in-Err.ensures.value (unlike c.in-Err.fault other)))) c.tell_no_ask.ensures.fixed)
