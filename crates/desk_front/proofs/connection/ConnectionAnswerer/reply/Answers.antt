-- What a request asks is answered; where it asks nothing, that is told.
use Rattle.std.proofs.Common.{◌≡◌, ◌≢◌, ◌∙◌, ap, sym, refl, Result, Err}
use Rattle.desk_clerk.specs.Clerk.{keeper_of, current_tables}
use Rattle.desk_http.specs.Reply.{fixed_reply}
use Rattle.desk_http.specs.Taken.{message_of, span_bytes}
use Rattle.desk_http.specs.declared.ask.Ask.{Ask}
use Rattle.desk_http.specs.declared.http_fault.HttpFault.{HttpFault}
use Rattle.desk_http.specs.declared.http_fault.HttpFault.TheVariants as cause
use Rattle.desk_http.specs.declared.method.Method.{Method}
use Rattle.desk_front.specs.Asked.{asked_of, of_route}
use Rattle.desk_front.specs.Replies.{no_ask}
use Rattle.desk_front.specs.Told.{Says}
use Rattle.desk_front.specs.Turn.{Standing, Turn}
use Rattle.desk_front.proofs.Saying.{if_err_weaker, says_refusal}
use Rattle.desk_front.proofs.Turning.{allows_known, lacks, refuses}
use Rattle.desk_front.proofs.connection.ConnectionAnswerer.reply.Goals as goal

unlike : (x : HttpFault) → x ≢ cause.OutOfMemory → ◌≢◌ {A = Result Ask HttpFault} (Err x) (Err cause.OutOfMemory)
unlike x other e = other (inside x cause.OutOfMemory e)
  where
    inside : (a b : HttpFault) → ◌≡◌ {A = Result Ask HttpFault} (Err a) (Err b) → a ≡ b
    inside a b h = cc

unlike_method : (x : HttpFault) (allow : Method) → x ≡ cause.WrongMethod allow → ◌≢◌ {A = Result Ask HttpFault} (Err x) (Err cause.OutOfMemory)
unlike_method x allow e h = cc

pub tell_no_ask-requires : goal.tell_no_ask-requires
tell_no_ask-requires g c allow e =
    allows_known c.args.request.now.method (span_bytes c.args.buffer.now c.args.request.now.target) allow
    (sym (c.in-Err.ensures.value (unlike_method c.in-Err.fault allow e)) ∙ ap Err e)

pub returns-in-Err-clause-fixed : goal.returns-in-Err-clause-fixed
returns-in-Err-clause-fixed g c =
    let s : Standing = record { current = current_tables c.args.self.now.clerk.now; last_seen = c.args.self.now.last_seen; faults = g.K.Keeper.faults (keeper_of c.args.self.now.clerk.now) } in
    let asked = asked_of (message_of c.args.buffer.now c.args.request.now) in
    if_err_weaker (λ told. Says Turn s asked c.args.request.now.close (fixed_reply told c.args.request.now.close) s) _ c.tell_no_ask.result (λ told h. (refl, (λ tells. tells), h))
    (says_refusal Turn refuses lacks (c.in-Err.fault ≢ cause.OutOfMemory) s asked c.args.request.now.close (no_ask c.in-Err.fault) c.tell_no_ask.result
    (λ other. ap (of_route (span_bytes c.args.buffer.now c.args.request.now.body)) (sym (c.in-Err.ensures.value (unlike c.in-Err.fault other)))) c.tell_no_ask.ensures.fixed)
