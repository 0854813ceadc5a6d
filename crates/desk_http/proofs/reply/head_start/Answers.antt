-- Each line, computed for its status.
use Rattle.std.proofs.Common.{ap, codes, sym, ◌∙◌, ◌++◌}
use Rattle.httparse.specs.Ascii.{crlf_bytes}
use Rattle.desk_http.specs.Reply.{status_line}
use Rattle.desk_http.proofs.OnLiterals.{replies_on_literals}
use Rattle.desk_http.proofs.reply.head_start.Goals as goal

pub returns-in-200 : goal.returns-in-200
unfolding replies_on_literals
returns-in-200 c = ap (λ status. status_line status ++ codes "Content-Type: text/plain; charset=utf-8" ++ crlf_bytes ++ codes "Content-Length: ") (sym c.in-200.is ∙ c.as_u16.ensures.value)

pub returns-in-400 : goal.returns-in-400
unfolding replies_on_literals
returns-in-400 c = ap (λ status. status_line status ++ codes "Content-Type: text/plain; charset=utf-8" ++ crlf_bytes ++ codes "Content-Length: ") (sym c.in-400.is ∙ c.as_u16.ensures.value)

pub returns-in-404 : goal.returns-in-404
unfolding replies_on_literals
returns-in-404 c = ap (λ status. status_line status ++ codes "Content-Type: text/plain; charset=utf-8" ++ crlf_bytes ++ codes "Content-Length: ") (sym c.in-404.is ∙ c.as_u16.ensures.value)

pub returns-in-405 : goal.returns-in-405
unfolding replies_on_literals
returns-in-405 c = ap (λ status. status_line status ++ codes "Content-Type: text/plain; charset=utf-8" ++ crlf_bytes ++ codes "Content-Length: ") (sym c.in-405.is ∙ c.as_u16.ensures.value)

pub returns-in-409 : goal.returns-in-409
unfolding replies_on_literals
returns-in-409 c = ap (λ status. status_line status ++ codes "Content-Type: text/plain; charset=utf-8" ++ crlf_bytes ++ codes "Content-Length: ") (sym c.in-409.is ∙ c.as_u16.ensures.value)

pub returns-in-411 : goal.returns-in-411
unfolding replies_on_literals
returns-in-411 c = ap (λ status. status_line status ++ codes "Content-Type: text/plain; charset=utf-8" ++ crlf_bytes ++ codes "Content-Length: ") (sym c.in-411.is ∙ c.as_u16.ensures.value)

pub returns-in-413 : goal.returns-in-413
unfolding replies_on_literals
returns-in-413 c = ap (λ status. status_line status ++ codes "Content-Type: text/plain; charset=utf-8" ++ crlf_bytes ++ codes "Content-Length: ") (sym c.in-413.is ∙ c.as_u16.ensures.value)

pub returns-in-431 : goal.returns-in-431
unfolding replies_on_literals
returns-in-431 c = ap (λ status. status_line status ++ codes "Content-Type: text/plain; charset=utf-8" ++ crlf_bytes ++ codes "Content-Length: ") (sym c.in-431.is ∙ c.as_u16.ensures.value)

pub returns-in-503 : goal.returns-in-503
unfolding replies_on_literals
returns-in-503 c = ap (λ status. status_line status ++ codes "Content-Type: text/plain; charset=utf-8" ++ crlf_bytes ++ codes "Content-Length: ") (sym c.in-503.is ∙ c.as_u16.ensures.value)

pub returns-in-507 : goal.returns-in-507
unfolding replies_on_literals
returns-in-507 c = ap (λ status. status_line status ++ codes "Content-Type: text/plain; charset=utf-8" ++ crlf_bytes ++ codes "Content-Length: ") (sym c.in-507.is ∙ c.as_u16.ensures.value)
