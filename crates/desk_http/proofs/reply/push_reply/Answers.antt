use Rattle.std.specs.Prelude.{codes, decimal, length}
use Rattle.std.proofs.Common.{ap, ◌∙◌, ◌++◌}
use Rattle.std.proofs.lemmas.Result.{IfOk-equal}
use Rattle.httparse.specs.Ascii.{crlf_bytes}
use Rattle.desk_http.specs.Reply.{allow_line, body_lines, close_line, reply, status_line}
use Rattle.desk_http.proofs.ReplyLemmas.{whole_reply}
use Rattle.desk_http.proofs.reply.push_reply.Goals as goal

pub returns-clause-ok : goal.returns-clause-ok
unfolding reply body_lines
returns-clause-ok c =
    IfOk-equal c.push_all-3.result _ _ _ c.push_all-3.ensures.ok
    (whole_reply c.args.out.now _ _ _ (status_line c.args.status) (codes "Content-Type: text/plain; charset=utf-8") crlf_bytes (codes "Content-Length: ")
    (decimal (length c.args.body.now)) (allow_line c.args.allow) (close_line c.args.close) c.args.body.now
    (c.in_ok-push_all.ensures.ok ∙ ap (λ l. c.args.out.now ++ l) (c.as_bytes.ensures.value ∙ c.head_start.ensures)) c.in_ok-push_u128.ensures.ok
    (c.in_ok-push_all-2.ensures.ok ∙ ap (λ l. c.push_u128.new.out ++ l) (c.as_bytes-2.ensures.value ∙ c.head_rest.ensures)))
