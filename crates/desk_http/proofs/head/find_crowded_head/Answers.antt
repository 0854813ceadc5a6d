use Rattle.std.proofs.Common.{Err, ap, ◌∙◌, arith}
use Rattle.desk_http.proofs.HeadLemmas.{never_exceeds, found_over}
use Rattle.desk_http.proofs.head.find_crowded_head.Goals as goal

pub unreachable-requires : goal.unreachable-requires
unreachable-requires c =
    never_exceeds c.args.bytes.now 2730 (omega arith)
    (c.parse_request.ensures.too_many (c.in-Err-TooManyHeaders.is ∙ ap Err c.in-Err-TooManyHeaders.field-0-is))

pub returns-in-Ok-Complete : goal.returns-in-Ok-Complete
returns-in-Ok-Complete c =
    found_over c.args.bytes.now c.parse_request.new.headers c.in-Ok-Complete.field-0-0 64 c.requires.crowded
    (rw c.in-Ok-Complete.field-0-is at c.in-Ok-Complete.ensures.complete)
