-- The summary of any tables is an answer.
use Rattle.std.proofs.Common.{◌≡◌, rules}
use Rattle.desk_engine.specs.Engine.{lists_of}
use Rattle.desk_scratch.specs.Summary.{summary_text}
use Rattle.desk_top.proofs.Summaries.{is_summary}
use Rattle.desk_top.proofs.summary.answer_summary.Goals as goal

pub returns-in-Ok-clause-answer : goal.returns-in-Ok-clause-answer
returns-in-Ok-clause-answer g c =
    let (text, is, out) = c.in-Ok.ensures.answer in
    let summary : text ≡ summary_text (lists_of c.args.engine.now) c.args.day = is_summary _ _ text is in
    let written : c.as_slice.result.now ≡ summary_text (lists_of c.args.engine.now) c.args.day = search (rules, summary, out, c.as_slice.ensures, c.start-text.ensures) in
    rw written at c.write_text.ensures.answer
