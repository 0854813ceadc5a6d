use Rattle.std.proofs.Common.{◌∙◌, false, true}
use Rattle.clap.specs.Matches.{found_of}
use Rattle.desk_words.proofs.Answered.{an_answer, dashed_answer, dashes_by, failed_answer, no_answer}
use Rattle.desk_words.proofs.read.read_command.Goals as goal

pub returns-then-has_dashed_word-clause-command : goal.returns-then-has_dashed_word-clause-command
returns-then-has_dashed_word-clause-command c = λ other. dashed_answer _ (dashes_by c.args.words.now _ true c.has_dashed_word.ensures c.if-has_dashed_word.true)

pub returns-in_err-line-clause-command : goal.returns-in_err-line-clause-command
returns-in_err-line-clause-command c =
    let ok = dashes_by c.args.words.now _ false c.has_dashed_word.ensures c.if-has_dashed_word.false in
    λ other. failed_answer _ c.in_err-line.field-0.0 c.from_residual.result ok (c.in_err-line.ensures ok) c.from_residual.ensures.1 other

pub returns-in-Some-clause-command : goal.returns-in-Some-clause-command
returns-in-Some-clause-command c =
    let ok = dashes_by c.args.words.now _ false c.has_dashed_word.ensures c.if-has_dashed_word.false in
    λ other. c.read_values.ensures.value other
    ∙ an_answer _ c.in_ok-line.line c.in-Some.name.now (found_of c.in-Some.values.now) ok (c.in_ok-line.ensures ok) c.in-Some.ensures.name c.in-Some.ensures.rows

pub returns-clause-command : goal.returns-clause-command
returns-clause-command c =
    let ok = dashes_by c.args.words.now _ false c.has_dashed_word.ensures c.if-has_dashed_word.false in
    λ other. no_answer _ c.in_ok-line.line ok (c.in_ok-line.ensures ok) c.in-None.ensures.name
