use Rattle.std.proofs.Common.{◌≡◌, get_or, sym, ap, ◌∙◌, arith}
use Rattle.std.specs.Char.{is_ascii_digit, digit_value}
use Rattle.std.proofs.lemmas.List.Folds.{list_all_at, list_all_more}
use Rattle.std.proofs.lemmas.Bool.{and_from}
use Rattle.std.proofs.lemmas.Bool.Decides.{nat_tests}
use Rattle.std.proofs.lemmas.Int.Digits.{digits_value_more}
use Rattle.desk_http.specs.Lines.{bounded_length}
use Rattle.desk_http.proofs.LinesLemmas.{number_written_none}
use Rattle.desk_http.proofs.lines.read_length.Goals as goal

pub returns-then-not-is_ascii_digit : goal.returns-then-not-is_ascii_digit
returns-then-not-is_ascii_digit c =
    let fails = list_all_at is_ascii_digit c.args.value.now c.loop-digit.digit-index 0 c.loop-digit-test.true (sym c.if-not-is_ascii_digit.ensures.value) in
    sym (ap bounded_length (number_written_none c.args.value.now fails))

pub loop-digit-preserved : goal.loop-digit-preserved
loop-digit-preserved c =
    let digit : digit_value (get_or c.args.value.now c.loop-digit.digit-index 0) ≡ c.from.result = grind (arith, nat_tests) in
    record {
      digits = list_all_more is_ascii_digit c.args.value.now c.loop-digit.digit-index 0 c.loop-digit-test.true
          ∙ and_from _ _ c.loop-digit.invariant.digits (sym c.if-not-is_ascii_digit.ensures.value);
      number = omega (arith, digits_value_more 10 c.args.value.now _ c.loop-digit-test.true);
    }
