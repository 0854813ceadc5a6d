-- A fault of the console is told where a read failed, or where the input is accepted.
use Rattle.std.proofs.Common.{◌≡◌, ◌≢◌, ℕ, List, Result, Ok, Err, ap, inl, inr, subst}
use Rattle.desk_law.specs.declared.kind_on_day.KindOnDay.{KindOnDay}
use Rattle.desk_top.specs.Answer.{answer_of_check, answer_to_check}
use Rattle.desk_top.specs.Check.{Agrees, check_outcome}
use Rattle.desk_top.specs.declared.check.CheckFault.{CheckFault}
use Rattle.desk_top.specs.declared.check.CheckFault.TheVariants.{Failed}
use Rattle.desk_top.specs.declared.status.Status.TheVariants.{Done}
use Rattle.desk_top.proofs.check.answer_check.Goals as goal

-- the answer that was found is a success
succeeds : (check : KindOnDay) (input text : List ℕ) (found : Result (List ℕ) CheckFault) → found ≡ Ok text
    → (found ≢ Err Failed → Agrees found (check_outcome check input)) → (answer_to_check check input).status ≡ Done
succeeds check input text found is agrees =
    let same : check_outcome check input ≡ Ok text = subst (λ r. Agrees r (check_outcome check input)) is (agrees (λ failed. cc)) in
    ap (λ (r : Result (List ℕ) _). (answer_of_check r).status) same

pub returns-in-Ok-clause-reading : goal.returns-in-Ok-clause-reading
returns-in-Ok-clause-reading g c = λ _.
    let (input, is, agrees) = c.check_input.ensures.answer in
    inr (input, is, succeeds c.args.check.now input c.in-Ok.text c.check_input.result c.in-Ok.is agrees)
