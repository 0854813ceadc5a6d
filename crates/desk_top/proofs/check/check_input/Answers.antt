-- The bytes that were read stand for all that the console has left.
use Rattle.std.proofs.Common.{◌≡◌, ◌≢◌, ◌∙◌, ap, ℕ, Result, Ok, Err, Bool, true, false, nat_lt, refl, length-append, ◌+◌, ◌≤◌, List, [], ◌++◌, length, Option, None, Some, arith}
use Rattle.std.proofs.lemmas.Bool.{ltb-true, ltb-false, lt-ltb}
use Rattle.std.proofs.lemmas.List.{append-nil}
use Rattle.std.specs.Io.KnownBytes.{Consumes, IsAtEnd}
use Rattle.std.specs.Result.{IsErrAnd}
use Rattle.desk_edge.specs.declared.transfer.ReadFault.{ReadFault}
use Rattle.desk_edge.specs.declared.transfer.ReadFault.TheVariants as read
use Rattle.desk_top.specs.Answer.{IsInput}
use Rattle.desk_top.specs.Check.{Agrees, check_outcome, input_limit}
use Rattle.desk_top.specs.Faults.{from_read_fault}
use Rattle.desk_top.specs.declared.check.CheckFault.{CheckFault}
use Rattle.desk_top.specs.declared.check.CheckFault.TheVariants.{Failed}
use Rattle.desk_law.specs.declared.kind_on_day.KindOnDay.{KindOnDay}
use Rattle.desk_top.proofs.Input.{some_input}
use Rattle.desk_top.proofs.check.check_input.Goals as goal

-- all that a link tells was read, or enough of it to know that it is too long
read-enough : (check : KindOnDay) (old new : Option (List ℕ)) (bytes : List ℕ) (result : Result (List ℕ) CheckFault)
    → Consumes old new bytes → (length bytes ≤ input_limit → IsAtEnd new) → Agrees result (check_outcome check bytes)
    → (input : List ℕ) × IsInput old input × (result ≢ Err Failed → Agrees result (check_outcome check input))
unfolding check_outcome
read-enough check None new bytes result taken end agrees = (bytes, tt, λ _. agrees)
read-enough check (Some told) None bytes result taken end agrees = absurd taken
read-enough check (Some told) (Some left) bytes result taken end agrees = (told, refl, λ _. by (nat_lt input_limit (length bytes)) refl)
  where
    by : (long : Bool) → nat_lt input_limit (length bytes) ≡ long → Agrees result (check_outcome check told)
    by false short =
        let none : left ≡ [] = end (ltb-false input_limit (length bytes) short) in
        let same : told ≡ bytes = taken ∙ ap (λ (rest : List ℕ). bytes ++ rest) none ∙ append-nil bytes in
        rw same agrees
    by true long =
        let more : length told ≡ length bytes + length left = ap length taken ∙ length-append bytes left in
        let longer : nat_lt input_limit (length told) ≡ true = lt-ltb input_limit (length told) (omega (arith, ltb-true input_limit (length bytes) long)) in
        rw longer (rw long at agrees)

-- after a fault of reading nothing is answered, and want of memory is an answer to any input
no-answer : (check : KindOnDay) (input : List ℕ) (fault : ReadFault) (result : Result (List ℕ) CheckFault) → IsErrAnd result (λ e. e ≡ from_read_fault fault)
    → result ≢ Err Failed → Agrees result (check_outcome check input)
no-answer check input fault (Ok text) is other = absurd is
no-answer check input read.Failed (Err e) is other = absurd (other (ap Err is))
no-answer check input read.OutOfMemory (Err e) is other = rw is tt

pub returns-in_err-bytes-clause-answer : goal.returns-in_err-bytes-clause-answer
returns-in_err-bytes-clause-answer g c =
    let (input, told) = some_input (g.L.Link.unread c.args.console.now) in
    (input, told, no-answer _ _ c.in_err-bytes.field-0.0 _ c.from_residual.ensures.1)

pub returns-clause-answer : goal.returns-clause-answer
returns-clause-answer g c = read-enough _ _ _ _ _ c.in_ok-bytes.ensures.bytes c.in_ok-bytes.ensures.whole (rw c.as_slice.ensures at c.check_bytes.ensures.answer)
