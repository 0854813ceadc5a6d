-- What a seat and an editor say in one turn.
use Rattle.std.proofs.Common.{◌≡◌, ℕ, ◌≤◌, Bool, List, [], ◌∷◌, ◌++◌, Option, None, Some, Result, Ok, Err, arith, refl, sym, ap, ◌∙◌, subst, inl, inr, append-nil}
use Rattle.desk_edge.specs.Faults.{Rose}
use Rattle.desk_history.specs.History.{Begins, History, after, number_of}
use Rattle.desk_history.proofs.Beginnings.{begins_itself}
use Rattle.desk_http.specs.Reply.{Reply, bytes_with, fixed, fixed_reply, with_body}
use Rattle.desk_http.specs.declared.fixed.Fixed.{Fixed}
use Rattle.desk_http.specs.declared.fixed.Fixed.TheVariants as refusal
use Rattle.desk_model.specs.declared.edit.Edit.{Edit}
use Rattle.desk_model.specs.declared.rule_fault.RuleFault.{RuleFault}
use Rattle.desk_scratch.specs.declared.question.Question.{Question}
use Rattle.desk_front.specs.Asked.{Asked, edit, nothing, question}
use Rattle.desk_front.specs.Replies.{answer_at, reply_to_edit}
use Rattle.desk_front.specs.Sitting.{AnswersEdit, IsSaidOfMemory, Moves, SeatTurn, Sitting, edited_of, edited_status, given_for, sitting, with_given}
use Rattle.desk_front.specs.Told.{Says}
use Rattle.desk_front.specs.declared.edited.Edited.{Edited}
use Rattle.desk_front.specs.declared.given.Given.{Given}
use Rattle.desk_front.proofs.Saying.{fixed_bytes}

pub given_none : (given : Option (List Given)) → given ≡ with_given given []
given_none None = refl
given_none (Some entries) = ap (λ l. Some l) (sym (append-nil entries))

pub stays : (old : Sitting) → Moves old [] old
stays old = record { begins = begins_itself old.seen; counted = omega arith; given = given_none old.given }

-- what asks nothing gets its reply, and whatever is asked may lack memory
module _ (NeverFails : Type 0) where
  pub refuses : (old : Sitting) (reply : Reply) → SeatTurn NeverFails old (nothing reply) reply [] old
  refuses old reply = (stays old, inl (refl, refl, refl))

  pub lacks : (old : Sitting) (asked : Asked) → SeatTurn NeverFails old asked (fixed refusal.Memory) [] old
  lacks old asked = (stays old, inr (inl (said asked)))
    where
      said : (asked : Asked) → IsSaidOfMemory old.seen asked (fixed refusal.Memory) [] old.seen
      said (nothing told) = (refl, refl, refl)
      said (question it) = (refl, refl)
      said (edit made) = (refl, inl refl)

-- a seat's list grows by a look, and the editor isn't asked
looked : (before now : History) (faults : ℕ) (given : Option (List Given)) → Begins before now
    → Moves (sitting before faults given) [] (sitting now faults given)
looked before now faults given x = record { begins = x; counted = omega arith; given = given_none given }

pub says_answer : (NeverFails : Type 0) (before now : History) (faults : ℕ) (given : Option (List Given)) (asked : Question) (close : Bool) → Begins before now
    → Says (SeatTurn NeverFails) (sitting before faults given) (question asked) close (bytes_with close (answer_at (after now) asked)) (sitting now faults given)
says_answer NeverFails before now faults given asked close x = (answer_at (after now) asked, [], (looked before now faults given x, inl (refl, refl)), refl)

pub says_unanswered : (NeverFails : Type 0) (before now : History) (faults : ℕ) (given : Option (List Given)) (asked : Question) (close : Bool) (refused : Fixed)
    → refused ≡ refusal.Memory → Begins before now
    → Says (SeatTurn NeverFails) (sitting before faults given) (question asked) close (fixed_reply refused close) (sitting now faults given)
says_unanswered NeverFails before now faults given asked close refused e x =
    subst (λ r. Says (SeatTurn NeverFails) (sitting before faults given) (question asked) close (fixed_reply r close) (sitting now faults given)) (sym e)
    (fixed refusal.Memory, [], (looked before now faults given x, inr (inl (refl, refl))), fixed_bytes refusal.Memory close)

-- what an editor promises of an edit that it has answered so
pub record IsEdited (old : Sitting) (made : Edit) (answer : Edited) (before behind : List ℕ) (new : Sitting) : Type 0 where
  pub begins : Begins old.seen new.seen
  pub answers : AnswersEdit old.seen new.seen made answer before behind
  pub counted : old.faults ≤ new.faults
  pub given : new.given ≡ with_given old.given (given_for made (number_of new.seen) answer ∷ [])

edited_moves : (old new : Sitting) (made : Edit) (answer : Edited) (before behind : List ℕ) → IsEdited old made answer before behind new
    → Moves old (given_for made (number_of new.seen) answer ∷ []) new
edited_moves old new made answer before behind x = record { begins = x.begins; counted = x.counted; given = x.given }

whole_reply : (whole last_seen : ℕ) (judged : Result ℕ RuleFault) (status : ℕ) → status ≡ edited_status (edited_of judged)
    → with_body status (reply_to_edit whole last_seen judged).body ≡ reply_to_edit whole last_seen judged
whole_reply whole last_seen (Ok number) status e = ap (λ s. with_body s (reply_to_edit whole last_seen (Ok number)).body) e
whole_reply whole last_seen (Err cause) status e = ap (λ s. with_body s (reply_to_edit whole last_seen (Err cause)).body) e

-- an edit that is answered so, with the reply that is made of its body
pub says_edited : (NeverFails : Type 0) (old new : Sitting) (made : Edit) (answer : Edited) (before behind body : List ℕ) (status : ℕ) (close : Bool)
    → IsEdited old made answer before behind new → before ≡ [] → body ≡ behind → status ≡ edited_status answer
    → Says (SeatTurn NeverFails) old (edit made) close (bytes_with close (with_body status body)) new
says_edited NeverFails old new made answer before behind body status close x none same s =
    let judged = x.answers.0 in
    let is : answer ≡ edited_of judged = x.answers.2 in
    let whole = reply_to_edit (number_of new.seen) (number_of old.seen) judged in
    let appended : body ≡ whole.body = same ∙ x.answers.3 ∙ ap (λ l. l ++ whole.body) none in (
      whole,
      given_for made (number_of new.seen) answer ∷ [],
      (edited_moves old new made answer before behind x, inl (judged, x.answers.1, refl, ap (λ a. given_for made (number_of new.seen) a ∷ []) is)),
      ap (λ b. bytes_with close (with_body status b)) appended
          ∙ ap (bytes_with close) (whole_reply (number_of new.seen) (number_of old.seen) judged status (s ∙ ap edited_status is)),
    )

-- an edit was answered, and there was no memory to tell it
pub says_untold : (NeverFails : Type 0) (old new : Sitting) (made : Edit) (answer : Edited) (before behind : List ℕ) (close : Bool) (refused : Fixed)
    → refused ≡ refusal.Memory → IsEdited old made answer before behind new → Says (SeatTurn NeverFails) old (edit made) close (fixed_reply refused close) new
says_untold NeverFails old new made answer before behind close refused e x =
    subst (λ r. Says (SeatTurn NeverFails) old (edit made) close (fixed_reply r close) new) (sym e) (
      fixed refusal.Memory,
      given_for made (number_of new.seen) answer ∷ [],
      (
        edited_moves old new made answer before behind x,
        inr (inl (refl, inr (x.answers.0, x.answers.1, ap (λ a. given_for made (number_of new.seen) a ∷ []) x.answers.2))),
      ),
      fixed_bytes refusal.Memory close,
    )

-- the editor had no answer: the seat and the editor's list are as before
failed_moves : (seen : History) (old new : ℕ) (given now : Option (List Given)) → old ≤ new → now ≡ given → Moves (sitting seen old given) [] (sitting seen new now)
failed_moves seen old new given now count e = record { begins = begins_itself seen; counted = count; given = e ∙ given_none given }

pub says_unmade : (NeverFails : Type 0) (seen left : History) (old new : ℕ) (given now : Option (List Given)) (made : Edit) (close : Bool) → left ≡ seen → old ≤ new
    → now ≡ given → Says (SeatTurn NeverFails) (sitting seen old given) (edit made) close (fixed_reply refusal.Memory close) (sitting left new now)
says_unmade NeverFails seen left old new given now made close same count e =
    subst (λ l. Says (SeatTurn NeverFails) (sitting seen old given) (edit made) close (fixed_reply refusal.Memory close) (sitting l new now)) (sym same)
    (fixed refusal.Memory, [], (failed_moves seen old new given now count e, inr (inl (refl, inl refl))), fixed_bytes refusal.Memory close)

pub says_failed : (NeverFails : Type 0) (seen left : History) (old new : ℕ) (given now : Option (List Given)) (made : Edit) (close : Bool) → left ≡ seen → old ≤ new
    → now ≡ given → Rose old new → (NeverFails → ⊥)
    → Says (SeatTurn NeverFails) (sitting seen old given) (edit made) close (fixed_reply refusal.StoreFault close) (sitting left new now)
says_failed NeverFails seen left old new given now made close same count e rose unsure =
    subst (λ l. Says (SeatTurn NeverFails) (sitting seen old given) (edit made) close (fixed_reply refusal.StoreFault close) (sitting l new now)) (sym same) (
      fixed refusal.StoreFault,
      [],
      (failed_moves seen old new given now count e, inr (inr (made, refl, refl, refl, refl, rose, unsure))),
      fixed_bytes refusal.StoreFault close,
    )
