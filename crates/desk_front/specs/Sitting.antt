-- One connection of many, turn by turn: its seat's list grows by the edits of all, and an editor answers its own.
use Rattle.std.specs.Prelude.{◌≡◌, ◌≢◌, ℕ, ◌≤◌, ◌⊎◌, List, [], ◌∷◌, ◌++◌, Option, Result, Ok, Err, option_map}
use Rattle.std.specs.List.{AllByRecursion}
use Rattle.desk_edge.specs.Faults.{Rose}
use Rattle.desk_history.specs.History.{Begins, History, IsHistory, after, number_of}
use Rattle.desk_http.specs.Reply.{Reply, fixed}
use Rattle.desk_http.specs.Rest.{Message}
use Rattle.desk_http.specs.declared.fixed.Fixed.TheVariants as refusal
use Rattle.desk_model.specs.EditText.{edit_text, ticket_code}
use Rattle.desk_model.specs.declared.edit.Edit.{Edit}
use Rattle.desk_model.specs.declared.rule_fault.RuleFault.{RuleFault}
use Rattle.desk_front.specs.Asked.{Asked, asked_of, edit, nothing, question}
use Rattle.desk_front.specs.InOrder.{Each, InOrder}
use Rattle.desk_front.specs.Laws.{BeginsWithAllMet}
use Rattle.desk_front.specs.Replies.{all_bytes, answer_at, reply_to_edit}
use Rattle.desk_front.specs.Talk.{IsJudged, TalkAt}
use Rattle.desk_front.specs.Told.{Conversation, Told, added_by, numbered_of, replies_of}
use Rattle.desk_front.specs.declared.edited.Edited.{Edited}
use Rattle.desk_front.specs.declared.edited.Edited.TheVariants.{Accepted, Refused}
use Rattle.desk_front.specs.declared.given.Given.{Given}

-- how an edit was answered that was judged so
abbrev pub edited_of : Result ℕ RuleFault → Edited
edited_of (Ok number) = Accepted
edited_of (Err cause) = Refused

-- the status of the reply to an edit that was answered so
abbrev pub edited_status : Edited → ℕ
edited_status Accepted = 200
edited_status Refused = 409

-- the entry of an editor's list for an edit that was answered so at a list of this number: the code of its ticket, its text, the number and
-- the answer
abbrev pub given_for : Edit → ℕ → Edited → Given
given_for made version answer = record { code = ticket_code made; edit = edit_text made; version = version; answer = answer }

-- an edit was answered so by appending to some bytes the body of the reply that tells how it is judged at the second list, to one who had
-- the first
abbrev pub AnswersEdit : History → History → Edit → Edited → List ℕ → List ℕ → Type 0
AnswersEdit before now made answer old new =
    (judged : Result ℕ RuleFault) × IsJudged (after now) made judged × (answer ≡ edited_of judged)
    × (new ≡ old ++ (reply_to_edit (number_of now) (number_of before) judged).body)

-- an editor's list, where it tells one, and these entries behind it
abbrev pub with_given : Option (List Given) → List Given → Option (List Given)
with_given given added = option_map (λ entries. entries ++ added) given

-- how a connection stands: the list that its seat has seen or learnt, and the editor's count of faults and its list, where that is told
pub record Sitting : Type 0 where
  pub seen : History
  pub faults : ℕ
  pub given : Option (List Given)

-- a sitting of these parts
abbrev pub sitting : History → ℕ → Option (List Given) → Sitting
sitting seen faults given = record { seen = seen; faults = faults; given = given }

-- the number of the seat's list
abbrev pub met_by : Sitting → ℕ
met_by sitting = number_of sitting.seen

-- the seat's list begins with what it was before; the editor's count never falls, and its list gains these entries
pub record Moves (old : Sitting) (added : List Given) (new : Sitting) : Type 0 where
  pub begins : Begins old.seen new.seen
  pub counted : old.faults ≤ new.faults
  pub given : new.given ≡ with_given old.given added

-- what is asked is answered by a seat that had the first list and has the second: a question is evaluated, and an edit judged by the editor,
-- at the tables after the second
abbrev pub IsSaid : History → Asked → Reply → List Given → History → Type 0
IsSaid before (nothing refused) reply added now = (reply ≡ refused) × (added ≡ []) × (now ≡ before)
IsSaid before (question asked) reply added now = (reply ≡ answer_at (after now) asked) × (added ≡ [])
IsSaid before (edit made) reply added now =
    (judged : Result ℕ RuleFault) × IsJudged (after now) made judged × (reply ≡ reply_to_edit (number_of now) (number_of before) judged)
    × (added ≡ given_for made (number_of now) (edited_of judged) ∷ [])

-- memory was wanting: the seat may have looked, and the editor may have judged the edit
abbrev pub IsSaidOfMemory : History → Asked → Reply → List Given → History → Type 0
IsSaidOfMemory before (nothing refused) reply added now = (reply ≡ fixed refusal.Memory) × (added ≡ []) × (now ≡ before)
IsSaidOfMemory before (question asked) reply added now = (reply ≡ fixed refusal.Memory) × (added ≡ [])
IsSaidOfMemory before (edit made) reply added now =
    (reply ≡ fixed refusal.Memory)
    × ((added ≡ [])
    ⊎ ((judged : Result ℕ RuleFault) × IsJudged (after now) made judged × (added ≡ given_for made (number_of now) (edited_of judged) ∷ [])))

-- the store failed to keep an edit: the editor's count rose in this turn, and the seat has met nothing. An editor of a type that never fails
-- answers no edit so
abbrev pub IsSaidOfStore : Type 0 → Sitting → Asked → Reply → List Given → Sitting → Type 0
IsSaidOfStore NeverFails old asked reply added new =
    (made : Edit) × (asked ≡ edit made) × (reply ≡ fixed refusal.StoreFault) × (added ≡ []) × (new.seen ≡ old.seen) × Rose old.faults new.faults
    × (NeverFails → ⊥)

-- a turn: what is asked gets this reply, and the editor's list gains these entries. The first argument says that no editor of the type ever
-- fails
abbrev pub SeatTurn : Type 0 → Sitting → Asked → Reply → List Given → Sitting → Type 0
SeatTurn NeverFails old asked reply added new =
    Moves old added new
    × (IsSaid old.seen asked reply added new.seen ⊎ IsSaidOfMemory old.seen asked reply added new.seen
    ⊎ IsSaidOfStore NeverFails old asked reply added new)

-- what an editor's list gains by one request: an entry for a 200 or a 409 to an edit, with the number that the reply tells; one or none where
-- an edit gets 507; else none
abbrev pub Gains : Asked → Told Given → Type 0
Gains (nothing refused) told = told.added ≡ []
Gains (question asked) told = told.added ≡ []
Gains (edit made) told =
    ((answer : Edited) × (told.reply.status ≡ edited_status answer) × (told.added ≡ given_for made told.last_seen answer ∷ []))
    ⊎ ((told.reply.status ≡ 507) × ((told.added ≡ []) ⊎ ((answer : Edited) × (told.added ≡ given_for made told.last_seen answer ∷ []))))
    ⊎ ((told.reply.status ≡ 503) × (told.added ≡ []))

-- Requests are answered by these bytes, by a seat and an editor that stood so at first and stand so at the end.
pub record Links (NeverFails : Type 0) (start left : Sitting) (requests : List Message) (said : List ℕ) : Type 0 where
  pub told : List (Told Given)
  -- the bytes are those of the replies
  pub bytes : said ≡ all_bytes requests (replies_of told)
  -- each request has one turn, in order
  pub turns : Conversation (SeatTurn NeverFails) met_by start requests told left
  -- the seat's list at the end begins with its list at entry, and is a history
  pub grown : Begins start.seen left.seen
  pub history : IsHistory left.seen
  -- each reply is from that one list, at a number that is no smaller than those met before
  pub talk : TalkAt left.seen (met_by start) requests (numbered_of told)
  -- so each answer is at a list that begins with every list met: from the list at entry to the one at the end
  pub begin : InOrder (BeginsWithAllMet left.seen) start.seen requests (replies_of told) left.seen
  -- each 200 and 409 to an edit is the editor's, whose list gains what is told and nothing else
  pub given : left.given ≡ with_given start.given (added_by told)
  pub gains : Each (λ request one. Gains (asked_of request) one) requests told
  -- the editor's count never falls; where it didn't rise no reply tells of a fault of the store, and never one of an editor that never fails
  pub counted : start.faults ≤ left.faults
  pub kept : (Rose start.faults left.faults → ⊥) → AllByRecursion (λ reply. reply.status ≢ 503) (replies_of told)
  pub sure : NeverFails → AllByRecursion (λ reply. reply.status ≢ 503) (replies_of told)
