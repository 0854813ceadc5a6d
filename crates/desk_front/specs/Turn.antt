-- One connection that has a clerk to itself, turn by turn: each answer is at the whole list of its moment.
use Rattle.std.specs.Prelude.{◌≡◌, ◌≢◌, ℕ, ◌≤◌, ◌⊎◌, is_ok, true, List, [], None}
use Rattle.std.specs.List.{AllByRecursion}
use Rattle.desk_model.specs.Lists.{number_at}
use Rattle.desk_clerk.specs.Published.{added_to_list}
use Rattle.desk_edge.specs.Faults.{Rose}
use Rattle.desk_history.specs.History.{History, IsHistory, after}
use Rattle.desk_history.specs.Step.{kept_number, step}
use Rattle.desk_http.specs.Rest.{Message}
use Rattle.desk_http.specs.declared.fixed.Fixed.TheVariants as refusal
use Rattle.desk_model.specs.Forms.{is_edit_in_form}
use Rattle.desk_model.specs.Lists.{Lists}
use Rattle.desk_model.specs.declared.edit.Edit.{Edit}
use Rattle.desk_front.specs.Asked.{Asked, edit, nothing, question}
use Rattle.desk_http.specs.Reply.{Reply, fixed}
use Rattle.desk_front.specs.Replies.{all_bytes, answer_at, reply_to_edit}
use Rattle.desk_front.specs.Talk.{Talk}
use Rattle.desk_front.specs.Told.{Conversation, Told, added_by, replies_of}

-- how a connection stands: the tables after the clerk's whole list, the number of the longest list that it has last seen, and how many
-- faults the store has counted
pub record Standing : Type 0 where
  pub current : Lists
  pub last_seen : ℕ
  pub faults : ℕ

-- a request is answered: what it asks and the whole list say how. These edits were added to the list
abbrev pub AnswersRequest : Standing → Asked → Reply → List Edit → Standing → Type 0
AnswersRequest old (nothing refused) reply added new = (reply ≡ refused) × (added ≡ []) × (new ≡ old)
AnswersRequest old (question asked) reply added new = (reply ≡ answer_at old.current asked) × (added ≡ []) × (new ≡ record old { last_seen = number_at old.current })
AnswersRequest old (edit made) reply added new =
    (is_edit_in_form made ≡ true)
    × (reply ≡ reply_to_edit (number_at (step old.current made).1) old.last_seen (step old.current made).0)
    × (added ≡ added_to_list old.current made)
    × (new ≡ record old { current = (step old.current made).1; last_seen = number_at (step old.current made).1 })

-- memory was wanting: nothing has changed, or an edit was made and isn't told
abbrev pub LacksMemory : Standing → Asked → Reply → List Edit → Standing → Type 0
LacksMemory old asked reply added new =
    (reply ≡ fixed refusal.Memory)
    × (((added ≡ []) × (new ≡ old))
    ⊎ ((made : Edit) × (asked ≡ edit made) × (is_edit_in_form made ≡ true) × (added ≡ added_to_list old.current made)
    × (new ≡ record old { current = (step old.current made).1 })))

-- the store failed to keep an edit that is new and that meets no refusal: its count rose in this turn, and nothing else has changed
abbrev pub FailsToKeep : Standing → Asked → Reply → List Edit → Standing → Type 0
FailsToKeep old asked reply added new =
    (made : Edit) × (asked ≡ edit made) × (reply ≡ fixed refusal.StoreFault) × (added ≡ [])
    × (old.faults ≤ new.faults) × Rose old.faults new.faults × (new ≡ record old { faults = new.faults })
    × (kept_number old.current made ≡ None) × (is_ok (step old.current made).0 ≡ true)

-- a turn: what is asked gets this reply, and these edits are added to the list
abbrev pub Turn : Standing → Asked → Reply → List Edit → Standing → Type 0
Turn old asked reply added new = AnswersRequest old asked reply added new ⊎ LacksMemory old asked reply added new ⊎ FailsToKeep old asked reply added new

-- the list at entry, followed by the edits that were added
abbrev pub list_with : Standing → List Edit → History
list_with start added = record { opening = start.current; edits = added }

-- Requests are answered by these bytes, from the first standing on, and leave the tables of the whole list and the store's count so.
pub record Converses (start : Standing) (left : Lists) (counted : ℕ) (requests : List Message) (said : List ℕ) : Type 0 where
  pub told : List (Told Edit)
  pub last_met : ℕ
  -- the bytes are those of the replies
  pub bytes : said ≡ all_bytes requests (replies_of told)
  -- each reply is at the whole list of its moment
  pub turns : Conversation Turn (λ standing. standing.last_seen) start requests told (record { current = left; last_seen = last_met; faults = counted })
  -- the whole list at the end is the one at entry followed by the new accepted edits of the requests, in order, and by no other
  pub grown : IsHistory (list_with start (added_by told)) × (after (list_with start (added_by told)) ≡ left)
  -- each reply is from that one list, at a number that is no smaller than those met before
  pub talk : Talk (list_with start (added_by told)) start.last_seen requests (replies_of told)
  -- where the store counted no fault, no reply tells of one
  pub kept : (Rose start.faults counted → ⊥) → AllByRecursion (λ reply. reply.status ≢ 503) (replies_of told)
