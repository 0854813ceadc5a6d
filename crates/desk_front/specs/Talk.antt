-- What a client may be told whose requests are answered from one growing list, whoever else adds to it.
use Rattle.std.specs.Prelude.{◌≡◌, ℕ, ◌≤◌, ◌⊎◌, List, None, Some, Result, Ok, Err, map}
use Rattle.desk_history.specs.History.{History, after, number_of, up_to}
use Rattle.desk_history.specs.Refused.{refused}
use Rattle.desk_history.specs.Step.{kept_number}
use Rattle.desk_http.specs.Rest.{Message}
use Rattle.desk_http.specs.declared.fixed.Fixed.TheVariants as refusal
use Rattle.desk_model.specs.Lists.{Lists, number_at}
use Rattle.desk_model.specs.declared.edit.Edit.{Edit}
use Rattle.desk_model.specs.declared.rule_fault.RuleFault.{RuleFault}
use Rattle.desk_front.specs.Asked.{Asked, asked_of, edit, nothing, question}
use Rattle.desk_http.specs.Reply.{Reply, fixed}
use Rattle.desk_front.specs.InOrder.{InOrder}
use Rattle.desk_front.specs.Replies.{answer_at, reply_to_edit}

-- the number is one of the list's, from that of its opening tables on, and no smaller than what was met before
abbrev pub Follows : History → ℕ → ℕ → Type 0
Follows list last_seen now = (number_at list.opening ≤ now) × (last_seen ≤ now) × (now ≤ number_of list)

-- how these tables judge an edit: they hold it, by this number; or they don't hold it, and this is the rule that refuses it there
abbrev pub IsJudged : Lists → Edit → Result ℕ RuleFault → Type 0
IsJudged t made (Ok number) = kept_number t made ≡ Some number
IsJudged t made (Err cause) = (kept_number t made ≡ None) × (refused t made ≡ Some cause)

-- the reply tells how these tables judge the edit, with their number and the one that was met before
abbrev pub TellsJudgement : Lists → ℕ → ℕ → Edit → Reply → Type 0
TellsJudgement t now last_seen made reply = (judged : Result ℕ RuleFault) × IsJudged t made judged × (reply ≡ reply_to_edit now last_seen judged)

-- what is asked gets this reply from the list, by one who had met the number before and has met the other after: a question is
-- evaluated, and an edit judged, at the tables of the number that the reply tells
abbrev pub IsTold : History → Asked → ℕ → Reply → ℕ → Type 0
IsTold list (nothing refused) last_seen reply now = (reply ≡ refused) × (now ≡ last_seen)
IsTold list (question asked) last_seen reply now = Follows list last_seen now × (reply ≡ answer_at (after (up_to list now)) asked)
IsTold list (edit made) last_seen reply now =
    (Follows list last_seen now × TellsJudgement (after (up_to list now)) now last_seen made reply) ⊎ ((reply ≡ fixed refusal.StoreFault) × (now ≡ last_seen))

-- where memory was wanting, what was met stays, or becomes another number of the list
abbrev pub IsToldOfMemory : History → Asked → ℕ → Reply → ℕ → Type 0
IsToldOfMemory list (nothing refused) last_seen reply now = (reply ≡ fixed refusal.Memory) × (now ≡ last_seen)
IsToldOfMemory list (question asked) last_seen reply now = (reply ≡ fixed refusal.Memory) × ((now ≡ last_seen) ⊎ Follows list last_seen now)
IsToldOfMemory list (edit made) last_seen reply now = (reply ≡ fixed refusal.Memory) × ((now ≡ last_seen) ⊎ Follows list last_seen now)

-- a request gets this reply from the list
abbrev pub IsAnswered : History → ℕ → Message → Reply → ℕ → Type 0
IsAnswered list last_seen request reply now = IsTold list (asked_of request) last_seen reply now ⊎ IsToldOfMemory list (asked_of request) last_seen reply now

-- requests get these replies from one list, each one reply, in order: every answer begins with all that was met before it
abbrev pub Talk : History → ℕ → List Message → List Reply → Type 0
Talk list last_seen requests replies = (last : ℕ) × InOrder (IsAnswered list) last_seen requests replies last

-- a reply, and the number of the longest list that was met with it: of an answer, the number that it prints
pub record Numbered : Type 0 where
  pub reply : Reply
  pub last_seen : ℕ

-- the replies alone
abbrev pub replies_in : List Numbered → List Reply
replies_in numbered = map (λ one. one.reply) numbered

-- a request gets this reply from the list, and this is the number met with it
abbrev pub IsNumberedReply : History → ℕ → Message → Numbered → ℕ → Type 0
IsNumberedReply list before request one now = IsAnswered list before request one.reply now × (one.last_seen ≡ now)

-- a talk by its numbers
abbrev pub TalkAt : History → ℕ → List Message → List Numbered → Type 0
TalkAt list last_seen requests numbered = (last : ℕ) × InOrder (IsNumberedReply list) last_seen requests numbered last
