-- Laws of talks. Each is the contract of a function without a body in `src/laws.rt`, so that the check proves it.
use Rattle.std.specs.Prelude.{◌≡◌, ℕ, ◌≤◌, ◌⊎◌, List}
use Rattle.desk_history.specs.History.{Begins, History, IsHistory, after, number_of, up_to}
use Rattle.desk_http.specs.Reply.{Reply, fixed}
use Rattle.desk_http.specs.Rest.{Message}
use Rattle.desk_http.specs.declared.fixed.Fixed.TheVariants as refusal
use Rattle.desk_model.specs.Lists.{number_at}
use Rattle.desk_front.specs.Asked.{Asked, asked_of, edit, nothing, question}
use Rattle.desk_front.specs.InOrder.{InOrder}
use Rattle.desk_front.specs.Replies.{answer_at}
use Rattle.desk_front.specs.Talk.{Numbered, Talk, TalkAt, TellsJudgement, replies_in}

-- what is asked is answered at this list, by one who had met the other before: a question is evaluated, and an edit judged, at the tables
-- after it; the reply to an edit tells the numbers of both
abbrev pub IsAnsweredAt : History → Asked → Reply → History → Type 0
IsAnsweredAt before (nothing refused) reply now = (reply ≡ refused) × (now ≡ before)
IsAnsweredAt before (question asked) reply now = reply ≡ answer_at (after now) asked
IsAnsweredAt before (edit made) reply now =
    TellsJudgement (after now) (number_of now) (number_of before) made reply ⊎ ((reply ≡ fixed refusal.StoreFault) × (now ≡ before))

-- a request gets this reply at a list that begins with every list met before and is the beginning of the whole one that its number names,
-- or memory was wanting
pub record BeginsWithAllMet (list before : History) (request : Message) (reply : Reply) (now : History) : Type 0 where
  pub history : IsHistory now
  pub named : now ≡ up_to list (number_of now)
  pub begins : Begins before now
  pub answered : IsAnsweredAt before (asked_of request) reply now ⊎ (reply ≡ fixed refusal.Memory)

-- a talk has numbers, and a talk by its numbers is a talk
pub record TalksHaveNumbers : Type 0 where
  pub numbers : (list : History) (last_seen : ℕ) (requests : List Message) (replies : List Reply) → Talk list last_seen requests replies
      → (numbered : List Numbered) × (replies_in numbered ≡ replies) × TalkAt list last_seen requests numbered
  pub talk : (list : History) (last_seen : ℕ) (requests : List Message) (numbered : List Numbered) → TalkAt list last_seen requests numbered
      → Talk list last_seen requests (replies_in numbered)

-- each answer of a talk is at a list that begins with every list met before it
abbrev pub AnswersBeginWithAllMet : Type 0
AnswersBeginWithAllMet = (list : History) (last_seen : ℕ) (requests : List Message) (replies : List Reply) →
    IsHistory list → number_at list.opening ≤ last_seen → last_seen ≤ number_of list → Talk list last_seen requests replies →
    (last : History) × InOrder (BeginsWithAllMet list) (up_to list last_seen) requests replies last

-- what is told from a list is told from every longer one
abbrev pub TalksStayTrue : Type 0
TalksStayTrue = (list longer : History) (last_seen : ℕ) (requests : List Message) (replies : List Reply) →
    IsHistory list → IsHistory longer → Begins list longer → Talk list last_seen requests replies → Talk longer last_seen requests replies
