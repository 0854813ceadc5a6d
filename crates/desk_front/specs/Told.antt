-- What is told turn by turn, whoever takes the turns: how a turn is taken is a relation of the state before it, what is asked, the reply, what
-- is added to a list, and the state after it.
use Rattle.std.specs.Prelude.{◌≡◌, ℕ, Bool, List, map}
use Rattle.std.specs.List.{flat_map}
use Rattle.desk_http.specs.Reply.{Reply, bytes_with}
use Rattle.desk_http.specs.Rest.{Message}
use Rattle.desk_front.specs.Asked.{Asked, asked_of}
use Rattle.desk_front.specs.InOrder.{InOrder}
use Rattle.desk_front.specs.Talk.{Numbered}

-- what a request was told, the number of the longest list that was met with it, and what it added: edits to a clerk's list, or entries to an
-- editor's
pub record Told (A : Type 0) : Type 0 where
  pub reply : Reply
  pub last_seen : ℕ
  pub added : List A

-- the replies to requests that were told so, in order
abbrev pub replies_of : {A : Type 0} → List (Told A) → List Reply
replies_of told = map (λ one. one.reply) told

-- the same with their numbers
abbrev pub numbered_of : {A : Type 0} → List (Told A) → List Numbered
numbered_of told = map (λ one. record { reply = one.reply; last_seen = one.last_seen }) told

-- what was added by all of them, in order, and nothing else
abbrev pub added_by : {A : Type 0} → List (Told A) → List A
added_by told = flat_map (λ one. one.added) told

-- what is asked is answered by these bytes, in a turn
abbrev pub Says : {S A : Type 0} → (S → Asked → Reply → List A → S → Type 0) → S → Asked → Bool → List ℕ → S → Type 0
Says {S} {A} Turn old asked close said new = (reply : Reply) × (added : List A) × Turn old asked reply added new × (said ≡ bytes_with close reply)

-- a request is answered by these bytes, in a turn
abbrev pub Turns : {S A : Type 0} → (S → Asked → Reply → List A → S → Type 0) → S → Message → List ℕ → S → Type 0
Turns Turn old request said new = Says Turn old (asked_of request) request.close said new

-- a conversation: a turn for each request, in order. Each leaves a state that has met the number that is told with it
abbrev pub Conversation : {S A : Type 0} → (S → Asked → Reply → List A → S → Type 0) → (S → ℕ) → S → List Message → List (Told A) → S → Type 0
Conversation Turn last_seen old requests told new =
    InOrder (λ before request one next. Turn before (asked_of request) one.reply one.added next × (one.last_seen ≡ last_seen next)) old requests told new
