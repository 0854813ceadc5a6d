-- What serving a stream does, whatever it is that answers: `R old request said new` says that the request is answered by these bytes,
-- and that what answers is changed so.
use Rattle.std.specs.Prelude.{◌≡◌, ℕ, ◌<◌, ◌≤◌, ◌⊎◌, List, [], ◌++◌, IsTrue, Option, drop, length}
use Rattle.std.specs.List.{concat}
use Rattle.std.specs.Io.KnownBytes.{Appends}
use Rattle.desk_edge.specs.Faults.{Rose}
use Rattle.desk_edge.specs.Transfer.{AppendsPart}
use Rattle.desk_http.specs.Front.{LeadsTo, last_reply}
use Rattle.desk_http.specs.Rest.{IsNotYet, Message}
use Rattle.desk_http.specs.Stream.{End, IsStream, is_ended}
use Rattle.desk_front.specs.InOrder.{InOrder}
use Rattle.desk_front.specs.declared.request_outcome.RequestOutcome.{RequestOutcome}
use Rattle.desk_front.specs.declared.request_outcome.RequestOutcome.TheVariants as first
use Rattle.desk_front.specs.declared.round_outcome.RoundOutcome.{RoundOutcome}
use Rattle.desk_front.specs.declared.round_outcome.RoundOutcome.TheVariants as round

-- what was said so far: the replies that wait to be written, and of the link the bytes that it has taken and its count of faults
pub record Outgoing : Type 0 where
  pub waiting : List ℕ
  pub written : Option (List ℕ)
  pub faults : ℕ

-- these bytes were said: written, or left to wait behind what waited before
abbrev pub Sends : Outgoing → List ℕ → Outgoing → Type 0
Sends old said new =
    (sent : List ℕ) × (old.waiting ++ said ≡ sent ++ new.waiting) × Appends old.written new.written sent × (new.faults ≡ old.faults)

-- the link counted a fault before all of these bytes were written: a part of them was, and not all
abbrev pub BreaksOff : Outgoing → List ℕ → Outgoing → Type 0
BreaksOff old said new =
    AppendsPart old.written new.written (old.waiting ++ said) × (old.faults ≤ new.faults) × Rose old.faults new.faults

-- the requests are answered in order by these bytes
abbrev pub Replies : {A : Type 0} → (A → Message → List ℕ → A → Type 0) → A → List Message → List ℕ → A → Type 0
Replies R old requests said new = (each : List (List ℕ)) × InOrder R old requests each new × (said ≡ concat each)

-- what answers, and what was said so far
pub record Service (A : Type 0) : Type 0 where
  pub who : A
  pub out : Outgoing

-- a service of these parts
abbrev pub service : {A : Type 0} → A → List ℕ → Option (List ℕ) → ℕ → Service A
service who waiting written faults = record { who = who; out = record { waiting = waiting; written = written; faults = faults } }

-- the requests at the front of the bytes are answered, and this is left of the bytes
pub record GoesOn {A : Type 0} (R : A → Message → List ℕ → A → Type 0) (bytes : List ℕ) (old new : Service A) (rest : List ℕ) : Type 0 where
  pub requests : List Message
  pub said : List ℕ
  pub front : LeadsTo bytes requests rest
  pub replies : Replies R old.who requests said new.who
  pub sent : Sends old.out said new.out

-- the stream of these bytes is over: one of its requests closes, or what follows them is refused; all of it is answered
pub record IsOver {A : Type 0} (R : A → Message → List ℕ → A → Type 0) (bytes : List ℕ) (old new : Service A) : Type 0 where
  pub requests : List Message
  pub end : End
  pub said : List ℕ
  pub stream : IsStream bytes requests end
  pub ended : IsTrue (is_ended requests end)
  pub replies : Replies R old.who requests said new.who
  pub sent : Sends old.out (said ++ last_reply end) new.out

-- the requests are the first of every stream that begins with these bytes; or they are all of it, and these are the last bytes said
abbrev pub AreFirstRequests : List ℕ → List Message → List ℕ → Type 0
AreFirstRequests bytes requests last =
    ((rest : List ℕ) × LeadsTo bytes requests rest × (last ≡ []))
    ⊎ ((end : End) × IsStream bytes requests end × IsTrue (is_ended requests end) × (last ≡ last_reply end))

-- the link failed: the first requests are answered, and what was written is a part of the replies, not all
pub record IsBroken {A : Type 0} (R : A → Message → List ℕ → A → Type 0) (bytes : List ℕ) (old new : Service A) : Type 0 where
  pub requests : List Message
  pub last : List ℕ
  pub said : List ℕ
  pub are_first : AreFirstRequests bytes requests last
  pub replies : Replies R old.who requests said new.who
  pub sent : BreaksOff old.out (said ++ last) new.out

-- what came of the request at the front of the bytes
abbrev pub BeginsSo : {A : Type 0} → (A → Message → List ℕ → A → Type 0) → List ℕ → Service A → Service A → RequestOutcome → Type 0
BeginsSo R bytes old new (first.Took count) = (0 < count) × (count ≤ length bytes) × GoesOn R bytes old new (drop count bytes)
BeginsSo R bytes old new first.NotYet = IsNotYet bytes × (new ≡ old)
BeginsSo R bytes old new first.Over = IsOver R bytes old new
BeginsSo R bytes old new first.LinkFault = IsBroken R bytes old new

-- what came of all bytes that are held: of an open stream so many are used, and no whole request is left
abbrev pub GoesSo : {A : Type 0} → (A → Message → List ℕ → A → Type 0) → List ℕ → Service A → Service A → RoundOutcome → Type 0
GoesSo R bytes old new (round.Open used) = (used ≤ length bytes) × IsNotYet (drop used bytes) × GoesOn R bytes old new (drop used bytes)
GoesSo R bytes old new round.Over = IsOver R bytes old new
GoesSo R bytes old new round.LinkFault = IsBroken R bytes old new

-- what came of all bytes that are held, where nothing waits any more and what is used was taken out
abbrev pub LeavesSo : {A : Type 0} → (A → Message → List ℕ → A → Type 0) → List ℕ → List ℕ → Service A → Service A → RoundOutcome → Type 0
LeavesSo R bytes rest old new (round.Open used) = IsNotYet rest × (new.out.waiting ≡ []) × GoesOn R bytes old new rest
LeavesSo R bytes rest old new round.Over = (new.out.waiting ≡ []) × IsOver R bytes old new
LeavesSo R bytes rest old new round.LinkFault = IsBroken R bytes old new
