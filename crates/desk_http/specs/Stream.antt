-- The requests of a byte stream, and how it ends.
use Rattle.std.specs.Prelude.{◌≡◌, ℕ, ◌<◌, ◌⊎◌, Bool, true, false, ◌||◌, List, [], ◌∷◌, length, IsTrue, MatchBool}
use Rattle.desk_http.specs.Rest.{IsHopeless, IsInDoubt, IsTooLong, HasNoLength, HasLongBody, IsNotYet, Message, BeginsWith}

-- what comes after the last request that is answered: nothing, less than a request, or what is refused
pub data End : Type 0 where
  clean cut bad_head head_too_long no_length body_too_long : End

-- a stream of which this rest is left ends so: with nothing, with less than a request, or with what is refused
abbrev pub EndsAs : List ℕ → End → Type 0
EndsAs rest clean = rest ≡ []
EndsAs rest cut = (0 < length rest) × IsNotYet rest
EndsAs rest bad_head = IsHopeless rest
EndsAs rest head_too_long = IsTooLong rest
EndsAs rest no_length = HasNoLength rest
EndsAs rest body_too_long = HasLongBody rest

-- The stream is these requests in order, and then this end. What follows a closing request counts for nothing.
abbrev pub IsStream : List ℕ → List Message → End → Type 0
IsStream bytes [] end = EndsAs bytes end
IsStream bytes (m ∷ ms) end =
    (rest : List ℕ) × BeginsWith bytes m rest × MatchBool m.close ((ms ≡ []) × (end ≡ clean)) (IsStream rest ms end)

-- the stream has requests and an end
abbrev pub HasRequests : List ℕ → Type 0
HasRequests bytes = (ms : List Message) × (end : End) × IsStream bytes ms end

-- the requests in order leave a rest of the bytes that is in doubt
abbrev pub LeavesDoubt : List ℕ → List Message → Type 0
LeavesDoubt bytes [] = IsInDoubt bytes
LeavesDoubt bytes (m ∷ ms) = (rest : List ℕ) × BeginsWith bytes m rest × LeavesDoubt rest ms

-- of two ends of a rest in doubt, one is bad_head and the other that of an unfinished head
abbrev pub may_count_as : End → End → Bool
may_count_as bad_head cut = true
may_count_as bad_head head_too_long = true
may_count_as cut bad_head = true
may_count_as head_too_long bad_head = true
may_count_as end other = false

-- two ends behind these requests are one, but for a rest in doubt
abbrev pub IsSameEnd : List ℕ → List Message → End → End → Type 0
IsSameEnd bytes ms end other = (end ≡ other) ⊎ (LeavesDoubt bytes ms × IsTrue (may_count_as end other))

-- the end is one of the four refused forms
abbrev pub is_refusal : End → Bool
is_refusal clean = false
is_refusal cut = false
is_refusal bad_head = true
is_refusal head_too_long = true
is_refusal no_length = true
is_refusal body_too_long = true

-- one of the requests closes, or what follows them is refused: the bytes behind that count for nothing
abbrev pub is_ended : List Message → End → Bool
is_ended [] end = is_refusal end
is_ended (m ∷ ms) end = m.close || is_ended ms end
