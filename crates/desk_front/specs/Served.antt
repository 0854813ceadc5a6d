-- How the serving of a stream ends, and what was written then.
use Rattle.std.specs.Prelude.{◌≡◌, ℕ, ◌<◌, ◌⊎◌, false, List, [], ◌∷◌, ◌++◌, IsTrue, Option, length}
use Rattle.std.specs.Io.KnownBytes.{Appends, IsAtEnd}
use Rattle.desk_edge.specs.Transfer.{AppendsBeginning, AppendsPart}
use Rattle.desk_http.specs.Front.{LeadsTo, last_reply}
use Rattle.desk_http.specs.Rest.{Message}
use Rattle.desk_http.specs.Stream.{End, IsStream, clean, cut, is_ended}
use Rattle.desk_front.specs.declared.served.Served.{Served}
use Rattle.desk_front.specs.declared.served.Served.TheVariants.{Ended, Cut, TooLong, LinkFault, OutOfMemory}

-- the most bytes that are read of a stream
abbrev pub stream_limit : ℕ
stream_limit = 1099511627776

-- how a stream was served whose input is at its end, where these bytes are left of it
abbrev pub end_served : List ℕ → Served
end_served [] = Ended
end_served (b ∷ bytes) = Cut

-- how a stream of these bytes, requests and end was served, where this is left of the input: a reply has ended the connection, the
-- input ended between two requests or inside one, or so many bytes were read that no more are
abbrev pub EndsAsServed : Served → List ℕ → List Message → End → Option (List ℕ) → Type 0
EndsAsServed Ended bytes requests end left = IsTrue (is_ended requests end) ⊎ ((end ≡ clean) × IsAtEnd left × (length bytes < stream_limit))
EndsAsServed Cut bytes requests end left = (end ≡ cut) × (is_ended requests end ≡ false) × IsAtEnd left × (length bytes < stream_limit)
EndsAsServed TooLong bytes requests end left = (is_ended requests end ≡ false) × (length bytes ≡ stream_limit)
EndsAsServed LinkFault bytes requests end left = ⊥
EndsAsServed OutOfMemory bytes requests end left = ⊥

-- The stream of these bytes was served whole. Each of its requests is answered, by bytes that `Answered` allows for them, and what
-- was written is these bytes, and the reply to what is refused where the stream ends so.
pub record ServedWhole (Answered : List Message → List ℕ → Type 0) (served : Served) (bytes : List ℕ) (left before after : Option (List ℕ)) : Type 0 where
  pub requests : List Message
  pub end : End
  pub said : List ℕ
  pub stream : IsStream bytes requests end
  pub answered : Answered requests said
  pub written : Appends before after (said ++ last_reply end)
  pub ends : EndsAsServed served bytes requests end left

-- the requests are the first of every stream that begins with these bytes, and none of them closes: a beginning of their replies was
-- written; or they are all of it, and its end closes: then a part was written of their replies and of what is said last, not all
abbrev pub IsWrittenInPart : List ℕ → List Message → List ℕ → Option (List ℕ) → Option (List ℕ) → Type 0
IsWrittenInPart bytes requests said before after =
    ((rest : List ℕ) × LeadsTo bytes requests rest × AppendsBeginning before after said)
    ⊎ ((end : End) × IsStream bytes requests end × IsTrue (is_ended requests end) × AppendsPart before after (said ++ last_reply end))

-- The link failed. The first requests of the stream are answered, and what was written is a beginning of their replies.
pub record ServedInPart (Answered : List Message → List ℕ → Type 0) (bytes : List ℕ) (before after : Option (List ℕ)) : Type 0 where
  pub requests : List Message
  pub said : List ℕ
  pub answered : Answered requests said
  pub written : IsWrittenInPart bytes requests said before after

-- what came of serving a stream
abbrev pub Serves : (List Message → List ℕ → Type 0) → Served → List ℕ → Option (List ℕ) → Option (List ℕ) → Option (List ℕ) → Type 0
Serves Answered LinkFault bytes left before after = ServedInPart Answered bytes before after
Serves Answered Ended bytes left before after = ServedWhole Answered Ended bytes left before after
Serves Answered Cut bytes left before after = ServedWhole Answered Cut bytes left before after
Serves Answered TooLong bytes left before after = ServedWhole Answered TooLong bytes left before after
Serves Answered OutOfMemory bytes left before after = ⊥
