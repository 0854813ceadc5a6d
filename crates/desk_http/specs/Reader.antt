-- What a reader of a byte stream sees, in whatever pieces the stream comes.
use Rattle.std.specs.Prelude.{◌≡◌, ◌⊎◌, ℕ, List, [], ◌∷◌, ◌++◌, IsTrue, MatchBool}
use Rattle.desk_http.specs.Rest.{Message, BeginsWith}
use Rattle.desk_http.specs.Stream.{End, clean, EndsAs, is_ended}

-- a piece of the stream came, or the request at the front of the bytes held was taken
pub data Event : Type 0 where
  came : List ℕ → Event
  took : Message → Event

-- the bytes that came, in order
abbrev pub bytes_of : List Event → List ℕ
bytes_of [] = []
bytes_of (came piece ∷ events) = piece ++ bytes_of events
bytes_of (took m ∷ events) = bytes_of events

-- the pieces that came, in order
abbrev pub pieces_of : List Event → List (List ℕ)
pieces_of [] = []
pieces_of (came piece ∷ events) = piece ∷ pieces_of events
pieces_of (took m ∷ events) = pieces_of events

-- the requests that were taken, in order
abbrev pub requests_of : List Event → List Message
requests_of [] = []
requests_of (came piece ∷ events) = requests_of events
requests_of (took m ∷ events) = m ∷ requests_of events

-- To a reader that holds these bytes the events happen in turn, and then it stops at this end: behind a
-- request that closes, or where the bytes that it holds end a stream so.
abbrev pub Reads : List ℕ → List Event → End → Type 0
Reads held [] end = EndsAs held end
Reads held (came piece ∷ events) end = Reads (held ++ piece) events end
Reads held (took m ∷ events) end =
    (rest : List ℕ) × BeginsWith held m rest × MatchBool m.close ((events ≡ []) × (end ≡ clean)) (Reads rest events end)

-- A reader of the stream sees these events and stops at this end. It leaves bytes unread only where the stream is over
-- before them.
pub record IsReadAs (stream : List ℕ) (events : List Event) (end : End) : Type 0 where
  pub unread : List ℕ
  pub bytes : bytes_of events ++ unread ≡ stream
  pub reads : Reads [] events end
  pub whole : (unread ≡ []) ⊎ IsTrue (is_ended (requests_of events) end)
