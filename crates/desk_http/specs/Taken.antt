-- What taking a request answers.
use Rattle.std.specs.Prelude.{◌≡◌, ℕ, ◌≤◌, Bool, true, false, List, length, drop, slice_range}
use Rattle.desk_http.specs.declared.span.Span.{Span}
use Rattle.desk_http.specs.declared.request.Request.{Request}
use Rattle.desk_http.specs.declared.taken.Taken.{Taken}
use Rattle.desk_http.specs.declared.taken.Taken.TheVariants.{Whole, NotYet, BadHead, HeadTooLong, NoLength, BodyTooLong}
use Rattle.desk_http.specs.Rest.{IsHopeless, IsTooLong, HasNoLength, HasLongBody, IsNotYet, Message, BeginsWith}

-- the bytes that the span covers
abbrev pub span_bytes : List ℕ → Span → List ℕ
span_bytes buffer s = slice_range buffer s.from s.to

-- the span lies in the first n bytes
abbrev pub IsWithin : ℕ → Span → Type 0
IsWithin n s = (s.from ≤ s.to) × (s.to ≤ n)

-- the request whose parts the spans cover
abbrev pub message_of : List ℕ → Request → Message
message_of buffer r = record {
  method = r.method;
  target = span_bytes buffer r.target;
  body = span_bytes buffer r.body;
  close = r.close;
}

-- the first r.used bytes of the buffer are that request
pub record IsTakenFrom (buffer : List ℕ) (r : Request) : Type 0 where
  pub used : r.used ≤ length buffer
  pub target : IsWithin r.used r.target
  pub body : IsWithin r.used r.body
  pub ends : r.body.to ≡ r.used
  pub begins : BeginsWith buffer (message_of buffer r) (drop r.used buffer)

-- the answer of `take_request` is right for the buffer
abbrev pub Takes : List ℕ → Taken → Type 0
Takes buffer (Whole r) = IsTakenFrom buffer r
Takes buffer NotYet = IsNotYet buffer
Takes buffer BadHead = IsHopeless buffer
Takes buffer HeadTooLong = IsTooLong buffer
Takes buffer NoLength = HasNoLength buffer
Takes buffer BodyTooLong = HasLongBody buffer

-- of two answers to a rest in doubt, one is BadHead and the other that of an unfinished head
abbrev pub may_replace : Taken → Taken → Bool
may_replace BadHead NotYet = true
may_replace BadHead HeadTooLong = true
may_replace NotYet BadHead = true
may_replace HeadTooLong BadHead = true
may_replace taken other = false

-- an answer with the request itself in place of where it lies
pub data PlainAnswer : Type 0 where
  whole : Message → ℕ → PlainAnswer
  not_yet bad_head head_too_long no_length body_too_long : PlainAnswer

-- what the answer of `take_request` says of the buffer, with the request itself in place of where it lies
abbrev pub taken_answer : List ℕ → Taken → PlainAnswer
taken_answer buffer (Whole r) = whole (message_of buffer r) r.used
taken_answer buffer NotYet = not_yet
taken_answer buffer BadHead = bad_head
taken_answer buffer HeadTooLong = head_too_long
taken_answer buffer NoLength = no_length
taken_answer buffer BodyTooLong = body_too_long
