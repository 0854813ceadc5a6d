-- What a server of a stream stands on: the requests at the front of its bytes, and how what is left ends.
use Rattle.std.specs.Prelude.{◌≡◌, ℕ, false, true, List, [], ◌∷◌, Option, None, Some}
use Rattle.std.specs.Option.{option_map_or}
use Rattle.desk_http.specs.declared.fixed.Fixed.{Fixed}
use Rattle.desk_http.specs.declared.fixed.Fixed.TheVariants as refusal
use Rattle.desk_http.specs.declared.taken.Taken.{Taken}
use Rattle.desk_http.specs.declared.taken.Taken.TheVariants.{Whole, NotYet, BadHead, HeadTooLong, NoLength, BodyTooLong}
use Rattle.desk_http.specs.Reply.{fixed_reply}
use Rattle.desk_http.specs.Rest.{BeginsWith, Message}
use Rattle.desk_http.specs.Stream.{End, clean, cut, bad_head, head_too_long, no_length, body_too_long}

-- the bytes are these requests in order, none of which closes, and then the rest
abbrev pub LeadsTo : List ℕ → List Message → List ℕ → Type 0
LeadsTo bytes [] rest = bytes ≡ rest
LeadsTo bytes (m ∷ ms) rest = (behind : List ℕ) × BeginsWith bytes m behind × (m.close ≡ false) × LeadsTo behind ms rest

-- how a stream ends of which these bytes are left that are no request yet
abbrev pub open_end : List ℕ → End
open_end [] = clean
open_end (b ∷ bytes) = cut

-- the refusal that an end is, if it is one
abbrev pub refusal_at : End → Option Fixed
refusal_at clean = None
refusal_at cut = None
refusal_at bad_head = Some refusal.BadHead
refusal_at head_too_long = Some refusal.HeadTooLong
refusal_at no_length = Some refusal.LengthRequired
refusal_at body_too_long = Some refusal.BodyTooLong

-- the last bytes that a stream of this end is answered: those of the refusal, with the line that closes, or none
abbrev pub last_reply : End → List ℕ
last_reply end = option_map_or (λ refused. fixed_reply refused true) (refusal_at end) []

-- the refusal that what was taken is, if it is one
abbrev pub refusal_of : Taken → Option Fixed
refusal_of (Whole request) = None
refusal_of NotYet = None
refusal_of BadHead = Some refusal.BadHead
refusal_of HeadTooLong = Some refusal.HeadTooLong
refusal_of NoLength = Some refusal.LengthRequired
refusal_of BodyTooLong = Some refusal.BodyTooLong
