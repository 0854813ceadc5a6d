-- What the rest of a byte stream begins with: a request, or one of the five reasons why it begins with none.
-- The grammar of heads is httparse's: ReadsRequest bytes h after says that the bytes are the head h and then after.
use Rattle.std.specs.Prelude.{◌≡◌, ℕ, ◌+◌, ◌<◌, ◌≤◌, ◌⊎◌, Bool, List, ◌++◌, length, take}
use Rattle.httparse.specs.Grammar.{RequestHead, ReadsRequest, print_request, HasNoRequest, NeverHasRequest, MayBecomeRequest, EndsInTarget}
use Rattle.desk_http.specs.Limits.{head_limit, line_limit}
use Rattle.desk_http.specs.declared.method.Method.{Method}
use Rattle.desk_http.specs.declared.lines.BodyLength.{BodyLength}
use Rattle.desk_http.specs.declared.lines.BodyLength.TheVariants.{Missing, TooLong, Known}
use Rattle.desk_http.specs.Lines.{header_lines, method_of, body_length, is_closing}

-- the bytes that a head has to lie in
abbrev pub front : List ℕ → List ℕ
front rest = take head_limit rest

-- a prefix of the front is this head
abbrev pub HasHead : List ℕ → RequestHead → Type 0
HasHead rest h = (after : List ℕ) × ReadsRequest (front rest) h after

-- no prefix of the front is a head, nor will one be, whatever bytes follow
abbrev pub IsHopeless : List ℕ → Type 0
IsHopeless rest = NeverHasRequest (front rest)

-- No prefix of the front is a head, and bytes can follow that make one. The text of a target is tested at
-- the target's end, so a front that ends inside its target counts as unfinished, whatever the target holds.
abbrev pub IsUnfinished : List ℕ → Type 0
IsUnfinished rest = HasNoRequest (front rest) × MayBecomeRequest (front rest)

-- The one exception to "a rest has one answer": it is hopeless, and its front ends inside its target, so that it
-- counts as unfinished too.
abbrev pub IsInDoubt : List ℕ → Type 0
IsInDoubt rest = IsHopeless rest × EndsInTarget (front rest)

-- the head isn't finished within its head_limit bytes, or has more than line_limit lines
abbrev pub IsTooLong : List ℕ → Type 0
IsTooLong rest =
    ((head_limit ≤ length rest) × IsUnfinished rest)
    ⊎ ((h : RequestHead) × HasHead rest h × (line_limit < length h.fields))

-- the rest begins with a head of no more than line_limit lines, which says this of its body
pub record HasHeadWith (rest : List ℕ) (h : RequestHead) (body : BodyLength) : Type 0 where
  pub head : HasHead rest h
  pub lines : length h.fields ≤ line_limit
  pub body_length : body_length (method_of h.method) (header_lines h) ≡ body

-- the rest begins with a head that gives no length of its body
abbrev pub HasNoLength : List ℕ → Type 0
HasNoLength rest = (h : RequestHead) × HasHeadWith rest h Missing

-- the rest begins with a head that gives a length over body_limit bytes
abbrev pub HasLongBody : List ℕ → Type 0
HasLongBody rest = (h : RequestHead) × HasHeadWith rest h TooLong

-- the rest begins with a whole head, and not all of its body is there
abbrev pub LacksBody : List ℕ → Type 0
LacksBody rest =
    (h : RequestHead) × (n : ℕ) × HasHeadWith rest h (Known n)
    × (length rest < length (print_request h) + n)

-- the rest is no request yet: more bytes may make a whole one
abbrev pub IsNotYet : List ℕ → Type 0
IsNotYet rest = ((length rest < head_limit) × IsUnfinished rest) ⊎ LacksBody rest

-- a request as its reader sees it
pub record Message : Type 0 where
  pub method : Method
  pub target : List ℕ
  pub body : List ℕ
  pub close : Bool

-- the rest is this request, and then more
pub record BeginsWith (rest : List ℕ) (m : Message) (more : List ℕ) : Type 0 where
  pub h : RequestHead
  pub head : HasHeadWith rest h (Known (length m.body))
  pub bytes : rest ≡ print_request h ++ m.body ++ more
  pub method : m.method ≡ method_of h.method
  pub target : m.target ≡ h.target
  pub close : m.close ≡ is_closing h.minor (header_lines h)
