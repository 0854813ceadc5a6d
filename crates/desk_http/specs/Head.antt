-- What is found of a head in the front of a rest.
use Rattle.std.specs.Prelude.{◌≡◌, ℕ, ◌<◌, ◌≤◌, List, length}
use Rattle.httparse.specs.Grammar.{RequestHead, ReadsRequest, print_request, HasNoRequest, NeverHasRequest, MayBecomeRequest}
use Rattle.desk_http.specs.Limits.{line_limit}
use Rattle.desk_http.specs.declared.head.Head.{Head}
use Rattle.desk_http.specs.declared.head.Found.{Found}
use Rattle.desk_http.specs.declared.head.Found.TheVariants.{Whole, TooManyLines, Unfinished, Hopeless}
use Rattle.desk_http.specs.Lines.{header_lines, method_of, body_length, is_closing}
use Rattle.desk_http.specs.Taken.{span_bytes, IsWithin}

-- the first found.len bytes of the buffer are the head h, and found has what the desk reads of it
pub record IsHeadAt (buffer : List ℕ) (found : Head) (h : RequestHead) : Type 0 where
  pub len : found.len ≡ length (print_request h)
  pub fits : found.len ≤ length buffer
  pub within : IsWithin found.len found.target
  pub method : found.method ≡ method_of h.method
  pub target : span_bytes buffer found.target ≡ h.target
  pub body : found.body ≡ body_length (method_of h.method) (header_lines h)
  pub close : found.close ≡ is_closing h.minor (header_lines h)

-- what was found in the buffer is right: a whole head, one of too many lines, one that is unfinished, or none
abbrev pub Finds : List ℕ → Found → Type 0
Finds buffer (Whole found) =
    (h : RequestHead) × (after : List ℕ) × ReadsRequest buffer h after
    × (length h.fields ≤ line_limit) × IsHeadAt buffer found h
Finds buffer TooManyLines =
    (h : RequestHead) × (after : List ℕ) × ReadsRequest buffer h after × (line_limit < length h.fields)
Finds buffer Unfinished = HasNoRequest buffer × MayBecomeRequest buffer
Finds buffer Hopeless = NeverHasRequest buffer
