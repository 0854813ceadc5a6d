-- The bytes of replies.
use Rattle.std.specs.Prelude.{◌≡◌, ℕ, Bool, true, false, not, List, [], ◌∷◌, ◌++◌, length, Option, Some, None, ◌==◌, codes, find}
use Rattle.std.specs.Fmt.{decimal}
use Rattle.std.specs.List.{list_any}
use Rattle.std.specs.Option.{option_map_or}
use Rattle.httparse.specs.Ascii.{line_feed, crlf_bytes}
use Rattle.http.specs.StatusCode.{code_digits}
use Rattle.desk_http.specs.declared.method.Method.{Method}
use Rattle.desk_http.specs.declared.method.Method.TheVariants.{Get, Post, Other}
use Rattle.desk_http.specs.declared.fixed.Fixed.{Fixed}
use Rattle.desk_http.specs.declared.fixed.Fixed.TheVariants.{BadHead, LengthRequired, BodyTooLong, HeadTooLong, NoRoute, WrongMethod, StoreFault, Memory}

-- the statuses that the desk answers, each with its phrase: those of RFC 7231, of RFC 6585 (431) and of RFC 4918 (507)
abbrev pub statuses : List (ℕ × List ℕ)
statuses =
    (200, codes "OK")
    ∷ (400, codes "Bad Request")
    ∷ (404, codes "Not Found")
    ∷ (405, codes "Method Not Allowed")
    ∷ (409, codes "Conflict")
    ∷ (411, codes "Length Required")
    ∷ (413, codes "Payload Too Large")
    ∷ (431, codes "Request Header Fields Too Large")
    ∷ (503, codes "Service Unavailable")
    ∷ (507, codes "Insufficient Storage")
    ∷ []

-- the status is one that the desk answers
abbrev pub is_reply_status : ℕ → Bool
is_reply_status status = list_any (λ row. row.0 == status) statuses

-- 405 names the method that is allowed, one of the two that the desk knows, and no other status names one
abbrev pub fits_status : ℕ → Option Method → Bool
fits_status status None = not (status == 405)
fits_status status (Some Get) = status == 405
fits_status status (Some Post) = status == 405
fits_status status (Some Other) = false

-- a line of a reply's head
abbrev pub head_line : List ℕ → List ℕ
head_line text = text ++ crlf_bytes

-- the phrase that goes with a status that the desk answers
unfoldable pub phrase_of : ℕ → List ℕ
phrase_of status = option_map_or (λ row. row.1) (find (λ row. row.0 == status) statuses) []

-- the line that a reply begins with
unfoldable pub status_line : ℕ → List ℕ
status_line status = head_line (codes "HTTP/1.1 " ++ code_digits status ++ codes " " ++ phrase_of status)

-- the lines of a reply's head that say what its body is, and how long
unfoldable pub body_lines : ℕ → List ℕ
body_lines len =
    head_line (codes "Content-Type: text/plain; charset=utf-8") ++ head_line (codes "Content-Length: " ++ decimal len)

-- the line of a reply that names the method allowed, where one is
abbrev pub allow_line : Option Method → List ℕ
allow_line None = []
allow_line (Some Get) = head_line (codes "Allow: GET")
allow_line (Some Post) = head_line (codes "Allow: POST")
allow_line (Some Other) = []

-- the line of a reply that says that the connection ends, where it does
abbrev pub close_line : Bool → List ℕ
close_line true = head_line (codes "Connection: close")
close_line false = []

-- a reply: the lines of its head, an empty line, and its body
unfoldable pub reply : ℕ → List ℕ → Option Method → Bool → List ℕ
reply status body allow close =
    status_line status ++ body_lines (length body) ++ allow_line allow ++ close_line close ++ crlf_bytes ++ body

-- a list of bytes that grew at its end
abbrev pub GrewTo : List ℕ → List ℕ → Type 0
GrewTo old new = (more : List ℕ) × (new ≡ old ++ more)

-- the status of a refusal whose body is fixed
abbrev pub status_of : Fixed → ℕ
status_of BadHead = 400
status_of LengthRequired = 411
status_of BodyTooLong = 413
status_of HeadTooLong = 431
status_of NoRoute = 404
status_of (WrongMethod allow) = 405
status_of StoreFault = 503
status_of Memory = 507

-- the word that is the body of a refusal whose body is fixed
abbrev pub refusal_word : Fixed → List ℕ
refusal_word BadHead = codes "bad-head"
refusal_word LengthRequired = codes "length-required"
refusal_word BodyTooLong = codes "body-too-long"
refusal_word HeadTooLong = codes "head-too-long"
refusal_word NoRoute = codes "no-route"
refusal_word (WrongMethod allow) = codes "wrong-method"
refusal_word StoreFault = codes "store-fault"
refusal_word Memory = codes "memory"

-- the method that a refusal whose body is fixed allows, where it names one
abbrev pub allow_of : Fixed → Option Method
allow_of BadHead = None
allow_of LengthRequired = None
allow_of BodyTooLong = None
allow_of HeadTooLong = None
allow_of NoRoute = None
allow_of (WrongMethod allow) = Some allow
allow_of StoreFault = None
allow_of Memory = None

-- a reply: its status, the method that it allows where it names one, and its body
pub record Reply : Type 0 where
  pub status : ℕ
  pub allow : Option Method
  pub body : List ℕ

-- the bytes of a reply; where the connection ends with it, it says so
abbrev pub bytes_with : Bool → Reply → List ℕ
bytes_with close said = reply said.status said.body said.allow close

-- a reply that allows no method
abbrev pub with_body : ℕ → List ℕ → Reply
with_body status body = record { status = status; allow = None; body = body }

-- the reply of a refusal whose body is one word
abbrev pub fixed : Fixed → Reply
fixed refused = record { status = status_of refused; allow = allow_of refused; body = refusal_word refused ++ line_feed ∷ [] }

-- the bytes of that reply
unfoldable pub fixed_reply : Fixed → Bool → List ℕ
fixed_reply refused close = bytes_with close (fixed refused)
