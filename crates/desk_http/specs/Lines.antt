-- What the lines of a request's head say of its body and of the connection.
use Rattle.std.specs.Prelude.{ℕ, Bool, ◌||◌, List, [], ◌∷◌, map, filter, Option, Some, None, if◌then◌else◌, ◌==◌, nat_le, codes}
use Rattle.std.specs.Char.{is_ascii_digit}
use Rattle.std.specs.List.{list_any, list_all, slice_split}
use Rattle.std.specs.Str.{str_eq_ignore_ascii_case, bytes_eq}
use Rattle.std.specs.Str.Parse.{digits_value}
use Rattle.httparse.specs.Ascii.{comma}
use Rattle.httparse.specs.Grammar.{trim_ows, RequestHead}
use Rattle.httparse.specs.Spans.{name_and_value}
use Rattle.desk_http.specs.Limits.{body_limit}
use Rattle.desk_http.specs.declared.method.Method.{Method}
use Rattle.desk_http.specs.declared.method.Method.TheVariants.{Get, Post, Other}
use Rattle.desk_http.specs.declared.lines.BodyLength.{BodyLength}
use Rattle.desk_http.specs.declared.lines.BodyLength.TheVariants.{Missing, TooLong, Known}

-- a header line: its name, and its value without the blanks around it
abbrev pub Line : Type 0
Line = List ℕ × List ℕ

-- the header lines, in order
abbrev pub header_lines : RequestHead → List Line
header_lines h = map name_and_value h.fields

-- the line has the name, in any case
abbrev pub is_named : List ℕ → Line → Bool
is_named name line = str_eq_ignore_ascii_case line.0 name

-- the values of the lines with the name, in order
abbrev pub line_values : List ℕ → List Line → List (List ℕ)
line_values name lines = map (λ line. line.1) (filter (is_named name) lines)

-- the method that a word names
abbrev pub method_of : List ℕ → Method
method_of word =
    if bytes_eq word (codes "GET") then Get else (if bytes_eq word (codes "POST") then Post else Other)

-- the number that one or more digits write
abbrev pub number_written : List ℕ → Option ℕ
number_written [] = None
number_written (digit ∷ digits) =
    if list_all is_ascii_digit (digit ∷ digits) then Some (digits_value 10 (digit ∷ digits)) else None

-- the length that the values of Content-Length state: only a POST has to have one, and none may have two
abbrev pub stated_length : Method → List (List ℕ) → Option ℕ
stated_length Get [] = Some 0
stated_length Post [] = None
stated_length Other [] = Some 0
stated_length method (value ∷ []) = number_written value
stated_length method (value ∷ second ∷ more) = None

-- the length as the desk takes it, at most body_limit bytes
abbrev pub bounded_length : Option ℕ → BodyLength
bounded_length None = Missing
bounded_length (Some n) = if nat_le n body_limit then Known n else TooLong

-- how long the body is. A transfer coding gives no length beforehand
abbrev pub body_length : Method → List Line → BodyLength
body_length method lines =
    if list_any (is_named (codes "transfer-encoding")) lines then Missing
    else bounded_length (stated_length method (line_values (codes "content-length") lines))

-- one of the value's parts between commas, without the blanks around it, is the word close, in any case
abbrev pub lists_close : List ℕ → Bool
lists_close value =
    list_any (λ part. str_eq_ignore_ascii_case (trim_ows part) (codes "close")) (slice_split (λ b. b == comma) value)

-- the connection ends after the answer: in HTTP/1.0, and where a Connection line says so
abbrev pub is_closing : ℕ → List Line → Bool
is_closing minor lines = minor == 0 || list_any lists_close (line_values (codes "connection") lines)
