-- What a field of text is read as, where a reader of fields looks for a value of one form. Each is nothing exactly where the text isn't
-- of the form.
use Rattle.std.specs.Prelude.{ℕ, ◌^◌, ◌&&◌, if◌then◌else◌, List, nat_le, Option, Some, None, option_and_then, Result, Ok, Err}
use Rattle.std.specs.Result.{result_ok}
use Rattle.desk_text.specs.Cas.{cas_of}
use Rattle.desk_text.specs.Code.{code_of, exemption_number_of}
use Rattle.desk_text.specs.Day.{Date, day_of, is_askable}
use Rattle.desk_text.specs.Name.{name_of}
use Rattle.desk_text.specs.Number.{number_below}

-- what the one makes of the other, or the fault of the one, or else of the other
abbrev pub applied : {A B Fault : Type 0} → Result (A → B) Fault → Result A Fault → Result B Fault
applied (Err fault) value = Err fault
applied (Ok make) (Err fault) = Err fault
applied (Ok make) (Ok value) = Ok (make value)

-- a code
unfoldable pub a_code : List ℕ → Option (List ℕ)
a_code field = result_ok (code_of field)

-- a name
unfoldable pub a_name : List ℕ → Option (List ℕ)
a_name field = result_ok (name_of field)

-- a CAS number
unfoldable pub a_cas : List ℕ → Option (List ℕ)
a_cas field = result_ok (cas_of field)

-- the number of an exemption
unfoldable pub an_exemption_number : List ℕ → Option (List ℕ)
an_exemption_number field = result_ok (exemption_number_of field)

-- a day
unfoldable pub a_day : List ℕ → Option Date
a_day field = result_ok (day_of field)

-- the day, where it is one that may be asked about
abbrev pub if_askable : Date → Option Date
if_askable day = if is_askable day then Some day else None

-- a day that may be asked about
abbrev pub an_askable_day : List ℕ → Option Date
an_askable_day field = option_and_then if_askable (result_ok (day_of field))

-- a whole number below 2^64 from a least one to a greatest one, in decimal digits
unfoldable pub a_number : ℕ → ℕ → List ℕ → Option ℕ
a_number least greatest field =
    option_and_then (λ n. if nat_le least n && nat_le n greatest then Some n else None) (result_ok (number_below (2 ^ 64) field))
