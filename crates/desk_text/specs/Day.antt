-- Days: dates of the calendar from 2000-01-01 to 2099-12-31.
use Rattle.std.specs.Prelude.{ℕ, zero, suc, ◌+◌, ◌-◌, ◌*◌, ◌/◌, ◌%◌, min, Bool, not, ◌&&◌, List, [], ◌∷◌, ◌++◌, codes}
use Rattle.std.specs.Prelude.{slice_range, pos, Option, None, Some, Result, Ok, Err, if◌then◌else◌, nat_le}
use Rattle.std.specs.Ordering.{nat_cmp, is_le, on, then_cmp}
use Rattle.std.specs.Str.Parse.{digits_value}
use Rattle.std.specs.declared.cmp.Ordering.{Ordering}
use Rattle.jiff_core.specs.Calendar.{days_in_month}
use Rattle.desk_text.specs.Picture.{fits}
use Rattle.desk_text.specs.declared.day.DayFault.{DayFault}
use Rattle.desk_text.specs.declared.day.DayFault.TheVariants.{Shape, NoSuchDay, OutOfProfile}

-- the year, the month from 1 and the day of the month from 1
pub record Date : Type 0 where
  pub year : ℕ
  pub month : ℕ
  pub day : ℕ

-- the Gregorian calendar has the date
abbrev pub is_calendar_date : Date → Bool
is_calendar_date d =
    nat_le 1 d.month && nat_le d.month 12 && nat_le 1 d.day && nat_le d.day (days_in_month (pos d.year) d.month)

-- the date is one of the years 2000 to 2099, which the desk takes
abbrev pub is_in_profile : Date → Bool
is_in_profile d = nat_le 2000 d.year && nat_le d.year 2099

-- the date is a day that the desk takes: the calendar has it, and its year is one of 2000 to 2099
abbrev pub is_day : Date → Bool
is_day d = is_calendar_date d && is_in_profile d

-- the date that ten bytes YYYY-MM-DD write
abbrev pub date_at : List ℕ → Date
date_at bytes = record {
  year = digits_value 10 (slice_range bytes 0 4);
  month = digits_value 10 (slice_range bytes 5 7);
  day = digits_value 10 (slice_range bytes 8 10);
}

-- the day that the bytes write
unfoldable pub day_of : List ℕ → Result Date DayFault
day_of bytes =
    if not (fits (codes "YYYY-MM-DD") bytes) then Err Shape
    else (if not (is_calendar_date (date_at bytes)) then Err NoSuchDay
    else (if not (is_in_profile (date_at bytes)) then Err OutOfProfile else Ok (date_at bytes)))

-- dates are ordered by time: the earlier one is the less
abbrev pub date_cmp : Date → Date → Ordering
date_cmp = then_cmp (on (λ d. d.year) nat_cmp) (then_cmp (on (λ d. d.month) nat_cmp) (on (λ d. d.day) nat_cmp))

-- the first date is the second or before it
abbrev pub is_not_after : Date → Date → Bool
is_not_after a b = is_le (date_cmp a b)

-- the first day on which a question may be asked: 22 July 2014, the first of the days of Article 4(3) of Directive 2011/65/EU
abbrev pub first_askable : Date
first_askable = record { year = 2014; month = 7; day = 22 }

-- a question may be asked for the date
abbrev pub is_askable : Date → Bool
is_askable d = is_not_after first_askable d

-- the last digits of a number, one for each place, as bytes (48 is `0`)
abbrev pub zero_padded : ℕ → ℕ → List ℕ
zero_padded zero n = []
zero_padded (suc places) n = zero_padded places (n / 10) ++ (48 + n % 10) ∷ []

-- the day as YYYY-MM-DD
unfoldable pub date_text : Date → List ℕ
date_text d = zero_padded 4 d.year ++ codes "-" ++ zero_padded 2 d.month ++ codes "-" ++ zero_padded 2 d.day

-- the same day of the month so many calendar months later, or the last day of that month where it has no such day
abbrev pub months_after : ℕ → Date → Date
months_after count d =
    let months = 12 * d.year + (d.month - 1) + count in
    let year = months / 12 in
    let month = months % 12 + 1 in
    record { year = year; month = month; day = min d.day (days_in_month (pos year) month) }

-- the day six months after a day, unless it is past the last day that the desk takes
unfoldable pub six_months_after : Date → Option Date
six_months_after d = if is_in_profile (months_after 6 d) then Some (months_after 6 d) else None
