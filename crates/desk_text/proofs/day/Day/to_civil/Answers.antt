use Rattle.std.proofs.Common.{◌≡◌, ◌≤◌, pos, true, arith, w8, w16}
use Rattle.std.specs.Prelude.{◌&&◌, nat_le}
use Rattle.std.proofs.lemmas.Bool.{leb-true}
use Rattle.std.proofs.lemmas.Int.{ints, to_z_pos}
use Rattle.std.specs.Cmp.{first_so, second_so}
use Rattle.jiff_core.specs.Calendar.{days_in_month}
use Rattle.jiff_core.proofs.CalendarLemmas.{days_in_month_bounds}
use Rattle.desk_text.specs.Day.{Date, is_calendar_date, is_day, is_in_profile}
use Rattle.desk_text.proofs.day.Day.to_civil.Goals as goal

-- the year of a day is one that the desk takes
years-is_day : (d : Date) → is_day d ≡ true → (2000 ≤ d.year) × (d.year ≤ 2099)
years-is_day d day =
    let within = second_so (is_calendar_date d) (is_in_profile d) day in
    (leb-true _ _ (first_so (nat_le 2000 d.year) (nat_le d.year 2099) within), leb-true _ _ (second_so (nat_le 2000 d.year) (nat_le d.year 2099) within))

-- and the calendar has its month and its day
calendar-is_day : (d : Date) → is_day d ≡ true → (1 ≤ d.month) × (d.month ≤ 12) × (1 ≤ d.day) × (d.day ≤ days_in_month (pos d.year) d.month)
calendar-is_day d day =
    let all = first_so (is_calendar_date d) (is_in_profile d) day in
    let three = first_so (nat_le 1 d.month && nat_le d.month 12 && nat_le 1 d.day) (nat_le d.day (days_in_month (pos d.year) d.month)) all in
    let two = first_so (nat_le 1 d.month && nat_le d.month 12) (nat_le 1 d.day) three in (
      leb-true _ _ (first_so (nat_le 1 d.month) (nat_le d.month 12) two),
      leb-true _ _ (second_so (nat_le 1 d.month) (nat_le d.month 12) two),
      leb-true _ _ (second_so (nat_le 1 d.month && nat_le d.month 12) (nat_le 1 d.day) three),
      leb-true _ _ (second_so (nat_le 1 d.month && nat_le d.month 12 && nat_le 1 d.day) (nat_le d.day (days_in_month (pos d.year) d.month)) all),
    )

pub date-requires : goal.date-requires
date-requires c =
    let d : Date = record { year = c.self.inside.year; month = c.self.inside.month; day = c.self.inside.day } in
    let years = years-is_day d c.self.invariant in
    let (first, last, low, high) = calendar-is_day d c.self.invariant in
    let few = (days_in_month_bounds (pos c.self.inside.year) c.self.inside.month).0 in
    rw (to_z_pos w16 c.self.inside.year (omega arith), to_z_pos w8 c.self.inside.month (omega arith), to_z_pos w8 c.self.inside.day (omega arith))
    ((omega (arith, ints), omega (arith, ints)), (omega (arith, ints), omega (arith, ints)), (omega (arith, ints), omega (arith, ints)))

pub returns-clause-year : goal.returns-clause-year
returns-clause-year c =
    let years = years-is_day (record { year = c.self.inside.year; month = c.self.inside.month; day = c.self.inside.day }) c.self.invariant in
    (omega (arith, ints, c.date.ensures), omega (arith, ints, c.date.ensures))
