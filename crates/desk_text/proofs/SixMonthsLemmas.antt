-- Six months added by `jiff` are six months by year, month and day.
use Rattle.std.proofs.Common.{◌≡◌, ℕ, ◌+◌, ◌-◌, ◌*◌, ◌/◌, ◌%◌, min, ℤ, pos, negsuc, ◌≤ℤ◌, unsigned_abs, arith, refl, ◌∙◌}
use Rattle.jiff_core.specs.declared.civil.date.Date.{Date as CivilDate}
use Rattle.jiff_core.specs.declared.span.Span.{Span}
use Rattle.jiff_core.specs.declared.unit.Unit.TheVariants.{Month, Hour, Minute, Second, Millisecond, Microsecond, Nanosecond}
use Rattle.jiff_core.specs.Calendar.{IsBetween, IsEpochDay, days_in_month}
use Rattle.jiff_core.specs.Date.{epoch_day}
use Rattle.jiff_core.specs.Span.{IsOnly, span_months, span_days, clock_days}
use Rattle.jiff_core.proofs.DateLemmas.{epoch_day_injective, epoch_day_range}
use Rattle.jiff_core.proofs.SignedLemmas.{signed_arith}
use Rattle.jiff_span.specs.Add.{date_add, CanAddToDate}
use Rattle.jiff_span.specs.Months.{shifted_year, shifted_month, shifted_day, add_months, IsShiftable}
use Rattle.jiff_span.proofs.DifferenceLemmas.{signed_zero}
use Rattle.jiff_span.proofs.MonthLemmas.{shift_parts, shifted_civil}
use Rattle.desk_text.specs.Civil.{date_from_civil}
use Rattle.desk_text.specs.Day.{months_after}

-- a span of months moves the date by them alone
date_add-months : (d : CivilDate) (n : ℤ) (s : Span) → IsOnly Month n s → date_add d s ≡ add_months d n
date_add-months d n s only =
    let months : span_months s ≡ n = omega (arith, signed_arith, only.months) in
    let days : span_days s ≡ pos 0 = omega (arith, signed_arith, only.days) in
    let clock : clock_days s ≡ pos 0 =
    signed_zero s.negative _
    (omega (arith, only.others Hour (omega arith), only.others Minute (omega arith), only.others Second (omega arith), only.others Millisecond (omega arith), only.others Microsecond (omega arith), only.others Nanosecond (omega arith))) in
    rw (months, days, clock) (omega (arith, signed_arith))

-- the library has the year six months later
six_months-shiftable : (d : CivilDate) → IsBetween (pos 2000) (pos 2099) d.year → IsShiftable d (pos 6)
six_months-shiftable d years = omega (arith, signed_arith, years, d.month_in)

-- the date so many months later
shifted : (d : CivilDate) (k : ℤ) → IsShiftable d k → CivilDate
shifted d k can =
    let civil = shifted_civil d k can in
    record {
      year = shifted_year d k;
      month = shifted_month d k;
      day = shifted_day d k;
      year_in = civil.0;
      month_in = civil.1;
      day_in = civil.2;
    }

-- six months can be added
pub can_add-six_months : (d : CivilDate) (s : Span) → IsBetween (pos 2000) (pos 2099) d.year → IsOnly Month (pos 6) s → CanAddToDate d s
unfolding shifted
can_add-six_months d s years only =
    let months : span_months s ≡ pos 6 = omega (arith, signed_arith, only.months) in
    let can : IsShiftable d (pos 6) = six_months-shiftable d years in
    let day : IsEpochDay (add_months d (pos 6)) = epoch_day_range (shifted d (pos 6) can) in
    (rw months can, rw (date_add-months d (pos 6) s only) day)

-- a year that is not before 0
pos-unsigned_abs : (z : ℤ) → pos 2000 ≤ℤ z → z ≡ pos (unsigned_abs z)
pos-unsigned_abs (pos n) low = refl
pos-unsigned_abs (negsuc n) low = absurd (omega (arith, signed_arith))

-- where they lead
pub six_months-later : (d later : CivilDate) (s : Span) → IsBetween (pos 2000) (pos 2099) d.year → IsOnly Month (pos 6) s → epoch_day later ≡ date_add d s → (date_from_civil later ≡ months_after 6 (date_from_civil d)) × IsBetween (pos 2000) (pos 2100) later.year
unfolding shifted
six_months-later d later s years only added =
    let months : ℕ = 12 * unsigned_abs d.year + (d.month - 1) + 6 in
    let year_is : d.year ≡ pos (unsigned_abs d.year) = pos-unsigned_abs d.year years.0 in
    let can : IsShiftable d (pos 6) = six_months-shiftable d years in
    let same = epoch_day_injective later (shifted d (pos 6) can) (added ∙ date_add-months d (pos 6) s only) in
    let parts = shift_parts d (pos 6) (pos (months / 12)) (months % 12 + 1) (omega (arith, signed_arith, year_is, d.month_in)) (omega arith) (omega arith) in
    let year : later.year ≡ pos (months / 12) = same.0 ∙ parts.0 in
    let month : later.month ≡ months % 12 + 1 = same.1 ∙ parts.1 in
    let day : later.day ≡ min d.day (days_in_month (pos (months / 12)) (months % 12 + 1)) = same.2 ∙ rw (parts.0, parts.1) refl in
    (rw (year, month, day) refl, rw year (omega (arith, signed_arith, year_is, years, d.month_in)))
