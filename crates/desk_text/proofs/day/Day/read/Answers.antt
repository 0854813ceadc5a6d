use Rattle.std.proofs.Common.{◌≡◌, ℕ, ◌^◌, ◌<◌, ◌∙◌, List, true, arith, drop, length, refl, rules, sym, take}
use Rattle.std.specs.Prelude.{codes}
use Rattle.std.specs.List.{list_all}
use Rattle.std.specs.Char.{is_ascii_alphabetic}
use Rattle.std.specs.Str.{all_ascii_digits}
use Rattle.std.specs.Str.Parse.{digits_value}
use Rattle.std.proofs.lemmas.List.{length-take}
use Rattle.std.proofs.lemmas.Str.Parse.{digits_value_short}
use Rattle.desk_text.specs.Picture.{fits}
use Rattle.desk_text.proofs.NumberLemmas.{decimal_model}
use Rattle.desk_text.proofs.DayLemmas.{day_places}
use Rattle.desk_text.proofs.PictureLemmas.{digits-fits, fits-drop, fits-take}
use Rattle.desk_text.proofs.day.Day.read.Goals as goal

abbrev picture : List ℕ
picture = codes "YYYY-MM-DD"

-- where the picture has letters, the bytes have digits
digits_at : (n k : ℕ) (bytes : List ℕ) → list_all is_ascii_alphabetic (take n (drop k picture)) ≡ true → fits picture bytes ≡ true → all_ascii_digits (take n (drop k bytes)) ≡ true
digits_at n k bytes letters fit = digits-fits (take n (drop k picture)) (take n (drop k bytes)) letters (fits-take n (drop k picture) (drop k bytes) (fits-drop k picture bytes fit))

-- and so few digits write no large number
small_at : (n k : ℕ) (bytes : List ℕ) (v : ℕ) → list_all is_ascii_alphabetic (take n (drop k picture)) ≡ true → fits picture bytes ≡ true → v ≡ digits_value 10 (take n (drop k bytes)) → v < 10 ^ n
small_at n k bytes v letters fit is = omega (arith, digits_value_short decimal_model (take n (drop k bytes)) n (digits_at n k bytes letters fit) (omega (arith, length-take n (drop k bytes))))

pub slice_bounds-short_value_of-end-3 : goal.slice_bounds-short_value_of-end-3
slice_bounds-short_value_of-end-3 c =
    let ten : length c.args.bytes.now ≡ 10 = (day_places c.args.bytes.now (sym c.fits.ensures ∙ c.if-not-fits.false)).0 in
    search rules

pub short_value_of-month-requires-clause-digits : goal.short_value_of-month-requires-clause-digits
short_value_of-month-requires-clause-digits c = digits_at 2 5 c.args.bytes.now refl (sym c.fits.ensures ∙ c.if-not-fits.false)

pub overflow_cast-month : goal.overflow_cast-month
overflow_cast-month c = omega (arith, small_at 2 5 c.args.bytes.now c.short_value_of-month.result refl (sym c.fits.ensures ∙ c.if-not-fits.false) c.short_value_of-month.ensures)

pub short_value_of-day-requires-clause-digits : goal.short_value_of-day-requires-clause-digits
short_value_of-day-requires-clause-digits c = (day_places c.args.bytes.now (sym c.fits.ensures ∙ c.if-not-fits.false)).1

pub overflow_cast-day : goal.overflow_cast-day
overflow_cast-day c = omega (arith, small_at 2 8 c.args.bytes.now c.short_value_of-day.result refl (sym c.fits.ensures ∙ c.if-not-fits.false) c.short_value_of-day.ensures)

pub is_calendar_date-requires-clause-year : goal.is_calendar_date-requires-clause-year
is_calendar_date-requires-clause-year c = omega (arith, small_at 4 0 c.args.bytes.now c.short_value_of-year.result refl (sym c.fits.ensures ∙ c.if-not-fits.false) c.short_value_of-year.ensures)

pub is_calendar_date-requires-clause-month : goal.is_calendar_date-requires-clause-month
is_calendar_date-requires-clause-month c = omega (arith, small_at 2 5 c.args.bytes.now c.short_value_of-month.result refl (sym c.fits.ensures ∙ c.if-not-fits.false) c.short_value_of-month.ensures)

pub is_calendar_date-requires-clause-day : goal.is_calendar_date-requires-clause-day
is_calendar_date-requires-clause-day c = omega (arith, small_at 2 8 c.args.bytes.now c.short_value_of-day.result refl (sym c.fits.ensures ∙ c.if-not-fits.false) c.short_value_of-day.ensures)
