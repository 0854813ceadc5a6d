-- A day's text reads as the day, and a text that reads as a day is that day's.
use Rattle.std.proofs.Common.{◌≡◌, ℕ, ◌<◌, ◌^◌, Bool, true, false, not, ◌&&◌, Ok, Err, List, [], ◌∷◌, ◌++◌, pos, arith, refl, ◌∙◌, ap}
use Rattle.std.specs.Prelude.{codes, if◌then◌else◌}
use Rattle.std.proofs.lemmas.Bool.Decides.{nat_tests}
use Rattle.std.specs.Str.Parse.{digits_value}
use Rattle.jiff_core.proofs.CalendarLemmas.{days_in_month_bounds}
use Rattle.desk_text.specs.Day.{Date, is_calendar_date, is_in_profile, is_day, date_at, day_of, zero_padded, date_text}
use Rattle.desk_text.specs.Picture.{fits}
use Rattle.desk_text.specs.declared.day.DayFault.TheVariants.{Shape, NoSuchDay, OutOfProfile}
use Rattle.desk_text.proofs.DigitLemmas.{digits-zero_padded, digits_value-zero_padded, zero_padded-digits_value}
use Rattle.desk_text.proofs.PictureLemmas.{length-fits, fits-at, fits-take, fits-drop, digits-fits, fits-letters, fits-append}

-- the text has the form of a day
pub fits-date_text : (d : Date) → fits (codes "YYYY-MM-DD") (date_text d) ≡ true
unfolding date_text
fits-date_text d =
    let year : fits (codes "YYYY") (zero_padded 4 d.year) ≡ true = fits-letters (codes "YYYY") (zero_padded 4 d.year) refl refl (digits-zero_padded 4 d.year) in
    let month : fits (codes "MM") (zero_padded 2 d.month) ≡ true = fits-letters (codes "MM") (zero_padded 2 d.month) refl refl (digits-zero_padded 2 d.month) in
    let day : fits (codes "DD") (zero_padded 2 d.day) ≡ true = fits-letters (codes "DD") (zero_padded 2 d.day) refl refl (digits-zero_padded 2 d.day) in
    fits-append (codes "YYYY-MM-") (zero_padded 4 d.year ++ codes "-" ++ zero_padded 2 d.month ++ codes "-") (codes "DD") (zero_padded 2 d.day)
    (fits-append (codes "YYYY-MM") (zero_padded 4 d.year ++ codes "-" ++ zero_padded 2 d.month) (codes "-") (codes "-")
    (fits-append (codes "YYYY-") (zero_padded 4 d.year ++ codes "-") (codes "MM") (zero_padded 2 d.month)
    (fits-append (codes "YYYY") (zero_padded 4 d.year) (codes "-") (codes "-") year refl) month) refl) day

-- a day's parts have their digits
parts_fit : (d : Date) → is_day d ≡ true → (d.year < 10 ^ 4) × (d.month < 10 ^ 2) × (d.day < 10 ^ 2)
parts_fit d day =
    let long = days_in_month_bounds (pos d.year) d.month in
    (grind (arith, nat_tests), grind (arith, nat_tests), grind (arith, nat_tests, long))

-- and they are read from it
date_at-date_text : (d : Date) → is_day d ≡ true → date_at (date_text d) ≡ d
unfolding date_text
date_at-date_text d day =
    let parts = parts_fit d day in
    λ i. record {
      year = digits_value-zero_padded 4 d.year parts.0 i;
      month = digits_value-zero_padded 2 d.month parts.1 i;
      day = digits_value-zero_padded 2 d.day parts.2 i;
    }

-- a day is read only where no fault is found
no_fault : (date d : Date) (shape calendar profile : Bool) → (if not shape then Err Shape else (if not calendar then Err NoSuchDay else (if not profile then Err OutOfProfile else Ok date))) ≡ Ok d → (shape ≡ true) × ((calendar && profile) ≡ true) × (d ≡ date)
no_fault date d false calendar profile e = cc
no_fault date d true false profile e = cc
no_fault date d true true false e = cc
no_fault date d true true true e = (refl, refl, cc)

all_good : (date : Date) (shape calendar profile : Bool) → shape ≡ true → (calendar && profile) ≡ true → (if not shape then Err Shape else (if not calendar then Err NoSuchDay else (if not profile then Err OutOfProfile else Ok date))) ≡ Ok date
all_good date false calendar profile fit day = cc
all_good date true false profile fit day = cc
all_good date true true false fit day = cc
all_good date true true true fit day = refl

-- what is read of a text that is a day's
pub day_of-Ok : (bytes : List ℕ) (d : Date) → day_of bytes ≡ Ok d → (fits (codes "YYYY-MM-DD") bytes ≡ true) × (is_day d ≡ true) × (d ≡ date_at bytes)
unfolding day_of
day_of-Ok bytes d e =
    let facts = no_fault (date_at bytes) d (fits (codes "YYYY-MM-DD") bytes) (is_calendar_date (date_at bytes)) (is_in_profile (date_at bytes)) e in
    (facts.0, ap is_day facts.2 ∙ facts.1, facts.2)

-- a day's text reads as the day
pub day_of-date_text : (d : Date) → is_day d ≡ true → day_of (date_text d) ≡ Ok d
unfolding day_of
day_of-date_text d day =
    let same : date_at (date_text d) ≡ d = date_at-date_text d day in
    all_good (date_at (date_text d)) (fits (codes "YYYY-MM-DD") (date_text d)) (is_calendar_date (date_at (date_text d))) (is_in_profile (date_at (date_text d)))
    (fits-date_text d) (ap is_day same ∙ day)
    ∙ ap (λ date. Ok date) same

-- ten bytes of the form are the text of the date that they write
date_text-date_at : (a b c d m n e f : ℕ) (dash hyphen : ℕ) → fits (codes "YYYY-MM-DD") (a ∷ b ∷ c ∷ d ∷ dash ∷ m ∷ n ∷ hyphen ∷ e ∷ f ∷ []) ≡ true → date_text (date_at (a ∷ b ∷ c ∷ d ∷ dash ∷ m ∷ n ∷ hyphen ∷ e ∷ f ∷ [])) ≡ a ∷ b ∷ c ∷ d ∷ dash ∷ m ∷ n ∷ hyphen ∷ e ∷ f ∷ []
unfolding date_text
date_text-date_at a b c d m n e f dash hyphen fit =
    let text : List ℕ = a ∷ b ∷ c ∷ d ∷ dash ∷ m ∷ n ∷ hyphen ∷ e ∷ f ∷ [] in
    let year : zero_padded 4 (digits_value 10 (a ∷ b ∷ c ∷ d ∷ [])) ≡ a ∷ b ∷ c ∷ d ∷ [] =
    zero_padded-digits_value (a ∷ b ∷ c ∷ d ∷ []) (digits-fits (codes "YYYY") (a ∷ b ∷ c ∷ d ∷ []) refl (fits-take 4 (codes "YYYY-MM-DD") text fit)) in
    let month : zero_padded 2 (digits_value 10 (m ∷ n ∷ [])) ≡ m ∷ n ∷ [] =
    zero_padded-digits_value (m ∷ n ∷ []) (digits-fits (codes "MM") (m ∷ n ∷ []) refl (fits-take 2 (codes "MM-DD") (m ∷ n ∷ hyphen ∷ e ∷ f ∷ []) (fits-drop 5 (codes "YYYY-MM-DD") text fit))) in
    let day : zero_padded 2 (digits_value 10 (e ∷ f ∷ [])) ≡ e ∷ f ∷ [] =
    zero_padded-digits_value (e ∷ f ∷ []) (digits-fits (codes "DD") (e ∷ f ∷ []) refl (fits-drop 8 (codes "YYYY-MM-DD") text fit)) in
    let first : 45 ≡ dash = grind (arith, nat_tests, fits-at (codes "YYYY-MM-DD") text 4 (omega arith) fit) in
    let second : 45 ≡ hyphen = grind (arith, nat_tests, fits-at (codes "YYYY-MM-DD") text 7 (omega arith) fit) in
    λ i. year i ++ first i ∷ [] ++ month i ++ second i ∷ [] ++ day i

-- a text that reads as a day is that day's
pub date_text-day_of : (bytes : List ℕ) (d : Date) → day_of bytes ≡ Ok d → date_text d ≡ bytes
date_text-day_of bytes d read =
    let facts = day_of-Ok bytes d read in
    ap date_text facts.2 ∙ ten bytes facts.0
  where
    ten : (text : List ℕ) → fits (codes "YYYY-MM-DD") text ≡ true → date_text (date_at text) ≡ text
    ten [] fit = absurd (omega (arith, length-fits (codes "YYYY-MM-DD") [] fit))
    ten (a ∷ []) fit = absurd (omega (arith, length-fits (codes "YYYY-MM-DD") (a ∷ []) fit))
    ten (a ∷ b ∷ []) fit = absurd (omega (arith, length-fits (codes "YYYY-MM-DD") (a ∷ b ∷ []) fit))
    ten (a ∷ b ∷ c ∷ []) fit = absurd (omega (arith, length-fits (codes "YYYY-MM-DD") (a ∷ b ∷ c ∷ []) fit))
    ten (a ∷ b ∷ c ∷ d ∷ []) fit = absurd (omega (arith, length-fits (codes "YYYY-MM-DD") (a ∷ b ∷ c ∷ d ∷ []) fit))
    ten (a ∷ b ∷ c ∷ d ∷ dash ∷ []) fit = absurd (omega (arith, length-fits (codes "YYYY-MM-DD") (a ∷ b ∷ c ∷ d ∷ dash ∷ []) fit))
    ten (a ∷ b ∷ c ∷ d ∷ dash ∷ m ∷ []) fit = absurd (omega (arith, length-fits (codes "YYYY-MM-DD") (a ∷ b ∷ c ∷ d ∷ dash ∷ m ∷ []) fit))
    ten (a ∷ b ∷ c ∷ d ∷ dash ∷ m ∷ n ∷ []) fit = absurd (omega (arith, length-fits (codes "YYYY-MM-DD") (a ∷ b ∷ c ∷ d ∷ dash ∷ m ∷ n ∷ []) fit))
    ten (a ∷ b ∷ c ∷ d ∷ dash ∷ m ∷ n ∷ hyphen ∷ []) fit = absurd (omega (arith, length-fits (codes "YYYY-MM-DD") (a ∷ b ∷ c ∷ d ∷ dash ∷ m ∷ n ∷ hyphen ∷ []) fit))
    ten (a ∷ b ∷ c ∷ d ∷ dash ∷ m ∷ n ∷ hyphen ∷ e ∷ []) fit = absurd (omega (arith, length-fits (codes "YYYY-MM-DD") (a ∷ b ∷ c ∷ d ∷ dash ∷ m ∷ n ∷ hyphen ∷ e ∷ []) fit))
    ten (a ∷ b ∷ c ∷ d ∷ dash ∷ m ∷ n ∷ hyphen ∷ e ∷ f ∷ []) fit = date_text-date_at a b c d m n e f dash hyphen fit
    ten (a ∷ b ∷ c ∷ d ∷ dash ∷ m ∷ n ∷ hyphen ∷ e ∷ f ∷ g ∷ rest) fit = absurd (omega (arith, length-fits (codes "YYYY-MM-DD") (a ∷ b ∷ c ∷ d ∷ dash ∷ m ∷ n ∷ hyphen ∷ e ∷ f ∷ g ∷ rest) fit))
