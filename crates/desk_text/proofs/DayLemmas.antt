-- Days and their texts.
use Rattle.std.proofs.Common.{◌≡◌, ℕ, zero, suc, ◌+◌, ◌/◌, ◌%◌, true, List, [], ◌++◌, length, take, drop, arith, refl, sym}
use Rattle.std.specs.Prelude.{codes, IsUtf8}
use Rattle.std.specs.Str.{IsAscii, all_ascii_digits}
use Rattle.std.proofs.lemmas.Str.{IsAscii-append, IsUtf8-from_ascii}
use Rattle.std.proofs.lemmas.Str.Ascii.{IsAscii-nil, IsAscii-cons, IsAscii-push}
use Rattle.desk_text.specs.Day.{Date, zero_padded, date_text}
use Rattle.desk_text.specs.Picture.{fits}
use Rattle.desk_text.proofs.PictureLemmas.{length-fits, fits-drop, fits-take, digits-fits}

-- a text of the form YYYY-MM-DD has ten bytes, and digits at the day's two places
pub day_places : (bytes : List ℕ) → fits (codes "YYYY-MM-DD") bytes ≡ true → (length bytes ≡ 10) × (all_ascii_digits (take 2 (drop 8 bytes)) ≡ true)
day_places bytes fit = (
  sym (length-fits (codes "YYYY-MM-DD") bytes fit),
  digits-fits (codes "DD") (take 2 (drop 8 bytes)) refl (fits-take 2 (codes "DD") (drop 8 bytes) (fits-drop 8 (codes "YYYY-MM-DD") bytes fit)),
)

-- digits are ASCII
IsAscii-zero_padded : (places n : ℕ) → IsAscii (zero_padded places n)
IsAscii-zero_padded zero n = IsAscii-nil
IsAscii-zero_padded (suc places) n = IsAscii-push (zero_padded places (n / 10)) (48 + n % 10) (IsAscii-zero_padded places (n / 10)) (omega arith)

-- the text of a date is a text
pub IsUtf8-date_text : (d : Date) → IsUtf8 (date_text d)
unfolding date_text
IsUtf8-date_text d =
    let dash : IsAscii (codes "-") = IsAscii-cons 45 [] (omega arith) IsAscii-nil in
    let month : IsAscii (zero_padded 4 d.year ++ codes "-" ++ zero_padded 2 d.month) =
    IsAscii-append (zero_padded 4 d.year ++ codes "-") (zero_padded 2 d.month) (IsAscii-append (zero_padded 4 d.year) (codes "-") (IsAscii-zero_padded 4 d.year) dash) (IsAscii-zero_padded 2 d.month) in
    IsUtf8-from_ascii (date_text d)
    (IsAscii-append (zero_padded 4 d.year ++ codes "-" ++ zero_padded 2 d.month ++ codes "-") (zero_padded 2 d.day)
    (IsAscii-append (zero_padded 4 d.year ++ codes "-" ++ zero_padded 2 d.month) (codes "-") month dash)
    (IsAscii-zero_padded 2 d.day))
