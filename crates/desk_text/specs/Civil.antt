-- The dates of `jiff` as those of Day.
use Rattle.std.specs.Prelude.{unsigned_abs}
use Rattle.jiff_core.specs.declared.civil.date.Date.{Date as CivilDate}
use Rattle.desk_text.specs.Day.{Date}

-- the date that a date of `jiff` is, where its year is not before 0
abbrev pub date_from_civil : CivilDate → Date
date_from_civil d = record { year = unsigned_abs d.year; month = d.month; day = d.day }
