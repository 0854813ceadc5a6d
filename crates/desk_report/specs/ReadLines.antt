-- What was read so far of an export file.
use Rattle.std.specs.Prelude.{ℕ, List}
use Rattle.desk_report.specs.Reading.{HasBadLine, IsReadTo}
use Rattle.desk_report.specs.declared.lines.Lines.{Lines}
use Rattle.desk_report.specs.declared.lines.Lines.TheVariants.{Good, Bad}

-- what is known of the bytes that were read so far
unfoldable pub AreLinesOf : List ℕ → Lines → Type 0
AreLinesOf bytes (Good good) = IsReadTo bytes good
AreLinesOf bytes (Bad line) = HasBadLine bytes line
