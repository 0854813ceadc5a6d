-- No year before is too heavy.
use Rattle.desk_tables.proofs.HeavyYears.{AreLightBefore}
use Rattle.desk_tables.proofs.table_lists.TableLists.too_heavy_year.Given as goal

abbrev pub invariant-loop-year : goal.invariant-loop-year
invariant-loop-year l = AreLightBefore l.self l.year
