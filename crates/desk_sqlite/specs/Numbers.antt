-- When the numbers of rows rise.
use Rattle.std.specs.Prelude.{◌≡◌, ℤ, List, []}
use Rattle.std.specs.Ordering.{int_cmp}
use Rattle.std.specs.declared.cmp.Ordering.TheVariants.{Less}
use Rattle.sqlite_value.specs.declared.value.Value.TheVariants.{Int}
use Rattle.sqlite_value.specs.Order.{Row, column}
use Rattle.sqlite_trees.specs.Tree.{IsAscending}
use Rattle.sqlite_rules.specs.Edit.{id_in}
use Rattle.sqlite_rules.specs.Lists.{Has}
use Rattle.sqlite.specs.State.{State, Begins}
use Rattle.desk_sqlite.specs.Texts.{numbers_text}

-- the number in the first column
abbrev pub row_number : Row → ℤ
row_number row = id_in (column row 0)

-- each row has a number in its first column, which is less than those of the rows after it
pub record AreRising (rows : List Row) : Type 0 where
  pub numbers : (row : Row) → Has rows row → column row 0 ≡ Int (row_number row)
  pub rise : IsAscending (λ a b. int_cmp (row_number a) (row_number b) ≡ Less) rows

-- what the database shows of the numbers of its rows begins with rows that don't rise
abbrev pub ShowsNoRise : State → Type 0
ShowsNoRise s = (rows : List Row) × Begins numbers_text [] s rows × (AreRising rows → ⊥)
