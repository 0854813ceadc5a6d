-- Rows of one group, such as the lines of one parent, stand together in a list by key.
use Rattle.std.specs.Prelude.{◌≡◌, List, ◌++◌}
use Rattle.std.specs.List.{AllByRecursion}
use Rattle.std.specs.declared.cmp.Ordering.{Ordering}
use Rattle.std.specs.declared.cmp.Ordering.TheVariants.{Less, Equal, Greater}

-- these rows are one run of the list: what stands before them is of lesser groups, they are of the group, and what stands behind is
-- of greater groups
pub record IsOneRun {R G : Type 0} (group : R → G) (cmp : G → G → Ordering) (g : G) (rows run : List R) : Type 0 where
  pub before : List R
  pub behind : List R
  pub parts : rows ≡ before ++ run ++ behind
  pub lesser : AllByRecursion (λ row. cmp (group row) g ≡ Less) before
  pub equal : AllByRecursion (λ row. cmp (group row) g ≡ Equal) run
  pub greater : AllByRecursion (λ row. cmp (group row) g ≡ Greater) behind
