-- What the rows of a store's table keep.
use Rattle.std.specs.Prelude.{◌≡◌, ℕ, ℤ, pos, ◌==◌, ◌&&◌, Bool, false, List, find, Option, option_map}
use Rattle.std.specs.Cmp.Lexicographic.{slice_cmp}
use Rattle.std.specs.Ordering.{nat_cmp, is_eq, ordering_then}
use Rattle.sqlite_value.specs.declared.value.Value.{Value}
use Rattle.sqlite_value.specs.declared.value.Value.TheVariants.{Int, Blob}
use Rattle.sqlite_value.specs.Order.{Row, column, bytes}
use Rattle.sqlite_trees.specs.Tree.{rowid}
use Rattle.sqlite_rules.specs.Lists.{Has}

-- the value is this number
abbrev pub is_number : ℕ → Value → Bool
is_number n (Int (pos m)) = m == n
is_number n _ = false

-- the value is these bytes
abbrev pub is_blob : List ℕ → Value → Bool
is_blob code (Blob b) = is_eq (slice_cmp nat_cmp b code)
is_blob code _ = false

-- the row is that of the kind and the code
abbrev pub is_of : ℕ → List ℕ → Row → Bool
is_of kind code row = is_number kind (column row 1) && is_blob code (column row 2)

-- the body that the rows keep for the kind and the code
abbrev pub body_kept : List Row → ℕ → List ℕ → Option (List ℕ)
body_kept rows kind code = option_map (λ row. bytes (column row 3)) (find (is_of kind code) rows)

-- each row has a number of its own
pub record AreRowsNumbered (rows : List Row) : Type 0 where
  pub number : (row : Row) → Has rows row → (n : ℤ) × (rowid row ≡ Int n)
  pub apart : (a b : Row) → Has rows a → Has rows b → rowid a ≡ rowid b → a ≡ b

-- the two are one kind and one code
abbrev pub same_kind_and_code : ℕ → List ℕ → ℕ → List ℕ → Bool
same_kind_and_code kind code k c = is_eq (ordering_then (nat_cmp kind k) (slice_cmp nat_cmp code c))
