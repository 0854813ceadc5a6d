-- Marks and substances by number.
use Rattle.std.specs.Prelude.{◌≡◌, ℕ, ◌+◌, ◌*◌, ◌≤◌, Bool, List, [], ◌∷◌, map, nat_lt, true, false, if◌then◌else◌}
use Rattle.std.specs.List.Sorted.{IsPartitionPoint}
use Rattle.desk_graph.specs.Reaches.{has_node}
use Rattle.desk_rollup.specs.declared.mark.Mark.{Mark}
use Rattle.desk_rollup.specs.declared.hop.Hop.{Hop}
use Rattle.desk_rollup.specs.declared.load.Load.{Load}

-- the number of a mark: marks are ordered by their nodes, and those of one node by `what`
abbrev pub mark_number : Mark → ℕ
mark_number mark = mark.node * 4294967296 + mark.what

-- the numbers of the marks
abbrev pub mark_numbers : List Mark → List ℕ
mark_numbers marks = map mark_number marks

-- the numbers of the marks of hops
abbrev pub hop_numbers : List Hop → List ℕ
hop_numbers hops = map (λ hop. mark_number hop.mark) hops

-- the substances of loads
abbrev pub load_numbers : List Load → List ℕ
load_numbers loads = map (λ load. load.what) loads

-- one of the numbers is this one
abbrev pub has : List ℕ → ℕ → Bool
has numbers number = has_node numbers number

-- the numbers rise, and none is below `low`
abbrev pub RisesFrom : ℕ → List ℕ → Type 0
RisesFrom low [] = Unit {0}
RisesFrom low (number ∷ numbers) = (low ≤ number) × RisesFrom (number + 1) numbers

-- the numbers rise
abbrev pub Rises : List ℕ → Type 0
Rises numbers = RisesFrom 0 numbers

-- the numbers, each once
abbrev pub once : List ℕ → List ℕ
once [] = []
once (number ∷ numbers) = if has numbers number then once numbers else number ∷ once numbers

-- the place behind all hops of lesser numbers
abbrev pub IsPlaceOf : ℕ → List Hop → ℕ → Type 0
IsPlaceOf number hops at = IsPartitionPoint (λ hop. nat_lt (mark_number hop.mark) number ≡ true) (λ hop. nat_lt (mark_number hop.mark) number ≡ false) hops at
