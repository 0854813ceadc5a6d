-- Small bills beside values that were worked out by hand.
use Rattle.std.specs.Prelude.{◌≡◌, ℕ, List, [], ◌∷◌, Some, None}
use Rattle.desk_graph.specs.declared.line.BillLine.{BillLine}
use Rattle.desk_rollup.specs.Rolled.{hop, load, mark_count, mark_numbers_below, weight}
use Rattle.desk_rollup.specs.Values.{OwnValues, no_own, own_at}

-- so many of a node
abbrev pub line_to : ℕ → ℕ → BillLine
line_to node count = record { node = node; count = count }

-- node 0 takes node 1 twice and node 2 three times, these take node 3 once, and that takes node 4 once
abbrev pub diamond : List (List BillLine)
diamond = (line_to 1 2 ∷ line_to 2 3 ∷ []) ∷ (line_to 3 1 ∷ []) ∷ (line_to 3 1 ∷ []) ∷ (line_to 4 1 ∷ []) ∷ [] ∷ []

-- the diamond without the line from node 0 to node 1
abbrev pub cut_diamond : List (List BillLine)
cut_diamond = (line_to 2 3 ∷ []) ∷ (line_to 3 1 ∷ []) ∷ (line_to 3 1 ∷ []) ∷ (line_to 4 1 ∷ []) ∷ [] ∷ []

-- node 4 weighs a million, has one mark, and 400 of substance 7
abbrev pub of_material : ℕ → OwnValues
of_material = own_at
    (no_own ∷ no_own ∷ no_own ∷ no_own
    ∷ record { node = 4; weight = 1000000; marks = record { node = 4; what = 1 } ∷ []; loads = record { what = 7; amount = 400 } ∷ [] } ∷ [])

-- what node 0 has: each way counts for its weight and its load, a mark is there once, and its hop leads to the first child that has it
pub record DiamondExamples : Type 0 where
  pub weighs : weight diamond of_material 0 ≡ 5000000
  pub has_marks : mark_numbers_below diamond of_material 0 ≡ 17179869185 ∷ []
  pub first_hop : hop diamond of_material 0 17179869185 ≡ Some (Some 1)
  pub ends_here : hop diamond of_material 4 17179869185 ≡ Some None
  pub no_hop : hop diamond of_material 0 17179869186 ≡ None
  pub carries : load diamond of_material 0 7 ≡ Some 2000
  pub carries_none : load diamond of_material 0 8 ≡ None
  pub counts : mark_count diamond of_material ≡ 4
  pub weighs_less : weight cut_diamond of_material 0 ≡ 3000000
  pub other_hop : hop cut_diamond of_material 0 17179869185 ≡ Some (Some 2)
