-- The marks that have come or gone at some node so far.
use Rattle.std.specs.Prelude.{◌≡◌, ◌⊎◌, ℕ, Bool, true, false, List, [], ◌∷◌, ◌++◌, Option, ◌==◌, nat_lt, option_to_list, if◌then◌else◌}
use Rattle.desk_graph.specs.declared.line.BillLine.{BillLine}
use Rattle.desk_rollup.specs.declared.hop.Hop.{Hop}
use Rattle.desk_rollup.specs.declared.mark.Mark.{Mark}
use Rattle.desk_rollup.specs.Gathered.{all_hops}
use Rattle.desk_rollup.specs.Numbers.{Rises, has, hop_numbers, mark_number, mark_numbers}
use Rattle.desk_rollup.specs.Step.{step_hop}
use Rattle.desk_rollup.specs.Values.{OwnValues, RolledValues, hop_of}

-- the marks, and whether they are still followed: they aren't once there are too many
pub record ChangedValues : Type 0 where
  pub marks : List Mark
  pub are_followed : Bool

-- the mark is known to have come or gone nowhere
abbrev pub IsSteady : ChangedValues → ℕ → Type 0
IsSteady changed mark = (changed.are_followed ≡ true) × (has (mark_numbers changed.marks) mark ≡ false)

-- of the marks that are steady, the new hops have just those that the kept ones have
abbrev pub DoFollow : ChangedValues → List Hop → List Hop → Type 0
DoFollow changed kept new = (mark : ℕ) → IsSteady changed mark → has (hop_numbers new) mark ≡ has (hop_numbers kept) mark

-- what is steady by the later ones is so by the earlier ones
abbrev pub DoGrow : ChangedValues → ChangedValues → Type 0
DoGrow earlier later = (mark : ℕ) → IsSteady later mark → IsSteady earlier mark

-- the hops with this one in the place of that which has the number, or without any
abbrev pub with_hop : ℕ → Option Hop → List Hop → List Hop
with_hop number hop [] = option_to_list hop
with_hop number hop (held ∷ rest) =
    if nat_lt (mark_number held.mark) number then held ∷ with_hop number hop rest
    else (option_to_list hop ++ (if mark_number held.mark == number then rest else held ∷ rest))

-- the new hops are the kept ones, but for the marks that have changed: theirs are those that the node comes to
pub record IsMended (below : ℕ → RolledValues) (own : OwnValues) (of_node : List BillLine) (changed : List Mark) (kept new : List Hop) : Type 0 where
  pub rises : Rises (hop_numbers new)
  pub others : (mark : ℕ) → has (mark_numbers changed) mark ≡ false → hop_of new mark ≡ hop_of kept mark
  pub changes : (mark : ℕ) → has (mark_numbers changed) mark ≡ true → hop_of new mark ≡ step_hop below own of_node mark

-- with these hops a node has those that it comes to; or it isn't given own values, and the kept ones are mended
abbrev pub AreNewHops : (ℕ → RolledValues) → OwnValues → List BillLine → Bool → ChangedValues → List Hop → List Hop → Type 0
AreNewHops below own of_node is_given changed kept new =
    (new ≡ all_hops below own.marks of_node)
    ⊎ ((is_given ≡ false) × (changed.are_followed ≡ true) × IsMended below own of_node changed.marks kept new)
