-- What is kept of each node, as callers see it.
use Rattle.std.specs.Prelude.{ℕ, ◌<◌, ◌^◌, ◌==◌, List, [], Option, find, length, option_map, slice_index_or, sum_by, unwrap_or, if◌then◌else◌}
use Rattle.desk_rollup.specs.declared.mark.Mark.{Mark}
use Rattle.desk_rollup.specs.declared.hop.Hop.{Hop}
use Rattle.desk_rollup.specs.declared.load.Load.{Load}
use Rattle.desk_rollup.specs.Numbers.{Rises, hop_numbers, mark_number}

-- what a node has of its own
pub record OwnValues : Type 0 where
  pub node : ℕ
  pub weight : ℕ
  pub marks : List Mark
  pub loads : List Load

-- what a node has together with all that it is made of
pub record RolledValues : Type 0 where
  pub weight : ℕ
  pub hops : List Hop
  pub loads : List Load

-- what is kept of the nodes, by number
pub record KeptValues : Type 0 where
  pub owns : List OwnValues
  pub rolled : List RolledValues

-- a node that has nothing of its own
abbrev pub no_own : OwnValues
no_own = record { node = 0; weight = 0; marks = []; loads = [] }

-- a node that has nothing
abbrev pub no_values : RolledValues
no_values = record { weight = 0; hops = []; loads = [] }

-- the own values that are kept of a node
abbrev pub own_at : List OwnValues → ℕ → OwnValues
own_at owns node = slice_index_or owns node no_own

-- the values that are kept of a node
abbrev pub rolled_at : List RolledValues → ℕ → RolledValues
rolled_at rolled node = slice_index_or rolled node no_values

-- the hop of a mark
abbrev pub hop_of : List Hop → ℕ → Option (Option ℕ)
hop_of hops number = option_map (λ hop. hop.next) (find (λ hop. mark_number hop.mark == number) hops)

-- how much there is of a substance
abbrev pub amount_of : List Load → ℕ → ℕ
amount_of loads what = sum_by (λ load. if load.what == what then load.amount else 0) loads

-- the load of a substance
abbrev pub load_in : List Load → ℕ → Option ℕ
load_in loads what = option_map (λ load. load.amount) (find (λ load. load.what == what) loads)

-- the new own values of a node, or those that are kept of it
abbrev pub own_with : List OwnValues → List OwnValues → ℕ → OwnValues
own_with new kept node = unwrap_or (find (λ own. own.node == node) new) (own_at kept node)

-- how much a node with these loads carries of a substance
abbrev pub carried_by_node : List Load → ℕ → ℕ
carried_by_node loads what = unwrap_or (load_in loads what) 0

-- no weight is 2^128 or more
abbrev pub DoFit : List RolledValues → Type 0
DoFit rolled = (node : ℕ) → (rolled_at rolled node).weight < 2 ^ 128

-- the hops of each node stand in the order of their marks, each once
abbrev pub AreHopsInOrder : List RolledValues → Type 0
AreHopsInOrder rolled = (node : ℕ) → Rises (hop_numbers (rolled_at rolled node).hops)

-- how many hops the nodes have together
abbrev pub hop_total : List RolledValues → ℕ
hop_total rolled = sum_by (λ values. length values.hops) rolled
