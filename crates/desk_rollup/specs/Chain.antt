-- The way from a node to a mark.
use Rattle.std.specs.Prelude.{ℕ, zero, suc, List, [], ◌∷◌, Option, None, length, unwrap_or}
use Rattle.std.specs.Option.{option_map_or}
use Rattle.desk_rollup.specs.Values.{RolledValues, hop_of, rolled_at}

-- where the way to a mark goes on from a node: nowhere, where the mark is its own or it hasn't got it
abbrev pub next_hop : List RolledValues → ℕ → ℕ → Option ℕ
next_hop rolled mark node = unwrap_or (hop_of (rolled_at rolled node).hops mark) None

-- the nodes that come behind a node on the way to a mark, and no more than so many
unfoldable pub way : List RolledValues → ℕ → ℕ → ℕ → List ℕ
way rolled mark zero node = []
way rolled mark (suc k) node = option_map_or (λ next. next ∷ way rolled mark k next) (next_hop rolled mark node) []

-- the chain from a node to a mark: the node, and where the hops lead; no chain has more lines than there are nodes
abbrev pub hop_chain : List RolledValues → ℕ → ℕ → List ℕ
hop_chain rolled mark from = from ∷ way rolled mark (length rolled) from
