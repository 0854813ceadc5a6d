-- What products weigh after an edit.
use Rattle.std.specs.Prelude.{◌≡◌, ℕ, ◌<◌, true, List, Some, is_some, length, slice_index}
use Rattle.desk_text.specs.Code.{code_cmp}
use Rattle.desk_rows.specs.Rows.{row_of}
use Rattle.desk_graph.specs.Graph.{Graph, label_of}
use Rattle.desk_graph.specs.Reaches.{has_node}
use Rattle.desk_rollup.specs.Plan.{PlannedValues}
use Rattle.desk_rollup.specs.Values.{KeptValues, rolled_at}
use Rattle.desk_model.specs.Lists.{Lists, is_product}
use Rattle.desk_findings.specs.Mass.{mass}
use Rattle.desk_tonnage.specs.declared.product_mass.ProductMass.{ProductMass}

-- each mass is the new weight of a node with that code
abbrev pub AreWeights : List (List ℕ) → PlannedValues → List ProductMass → Type 0
AreWeights labels plan masses = (product : List ℕ) (weighed : ProductMass) → row_of (λ weighed. weighed.product) code_cmp product masses ≡ Some weighed →
    (place : ℕ) × (place < length plan.nodes) × (label_of labels (slice_index plan.nodes place) ≡ product) × (weighed.mass ≡ (rolled_at plan.rolled place).weight)

-- the masses have one of this product
abbrev pub IsWeighed : List ProductMass → List ℕ → Type 0
IsWeighed masses product = is_some (row_of (λ weighed. weighed.product) code_cmp product masses) ≡ true

-- and so they have, where one of these nodes has its code
abbrev pub IsWeighedIfPlanned : List (List ℕ) → List ℕ → List ProductMass → List ℕ → Type 0
IsWeighedIfPlanned labels nodes masses product = (node : ℕ) → has_node nodes node ≡ true → label_of labels node ≡ product → IsWeighed masses product

-- each of these nodes that has a product's code has a mass
abbrev pub AreAllWeighed : Lists → List (List ℕ) → List ℕ → List ProductMass → Type 0
AreAllWeighed t labels nodes masses = (node : ℕ) → has_node nodes node ≡ true → is_product t (label_of labels node) ≡ true → IsWeighed masses (label_of labels node)

-- the kept weight of each node of the bill is what its code weighs
pub record AreMasses (t : Lists) (g : Graph) (kept : KeptValues) : Type 0 where
  pub size : length kept.rolled ≡ length g.labels
  pub weights : (node : ℕ) → node < length g.labels → (rolled_at kept.rolled node).weight ≡ mass t (label_of g.labels node)
