-- The way to a mark, node by node.
use Rattle.std.proofs.Common.{◌≡◌, ℕ, zero, suc, ◌++◌, List, [], ◌∷◌, Some, None, refl, sym, ap, ◌∙◌}
use Rattle.std.specs.Option.{option_map_or}
use Rattle.std.proofs.lemmas.List.{append-nil, append_assoc}
use Rattle.desk_rollup.specs.Chain.{next_hop, way}
use Rattle.desk_rollup.specs.Values.{RolledValues}

module _ (rolled : List RolledValues) (mark : ℕ) where
  way-suc : (k node : ℕ) → way rolled mark (suc k) node ≡ option_map_or (λ next. next ∷ way rolled mark k next) (next_hop rolled mark node) []
  unfolding way
  way-suc k node = refl

  way-zero : (node : ℕ) → way rolled mark zero node ≡ []
  unfolding way
  way-zero node = refl

  -- the way that goes on, with one node more written down
  pub way_on : (k node next : ℕ) (nodes : List ℕ) → next_hop rolled mark node ≡ Some next → nodes ++ way rolled mark (suc k) node ≡ (nodes ++ next ∷ []) ++ way rolled mark k next
  way_on k node next nodes e =
      ap (λ w. nodes ++ w) (way-suc k node ∙ ap (λ o. option_map_or (λ n. n ∷ way rolled mark k n) o []) e) ∙ sym (append_assoc nodes (next ∷ []) (way rolled mark k next))

  -- the way that ends
  pub way_ends : (k node : ℕ) (nodes : List ℕ) → next_hop rolled mark node ≡ None → nodes ++ way rolled mark (suc k) node ≡ nodes
  way_ends k node nodes e = ap (λ w. nodes ++ w) (way-suc k node ∙ ap (λ o. option_map_or (λ n. n ∷ way rolled mark k n) o []) e) ∙ append-nil nodes

  pub way_done : (node : ℕ) (nodes : List ℕ) → nodes ++ way rolled mark zero node ≡ nodes
  way_done node nodes = ap (λ w. nodes ++ w) (way-zero node) ∙ append-nil nodes
