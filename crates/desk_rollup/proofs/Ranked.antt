-- What goes up the lines of a bill, when it goes far enough.
use Rattle.std.proofs.Common.{◌≡◌, ℕ, zero, suc, ◌+◌, ◌*◌, ◌<◌, true, ◌||◌, List, [], ◌++◌, sum_by, refl, sym, ap, ◌∙◌, arith}
use Rattle.std.specs.List.{flat_map, list_any}
use Rattle.std.proofs.lemmas.List.{append-nil}
use Rattle.std.proofs.lemmas.List.Folds.{list_any-append}
use Rattle.desk_graph.specs.declared.line.BillLine.{BillLine}
use Rattle.desk_graph.specs.Graph.{is_line_between, lines_of_node}
use Rattle.desk_graph.specs.Reaches.{Falls, longest_node_chain}
use Rattle.desk_rollup.specs.Numbers.{has, once}
use Rattle.desk_rollup.specs.Rolled.{numbers_below, gathered_within, node_rolled, node_rolled_within}
use Rattle.desk_rollup.proofs.Lists.{each_as, each_line, flat_same, has_flat, has_once, no_lines, sum_same}

module _ (lines : List (List BillLine)) (rank : ℕ → ℕ) (ranked : Falls lines rank) where
  below_rank : (P : ℕ → Type 0) → ((node : ℕ) → ((child : ℕ) → is_line_between lines node child ≡ true → P child) → P node) → (k node : ℕ) → rank node < k → P node
  below_rank P step zero node h = absurd (omega arith)
  below_rank P step (suc k) node h = step node (λ child line. let lower = ranked.falls node child line in below_rank P step k child (omega arith))

  -- what goes up the lines holds everywhere
  pub goes_up : (P : ℕ → Type 0) → ((node : ℕ) → ((child : ℕ) → is_line_between lines node child ≡ true → P child) → P node) → (node : ℕ) → P node
  goes_up P step node = below_rank P step (suc (rank node)) node (omega arith)

  module _ {V : Type 0} (within : ℕ → ℕ → V) (step : ℕ → (ℕ → V) → V) (is_suc : (k node : ℕ) → within (suc k) node ≡ step node (within k))
      (alike : (node : ℕ) (f g : ℕ → V) → ((child : ℕ) → is_line_between lines node child ≡ true → f child ≡ g child) → step node f ≡ step node g)
      (leaf : (node : ℕ) → lines_of_node lines node ≡ [] → within zero node ≡ step node (within zero)) where
    stable : (k node : ℕ) → ((child : ℕ) → is_line_between lines node child ≡ true → rank node < k) → within (suc k) node ≡ within k node
    stable zero node h = is_suc zero node ∙ sym (leaf node (no_lines (lines_of_node lines node) (λ child line. let low = h child line in omega arith)))
    stable (suc k) node h =
        is_suc (suc k) node
        ∙ alike node (within (suc k)) (within k) (λ child line. let low = h child line in let lower = ranked.falls node child line in stable k child (λ deeper _. omega arith))
        ∙ sym (is_suc k node)

    -- far enough, it is right by the children
    pub by_children : (node : ℕ) → within (longest_node_chain lines) node ≡ step node (within (longest_node_chain lines))
    by_children node =
        sym (stable (longest_node_chain lines) node (λ child line. let low = ranked.within node child line in omega arith)) ∙ is_suc (longest_node_chain lines) node

  module _ (own : ℕ → ℕ) where
    rolled-suc : (k node : ℕ) → node_rolled_within lines own (suc k) node ≡ own node + sum_by (λ line. line.count * node_rolled_within lines own k line.node) (lines_of_node lines node)
    unfolding node_rolled_within
    rolled-suc k node = refl

    rolled-zero : (node : ℕ) → lines_of_node lines node ≡ [] → node_rolled_within lines own zero node ≡ own node + sum_by (λ line. line.count * node_rolled_within lines own zero line.node) (lines_of_node lines node)
    unfolding node_rolled_within
    rolled-zero node none = rw none (omega arith)

    -- what rolls up to a node, by its lines
    pub rolled-step : (node : ℕ) → node_rolled lines own node ≡ own node + sum_by (λ line. line.count * node_rolled lines own line.node) (lines_of_node lines node)
    rolled-step node =
        by_children (node_rolled_within lines own) (λ n f. own n + sum_by (λ line. line.count * f line.node) (lines_of_node lines n)) rolled-suc
        (λ n f g same. ap (λ s. own n + s)
        (sum_same (λ line. line.count * f line.node) (λ line. line.count * g line.node) (lines_of_node lines n)
        (each_as (λ line. f line.node ≡ g line.node) (λ line. line.count * f line.node ≡ line.count * g line.node) (λ line e. ap (λ v. line.count * v) e) (lines_of_node lines n)
        (each_line (λ child. f child ≡ g child) (lines_of_node lines n) same))))
        rolled-zero node

  module _ (own : ℕ → List ℕ) where
    gathered-suc : (k node : ℕ) → gathered_within lines own (suc k) node ≡ once (own node ++ flat_map (λ line. gathered_within lines own k line.node) (lines_of_node lines node))
    unfolding gathered_within
    gathered-suc k node = refl

    gathered-zero : (node : ℕ) → lines_of_node lines node ≡ [] → gathered_within lines own zero node ≡ once (own node ++ flat_map (λ line. gathered_within lines own zero line.node) (lines_of_node lines node))
    unfolding gathered_within
    gathered-zero node none = rw (none, append-nil (own node)) refl

    pub gathered-step : (node : ℕ) → numbers_below lines own node ≡ once (own node ++ flat_map (λ line. numbers_below lines own line.node) (lines_of_node lines node))
    gathered-step node =
        by_children (gathered_within lines own) (λ n f. once (own n ++ flat_map (λ line. f line.node) (lines_of_node lines n))) gathered-suc
        (λ n f g same. ap (λ s. once (own n ++ s))
        (flat_same (λ line. f line.node) (λ line. g line.node) (lines_of_node lines n) (each_line (λ child. f child ≡ g child) (lines_of_node lines n) same)))
        gathered-zero node

    -- a node has a number of its own, or by a child
    pub gathered_has : (node n : ℕ) → has (numbers_below lines own node) n ≡ (has (own node) n || list_any (λ line. has (numbers_below lines own line.node) n) (lines_of_node lines node))
    gathered_has node n =
        ap (λ ns. has ns n) (gathered-step node)
        ∙ has_once (own node ++ flat_map (λ line. numbers_below lines own line.node) (lines_of_node lines node)) n
        ∙ list_any-append (λ other. Rattle.std.specs.Prelude.nat_eq other n) (own node) (flat_map (λ line. numbers_below lines own line.node) (lines_of_node lines node))
        ∙ ap (λ b. has (own node) n || b) (has_flat (λ line. numbers_below lines own line.node) (lines_of_node lines node) n)
