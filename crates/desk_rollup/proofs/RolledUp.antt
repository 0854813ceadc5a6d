-- What is kept once a plan is put in.
use Rattle.std.proofs.Common.{◌≡◌, ℕ, zero, suc, ◌<◌, true, false, ◌==◌, List, [], ◌∷◌, length, slice_index, sym, ap, ◌∙◌, subst, inl, inr, arith}
use Rattle.std.proofs.lemmas.Bool.{cases_Bool, cases_lt, eqb-true, false≢true, or_cases}
use Rattle.std.proofs.lemmas.List.{get_or_past}
use Rattle.desk_graph.specs.Graph.{Graph}
use Rattle.desk_graph.specs.Reaches.{has_node}
use Rattle.desk_rollup.specs.Numbers.{Rises, hop_numbers}
use Rattle.desk_rollup.specs.Plan.{AreDistinct, AreRolledUp, IsRollPlan, PlannedValues}
use Rattle.desk_rollup.specs.Rolled.{IsRolled}
use Rattle.desk_rollup.specs.Values.{AreHopsInOrder, KeptValues, OwnValues, no_values, own_at, own_with, rolled_at}
use Rattle.desk_rollup.proofs.Counts.{once_distinct}
use Rattle.desk_rollup.proofs.Prepared.{affected_once}

-- a node of a list stands at a place of it
place_of_node : (nodes : List ℕ) (node : ℕ) → has_node nodes node ≡ true → (place : ℕ) × (place < length nodes) × (slice_index nodes place ≡ node)
place_of_node [] node e = absurd (false≢true e)
place_of_node (first ∷ nodes) node e =
    elim (or_cases (first == node) (has_node nodes node) e) [
      | inl here ↦ (zero, omega arith, eqb-true first node here)
      | inr there ↦ let found = place_of_node nodes node there in (suc found.0, omega (arith, found.1), found.2)
    ]

module _ (g : Graph) (owns : List OwnValues) (kept : KeptValues) (plan : PlannedValues) (is : IsRollPlan g owns kept plan) where
  -- the nodes that are replaced differ
  pub nodes_distinct : AreDistinct plan.nodes
  nodes_distinct = once_distinct plan.nodes (affected_once g.lines (Rattle.desk_rollup.specs.Plan.nodes_of_owns owns) plan.nodes is.affected)

  -- the hops of new values stand in order
  pub new_order : AreHopsInOrder plan.rolled
  new_order node =
      elim (cases_lt node (length plan.rolled)) [
        | inl there ↦ (is.replaced node (omega (arith, there, is.sizes))).hops_rise
        | inr past ↦ subst (λ values. Rises (hop_numbers values.hops)) (sym (get_or_past plan.rolled node no_values past)) tt
      ]

  pub rolled_up : (new : KeptValues) → length new.owns ≡ plan.count → length new.rolled ≡ plan.count → ((node : ℕ) → own_at new.owns node ≡ own_with plan.owns kept.owns node) →
      ((node : ℕ) → has_node plan.nodes node ≡ false → rolled_at new.rolled node ≡ rolled_at kept.rolled node) →
      ((place : ℕ) → place < length plan.nodes → rolled_at new.rolled (slice_index plan.nodes place) ≡ rolled_at plan.rolled place) → AreRolledUp g new
  rolled_up new owns_size rolled_size own stays put =
      let same : own_at new.owns ≡ own_with owns kept.owns = λ i. λ node. (own node ∙ ap (λ o. own_with o kept.owns node) is.given) i in record {
        owns_size = owns_size ∙ is.count;
        rolled_size = rolled_size ∙ is.count;
        rolled = λ node there.
            subst (λ own. IsRolled g.lines own node (rolled_at new.rolled node)) (sym same)
            (elim (cases_Bool (has_node plan.nodes node)) [
              | inl replaced ↦
                  let place = place_of_node plan.nodes node replaced in
                  subst (λ n. IsRolled g.lines (own_with owns kept.owns) n (rolled_at new.rolled n)) place.2
                  (subst (IsRolled g.lines (own_with owns kept.owns) (slice_index plan.nodes place.0)) (sym (put place.0 place.1)) (is.replaced place.0 place.1))
              | inr other ↦ subst (IsRolled g.lines (own_with owns kept.owns) node) (sym (stays node other)) (is.stays node there other)
            ]);
      }
