-- Where lines stay, values stay right; and an edit that changes one node.
use Rattle.std.proofs.Common.{◌≡◌, ℕ, ◌<◌, ◌≤◌, false, ◌||◌, ◌==◌, List, [], ◌∷◌, length, refl, sym, subst, inl, inr, arith}
use Rattle.std.proofs.lemmas.Bool.{both_ways, cases_Bool, cases_lt, eq-eqb, eqb-true, or_cases, or_left, false≢true}
use Rattle.std.proofs.lemmas.List.{get_or_past}
use Rattle.desk_graph.specs.declared.line.BillLine.{BillLine}
use Rattle.desk_graph.specs.Bill.{IsBillGraph}
use Rattle.desk_graph.specs.Graph.{Graph, lines_of_node}
use Rattle.desk_rollup.specs.Laws.{AreLight, ChangesOne, IsLight}
use Rattle.desk_rollup.specs.Plan.{AreRolledUp, CanPrepare}
use Rattle.desk_rollup.specs.Step.{IsStep, IsStepOver}
use Rattle.desk_rollup.specs.Values.{KeptValues, OwnValues, amount_of, no_own, own_at, own_with, rolled_at}
use Rattle.desk_rollup.proofs.Rolls.{no_heavier, to_step}

-- values that are right for a bill are right by the children at a node whose lines stay as they are
pub step_stays : (g : Graph) → IsBillGraph g → (kept : KeptValues) → AreRolledUp g kept → (lines : List (List BillLine)) → (node : ℕ) → node < length kept.rolled →
    lines_of_node lines node ≡ lines_of_node g.lines node → IsStep lines kept node
step_stays g bill kept up lines node there same =
    subst (λ of_node. IsStepOver (rolled_at kept.rolled) (own_at kept.owns node) of_node (rolled_at kept.rolled node)) (sym same)
    (to_step g.lines bill.ranked.0 bill.ranked.1 (own_at kept.owns) (rolled_at kept.rolled) node (λ child line. up.rolled child (bill.children node child line)) (rolled_at kept.rolled node) (up.rolled node (omega (arith, there, up.rolled_size))))

module _ (own : OwnValues) (kept : List OwnValues) where
  -- with one light node more all are light
  pub light_with : AreLight kept → IsLight own → (node what : ℕ) → amount_of (own_with (own ∷ []) kept node).loads what ≤ (own_with (own ∷ []) kept node).weight
  light_with light new node what =
      elim (cases_Bool (own.node == node)) [
        | inl here ↦ rw here (new what)
        | inr away ↦ rw away (light node what)
      ]

pub may_prepare : (g new : Graph) → IsBillGraph g → IsBillGraph new → (kept : KeptValues) → AreRolledUp g kept → (own : OwnValues) → ChangesOne g new own.node → AreLight kept.owns → IsLight own → CanPrepare new (own ∷ []) kept
may_prepare g new bill new_bill kept up own one light own_light = record {
  distinct = (refl, tt);
  nodes = λ node e.
      elim (or_cases (own.node == node) false e) [
        | inl here ↦ let same = eqb-true own.node node here in omega (arith, same, one.there)
        | inr none ↦ absurd (false≢true none)
      ];
  kept_nodes = omega (arith, up.rolled_size, one.grows);
  new_nodes = λ node past there. or_left (own.node == node) false (eq-eqb own.node node (sym (one.added node (omega (arith, past, up.rolled_size)) there)));
  steps = λ node there none.
      let other : node ≡ own.node → ⊥ = λ same. both_ways (own.node == node || false) none (or_left (own.node == node) false (eq-eqb own.node node (sym same))) in
      step_stays g bill kept up new.lines node there (one.lines node other);
  lighter = λ node what _.
      no_heavier new.lines new_bill.ranked.0 new_bill.ranked.1 (own_with (own ∷ []) kept.owns) what (λ n. light_with own kept.owns light own_light n what) node;
}

-- after it all are light
pub light_after : (g : Graph) (kept new : KeptValues) (own : OwnValues) → AreRolledUp g new → ((node : ℕ) → node < length g.labels → own_at new.owns node ≡ own_with (own ∷ []) kept.owns node) → AreLight kept.owns → IsLight own → AreLight new.owns
light_after g kept new own up is light own_light node what =
    let P : OwnValues → Type 0 = λ o. amount_of o.loads what ≤ o.weight in
    elim (cases_lt node (length g.labels)) [
      | inl there ↦ subst P (sym (is node there)) (light_with own kept.owns light own_light node what)
      | inr past ↦ subst P (sym (get_or_past new.owns node no_own (omega (arith, past, up.owns_size)))) (omega arith)
    ]
