-- What a plan of new own values is made of.
use Rattle.std.proofs.Common.{◌≡◌, ℕ, ◌^◌, ◌<◌, ◌≤◌, Bool, true, false, cond, List, length, map, slice_index, refl, sym, ap, ◌∙◌, subst, inl, inr, arith}
use Rattle.std.proofs.lemmas.Bool.{cases_lt}
use Rattle.std.proofs.lemmas.List.{get_or_past}
use Rattle.desk_graph.specs.declared.line.BillLine.{BillLine}
use Rattle.desk_graph.specs.Bill.{IsBillGraph}
use Rattle.desk_graph.specs.Graph.{Graph, lines_of_node}
use Rattle.desk_graph.specs.Reaches.{AreAffected, AreChildrenFirst, is_node_affected}
use Rattle.desk_rollup.specs.Places.{ArePlaced, Placed}
use Rattle.desk_rollup.specs.Plan.{AllFit, CanPrepare, IsRollPlan, nodes_of_owns}
use Rattle.desk_rollup.specs.Sweep.{AreRolledOf, IsSweep}
use Rattle.desk_rollup.specs.Values.{DoFit, KeptValues, OwnValues, RolledValues, no_values, own_with}
use Rattle.desk_rollup.proofs.Counts.{distinct_once, few, has_at, same_length, times}
use Rattle.desk_rollup.proofs.Frame.{affected_inside, inside, stays}

at_most : (b : Bool) → cond b 1 0 ≤ 1
at_most true = omega arith
at_most false = omega arith

-- affected nodes stand there once
pub affected_once : (lines : List (List BillLine)) (seeds nodes : List ℕ) → AreAffected lines seeds nodes → (n : ℕ) → times n nodes ≤ 1
affected_once lines seeds nodes affected n = omega (arith, affected n, at_most (is_node_affected lines seeds n))

-- all lists of what is affected are equally long
pub affected_count : (lines : List (List BillLine)) (seeds a b : List ℕ) → AreAffected lines seeds a → AreAffected lines seeds b → length a ≡ length b
affected_count lines seeds a b of_a of_b = same_length a b (λ n. of_a n ∙ sym (of_b n))

module _ (g : Graph) (bill : IsBillGraph g) (owns : List OwnValues) (kept : KeptValues) (can : CanPrepare g owns kept) where
  pub few_owns : length (nodes_of_owns owns) ≤ 24576
  few_owns = omega (arith, few (length g.labels) (nodes_of_owns owns) (distinct_once (nodes_of_owns owns) can.distinct) can.nodes, bill.nodes)

  pub few_nodes : (nodes : List ℕ) → AreAffected g.lines (nodes_of_owns owns) nodes → length nodes ≤ 24576
  few_nodes nodes affected =
      omega (arith, few (length g.labels) nodes (affected_once g.lines (nodes_of_owns owns) nodes affected) (affected_inside g bill (nodes_of_owns owns) nodes can.nodes affected), bill.nodes)

-- what a sweep goes by
pub sweep_is : (g : Graph) (owns : List OwnValues) (kept : KeptValues) (of_owns placed : Placed) (lists : List (List BillLine)) → IsBillGraph g → CanPrepare g owns kept → length kept.owns ≡ length kept.rolled → DoFit kept.rolled →
    of_owns.nodes ≡ nodes_of_owns owns → ArePlaced of_owns → ArePlaced placed → (nodes : List ℕ) → placed.nodes ≡ nodes → AreAffected g.lines (nodes_of_owns owns) nodes → AreChildrenFirst g.lines nodes → lists ≡ map (lines_of_node g.lines) nodes →
    IsSweep g owns kept of_owns placed lists
sweep_is g owns kept of_owns placed lists bill can size fit own_nodes own_places places nodes is affected first lines = record {
  bill = bill;
  can = can;
  owns_size = size;
  fit = fit;
  own_nodes = own_nodes;
  own_places = own_places;
  places = places;
  affected = subst (AreAffected g.lines (nodes_of_owns owns)) (sym is) affected;
  children_first = subst (AreChildrenFirst g.lines) (sym is) first;
  lines_are = lines ∙ ap (map (lines_of_node g.lines)) (sym is);
}

module _ (g : Graph) (owns : List OwnValues) (kept : KeptValues) (of_owns placed : Placed) (lists : List (List BillLine)) (sweep : IsSweep g owns kept of_owns placed lists)
    (new : List RolledValues) (size : length new ≡ length placed.nodes) (right : AreRolledOf g owns kept placed.nodes new) where
  -- no new weight is too large
  pub new_fit : AllFit g (own_with owns kept.owns) → DoFit new
  new_fit fit place =
      let P : ℕ → Type 0 = λ w. w < 2 ^ 128 in
      elim (cases_lt place (length new)) [
        | inl below ↦
            let low : place < length placed.nodes = omega (arith, below, size) in
            subst P (sym (right place low).weight) (fit (slice_index placed.nodes place) (inside g owns kept of_owns placed lists sweep (slice_index placed.nodes place) (has_at placed.nodes place low)))
        | inr past ↦ subst P (sym (ap (λ v. v.weight) (get_or_past new place no_values past))) (omega arith)
      ]

  -- the plan is one of this bill
  pub is_plan : IsRollPlan g owns kept (record { count = length g.labels; owns = owns; nodes = placed.nodes; rolled = new })
  is_plan = record {
    count = refl;
    given = refl;
    affected = sweep.affected;
    inside = inside g owns kept of_owns placed lists sweep;
    distinct = sweep.can.distinct;
    own_nodes = sweep.can.nodes;
    kept_nodes = sweep.can.kept_nodes;
    sizes = size;
    replaced = right;
    stays = λ node there away. stays g owns kept of_owns placed lists sweep node away there;
  }
