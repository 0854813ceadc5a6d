-- Values that are right by those of the children are those of the node.
use Rattle.std.proofs.Common.{◌≡◌, ℕ, ◌+◌, ◌*◌, ◌≤◌, Bool, true, false, cond, ◌||◌, ◌==◌, List, [], ◌∷◌, find, sum_by, Option, Some, None, is_some, option_map, unwrap_or, refl, sym, ap, ◌∙◌, inl, inr, arith}
use Rattle.std.specs.List.{AllByRecursion, list_any}
use Rattle.std.proofs.Math.Nat.{mul-le-mul_left}
use Rattle.std.proofs.lemmas.Bool.{cases_Bool, or_parts}
use Rattle.std.proofs.lemmas.List.Sums.{sum_by-cons}
use Rattle.desk_graph.specs.declared.line.BillLine.{BillLine}
use Rattle.desk_graph.specs.Graph.{is_line_between, lines_of_node}
use Rattle.desk_graph.specs.Reaches.{Falls}
use Rattle.desk_rollup.specs.Numbers.{has, hop_numbers, mark_numbers, mark_number, load_numbers}
use Rattle.desk_rollup.specs.Rolled.{IsRolled, amount, numbers_below, hop, load, mark_numbers_below, weight}
use Rattle.desk_rollup.specs.Step.{IsStepOver, step_hop, step_load}
use Rattle.desk_rollup.specs.Values.{OwnValues, RolledValues, amount_of, carried_by_node}
use Rattle.desk_rollup.proofs.Lists.{amount_none, any_same, each_as, each_line, find_same, has_found, is_found, none_any, some_map, sum_none, sum_same}
use Rattle.desk_rollup.proofs.Ranked.{gathered_has, goes_up, rolled-step}

-- the hop of a mark goes by the own values and by which children have the mark
pub same_hop : (a b : ℕ → RolledValues) (own : OwnValues) (of_node : List BillLine) (mark : ℕ) →
    AllByRecursion (λ line. has (hop_numbers (a line.node).hops) mark ≡ has (hop_numbers (b line.node).hops) mark) of_node → step_hop a own of_node mark ≡ step_hop b own of_node mark
same_hop a b own of_node mark each =
    ap (λ o. cond (has (mark_numbers own.marks) mark) (Some None) (option_map (λ line. Some line.node) o))
    (find_same (λ line. has (hop_numbers (a line.node).hops) mark) (λ line. has (hop_numbers (b line.node).hops) mark) of_node each)

module _ (lines : List (List BillLine)) (rank : ℕ → ℕ) (ranked : Falls lines rank) (own : ℕ → OwnValues) where
  abbrev own_marks : ℕ → List ℕ
  own_marks node = mark_numbers (own node).marks

  abbrev own_substances : ℕ → List ℕ
  own_substances node = load_numbers (own node).loads

  either_some : {X Y : Type 0} (b : Bool) (x : Y) (f : X → Y) (o : Option X) → is_some (cond b (Some x) (option_map f o)) ≡ (b || is_some o)
  either_some true x f o = refl
  either_some false x f o = some_map f o

  -- a node has a hop of just its marks
  pub hop_there : (node mark : ℕ) → is_some (hop lines own node mark) ≡ has (mark_numbers_below lines own node) mark
  hop_there node mark =
      either_some (has (own_marks node) mark) None (λ line. Some line.node) (find (λ line. has (mark_numbers_below lines own line.node) mark) (lines_of_node lines node))
      ∙ ap (λ b. has (own_marks node) mark || b) (is_found (λ line. has (mark_numbers_below lines own line.node) mark) (lines_of_node lines node))
      ∙ sym (gathered_has lines rank ranked own_marks node mark)

  -- what isn't there weighs nothing
  pub none_carried : (what node : ℕ) → has (numbers_below lines own_substances node) what ≡ false → amount lines own node what ≡ 0
  none_carried what =
      goes_up lines rank ranked (λ node. has (numbers_below lines own_substances node) what ≡ false → amount lines own node what ≡ 0)
      (λ node below none.
      let parts = or_parts (has (own_substances node) what) (list_any (λ line. has (numbers_below lines own_substances line.node) what) (lines_of_node lines node)) (sym (gathered_has lines rank ranked own_substances node what) ∙ none) in
      let of_own = amount_none (own node).loads what parts.0 in
      let of_lines = sum_none (λ line. line.count * amount lines own line.node what) (lines_of_node lines node)
      (each_two (λ line. has (numbers_below lines own_substances line.node) what ≡ false → amount lines own line.node what ≡ 0) (λ line. has (numbers_below lines own_substances line.node) what ≡ false) (λ line. line.count * amount lines own line.node what ≡ 0)
      (λ line f e. ap (λ v. line.count * v) (f e) ∙ omega arith) (lines_of_node lines node)
      (each_line (λ child. has (numbers_below lines own_substances child) what ≡ false → amount lines own child what ≡ 0) (lines_of_node lines node) below)
      (none_any (λ line. has (numbers_below lines own_substances line.node) what) (lines_of_node lines node) parts.1)) in
      omega (arith, rolled-step lines rank ranked (λ n. amount_of (own n).loads what) node, of_own, of_lines))
    where
      each_two : (P Q R : BillLine → Type 0) → ((line : BillLine) → P line → Q line → R line) → (of_node : List BillLine) → AllByRecursion P of_node → AllByRecursion Q of_node → AllByRecursion R of_node
      each_two P Q R f [] p q = tt
      each_two P Q R f (line ∷ of_node) p q = (f line p.0 q.0, each_two P Q R f of_node p.1 q.1)

  -- what the values of a node tell
  module _ (node : ℕ) (values : RolledValues) (right : IsRolled lines own node values) where
    pub has_marks : (mark : ℕ) → has (hop_numbers values.hops) mark ≡ has (mark_numbers_below lines own node) mark
    has_marks mark =
        has_found (λ h. mark_number h.mark) values.hops mark ∙ sym (some_map (λ h. h.next) (find (λ h. mark_number h.mark == mark) values.hops))
        ∙ ap (λ o. is_some o) (right.hops mark) ∙ hop_there node mark

    is_load : (b : Bool) (n : ℕ) → is_some (cond b (Some n) None) ≡ b
    is_load true n = refl
    is_load false n = refl

    pub has_substances : (what : ℕ) → has (load_numbers values.loads) what ≡ has (numbers_below lines own_substances node) what
    has_substances what =
        has_found (λ l. l.what) values.loads what ∙ sym (some_map (λ l. l.amount) (find (λ l. l.what == what) values.loads))
        ∙ ap (λ o. is_some o) (right.loads what) ∙ is_load (has (numbers_below lines own_substances node) what) (amount lines own node what)

    pub carried_is : (what : ℕ) → carried_by_node values.loads what ≡ amount lines own node what
    carried_is what =
        ap (λ o. unwrap_or o 0) (right.loads what)
        ∙ elim (cases_Bool (has (numbers_below lines own_substances node) what)) [
          | inl there ↦ rw there refl
          | inr none ↦ rw none (sym (none_carried what node none))
        ]

  module _ (below : ℕ → RolledValues) (node : ℕ) (right : (child : ℕ) → is_line_between lines node child ≡ true → IsRolled lines own child (below child)) where
    abbrev of_node : List BillLine
    of_node = lines_of_node lines node

    each_right : AllByRecursion (λ line. IsRolled lines own line.node (below line.node)) of_node
    each_right = each_line (λ child. IsRolled lines own child (below child)) of_node right

    weight_by : (own node).weight + sum_by (λ line. line.count * (below line.node).weight) of_node ≡ weight lines own node
    weight_by =
        ap (λ s. (own node).weight + s)
        (sum_same (λ line. line.count * (below line.node).weight) (λ line. line.count * weight lines own line.node) of_node
        (each_as (λ line. IsRolled lines own line.node (below line.node)) (λ line. line.count * (below line.node).weight ≡ line.count * weight lines own line.node)
        (λ line is. ap (λ v. line.count * v) is.weight) of_node each_right))
        ∙ sym (rolled-step lines rank ranked (λ n. (own n).weight) node)

    pub hop_by : (mark : ℕ) → step_hop below (own node) of_node mark ≡ hop lines own node mark
    hop_by mark =
        ap (λ o. cond (has (own_marks node) mark) (Some None) (option_map (λ line. Some line.node) o))
        (find_same (λ line. has (hop_numbers (below line.node).hops) mark) (λ line. has (mark_numbers_below lines own line.node) mark) of_node
        (each_as (λ line. IsRolled lines own line.node (below line.node)) (λ line. has (hop_numbers (below line.node).hops) mark ≡ has (mark_numbers_below lines own line.node) mark)
        (λ line is. has_marks line.node (below line.node) is mark) of_node each_right))

    load_by : (what : ℕ) → step_load below (own node) of_node what ≡ load lines own node what
    load_by what =
        ap (λ b. cond (has (own_substances node) what || b) (Some (amount_of (own node).loads what + sum_by (λ line. line.count * carried_by_node (below line.node).loads what) of_node)) None)
        (any_same (λ line. has (load_numbers (below line.node).loads) what) (λ line. has (numbers_below lines own_substances line.node) what) of_node
        (each_as (λ line. IsRolled lines own line.node (below line.node)) (λ line. has (load_numbers (below line.node).loads) what ≡ has (numbers_below lines own_substances line.node) what)
        (λ line is. has_substances line.node (below line.node) is what) of_node each_right))
        ∙ ap (λ b. cond b (Some (amount_of (own node).loads what + sum_by (λ line. line.count * carried_by_node (below line.node).loads what) of_node)) None) (sym (gathered_has lines rank ranked own_substances node what))
        ∙ ap (λ n. cond (has (numbers_below lines own_substances node) what) (Some n) None)
        (ap (λ s. amount_of (own node).loads what + s)
        (sum_same (λ line. line.count * carried_by_node (below line.node).loads what) (λ line. line.count * amount lines own line.node what) of_node
        (each_as (λ line. IsRolled lines own line.node (below line.node)) (λ line. line.count * carried_by_node (below line.node).loads what ≡ line.count * amount lines own line.node what)
        (λ line is. ap (λ v. line.count * v) (carried_is line.node (below line.node) is what)) of_node each_right))
        ∙ sym (rolled-step lines rank ranked (λ n. amount_of (own n).loads what) node))

    -- right by the children is right
    by_step : (values : RolledValues) → IsStepOver below (own node) of_node values → IsRolled lines own node values
    by_step values step = record {
      weight = step.weight ∙ weight_by;
      hops_rise = step.hops_rise;
      hops = λ mark. step.hops mark ∙ hop_by mark;
      loads_rise = step.loads_rise;
      loads = λ what. step.loads what ∙ load_by what;
    }

    -- what is right is right by the children
    pub to_step : (values : RolledValues) → IsRolled lines own node values → IsStepOver below (own node) of_node values
    to_step values rolled = record {
      weight = rolled.weight ∙ sym weight_by;
      hops_rise = rolled.hops_rise;
      hops = λ mark. rolled.hops mark ∙ sym (hop_by mark);
      loads_rise = rolled.loads_rise;
      loads = λ what. rolled.loads what ∙ sym (load_by what);
    }

  pub step_rolled : (below : ℕ → RolledValues) (node : ℕ) (values : RolledValues) →
      ((child : ℕ) → is_line_between lines node child ≡ true → IsRolled lines own child (below child)) →
      IsStepOver below (own node) (lines_of_node lines node) values → IsRolled lines own node values
  step_rolled below node values right step = by_step below node right values step

  -- where no node has more of a substance of its own than it weighs, none carries more
  pub no_heavier : (what : ℕ) → ((node : ℕ) → amount_of (own node).loads what ≤ (own node).weight) → (node : ℕ) → amount lines own node what ≤ weight lines own node
  no_heavier what own_within =
      goes_up lines rank ranked (λ node. amount lines own node what ≤ weight lines own node)
      (λ node within.
      omega (
        arith,
        rolled-step lines rank ranked (λ n. amount_of (own n).loads what) node,
        rolled-step lines rank ranked (λ n. (own n).weight) node,
        own_within node,
        sum_within (λ line. line.count * amount lines own line.node what) (λ line. line.count * weight lines own line.node) (lines_of_node lines node)
            (each_as (λ line. amount lines own line.node what ≤ weight lines own line.node) (λ line. line.count * amount lines own line.node what ≤ line.count * weight lines own line.node)
            (λ line h. mul-le-mul_left line.count h) (lines_of_node lines node)
            (each_line (λ child. amount lines own child what ≤ weight lines own child) (lines_of_node lines node) within)),
      ))
    where
      sum_within : (f h : BillLine → ℕ) (xs : List BillLine) → AllByRecursion (λ x. f x ≤ h x) xs → sum_by f xs ≤ sum_by h xs
      sum_within f h [] a = omega arith
      sum_within f h (x ∷ xs) a = omega (arith, sum_by-cons f x xs, sum_by-cons h x xs, a.0, sum_within f h xs a.1)
