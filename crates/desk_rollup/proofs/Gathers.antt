-- What is gathered from a node and its children is right by the children.
use Rattle.std.proofs.Common.{◌≡◌, ℕ, ◌+◌, ◌-◌, ◌*◌, ◌^◌, ◌<◌, ◌≤◌, Bool, true, false, cond, ◌||◌, ◌==◌, List, [], ◌∷◌, map, find, fold, min, sum_by, Option, Some, None, is_some, option_map, unwrap_or, refl, sym, ap, ◌∙◌, inl, inr, arith}
use Rattle.std.specs.List.{AllByRecursion, list_any}
use Rattle.std.proofs.lemmas.Bool.{cases_Bool}
use Rattle.std.proofs.lemmas.List.Sums.{sum_by-cons}
use Rattle.desk_graph.specs.declared.line.BillLine.{BillLine}
use Rattle.desk_rollup.specs.declared.mark.Mark.{Mark}
use Rattle.desk_rollup.specs.declared.hop.Hop.{Hop}
use Rattle.desk_rollup.specs.declared.load.Load.{Load}
use Rattle.desk_rollup.specs.Gathered.{all_hops, all_loads, joined_loads, lifted_load, own_hop, with_each}
use Rattle.desk_rollup.specs.Numbers.{Rises, has, hop_numbers, mark_numbers, mark_number, load_numbers}
use Rattle.desk_rollup.specs.Step.{IsStepOver, step_load}
use Rattle.desk_rollup.specs.Values.{OwnValues, RolledValues, amount_of, carried_by_node, hop_of, load_in}
use Rattle.desk_rollup.proofs.Lists.{has_found}
use Rattle.desk_rollup.proofs.Merged.{both, look_each, look_lines, up_each, up_lines}

abbrev left : Hop → Hop → Hop
left held more = held

abbrev hop_number : Hop → ℕ
hop_number hop = mark_number hop.mark

abbrev lifted_hop : BillLine → Hop → Hop
lifted_hop line hop = record { mark = hop.mark; next = Some line.node }

abbrev hop_at : List Hop → ℕ → Option Hop
hop_at hops n = find (λ hop. mark_number hop.mark == n) hops

module _ (n : ℕ) where
  left_some : (held : Hop) (more : Option Hop) → both left (Some held) more ≡ Some held
  left_some held None = refl
  left_some held (Some more) = refl

  fold_some : {Y : Type 0} (f : Y → Option Hop) (held : Hop) (ys : List Y) → fold (λ o y. both left o (f y)) (Some held) ys ≡ Some held
  fold_some f held [] = refl
  fold_some f held (y ∷ ys) = ap (λ o. fold (λ p z. both left p (f z)) o ys) (left_some held (f y)) ∙ fold_some f held ys

  own_first : (marks : List Mark) → option_map (λ hop. hop.next) (fold (λ o hop. both left o (hop_at (hop ∷ []) n)) None (map own_hop marks)) ≡ cond (has (mark_numbers marks) n) (Some None) None
  own_first [] = refl
  own_first (mark ∷ marks) =
      elim (mark_number mark == n) as (λ b. option_map (λ hop. hop.next) (fold (λ o hop. both left o (hop_at (hop ∷ []) n)) (cond b (Some (own_hop mark)) None) (map own_hop marks)) ≡ cond (b || has (mark_numbers marks) n) (Some None) None) [
        | true ↦ ap (option_map (λ hop. hop.next)) (fold_some (λ hop. hop_at (hop ∷ []) n) (own_hop mark) (map own_hop marks))
        | false ↦ own_first marks
      ]

  module _ (below : ℕ → RolledValues) where
    abbrev from_child : BillLine → Option Hop
    from_child line = option_map (lifted_hop line) (hop_at (below line.node).hops n)

    lines_first : (of_node : List BillLine) → option_map (λ hop. hop.next) (fold (λ o line. both left o (from_child line)) None of_node) ≡ option_map (λ line. Some line.node) (find (λ line. has (hop_numbers (below line.node).hops) n) of_node)
    lines_first [] = refl
    lines_first (line ∷ of_node) =
        rw (has_found hop_number (below line.node).hops n)
        (elim (hop_at (below line.node).hops n) as (λ o. option_map (λ hop. hop.next) (fold (λ p l. both left p (from_child l)) (option_map (lifted_hop line) o) of_node) ≡ option_map (λ l. Some l.node) (cond (is_some o) (Some line) (find (λ l. has (hop_numbers (below l.node).hops) n) of_node))) [
          | None ↦ lines_first of_node
          | Some hop ↦ ap (option_map (λ h. h.next)) (fold_some from_child (lifted_hop line hop) of_node)
        ])

    own_stays : (o : Option Hop) (of_node : List BillLine) → option_map (λ hop. hop.next) o ≡ Some None → option_map (λ hop. hop.next) (fold (λ p line. both left p (from_child line)) o of_node) ≡ Some None
    own_stays None of_node e = absurd (no_some e)
      where
        no_some : {Y : Type 0} {y : Y} → None ≡ Some y → ⊥
        no_some p = cc
    own_stays (Some hop) of_node e = ap (option_map (λ h. h.next)) (fold_some from_child hop of_node) ∙ e

    is_none : (o : Option Hop) → option_map (λ hop. hop.next) o ≡ None → o ≡ None
    is_none None e = refl
    is_none (Some hop) e = cc

    pub hop_gathered : (marks : List Mark) (of_node : List BillLine) → AllByRecursion (λ line. Rises (hop_numbers (below line.node).hops)) of_node →
        hop_of (all_hops below marks of_node) n ≡ cond (has (mark_numbers marks) n) (Some None) (option_map (λ line. Some line.node) (find (λ line. has (hop_numbers (below line.node).hops) n) of_node))
    hop_gathered marks of_node each =
        let owns = with_each hop_number left (map own_hop marks) [] in
        let up = up_each hop_number left (λ held more. refl) (map own_hop marks) [] tt in
        let own_is = look_each hop_number left (λ held more. refl) n (map own_hop marks) [] tt in
        let first = own_first marks in
        ap (option_map (λ hop. hop.next)) (look_lines hop_number left (λ held more. refl) lifted_hop (λ line hop. refl) (λ values. values.hops) below n of_node owns up each)
        ∙ ap (λ o. option_map (λ hop. hop.next) (fold (λ p line. both left p (from_child line)) o of_node)) own_is
        ∙ elim (cases_Bool (has (mark_numbers marks) n)) [
          | inl own ↦
              rw own
              (own_stays (fold (λ o hop. both left o (hop_at (hop ∷ []) n)) None (map own_hop marks)) of_node (first ∙ ap (λ b. cond b (Some None) None) own))
          | inr other ↦
              rw other
              (ap (λ o. option_map (λ hop. hop.next) (fold (λ p line. both left p (from_child line)) o of_node))
              (is_none (fold (λ o hop. both left o (hop_at (hop ∷ []) n)) None (map own_hop marks)) (first ∙ ap (λ b. cond b (Some None) None) other))
              ∙ lines_first of_node)
        ]

pub hops_rise : (below : ℕ → RolledValues) (marks : List Mark) (of_node : List BillLine) → AllByRecursion (λ line. Rises (hop_numbers (below line.node).hops)) of_node → Rises (hop_numbers (all_hops below marks of_node))
hops_rise below marks of_node each =
    up_lines hop_number left (λ held more. refl) lifted_hop (λ line hop. refl) (λ values. values.hops) below of_node (with_each hop_number left (map own_hop marks) [])
    (up_each hop_number left (λ held more. refl) (map own_hop marks) [] tt) each

-- loads whose sums stay below a bound
abbrev value_of : Option Load → ℕ
value_of o = unwrap_or (option_map (λ load. load.amount) o) 0

abbrev load_at : List Load → ℕ → Option Load
load_at loads n = find (λ load. load.what == n) loads

module _ (cap : ℕ) where
  abbrev add : Load → Load → Load
  add held more = record { what = held.what; amount = min (held.amount + more.amount) cap }

  abbrev times : BillLine → Load → Load
  times line load = record { what = load.what; amount = min (load.amount * line.count) cap }

  both_value : (o p : Option Load) → value_of o + value_of p ≤ cap → value_of (both add o p) ≡ value_of o + value_of p
  both_value None p h = omega arith
  both_value (Some held) None h = omega arith
  both_value (Some held) (Some more) h = omega arith

  both_some : (o p : Option Load) → is_some (both add o p) ≡ (is_some o || is_some p)
  both_some None p = refl
  both_some (Some held) None = refl
  both_some (Some held) (Some more) = refl

  module _ {Y : Type 0} (f : Y → Option Load) where
    fold_value : (ys : List Y) (o : Option Load) → value_of o + sum_by (λ y. value_of (f y)) ys ≤ cap → value_of (fold (λ p y. both add p (f y)) o ys) ≡ value_of o + sum_by (λ y. value_of (f y)) ys
    fold_value [] o h = omega arith
    fold_value (y ∷ ys) o h =
        let cons = sum_by-cons (λ z. value_of (f z)) y ys in
        let one = both_value o (f y) (omega (arith, cons, h)) in
        let rest = fold_value ys (both add o (f y)) (omega (arith, cons, h, one)) in
        omega (arith, cons, one, rest)

    fold_is : (ys : List Y) (o : Option Load) → is_some (fold (λ p y. both add p (f y)) o ys) ≡ (is_some o || list_any (λ y. is_some (f y)) ys)
    fold_is [] o = elim (is_some o) as (λ b. b ≡ (b || false)) [ true ↦ refl | false ↦ refl ]
    fold_is (y ∷ ys) o =
        fold_is ys (both add o (f y)) ∙ ap (λ b. b || list_any (λ z. is_some (f z)) ys) (both_some o (f y))
        ∙ elim (is_some o) as (λ b. ((b || is_some (f y)) || list_any (λ z. is_some (f z)) ys) ≡ (b || (is_some (f y) || list_any (λ z. is_some (f z)) ys))) [ true ↦ refl | false ↦ refl ]

  as_load : (o : Option Load) → option_map (λ load. load.amount) o ≡ cond (is_some o) (Some (value_of o)) None
  as_load None = refl
  as_load (Some load) = refl

  module _ (n : ℕ) where
    one_value : (load : Load) → value_of (load_at (load ∷ []) n) ≡ cond (load.what == n) load.amount 0
    one_value load = elim (load.what == n) as (λ b. value_of (cond b (Some load) None) ≡ cond b load.amount 0) [ true ↦ refl | false ↦ refl ]

    one_is : (load : Load) → is_some (load_at (load ∷ []) n) ≡ (load.what == n)
    one_is load = elim (load.what == n) as (λ b. is_some (cond b (Some load) None) ≡ b) [ true ↦ refl | false ↦ refl ]

    own_value : (loads : List Load) → sum_by (λ load. value_of (load_at (load ∷ []) n)) loads ≡ amount_of loads n
    own_value [] = refl
    own_value (load ∷ loads) =
        omega (arith, sum_by-cons (λ l. value_of (load_at (l ∷ []) n)) load loads, sum_by-cons (λ l. cond (l.what == n) l.amount 0) load loads, one_value load, own_value loads)

    own_is : (loads : List Load) → list_any (λ load. is_some (load_at (load ∷ []) n)) loads ≡ has (load_numbers loads) n
    own_is [] = refl
    own_is (load ∷ loads) = rw (one_is load, own_is loads) refl

    module _ (below : ℕ → RolledValues) where
      abbrev lifted : BillLine → Option Load
      lifted line = option_map (times line) (load_at (below line.node).loads n)

      lifted_is : (line : BillLine) → is_some (lifted line) ≡ has (load_numbers (below line.node).loads) n
      lifted_is line =
          elim (load_at (below line.node).loads n) as (λ o. is_some (option_map (times line) o) ≡ is_some o) [ None ↦ refl | Some load ↦ refl ]
          ∙ sym (has_found (λ load. load.what) (below line.node).loads n)

      times_value : (line : BillLine) (o : Option Load) → line.count * value_of o ≤ cap → value_of (option_map (times line) o) ≡ line.count * value_of o
      times_value line None h = omega arith
      times_value line (Some load) h = let swap = Rattle.std.proofs.Common.mul_comm load.amount line.count in omega (arith, swap)

      lines_value : (of_node : List BillLine) → sum_by (λ line. line.count * carried_by_node (below line.node).loads n) of_node ≤ cap → sum_by (λ line. value_of (lifted line)) of_node ≡ sum_by (λ line. line.count * carried_by_node (below line.node).loads n) of_node
      lines_value [] h = refl
      lines_value (line ∷ of_node) h =
          let of_all = sum_by-cons (λ l. l.count * carried_by_node (below l.node).loads n) line of_node in
          let rest = lines_value of_node (omega (arith, of_all, h)) in
          omega (arith, of_all, sum_by-cons (λ l. value_of (lifted l)) line of_node, rest, times_value line (load_at (below line.node).loads n) (omega (arith, of_all, h)))

      lines_are : (of_node : List BillLine) → list_any (λ line. is_some (lifted line)) of_node ≡ list_any (λ line. has (load_numbers (below line.node).loads) n) of_node
      lines_are [] = refl
      lines_are (line ∷ of_node) = rw (lifted_is line, lines_are of_node) refl

      pub folded : (loads : List Load) (of_node : List BillLine) → amount_of loads n + sum_by (λ line. line.count * carried_by_node (below line.node).loads n) of_node ≤ cap →
          option_map (λ load. load.amount) (fold (λ o line. both add o (lifted line)) (fold (λ o load. both add o (load_at (load ∷ []) n)) None loads) of_node) ≡ step_load below (record { node = 0; weight = 0; marks = []; loads = loads }) of_node n
      folded loads of_node h =
          let owns = fold (λ o load. both add o (load_at (load ∷ []) n)) None loads in
          let of_own = own_value loads in
          let own_sum = fold_value (λ load. load_at (load ∷ []) n) loads None (omega (arith, of_own, h)) in
          let of_lines = lines_value of_node (omega (arith, h)) in
          let all_sum = fold_value lifted of_node owns (omega (arith, own_sum, of_own, of_lines, h)) in
          let some_own : is_some owns ≡ has (load_numbers loads) n = fold_is (λ load. load_at (load ∷ []) n) loads None ∙ own_is loads in
          let some_all : is_some (fold (λ o line. both add o (lifted line)) owns of_node) ≡ (has (load_numbers loads) n || list_any (λ line. has (load_numbers (below line.node).loads) n) of_node) =
          fold_is lifted of_node owns ∙ ap (λ b. b || list_any (λ line. is_some (lifted line)) of_node) some_own ∙ ap (λ b. has (load_numbers loads) n || b) (lines_are of_node) in
          let value : value_of (fold (λ o line. both add o (lifted line)) owns of_node) ≡ amount_of loads n + sum_by (λ line. line.count * carried_by_node (below line.node).loads n) of_node = omega (arith, all_sum, own_sum, of_own, of_lines) in
          as_load (fold (λ o line. both add o (lifted line)) owns of_node)
          ∙ ap (λ b. cond b (Some (value_of (fold (λ o line. both add o (lifted line)) owns of_node))) None) some_all
          ∙ ap (λ v. cond (has (load_numbers loads) n || list_any (λ line. has (load_numbers (below line.node).loads) n) of_node) (Some v) None) value

-- the greatest amount
abbrev most : ℕ
most = 2 ^ 128 - 1

pub load_gathered : (below : ℕ → RolledValues) (loads : List Load) (of_node : List BillLine) → AllByRecursion (λ line. Rises (load_numbers (below line.node).loads)) of_node → (n : ℕ) →
    amount_of loads n + sum_by (λ line. line.count * carried_by_node (below line.node).loads n) of_node ≤ most →
    load_in (all_loads below loads of_node) n ≡ step_load below (record { node = 0; weight = 0; marks = []; loads = loads }) of_node n
load_gathered below loads of_node each n h =
    let owns = with_each (λ (load : Load). load.what) joined_loads loads [] in
    let up = up_each (λ (load : Load). load.what) joined_loads (λ held more. refl) loads [] tt in
    let own_is = look_each (λ (load : Load). load.what) joined_loads (λ held more. refl) n loads [] tt in
    ap (option_map (λ load. load.amount)) (look_lines (λ (load : Load). load.what) joined_loads (λ held more. refl) lifted_load (λ line load. refl) (λ values. values.loads) below n of_node owns up each)
    ∙ ap (λ o. option_map (λ load. load.amount) (fold (λ p line. both joined_loads p (option_map (lifted_load line) (load_at (below line.node).loads n))) o of_node)) own_is
    ∙ folded most n below loads of_node h

pub loads_rise : (below : ℕ → RolledValues) (loads : List Load) (of_node : List BillLine) → AllByRecursion (λ line. Rises (load_numbers (below line.node).loads)) of_node → Rises (load_numbers (all_loads below loads of_node))
loads_rise below loads of_node each =
    up_lines (λ (load : Load). load.what) joined_loads (λ held more. refl) lifted_load (λ line load. refl) (λ values. values.loads) below of_node (with_each (λ (load : Load). load.what) joined_loads loads [])
    (up_each (λ (load : Load). load.what) joined_loads (λ held more. refl) loads [] tt) each

-- what is gathered is right by the children
pub gathered_step : (below : ℕ → RolledValues) (own : OwnValues) (of_node : List BillLine) →
    AllByRecursion (λ line. Rises (hop_numbers (below line.node).hops)) of_node → AllByRecursion (λ line. Rises (load_numbers (below line.node).loads)) of_node →
    ((what : ℕ) → amount_of own.loads what + sum_by (λ line. line.count * carried_by_node (below line.node).loads what) of_node < 2 ^ 128) →
    IsStepOver below own of_node (record { weight = own.weight + sum_by (λ line. line.count * (below line.node).weight) of_node; hops = all_hops below own.marks of_node; loads = all_loads below own.loads of_node })
gathered_step below own of_node each_hops each_loads fits = record {
  weight = refl;
  hops_rise = hops_rise below own.marks of_node each_hops;
  hops = λ mark. hop_gathered mark below own.marks of_node each_hops;
  loads_rise = loads_rise below own.loads of_node each_loads;
  loads = λ what. load_gathered below own.loads of_node each_loads what (omega (arith, fits what));
}
