-- How many marks there are.
use Rattle.std.proofs.Common.{◌≡◌, ℕ, ◌+◌, ◌-◌, ◌<◌, ◌≤◌, Bool, true, false, cond, ◌==◌, List, [], ◌∷◌, ◌++◌, length, slice_index, sum_by, take, refl, sym, ap, ◌∙◌, subst, inl, inr, arith}
use Rattle.std.specs.List.{flat_map, range_with_len}
use Rattle.std.proofs.lemmas.Bool.{cases_Bool, eqb-true, ne_eqb}
use Rattle.std.proofs.lemmas.List.{length-map}
use Rattle.std.proofs.lemmas.List.FromFn.{get_or-range_with_len, length-range_with_len}
use Rattle.std.proofs.lemmas.List.Sums.{sum_by-take-le, sum_by_more}
use Rattle.desk_graph.specs.declared.line.BillLine.{BillLine}
use Rattle.desk_graph.specs.Graph.{Graph, lines_of_node}
use Rattle.desk_graph.specs.Reaches.{Falls, is_node_affected}
use Rattle.desk_rollup.specs.Numbers.{RisesFrom, has, hop_numbers, mark_numbers, mark_number, once}
use Rattle.desk_rollup.specs.Places.{IsKnown, Placed, known, place_at}
use Rattle.desk_rollup.specs.Rolled.{IsRolled, numbers_below, mark_count, mark_numbers_below}
use Rattle.desk_rollup.specs.Plan.{nodes_of_owns}
use Rattle.desk_rollup.specs.Sweep.{AreRolledOf, IsSweep}
use Rattle.desk_rollup.specs.Values.{KeptValues, OwnValues, RolledValues, hop_total, own_with, rolled_at}
use Rattle.desk_rollup.proofs.Counts.{none_times, one_if, same_length, some_times, sum_few, times, times-cons}
use Rattle.desk_rollup.proofs.Frame.{by_place, has_kept, inside, stays}
use Rattle.desk_rollup.proofs.Lists.{has_once}
use Rattle.desk_rollup.proofs.MostHops.{hops_of, kept_sum, put_at, put_sum, put_there, sum_within}
use Rattle.desk_rollup.proofs.Ranked.{gathered-step}
use Rattle.desk_rollup.proofs.Rolls.{has_marks}

none_rising : (low n : ℕ) (ns : List ℕ) → n < low → RisesFrom low ns → times n ns ≡ 0
none_rising low n [] h up = refl
none_rising low n (first ∷ ns) h up =
    let away = ap one_if (ne_eqb first n (λ e. omega (arith, up.0))) in
    omega (arith, times-cons n first ns, away, none_rising (first + 1) n ns (omega (arith, up.0)) up.1)

-- numbers that rise stand there once
rising_once : (low n : ℕ) (ns : List ℕ) → RisesFrom low ns → times n ns ≤ 1
rising_once low n [] up = omega arith
rising_once low n (first ∷ ns) up =
    elim (cases_Bool (first == n)) [
      | inl here ↦
          let same = eqb-true first n here in
          let one = ap one_if here in
          omega (arith, times-cons n first ns, one, none_rising (first + 1) n ns (omega (arith, same)) up.1)
      | inr away ↦ let none = ap one_if away in omega (arith, times-cons n first ns, none, rising_once (first + 1) n ns up.1)
    ]

-- numbers of which each is kept once stand there once
pub once_once : (n : ℕ) (ns : List ℕ) → times n (once ns) ≤ 1
once_once n [] = omega arith
once_once n (first ∷ ns) =
    elim (cases_Bool (has ns first)) [
      | inl again ↦ rw again (once_once n ns)
      | inr new ↦
          rw new
          (elim (cases_Bool (first == n)) [
            | inl here ↦
                let one = ap one_if here in
                let none = none_times n (once ns) (has_once ns n ∙ subst (λ m. has ns m ≡ false) (eqb-true first n here) new) in
                omega (arith, times-cons n first (once ns), one, none)
            | inr away ↦ let none = ap one_if away in omega (arith, times-cons n first (once ns), none, once_once n ns)
          ])
    ]

-- lists without repeats that have the same numbers are equally long
equally_long : (xs ys : List ℕ) → ((n : ℕ) → times n xs ≤ 1) → ((n : ℕ) → times n ys ≤ 1) → ((n : ℕ) → has xs n ≡ has ys n) → length xs ≡ length ys
equally_long xs ys x_once y_once same =
    same_length xs ys (λ n.
    elim (cases_Bool (has xs n)) [
      | inl there ↦ let x = some_times n xs there in let y = some_times n ys (sym (same n) ∙ there) in omega (arith, x, y, x_once n, y_once n)
      | inr away ↦ none_times n xs away ∙ sym (none_times n ys (sym (same n) ∙ away))
    ])

module _ (lines : List (List BillLine)) (rank : ℕ → ℕ) (ranked : Falls lines rank) (own : ℕ → OwnValues) where
  -- a node has as many hops as marks
  pub hop_count : (node : ℕ) (values : RolledValues) → IsRolled lines own node values → length values.hops ≡ length (mark_numbers_below lines own node)
  hop_count node values right =
      let all = mark_numbers (own node).marks in
      sym (length-map values.hops (λ hop. mark_number hop.mark))
      ∙ equally_long (hop_numbers values.hops) (mark_numbers_below lines own node) (λ n. rising_once 0 n (hop_numbers values.hops) right.hops_rise)
      (λ n. subst (λ ns. times n ns ≤ 1) (sym (gathered-step lines rank ranked (λ m. mark_numbers (own m).marks) node)) (once_once n (all ++ flat_map (λ line. numbers_below lines (λ m. mark_numbers (own m).marks) line.node) (lines_of_node lines node))))
      (has_marks lines rank ranked own node values right)

-- the marks of a node that has lines
abbrev pub marks_at : List (List BillLine) → (ℕ → OwnValues) → ℕ → ℕ
marks_at lines own node = cond (length (lines_of_node lines node) == 0) 0 (length (mark_numbers_below lines own node))

one_at_most : (b : Bool) (n : ℕ) → n ≡ cond b 1 0 → n ≤ 1
one_at_most true n e = omega (arith, e)
one_at_most false n e = omega (arith, e)

-- the marks of some of the affected nodes
module _ (g : Graph) (owns : List OwnValues) (kept : KeptValues) (of_owns placed : Placed) (lists : List (List BillLine)) (sweep : IsSweep g owns kept of_owns placed lists) where
  pub some_marks : (place : ℕ) → sum_by (marks_at g.lines (own_with owns kept.owns)) (take place placed.nodes) ≤ mark_count g.lines (own_with owns kept.owns)
  some_marks place =
      let counted = marks_at g.lines (own_with owns kept.owns) in
      let n = length g.lines in
      omega (
        arith,
        sum_by-take-le counted placed.nodes place,
        sum_few counted n n (omega arith) placed.nodes (λ node. one_at_most (is_node_affected g.lines (nodes_of_owns owns) node) (times node placed.nodes) (sweep.affected node))
            (λ node there. omega (arith, inside g owns kept of_owns placed lists sweep node there, sweep.bill.sizes)),
        sum_by-take-le counted (range_with_len 0 n) n,
      )

  pub more_marks : (place : ℕ) → place < length placed.nodes → (values : RolledValues) → IsRolled g.lines (own_with owns kept.owns) (slice_index placed.nodes place) values →
      sum_by (marks_at g.lines (own_with owns kept.owns)) (take (place + 1) placed.nodes) ≡ sum_by (marks_at g.lines (own_with owns kept.owns)) (take place placed.nodes) + cond (length (lines_of_node g.lines (slice_index placed.nodes place)) == 0) 0 (length values.hops)
  more_marks place low values right =
      sum_by_more (marks_at g.lines (own_with owns kept.owns)) placed.nodes place 0 low
      ∙ ap (λ n. sum_by (marks_at g.lines (own_with owns kept.owns)) (take place placed.nodes) + cond (length (lines_of_node g.lines (slice_index placed.nodes place)) == 0) 0 n)
      (sym (hop_count g.lines sweep.bill.ranked.0 sweep.bill.ranked.1 (own_with owns kept.owns) (slice_index placed.nodes place) values right))

module _ (g : Graph) (owns : List OwnValues) (kept : KeptValues) (of_owns placed : Placed) (lists : List (List BillLine)) (sweep : IsSweep g owns kept of_owns placed lists)
    (new : List RolledValues) (size : length new ≡ length placed.nodes) (right : AreRolledOf g owns kept placed.nodes new) where
  abbrev own : ℕ → OwnValues
  own = own_with owns kept.owns

  -- the values of each node are at hand, and right
  pub all_known : (node : ℕ) → node < length g.labels → IsKnown (place_at placed node) kept.rolled new node
  all_known node there =
      by_place placed.nodes node (place_at placed node) (sweep.places node) (λ o. IsKnown o kept.rolled new node)
      (λ away. has_kept g owns kept of_owns placed lists sweep node there away) (λ spot h is. omega (arith, h, size))

  pub all_right : (node : ℕ) → node < length g.labels → IsRolled g.lines own node (known (place_at placed node) kept.rolled new node)
  all_right node there =
      by_place placed.nodes node (place_at placed node) (sweep.places node) (λ o. IsRolled g.lines own node (known o kept.rolled new node))
      (λ away. stays g owns kept of_owns placed lists sweep node away there) (λ spot h is. subst (λ n. IsRolled g.lines own n (rolled_at new spot)) is (right spot h))

  abbrev counted : ℕ → ℕ
  counted node = cond (length (lines_of_node g.lines node) == 0) 0 (length (mark_numbers_below g.lines own node))

  abbrev pub so_far : ℕ → ℕ
  so_far node = sum_by counted (take node (range_with_len 0 (length g.lines)))

  pub count_more : (node : ℕ) → node < length g.labels →
      so_far (node + 1) ≡ so_far node + cond (length (lines_of_node g.lines node) == 0) 0 (length (known (place_at placed node) kept.rolled new node).hops)
  count_more node there =
      let in_range : node < length g.lines = omega (arith, sweep.bill.sizes, there) in
      sum_by_more counted (range_with_len 0 (length g.lines)) node 0 (omega (arith, length-range_with_len 0 (length g.lines), in_range))
      ∙ ap (λ n. so_far node + counted n) (get_or-range_with_len 0 (length g.lines) node 0 in_range ∙ omega arith)
      ∙ ap (λ n. so_far node + cond (length (lines_of_node g.lines node) == 0) 0 n) (sym (hop_count g.lines sweep.bill.ranked.0 sweep.bill.ranked.1 own node (known (place_at placed node) kept.rolled new node) (all_right node there)))

  -- there are no more marks than hops that are kept and new together
  pub count_most : mark_count g.lines own ≤ hop_total kept.rolled + hop_total new
  count_most =
      let n = length g.lines in
      let kept_hops : ℕ → ℕ = λ node. hops_of (rolled_at kept.rolled node) in
      omega (
        arith,
        sum_within counted kept_hops (put_at placed.nodes new) 0 n (λ node h. counted_most node (omega (arith, h, sweep.bill.sizes))),
        kept_sum kept.rolled kept_hops 0 n (λ node h. let same : node ≡ node - 0 = omega arith in subst (λ k. kept_hops node ≤ kept_hops k) same (omega arith)),
        put_sum placed.nodes new 0 n,
      )
    where
      most_at : (node : ℕ) → hops_of (known (place_at placed node) kept.rolled new node) ≤ hops_of (rolled_at kept.rolled node) + put_at placed.nodes new node
      most_at node =
          by_place placed.nodes node (place_at placed node) (sweep.places node) (λ o. hops_of (known o kept.rolled new node) ≤ hops_of (rolled_at kept.rolled node) + put_at placed.nodes new node)
          (λ away. omega arith) (λ spot h is. omega (arith, put_there placed.nodes new spot node h size is))

      counted_most : (node : ℕ) → node < length g.labels → counted node ≤ hops_of (rolled_at kept.rolled node) + put_at placed.nodes new node
      counted_most node there =
          let hops = hop_count g.lines sweep.bill.ranked.0 sweep.bill.ranked.1 own node (known (place_at placed node) kept.rolled new node) (all_right node there) in
          elim (length (lines_of_node g.lines node) == 0) as (λ b. cond b 0 (length (mark_numbers_below g.lines own node)) ≤ hops_of (rolled_at kept.rolled node) + put_at placed.nodes new node) [
            | true ↦ omega arith
            | false ↦ omega (arith, hops, most_at node)
          ]

  pub count_within : (node : ℕ) → so_far node ≤ mark_count g.lines own
  count_within node = sum_by-take-le counted (range_with_len 0 (length g.lines)) node

  pub count_all : so_far (length g.labels) ≡ mark_count g.lines own
  count_all =
      ap (λ l. sum_by counted l)
      (ap (λ n. take n (range_with_len 0 (length g.lines))) (sym sweep.bill.sizes ∙ sym (length-range_with_len 0 (length g.lines))) ∙ take-all (range_with_len 0 (length g.lines)))
    where
      take-all : (ns : List ℕ) → take (length ns) ns ≡ ns
      take-all [] = refl
      take-all (n ∷ ns) = ap (λ l. n ∷ l) (take-all ns)
