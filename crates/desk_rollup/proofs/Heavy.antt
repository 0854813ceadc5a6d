-- The node with the least label of those that are too heavy.
use Rattle.std.proofs.Common.{◌≡◌, ℕ, ◌+◌, ◌^◌, ◌<◌, ◌≤◌, true, false, List, length, slice_index, Option, Some, None, Less, refl, sym, ap, subst, inl, inr, arith}
use Rattle.std.specs.Ordering.{is_lt}
use Rattle.std.specs.declared.cmp.Ordering.{Ordering}
use Rattle.std.specs.declared.cmp.Ordering.TheVariants.{Equal, Greater}
use Rattle.std.proofs.lemmas.Bool.{cases_Bool, cases_lt, false_from_ne_true, false≢true, both_ways}
use Rattle.std.proofs.lemmas.Cmp.{nat_list_cmp_total, tied_itself}
use Rattle.desk_graph.specs.declared.line.BillLine.{BillLine}
use Rattle.desk_graph.specs.Graph.{Graph, label_cmp, label_of}
use Rattle.desk_graph.specs.Reaches.{has_node}
use Rattle.desk_rollup.specs.Places.{Placed, place_at}
use Rattle.desk_rollup.specs.Rolled.{weight}
use Rattle.desk_rollup.specs.Sweep.{IsSweep, IsTooLargeOr, lesser_of}
use Rattle.desk_rollup.specs.Values.{KeptValues, OwnValues, own_with}
use Rattle.desk_rollup.specs.Weights.{fitting}
use Rattle.desk_rollup.proofs.Frame.{by_place, fits_no, fits_yes, stays}

less_is : (o : Ordering) → is_lt o ≡ true → o ≡ Less
less_is Less e = refl
less_is Equal e = absurd (false≢true e)
less_is Greater e = absurd (false≢true e)

not_itself : (label : List ℕ) → is_lt (label_cmp label label) ≡ false
not_itself label = ap is_lt (tied_itself nat_list_cmp_total label)

lower_still : (a b c : List ℕ) → is_lt (label_cmp a b) ≡ true → is_lt (label_cmp b c) ≡ true → is_lt (label_cmp a c) ≡ true
lower_still a b c low lower = ap is_lt (nat_list_cmp_total.trans a b c (less_is (label_cmp a b) low) (less_is (label_cmp b c) lower))

-- of so many nodes none is too heavy, or the node is, and none of them that is has a lesser label
abbrev pub IsFirstAmong : Graph → (ℕ → ℕ) → List ℕ → ℕ → Option ℕ → Type 0
IsFirstAmong g weights nodes count None = (spot : ℕ) → spot < count → weights (slice_index nodes spot) < 2 ^ 128
IsFirstAmong g weights nodes count (Some node) =
    (node < length g.labels) × (2 ^ 128 ≤ weights node)
    × ((spot : ℕ) → spot < count → 2 ^ 128 ≤ weights (slice_index nodes spot) → is_lt (label_cmp (label_of g.labels (slice_index nodes spot)) (label_of g.labels node)) ≡ false)

module _ (g : Graph) (weights : ℕ → ℕ) (nodes : List ℕ) (place : ℕ) (there : slice_index nodes place < length g.labels) where
  abbrev node : ℕ
  node = slice_index nodes place

  abbrev label : ℕ → List ℕ
  label n = label_of g.labels n

  light : (first : Option ℕ) → weights node < 2 ^ 128 → IsFirstAmong g weights nodes place first → IsFirstAmong g weights nodes (place + 1) first
  light None low so = λ spot h.
      elim (cases_lt spot place) [
        | inl earlier ↦ so spot earlier
        | inr last ↦ let same : place ≡ spot = omega arith in subst (λ n. weights (slice_index nodes n) < 2 ^ 128) same low
      ]
  light (Some first) low so = (
    so.0,
    so.1,
    λ spot h large.
        elim (cases_lt spot place) [
          | inl earlier ↦ so.2 spot earlier large
          | inr last ↦
              let same : place ≡ spot = omega arith in
              let low_too = subst (λ n. weights (slice_index nodes n) < 2 ^ 128) same low in
              absurd (omega (arith, large, low_too))
        ],
  )

  heavy : (first : Option ℕ) → 2 ^ 128 ≤ weights node → IsFirstAmong g weights nodes place first → IsFirstAmong g weights nodes (place + 1) (lesser_of g.labels first node None)
  heavy None large so = (
    there,
    large,
    λ spot h is_large.
        elim (cases_lt spot place) [
          | inl earlier ↦ let low = so spot earlier in absurd (omega (arith, low, is_large))
          | inr last ↦
              let same : place ≡ spot = omega arith in
              subst (λ n. is_lt (label_cmp (label (slice_index nodes n)) (label node)) ≡ false) same (not_itself (label node))
        ],
  )
  heavy (Some first) large so =
      elim (cases_Bool (is_lt (label_cmp (label node) (label first)))) [
        | inl lesser ↦
            rw lesser (
              there,
              large,
              λ spot h is_large.
                  elim (cases_lt spot place) [
                    | inl earlier ↦
                        false_from_ne_true (is_lt (label_cmp (label (slice_index nodes spot)) (label node))) (λ e.
                        both_ways (is_lt (label_cmp (label (slice_index nodes spot)) (label first))) (so.2 spot earlier is_large) (lower_still (label (slice_index nodes spot)) (label node) (label first) e lesser))
                    | inr last ↦
                        let same : place ≡ spot = omega arith in
                        subst (λ n. is_lt (label_cmp (label (slice_index nodes n)) (label node)) ≡ false) same (not_itself (label node))
                  ],
            )
        | inr not_lesser ↦
            rw not_lesser (
              so.0,
              so.1,
              λ spot h is_large.
                  elim (cases_lt spot place) [
                    | inl earlier ↦ so.2 spot earlier is_large
                    | inr last ↦
                        let same : place ≡ spot = omega arith in
                        subst (λ n. is_lt (label_cmp (label (slice_index nodes n)) (label first)) ≡ false) same not_lesser
                  ],
            )
      ]

  -- one node more
  pub first_more : (first : Option ℕ) → IsFirstAmong g weights nodes place first → IsFirstAmong g weights nodes (place + 1) (lesser_of g.labels first node (fitting (weights node)))
  first_more first so =
      elim (cases_lt (weights node) (2 ^ 128)) [
        | inl low ↦ subst (λ o. IsFirstAmong g weights nodes (place + 1) (lesser_of g.labels first node o)) (sym (fits_yes (weights node) low)) (light first low so)
        | inr large ↦ subst (λ o. IsFirstAmong g weights nodes (place + 1) (lesser_of g.labels first node o)) (sym (fits_no (weights node) large)) (heavy first large so)
      ]

module _ (g : Graph) (owns : List OwnValues) (kept : KeptValues) (of_owns placed : Placed) (lists : List (List BillLine)) (sweep : IsSweep g owns kept of_owns placed lists) where
  abbrev weights : ℕ → ℕ
  weights = weight g.lines (own_with owns kept.owns)

  -- a node that is too heavy is affected
  kept_fits : (other : ℕ) → other < length g.labels → has_node placed.nodes other ≡ false → weights other < 2 ^ 128
  kept_fits other there away =
      let P : ℕ → Type 0 = λ w. w < 2 ^ 128 in
      subst P (stays g owns kept of_owns placed lists sweep other away there).weight (sweep.fit other)

  -- the first among the affected nodes is the first of all
  pub first_of_all : (first : Option ℕ) → IsFirstAmong g weights placed.nodes (length placed.nodes) first → IsTooLargeOr g (own_with owns kept.owns) first
  first_of_all None so = λ other there.
      by_place placed.nodes other (place_at placed other) (sweep.places other) (λ _. weights other < 2 ^ 128)
      (λ away. kept_fits other there away) (λ spot h is. subst (λ n. weights n < 2 ^ 128) is (so spot h))
  first_of_all (Some first) so = record {
    there = so.0;
    large = so.1;
    least = λ other there large.
        by_place placed.nodes other (place_at placed other) (sweep.places other) (λ _. is_lt (label_cmp (label_of g.labels other) (label_of g.labels first)) ≡ false)
        (λ away. let low = kept_fits other there away in absurd (omega (arith, low, large)))
        (λ spot h is.
        subst (λ n. is_lt (label_cmp (label_of g.labels n) (label_of g.labels first)) ≡ false) is (so.2 spot h (subst (λ n. 2 ^ 128 ≤ weights n) (sym is) large)));
  }
