-- Orders of the nodes: where a node stands, and what stays right when the order changes.
use Rattle.std.proofs.Common.{◌≡◌, ℕ, zero, suc, ◌+◌, ◌-◌, ◌<◌, ◌≤◌, Bool, true, false, cond, not, ◌==◌, List, [], ◌∷◌, ◌++◌, length, get_or, take, filter, count_by, slice_index, nat_lt, refl, sym, ap, ◌∙◌, subst, ◌⊎◌, inl, inr, arith}
use Rattle.std.specs.List.{All, AllPairs, Contains, position_or_len}
use Rattle.std.specs.List.Sorted.{IsPermutation}
use Rattle.std.proofs.lemmas.Bool.{both_ways, cases_Bool, cases_lt, eq-eqb, eqb-true, false_from_ne_true, le-ltb, lt-ltb, not-true}
use Rattle.std.proofs.lemmas.List.{get_or-take, get_or_append_left, get_or_default, length_push}
use Rattle.std.proofs.lemmas.List.Elements.{All-append, All-head, All-tail, filter_passes}
use Rattle.std.proofs.lemmas.List.Kept.{AllPairs-cons, AllPairs-filter}
use Rattle.std.proofs.lemmas.List.Sorted.{IsPermutation-filter_both, length_permutation, sum_by-IsPermutation}
use Rattle.std.proofs.lemmas.List.Sums.{get_or-le-sum_by, passes_at_first, sum_by-cons, sum_by_more_le, sum_by_push}
use Rattle.desk_graph.specs.declared.line.BillLine.{BillLine}
use Rattle.desk_graph.specs.Graph.{AreUsers, has_line, is_line_between, lines_of_node}
use Rattle.desk_graph.specs.Order.{AreMarkedUp, HasMadeWay, HasOnce, IsInOrder, IsSwept, StandsBefore, has_mark, mark_of}
use Rattle.desk_graph.specs.Reaches.{Falls, longest_node_chain, is_node_or_reaches, node_reaches}
use Rattle.desk_graph.proofs.Ends.{has_node_there, lines_of-more, user_is}
use Rattle.desk_graph.proofs.Marks.{marked_below}
use Rattle.desk_graph.proofs.Reached.{affected-one, lower_within, marks_are}

-- the place of a node
pub rank : List ℕ → ℕ → ℕ
rank order node = position_or_len (λ other. other == node) order

abbrev one : (ℕ → Bool) → ℕ → ℕ
one p x = cond (p x) 1 0

position-below : (p : ℕ → Bool) (xs : List ℕ) → 1 ≤ count_by p xs → position_or_len p xs < length xs
position-below p [] h = absurd (omega arith)
position-below p (x ∷ xs) h =
    elim (p x) as (λ b. 1 ≤ cond b 1 0 + count_by p xs → cond (not b) (1 + position_or_len p xs) 0 < suc (length xs)) [
      | true ↦ λ g. omega arith
      | false ↦ λ g. let ih = position-below p xs (omega arith) in omega arith
    ] (omega (arith, h, sum_by-cons (λ y. cond (p y) 1 0) x xs))

at-count : (p : ℕ → Bool) (xs : List ℕ) (i d : ℕ) → i < length xs → p (get_or xs i d) ≡ true → 1 ≤ count_by p xs
at-count p xs i d h e =
    let some = get_or-le-sum_by (λ x. cond (p x) 1 0) xs i d h in
    let this : one p (get_or xs i d) ≡ 1 = rw e refl in
    omega (arith, some, this)

two-count : (p : ℕ → Bool) (xs : List ℕ) (i j d : ℕ) → i < j → j < length xs → p (get_or xs i d) ≡ true → p (get_or xs j d) ≡ true → 2 ≤ count_by p xs
two-count p xs i j d h l e f =
    let later = sum_by_more_le (λ x. cond (p x) 1 0) xs j d l in
    let second : one p (get_or xs j d) ≡ 1 = rw f refl in
    let front = at-count p (take j xs) i d (omega (arith, Rattle.std.proofs.lemmas.List.length-take-le j xs (omega arith))) (ap p (get_or-take j xs i d h) ∙ e) in
    omega (arith, later, second, front)

module _ (order : List ℕ) (once : HasOnce order) where
  none-past : (node : ℕ) → length order ≤ node → count_by (λ other. other == node) order ≡ 0
  none-past node h = once node ∙ ap (λ b. cond b 1 0) (le-ltb node (length order) h)

  one-below : (node : ℕ) → node < length order → count_by (λ other. other == node) order ≡ 1
  one-below node h = once node ∙ ap (λ b. cond b 1 0) (lt-ltb node (length order) h)

  -- the nodes of an order are those below its length
  pub order_inside : (place : ℕ) → place < length order → slice_index order place < length order
  order_inside place h =
      elim (cases_lt (slice_index order place) (length order)) [
        | inl below ↦ below
        | inr past ↦
            let some = at-count (λ other. other == slice_index order place) order place 0 h (eq-eqb (slice_index order place) (slice_index order place) refl) in
            absurd (omega (arith, some, none-past (slice_index order place) past))
      ]

  -- no two places have one node
  pub order_apart : (i j : ℕ) → i < j → j < length order → slice_index order i ≡ slice_index order j → ⊥
  order_apart i j h l same =
      let two = two-count (λ other. other == slice_index order j) order i j 0 h l (eq-eqb (slice_index order i) (slice_index order j) same) (eq-eqb (slice_index order j) (slice_index order j) refl) in
      omega (arith, two, one-below (slice_index order j) (order_inside j l))

  rank_below : (node : ℕ) → node < length order → rank order node < length order
  unfolding rank
  rank_below node h = position-below (λ other. other == node) order (omega (arith, one-below node h))

  at_rank : (node : ℕ) → node < length order → slice_index order (rank order node) ≡ node
  unfolding rank
  at_rank node h = eqb-true (slice_index order (rank order node)) node (passes_at_first (λ other. other == node) order 0 (rank_below node h))

  pub order_covers : (node : ℕ) → node < length order → Contains order node
  order_covers node h = (rank order node, rank_below node h, get_or_default order (rank order node) node 0 (rank_below node h) ∙ at_rank node h)

-- the places fall along the lines of a bill that is in order
pub order_falls : (lines : List (List BillLine)) (order : List ℕ) → IsInOrder lines order → ((parent child : ℕ) → is_line_between lines parent child ≡ true → child < length lines) → Falls lines (rank order)
order_falls lines order ordered children = record {
  falls = λ parent child line.
      let low : parent < length order = omega (arith, has_node_there lines parent child line, ordered.size) in
      let there : child < length order = omega (arith, children parent child line, ordered.size) in
      elim (cases_lt (rank order child) (rank order parent)) [
        | inl below ↦ below
        | inr past ↦
            let none = ordered.children_first (rank order parent) (rank order child) past (rank_below order ordered.once child there) in
            let same = ap (λ p. is_line_between lines p (slice_index order (rank order child))) (at_rank order ordered.once parent low) ∙ ap (λ c. is_line_between lines parent c) (at_rank order ordered.once child there) in
            absurd (both_ways (is_line_between lines parent child) (sym same ∙ none) line)
      ];
  within = λ parent child line. omega (arith, rank_below order ordered.once parent (omega (arith, has_node_there lines parent child line, ordered.size)), ordered.size);
}

-- a node that stands before another doesn't reach it
pub apart_before : (lines : List (List BillLine)) (order : List ℕ) → IsInOrder lines order → Falls lines (rank order) → (parent child : ℕ) → parent < length order → child < length order → StandsBefore order child parent → is_node_or_reaches lines child parent ≡ false
apart_before lines order ordered falls parent child low there before =
    false_from_ne_true (is_node_or_reaches lines child parent) (λ e.
    elim (Rattle.std.proofs.lemmas.Bool.or_cases (child == parent) (node_reaches lines child parent) e) [
      | inl same ↦
          let at = at_rank order ordered.once child there in
          before (rank order child) (rank order child) (omega arith) (rank_below order ordered.once child there) (at ∙ eqb-true child parent same) at
      | inr reached ↦
          let lower = lower_within lines (rank order) falls parent (longest_node_chain lines) child reached in
          before (rank order parent) (rank order child) (omega arith) (rank_below order ordered.once child there) (at_rank order ordered.once parent low) (at_rank order ordered.once child there)
    ])

-- of two places of an order the earlier has no line to the later
pub order_pairs : (lines : List (List BillLine)) (order : List ℕ) → IsInOrder lines order → AllPairs (λ x y. is_line_between lines x y ≡ false) order
order_pairs lines order ordered i j d h l =
    ap (λ x. is_line_between lines x (get_or order j d)) (get_or_default order i d 0 (omega arith)) ∙ ap (λ y. is_line_between lines (slice_index order i) y) (get_or_default order j d 0 l)
    ∙ ordered.children_first i j (omega arith) l

count_cons : (p : ℕ → Bool) (x : ℕ) (xs : List ℕ) → count_by p (x ∷ xs) ≡ cond (p x) 1 0 + count_by p xs
count_cons p x xs = sum_by-cons (λ y. cond (p y) 1 0) x xs

no_other : (p : ℕ → Bool) (x node m : ℕ) → (x == node) ≡ false → cond (p node) m 0 ≡ cond (p node) (cond (x == node) 1 0 + m) 0
no_other p x node m e = ap (λ k. cond (p node) k 0) (sym (ap (λ b. cond b 1 0 + m) e ∙ Rattle.std.proofs.Common.zero-add m))

-- how often a node stands in what a filter keeps
count-filter : (p : ℕ → Bool) (xs : List ℕ) (node : ℕ) → count_by (λ other. other == node) (filter p xs) ≡ cond (p node) (count_by (λ other. other == node) xs) 0
count-filter p [] node = elim (p node) as (λ b. zero ≡ cond b zero zero) [ true ↦ refl | false ↦ refl ]
count-filter p (x ∷ xs) node =
    let ih = count-filter p xs node in
    let whole : count_by (λ other. other == node) (x ∷ xs) ≡ cond (x == node) 1 0 + count_by (λ other. other == node) xs = count_cons (λ other. other == node) x xs in
    elim (cases_Bool (p x)) [
      | inl passes ↦
          ap (λ b. count_by (λ other. other == node) (cond b (x ∷ filter p xs) (filter p xs))) passes ∙ count_cons (λ other. other == node) x (filter p xs)
          ∙ ap (λ k. cond (x == node) 1 0 + k) ih
          ∙ elim (cases_Bool (x == node)) [
            | inl same ↦
                let kept : p node ≡ true = ap p (sym (eqb-true x node same)) ∙ passes in
                ap (λ b. cond (x == node) 1 0 + cond b (count_by (λ other. other == node) xs) 0) kept ∙ sym whole ∙ ap (λ b. cond b (count_by (λ other. other == node) (x ∷ xs)) 0) (sym kept)
            | inr away ↦
                ap (λ b. cond b 1 0 + cond (p node) (count_by (λ other. other == node) xs) 0) away ∙ Rattle.std.proofs.Common.zero-add (cond (p node) (count_by (λ other. other == node) xs) 0)
                ∙ no_other p x node (count_by (λ other. other == node) xs) away ∙ ap (λ k. cond (p node) k 0) (sym whole)
          ]
      | inr fails ↦
          ap (λ b. count_by (λ other. other == node) (cond b (x ∷ filter p xs) (filter p xs))) fails ∙ ih
          ∙ elim (cases_Bool (x == node)) [
            | inl same ↦
                let lost : p node ≡ false = ap p (sym (eqb-true x node same)) ∙ fails in
                ap (λ b. cond b (count_by (λ other. other == node) xs) 0) lost ∙ ap (λ b. cond b (count_by (λ other. other == node) (x ∷ xs)) 0) (sym lost)
            | inr away ↦ no_other p x node (count_by (λ other. other == node) xs) away ∙ ap (λ k. cond (p node) k 0) (sym whole)
          ]
    ]

-- the marked nodes of an order, each once
pub marked_once : (marks : List Bool) (order : List ℕ) → HasOnce order → length marks ≡ length order → (node : ℕ) → count_by (λ other. other == node) (filter (has_mark true marks) order) ≡ cond (mark_of marks node) 1 0
marked_once marks order once size node =
    count-filter (has_mark true marks) order node
    ∙ elim (cases_Bool (mark_of marks node)) [
      | inl marked ↦
          let below = marked_below marks node marked in
          ap (λ k. cond (mark_of marks node) k 0) (one-below order once node (omega arith))
      | inr unmarked ↦ ap (λ b. cond b (count_by (λ other. other == node) order) 0) unmarked ∙ ap (λ b. cond b 1 0) (sym unmarked)
    ]

-- the order serves for a sweep towards the users
pub order_swept : (lines users : List (List BillLine)) (order : List ℕ) → IsInOrder lines order → length users ≡ length lines → ((child : ℕ) → AreUsers lines child (lines_of_node users child)) → IsSwept users order
order_swept lines users order ordered size agree = record {
  size = ordered.size ∙ sym size;
  inside = λ node user used. omega (arith, has_node_there lines user node (sym (user_is lines node (lines_of_node users node) (agree node) user) ∙ used), size);
  nodes = λ place h. omega (arith, order_inside order ordered.once place h, ordered.size, size);
  covers = λ node h. order_covers order ordered.once node (omega (arith, ordered.size, size));
  behind = λ i j h l. user_is lines (slice_index order j) (lines_of_node users (slice_index order j)) (agree (slice_index order j)) (slice_index order i) ∙ ordered.children_first i j h l;
}

-- pairs of a list that is joined of two
pairs-append : (R : ℕ → ℕ → Type 0) (xs ys : List ℕ) → AllPairs R xs → AllPairs R ys → All (λ x. All (R x) ys) xs → AllPairs R (xs ++ ys)
pairs-append R [] ys front back across = back
pairs-append R (x ∷ xs) ys front back across =
    AllPairs-cons R x (xs ++ ys)
    (All-append (R x) xs ys (λ k d h. front zero (suc k) d (omega arith) (omega arith)) (All-head (λ y. All (R y) ys) x xs across))
    (pairs-append R xs ys (λ i j d h l. front (suc i) (suc j) d (omega arith) (omega arith)) back (All-tail (λ y. All (R y) ys) x xs across))

not-not : (b : Bool) → b ≡ not (not b)
not-not true = refl
not-not false = refl

moved_permutes : (marks : List Bool) (order : List ℕ) → IsPermutation order (filter (has_mark false marks) order ++ filter (has_mark true marks) order)
moved_permutes marks order = IsPermutation-filter_both (has_mark false marks) (has_mark true marks) (λ node. not-not (mark_of marks node)) order

-- the order has each node once after a move too
pub once_moved : (marks : List Bool) (order : List ℕ) → HasOnce order → HasOnce (filter (has_mark false marks) order ++ filter (has_mark true marks) order)
once_moved marks order once node =
    let ys = filter (has_mark false marks) order ++ filter (has_mark true marks) order in
    sum_by-IsPermutation (λ other. cond (other == node) 1 0) order ys (moved_permutes marks order) ∙ once node
    ∙ ap (λ n. cond (nat_lt node n) 1 0) (sym (length_permutation order ys (moved_permutes marks order)))

pub length-moved : (marks : List Bool) (order : List ℕ) → length (filter (has_mark false marks) order ++ filter (has_mark true marks) order) ≡ length order
length-moved marks order = length_permutation order (filter (has_mark false marks) order ++ filter (has_mark true marks) order) (moved_permutes marks order)

-- what a new line adds to the lines
unfoldable pub AddsLine : (lines new_lines : List (List BillLine)) (parent child : ℕ) → Type 0
AddsLine lines new_lines parent child = (x y : ℕ) → is_line_between new_lines x y ≡ true → (is_line_between lines x y ≡ true) ⊎ ((parent ≡ x) × (child ≡ y))

module _ (lines new_lines users : List (List BillLine)) (order : List ℕ) (parent child : ℕ) (ordered : IsInOrder lines order)
    (agree : (node : ℕ) → AreUsers lines node (lines_of_node users node)) (falls : Falls lines (rank order)) (adds : AddsLine lines new_lines parent child) where
  -- where the child stands before the parent the order stays
  stands_first : StandsBefore order child parent → (i j : ℕ) → i ≤ j → j < length order → is_line_between new_lines (slice_index order i) (slice_index order j) ≡ false
  unfolding AddsLine
  stands_first before i j h l =
      false_from_ne_true (is_line_between new_lines (slice_index order i) (slice_index order j)) (λ e.
      elim (adds (slice_index order i) (slice_index order j) e) [
        | inl old ↦ both_ways (is_line_between lines (slice_index order i) (slice_index order j)) (ordered.children_first i j h l) old
        | inr new ↦ before i j h l (sym new.0) (sym new.1)
      ])

  module _ (marks : List Bool) (up : AreMarkedUp users (parent ∷ []) marks) (opens : mark_of marks child ≡ false) where
    parent_marked : mark_of marks parent ≡ true
    parent_marked = up.seeded parent (Rattle.std.proofs.lemmas.Bool.or_left (parent == parent) false (eq-eqb parent parent refl))

    -- a line leads from no unmarked node to a marked one
    goes_up : (x y : ℕ) → is_line_between new_lines x y ≡ true → mark_of marks y ≡ true → mark_of marks x ≡ true
    unfolding AddsLine
    goes_up x y line marked =
        elim (adds x y line) [
          | inl old ↦ up.closed y x marked (user_is lines y (lines_of_node users y) (agree y) x ∙ old)
          | inr new ↦ subst (λ n. mark_of marks n ≡ true) new.0 parent_marked
        ]

    no_self : (x : ℕ) → is_line_between new_lines x x ≡ false
    unfolding AddsLine
    no_self x =
        false_from_ne_true (is_line_between new_lines x x) (λ e.
        elim (adds x x e) [
          | inl old ↦ let lower = falls.falls x x old in omega arith
          | inr new ↦ both_ways (mark_of marks child) opens (subst (λ n. mark_of marks n ≡ true) (new.0 ∙ sym new.1) parent_marked)
        ])

    old_pairs : AllPairs (λ x y. is_line_between lines x y ≡ false) order
    old_pairs i j d h l =
        ap (λ x. is_line_between lines x (get_or order j d)) (get_or_default order i d 0 (omega arith)) ∙ ap (λ y. is_line_between lines (slice_index order i) y) (get_or_default order j d 0 l)
        ∙ ordered.children_first i j (omega arith) l

    -- of two nodes with one mark the earlier has no line to the later
    alike : (wanted : Bool) → ((x y : ℕ) → has_mark wanted marks x ≡ true → has_mark wanted marks y ≡ true → (parent ≡ x) × (child ≡ y) → ⊥) → AllPairs (λ x y. is_line_between new_lines x y ≡ false) (filter (has_mark wanted marks) order)
    unfolding AddsLine
    alike wanted apart i j d h l =
        let kept = filter (has_mark wanted marks) order in
        let passes = filter_passes (has_mark wanted marks) order in
        false_from_ne_true (is_line_between new_lines (get_or kept i d) (get_or kept j d)) (λ e.
        elim (adds (get_or kept i d) (get_or kept j d) e) [
          | inl old ↦ both_ways (is_line_between lines (get_or kept i d) (get_or kept j d)) (AllPairs-filter (λ x y. is_line_between lines x y ≡ false) (has_mark wanted marks) order old_pairs i j d h l) old
          | inr new ↦ apart (get_or kept i d) (get_or kept j d) (passes i d (omega arith)) (passes j d l) new
        ])

    moved_pairs : AllPairs (λ x y. is_line_between new_lines x y ≡ false) (filter (has_mark false marks) order ++ filter (has_mark true marks) order)
    moved_pairs =
        pairs-append (λ x y. is_line_between new_lines x y ≡ false) (filter (has_mark false marks) order) (filter (has_mark true marks) order)
        (alike false (λ x y m n new. both_ways (mark_of marks x) (not-true (mark_of marks x) m) (subst (λ k. mark_of marks k ≡ true) new.0 parent_marked)))
        (alike true (λ x y m n new. both_ways (mark_of marks y) (subst (λ k. mark_of marks k ≡ false) new.1 opens) n))
        (λ i d h j e l.
        let x = get_or (filter (has_mark false marks) order) i d in
        let y = get_or (filter (has_mark true marks) order) j e in
        let unmarked : mark_of marks x ≡ false = not-true (mark_of marks x) (filter_passes (has_mark false marks) order i d h) in
        let marked : mark_of marks y ≡ true = filter_passes (has_mark true marks) order j e l in
        false_from_ne_true (is_line_between new_lines x y) (λ line. both_ways (mark_of marks x) unmarked (goes_up x y line marked)))

    moved_first : (i j : ℕ) → i ≤ j → j < length (filter (has_mark false marks) order ++ filter (has_mark true marks) order) → is_line_between new_lines (slice_index (filter (has_mark false marks) order ++ filter (has_mark true marks) order) i) (slice_index (filter (has_mark false marks) order ++ filter (has_mark true marks) order) j) ≡ false
    moved_first i j h l =
        elim (cases_lt i j) [
          | inl below ↦ moved_pairs i j 0 below l
          | inr past ↦
              let same : i ≡ j = omega arith in
              subst (λ k. is_line_between new_lines (slice_index (filter (has_mark false marks) order ++ filter (has_mark true marks) order) k) (slice_index (filter (has_mark false marks) order ++ filter (has_mark true marks) order) j) ≡ false) (sym same)
              (no_self (slice_index (filter (has_mark false marks) order ++ filter (has_mark true marks) order) j))
        ]

  -- after way was made the order is right with the new line too
  pub in_order-with : (new_order : List ℕ) → length new_lines ≡ length lines → is_node_or_reaches lines child parent ≡ false → HasMadeWay users parent child order new_order → IsInOrder new_lines new_order
  in_order-with new_order size opens (inl stays) =
      subst (IsInOrder new_lines) (sym stays.0) (record { size = ordered.size ∙ sym size; once = ordered.once; children_first = stands_first stays.1 })
  in_order-with new_order size opens (inr moved) =
      let marks = moved.0 in
      let free : mark_of marks child ≡ false = marks_are lines (rank order) falls (parent ∷ []) users marks agree moved.1 child ∙ affected-one lines parent child ∙ opens in
      subst (IsInOrder new_lines) (sym moved.2) (record {
        size = length-moved marks order ∙ ordered.size ∙ sym size;
        once = once_moved marks order ordered.once;
        children_first = moved_first marks moved.1 free;
      })

-- an order with fewer lines
pub in_order-without : (lines new_lines : List (List BillLine)) (order : List ℕ) → IsInOrder lines order → length new_lines ≡ length lines → ((x y : ℕ) → is_line_between new_lines x y ≡ true → is_line_between lines x y ≡ true) → IsInOrder new_lines order
in_order-without lines new_lines order ordered size fewer = record {
  size = ordered.size ∙ sym size;
  once = ordered.once;
  children_first = λ i j h l. false_from_ne_true (is_line_between new_lines (slice_index order i) (slice_index order j)) (λ e. both_ways (is_line_between lines (slice_index order i) (slice_index order j)) (ordered.children_first i j h l) (fewer (slice_index order i) (slice_index order j) e));
}

once-more : (n node : ℕ) → cond (nat_lt node n) 1 0 + cond (n == node) 1 0 ≡ cond (nat_lt node (n + 1)) 1 0
once-more n node = grind (arith, Rattle.std.proofs.lemmas.Bool.Decides.nat_tests)

-- the next node at the end
pub once_pushed : (order : List ℕ) → HasOnce order → HasOnce (order ++ length order ∷ [])
once_pushed order once node =
    sum_by_push (λ other. cond (other == node) 1 0) order (length order) ∙ ap (λ n. n + cond (length order == node) 1 0) (once node) ∙ once-more (length order) node
    ∙ ap (λ n. cond (nat_lt node n) 1 0) (sym (length_push order (length order)))

pub in_order-more : (lines : List (List BillLine)) (order : List ℕ) → IsInOrder lines order → ((parent child : ℕ) → is_line_between lines parent child ≡ true → child < length lines) → IsInOrder (lines ++ [] ∷ []) (order ++ length order ∷ [])
in_order-more lines order ordered children = record {
  size = length_push order (length order) ∙ ap (λ n. n + 1) ordered.size ∙ sym (length_push lines []);
  once = once_pushed order ordered.once;
  children_first = λ i j h l.
      let more = order ++ length order ∷ [] in
      let same = ap (λ of_node. has_line of_node (slice_index more j)) (lines_of-more lines (slice_index more i)) in
      let bound : j < length order + 1 = omega (arith, length_push order (length order)) in
      elim (cases_lt j (length order)) [
        | inl below ↦
            same ∙ ap (λ x. is_line_between lines x (slice_index more j)) (get_or_append_left order (length order ∷ []) 0 i (omega arith)) ∙ ap (λ y. is_line_between lines (slice_index order i) y) (get_or_append_left order (length order ∷ []) 0 j below)
            ∙ ordered.children_first i j h below
        | inr past ↦
            let last : slice_index more j ≡ length order = ap (λ k. slice_index more k) (omega arith) ∙ Rattle.std.proofs.lemmas.List.get_or_at order (length order) [] 0 (length order) refl in
            same ∙ ap (λ y. is_line_between lines (slice_index more i) y) last
            ∙ false_from_ne_true (is_line_between lines (slice_index more i) (length order)) (λ e. let there = children (slice_index more i) (length order) e in let size = ordered.size in omega arith)
      ];
}

pub moved_facts : (marks : List Bool) (order new : List ℕ) → HasOnce order → new ≡ filter (has_mark false marks) order ++ filter (has_mark true marks) order → (length new ≡ length order) × HasOnce new
moved_facts marks order new once same = (ap (λ l. length l) same ∙ length-moved marks order, subst HasOnce (sym same) (once_moved marks order once))
