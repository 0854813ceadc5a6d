-- Marks of nodes, and what marking does to them.
use Rattle.std.proofs.Common.{◌≡◌, ℕ, zero, suc, ◌+◌, ◌-◌, ◌<◌, ◌≤◌, Bool, true, false, cond, not, ◌||◌, ◌&&◌, ◌==◌, List, [], ◌∷◌, ◌++◌, filter, count_by, replicate, length, get_or, set, drop, take, refl, sym, ap, ◌∙◌, ◌⊎◌, inl, inr, subst, slice_index, nat_lt, sum_by, arith}
use Rattle.std.proofs.lemmas.Bool.{cases_eq, cases_lt, eq-eqb, false≢true, ne_eqb}
use Rattle.std.proofs.lemmas.List.{append_assoc, drop-drop, get_or-replicate, get_or-take, get_or-set_same, get_or-set_other, get_or_default, get_or_past, length-drop, length-replicate}
use Rattle.std.proofs.lemmas.List.Sums.{count_by-le-length, count_by_more_yes, sum_by-cons, sum_by-drop_more, sum_by-take-drop, sum_by-take-le, sum_by_more}
use Rattle.std.proofs.lemmas.List.Elements.{filter_more}
use Rattle.std.proofs.lemmas.List.Folds.{list_any_at, list_any_more}
use Rattle.desk_graph.specs.declared.line.BillLine.{BillLine}
use Rattle.desk_graph.specs.Graph.{has_line, lines_of_node}
use Rattle.desk_graph.specs.Order.{AreMarkedUp, AreUnmarked, AreUnmarkedFrom, HasNoneTwice, HasOnce, HoldsBelow, IsSwept, MarksAtMost, has_mark, mark_of}
use Rattle.desk_graph.specs.Reaches.{has_node}

or-true : (b : Bool) → (b || true) ≡ true
or-true true = refl
or-true false = refl

or-false : (b : Bool) → (b || false) ≡ b
or-false true = refl
or-false false = refl

count_cons : (p : ℕ → Bool) (x : ℕ) (xs : List ℕ) → count_by p (x ∷ xs) ≡ cond (p x) 1 0 + count_by p xs
count_cons p x xs = sum_by-cons (λ y. cond (p y) 1 0) x xs

one_of : (b : Bool) → cond (not b) 1 0 + cond b 1 0 ≡ 1
one_of true = refl
one_of false = refl

or_assoc : (a b c : Bool) → ((a || b) || c) ≡ (a || (b || c))
or_assoc true b c = refl
or_assoc false b c = refl

-- a node that is marked besides
pub mark_of-set : (marks : List Bool) (at node : ℕ) → at < length marks → mark_of (set marks at true) node ≡ (mark_of marks node || at == node)
mark_of-set marks at node h =
    elim (cases_eq at node) [
      | inl same ↦ rw (← same) (get_or-set_same marks at true false h ∙ sym (ap (λ b. mark_of marks at || b) (eq-eqb at at refl) ∙ or-true (mark_of marks at)))
      | inr other ↦ get_or-set_other marks at node true false (λ e. other (sym e)) ∙ sym (ap (λ b. mark_of marks node || b) (ne_eqb at node other) ∙ or-false (mark_of marks node))
    ]

-- one line more
pub marked_more : (before marks after : List Bool) (lines : List BillLine) (i : ℕ) (d : BillLine) → i < length lines → ((node : ℕ) → mark_of after node ≡ (mark_of marks node || (get_or lines i d).node == node)) → ((node : ℕ) → mark_of marks node ≡ (mark_of before node || has_line (take i lines) node)) → (node : ℕ) → mark_of after node ≡ (mark_of before node || has_line (take (i + 1) lines) node)
marked_more before marks after lines i d h marked so node =
    marked node
    ∙ ap (λ b. b || (get_or lines i d).node == node) (so node)
    ∙ or_assoc (mark_of before node) (has_line (take i lines) node) ((get_or lines i d).node == node)
    ∙ ap (λ b. mark_of before node || b) (sym (list_any_more (λ line. line.node == node) lines i d h))

-- a marked node is a node
pub marked_below : (marks : List Bool) (node : ℕ) → mark_of marks node ≡ true → node < length marks
marked_below marks node e =
    elim (cases_lt node (length marks)) [ inl below ↦ below | inr above ↦ absurd (false≢true (sym (get_or_past marks node false above) ∙ e)) ]

-- at the end of a sweep each marked node was met
pub closed_at_end : (users : List (List BillLine)) (order : List ℕ) (marks : List Bool) → length marks ≡ length users → IsSwept users order → ((place user : ℕ) → place < length order → mark_of marks (slice_index order place) ≡ true → has_line (lines_of_node users (slice_index order place)) user ≡ true → mark_of marks user ≡ true) → (node user : ℕ) → mark_of marks node ≡ true → has_line (lines_of_node users node) user ≡ true → mark_of marks user ≡ true
closed_at_end users order marks size swept met node user marked used =
    let below = marked_below marks node marked in
    let found = swept.covers node (omega arith) in
    let same : slice_index order found.0 ≡ node = get_or_default order found.0 0 node found.1 ∙ found.2 in
    met found.0 user found.1 (subst (λ n. mark_of marks n ≡ true) (sym same) marked) (subst (λ n. has_line (lines_of_node users n) user ≡ true) (sym same) used)

-- a node of a list is in it
pub has_node-at : (nodes : List ℕ) (i d : ℕ) → i < length nodes → has_node nodes (get_or nodes i d) ≡ true
has_node-at nodes i d h = list_any_at (λ other. other == get_or nodes i d) nodes i d h (eq-eqb _ _ refl)

-- one seed more
pub seeded_more : (before marks after : List Bool) (seeds : List ℕ) (i d : ℕ) → i < length seeds → ((node : ℕ) → mark_of after node ≡ (mark_of marks node || get_or seeds i d == node)) → ((node : ℕ) → mark_of marks node ≡ (mark_of before node || has_node (take i seeds) node)) → (node : ℕ) → mark_of after node ≡ (mark_of before node || has_node (take (i + 1) seeds) node)
seeded_more before marks after seeds i d h marked so node =
    marked node
    ∙ ap (λ b. b || get_or seeds i d == node) (so node)
    ∙ or_assoc (mark_of before node) (has_node (take i seeds) node) (get_or seeds i d == node)
    ∙ ap (λ b. mark_of before node || b) (sym (list_any_more (λ other. other == node) seeds i d h))

mark_of-none : (n node : ℕ) → mark_of (replicate n false) node ≡ false
mark_of-none n node =
    elim (cases_lt node n) [
      | inl below ↦ get_or-replicate n node false false below
      | inr above ↦ get_or_past (replicate n false) node false (omega (arith, length-replicate {A = Bool} n false))
    ]

-- the seeds are marked and then all users, on clear marks
pub marked_up : (users : List (List BillLine)) (seeds : List ℕ) (clear seeded marks : List Bool) → clear ≡ replicate (length users) false → length marks ≡ length users →
    ((node : ℕ) → mark_of seeded node ≡ (mark_of clear node || has_node seeds node)) →
    ((node : ℕ) → mark_of seeded node ≡ true → mark_of marks node ≡ true) →
    ((node user : ℕ) → mark_of marks node ≡ true → has_line (lines_of_node users node) user ≡ true → mark_of marks user ≡ true) →
    ((holds : ℕ → Bool) → HoldsBelow holds seeded users → (node : ℕ) → mark_of marks node ≡ true → holds node ≡ true) →
    AreMarkedUp users seeds marks
marked_up users seeds clear seeded marks cleared size is kept closed least =
    let seeds_are : (node : ℕ) → mark_of seeded node ≡ has_node seeds node = λ node. is node ∙ ap (λ m. mark_of m node || has_node seeds node) cleared ∙ ap (λ b. b || has_node seeds node) (mark_of-none (length users) node) in
    record {
      size = size;
      seeded = λ node e. kept node (seeds_are node ∙ e);
      closed = closed;
      least = λ holds seed used. least holds (record { marked = λ node e. seed node (sym (seeds_are node) ∙ e); used = used });
    }

-- of two opposite tests each element passes one
pub count_both : (marks : List Bool) (order : List ℕ) → count_by (has_mark false marks) order + count_by (has_mark true marks) order ≡ length order
count_both marks [] = refl
count_both marks (node ∷ order) =
    let ih = count_both marks order in
    omega (arith, ih, count_cons (has_mark false marks) node order, count_cons (has_mark true marks) node order, one_of (mark_of marks node))

-- one node more is appended where it passes
pub pushed_more : (p : ℕ → Bool) (before into : List ℕ) (order : List ℕ) (i d : ℕ) (wanted : Bool) (after : List ℕ) → i < length order → wanted ≡ p (get_or order i d) → after ≡ into ++ cond wanted (get_or order i d ∷ []) [] → into ≡ before ++ filter p (take i order) → after ≡ before ++ filter p (take (i + 1) order)
pushed_more p before into order i d wanted after h e so now =
    so ∙ ap (λ b. into ++ cond b (get_or order i d ∷ []) []) e ∙ ap (λ l. l ++ cond (p (get_or order i d)) (get_or order i d ∷ []) []) now
    ∙ append_assoc before (filter p (take i order)) (cond (p (get_or order i d)) (get_or order i d ∷ []) [])
    ∙ ap (λ l. before ++ l) (sym (filter_more p order i d h))

pub counted_more : (p : ℕ → Bool) (order : List ℕ) (i d : ℕ) (wanted : Bool) → i < length order → wanted ≡ p (get_or order i d) → count_by p (take (i + 1) order) ≡ count_by p (take i order) + cond wanted 1 0
counted_more p order i d wanted h e = rw e (sum_by_more (λ node. cond (p node) 1 0) order i d h)

-- where the next node passes there is room for it
pub room_for_next : (p : ℕ → Bool) (order : List ℕ) (i d : ℕ) → i < length order → p (get_or order i d) ≡ true → count_by p (take i order) + 1 ≤ count_by p order
room_for_next p order i d h e = omega (arith, count_by_more_yes p order i d h e, sum_by-take-le (λ node. cond (p node) 1 0) order (i + 1))

-- where none of the first so many nodes is marked, the marked ones are among the others
pub filter_behind : (marks : List Bool) (first : ℕ) (order : List ℕ) → AreUnmarked first order marks → filter (has_mark true marks) (drop first order) ≡ filter (has_mark true marks) order
filter_behind marks zero order none = refl
filter_behind marks (suc first) [] none = refl
filter_behind marks (suc first) (node ∷ order) none =
    let rest = filter (has_mark true marks) order in
    filter_behind marks first order (λ place h. none (suc place) (omega arith)) ∙ sym (ap (λ b. cond b (node ∷ rest) rest) (none 0 (omega arith)))

-- and where none is marked from a place on, among those before it
pub filter_before : (marks : List Bool) (end : ℕ) (order : List ℕ) → AreUnmarkedFrom end order marks → filter (has_mark true marks) (take end order) ≡ filter (has_mark true marks) order
filter_before marks zero [] none = refl
filter_before marks zero (node ∷ order) none =
    let rest = filter (has_mark true marks) order in
    filter_before marks zero order (λ place h l. none (suc place) (omega arith) (omega arith)) ∙ sym (ap (λ b. cond b (node ∷ rest) rest) (none 0 (omega arith) (omega arith)))
filter_before marks (suc end) [] none = refl
filter_before marks (suc end) (node ∷ order) none =
    ap (λ rest. cond (mark_of marks node) (node ∷ rest) rest) (filter_before marks end order (λ place h l. none (suc place) (omega arith) (omega arith)))

-- a node that was marked already
pub marked_already : (marks : List Bool) (at node : ℕ) → mark_of marks at ≡ true → mark_of marks node ≡ (mark_of marks node || at == node)
marked_already marks at node e =
    elim (cases_eq at node) [
      | inl same ↦ rw (← same) (e ∙ sym (ap (λ b. b || at == at) e))
      | inr other ↦ sym (ap (λ b. mark_of marks node || b) (ne_eqb at node other) ∙ or-false (mark_of marks node))
    ]

eqb-swap : (a b : ℕ) → (a == b) ≡ (b == a)
eqb-swap a b = elim (cases_eq a b) [ inl same ↦ rw (← same) refl | inr other ↦ ne_eqb a b other ∙ sym (ne_eqb b a (λ e. other (sym e))) ]

or_most : (a b : Bool) → cond (a || b) 1 0 ≤ cond a 1 0 + cond b 1 0
or_most true b = omega arith
or_most false true = omega arith
or_most false false = omega arith

-- one more mark adds to a count how often its node stands in the list
counted_set : (marks after : List Bool) (at : ℕ) → ((node : ℕ) → mark_of after node ≡ (mark_of marks node || at == node)) → (nodes : List ℕ) → count_by (has_mark true after) nodes ≤ count_by (has_mark true marks) nodes + count_by (λ other. other == at) nodes
counted_set marks after at is [] = omega arith
counted_set marks after at is (node ∷ nodes) =
    let ih = counted_set marks after at is nodes in
    let here : cond (mark_of after node) 1 0 ≤ cond (mark_of marks node) 1 0 + cond (node == at) 1 0 = subst (λ b. cond b 1 0 ≤ cond (mark_of marks node) 1 0 + cond (node == at) 1 0) (sym (is node ∙ ap (λ b. mark_of marks node || b) (eqb-swap at node))) (or_most (mark_of marks node) (node == at)) in
    omega (arith, ih, here, count_cons (has_mark true after) node nodes, count_cons (has_mark true marks) node nodes, count_cons (λ other. other == at) node nodes)

pub marks_one : (marks after : List Bool) (at : ℕ) → ((node : ℕ) → mark_of after node ≡ (mark_of marks node || at == node)) → MarksAtMost 1 marks after
marks_one marks after at is = λ nodes twice. omega (arith, counted_set marks after at is nodes, twice at)

pub marks_none : (marks : List Bool) → MarksAtMost 0 marks marks
marks_none marks = λ nodes twice. omega arith

-- what is marked in two steps
pub marks_both : (m n k : ℕ) (old marks new : List Bool) → MarksAtMost m old marks → MarksAtMost n marks new → k ≡ m + n → MarksAtMost k old new
marks_both m n k old marks new first second e = λ nodes twice. omega (arith, first nodes twice, second nodes twice, e)

pub none_twice : (order : List ℕ) → HasOnce order → HasNoneTwice order
none_twice order once node = elim (nat_lt node (length order)) as (λ b. count_by (λ other. other == node) order ≡ cond b 1 0 → count_by (λ other. other == node) order ≤ 1) [ true ↦ λ e. omega arith | false ↦ λ e. omega arith ] (once node)

none_twice-drop : (order : List ℕ) (k : ℕ) → HasNoneTwice order → HasNoneTwice (drop k order)
none_twice-drop order k twice node = omega (arith, twice node, sum_by-take-drop (λ other. cond (other == node) 1 0) order k)

-- one place more was met
pub swept_more : (marks after : List Bool) (order : List ℕ) (place met count more : ℕ) → HasOnce order → place < length order → MarksAtMost more marks after → count_by (has_mark true marks) (drop place order) + met ≤ count →
    count_by (has_mark true after) (drop (place + 1) order) + (met + cond (mark_of marks (get_or order place 0)) 1 0) ≤ count + more
swept_more marks after order place met count more once h most so =
    let rest = most (drop (place + 1) order) (none_twice-drop order (place + 1) (none_twice order once)) in
    omega (arith, rest, so, sum_by-drop_more (λ node. cond (mark_of marks node) 1 0) order place 0 h)

pub counted_rest : (p : ℕ → Bool) (order : List ℕ) (k : ℕ) → k ≤ length order → count_by p (drop k order) + k ≤ length order
counted_rest p order k h = omega (arith, count_by-le-length p (drop k order), length-drop k order)

-- where all that were marked were met, none is marked behind
pub none_behind : (marks : List Bool) (order : List ℕ) (end met count : ℕ) → count_by (has_mark true marks) (drop end order) + met ≤ count → count ≤ met → AreUnmarkedFrom end order marks
none_behind marks order end met count so all place h l =
    let some = sum_by-drop_more (λ node. cond (mark_of marks node) 1 0) order place 0 l in
    let inner = sum_by-take-drop (λ node. cond (mark_of marks node) 1 0) (drop end order) (place - end) in
    let there : drop (place - end) (drop end order) ≡ drop place order = drop-drop (place - end) end order ∙ ap (λ k. drop k order) (omega arith) in
    let same = ap (sum_by (λ node. cond (mark_of marks node) 1 0)) there in
    let zero_here : ◌≡◌ {A = ℕ} (cond (mark_of marks (get_or order place 0)) 1 0) 0 = omega (arith, some, inner, same, so, all) in
    unmarked (mark_of marks (get_or order place 0)) zero_here
  where
    unmarked : (b : Bool) → ◌≡◌ {A = ℕ} (cond b 1 0) 0 → b ≡ false
    unmarked true e = absurd (omega (arith, e))
    unmarked false e = refl

or_cases : (a b : Bool) → (a || b) ≡ true → (a ≡ true) ⊎ (b ≡ true)
or_cases true b e = inl refl
or_cases false b e = inr e

and_both : (a b : Bool) → (a && b) ≡ true → (a ≡ true) × (b ≡ true)
and_both true b e = (refl, e)
and_both false b e = absurd (false≢true e)

or_false-left : (a b : Bool) → b ≡ false → (a || b) ≡ true → a ≡ true
or_false-left true b e h = refl
or_false-left false b e h = absurd (false≢true (sym e ∙ h))

and_false : (a b : Bool) → b ≡ false → (a && b) ≡ false
and_false true b e = e
and_false false b e = refl

-- what one step of a sweep leaves: the users of the node at this place are marked where it is
module _ (users : List (List BillLine)) (order : List ℕ) (marks after : List Bool) (place : ℕ) (swept : IsSwept users order) (h : place < length order)
    (is : (other : ℕ) → mark_of after other ≡ (mark_of marks other || (mark_of marks (slice_index order place) && has_line (lines_of_node users (slice_index order place)) other))) where
  pub step-kept : (other : ℕ) → mark_of marks other ≡ true → mark_of after other ≡ true
  step-kept other e = is other ∙ ap (λ b. b || (mark_of marks (slice_index order place) && has_line (lines_of_node users (slice_index order place)) other)) e

  step-front : (i : ℕ) → i ≤ place → (mark_of marks (slice_index order place) && has_line (lines_of_node users (slice_index order place)) (slice_index order i)) ≡ false
  step-front i le = and_false (mark_of marks (slice_index order place)) (has_line (lines_of_node users (slice_index order place)) (slice_index order i)) (swept.behind i place le h)

  step-was : (i : ℕ) → i ≤ place → mark_of after (slice_index order i) ≡ true → mark_of marks (slice_index order i) ≡ true
  step-was i le e =
      or_false-left (mark_of marks (slice_index order i)) (mark_of marks (slice_index order place) && has_line (lines_of_node users (slice_index order place)) (slice_index order i)) (step-front i le) (sym (is (slice_index order i)) ∙ e)

  pub step-closed : ((i user : ℕ) → i < place → mark_of marks (slice_index order i) ≡ true → has_line (lines_of_node users (slice_index order i)) user ≡ true → mark_of marks user ≡ true) →
      (i user : ℕ) → i < place + 1 → mark_of after (slice_index order i) ≡ true → has_line (lines_of_node users (slice_index order i)) user ≡ true → mark_of after user ≡ true
  step-closed closed i user l marked used =
      let was = step-was i (omega arith) marked in
      elim (cases_lt i place) [
        | inl below ↦ step-kept user (closed i user below was used)
        | inr past ↦
            let here : i ≡ place = omega arith in
            let at = subst (λ k. mark_of marks (slice_index order k) ≡ true) here was in
            let line = subst (λ k. has_line (lines_of_node users (slice_index order k)) user ≡ true) here used in
            is user ∙ ap (λ b. mark_of marks user || (b && has_line (lines_of_node users (slice_index order place)) user)) at ∙ ap (λ b. mark_of marks user || b) line ∙ or-true (mark_of marks user)
      ]

  pub step-least : (holds : ℕ → Bool) → ((node user : ℕ) → holds node ≡ true → has_line (lines_of_node users node) user ≡ true → holds user ≡ true) → ((node : ℕ) → mark_of marks node ≡ true → holds node ≡ true) → (node : ℕ) → mark_of after node ≡ true → holds node ≡ true
  step-least holds used least node e =
      elim (or_cases (mark_of marks node) (mark_of marks (slice_index order place) && has_line (lines_of_node users (slice_index order place)) node) (sym (is node) ∙ e)) [
        | inl was ↦ least node was
        | inr new ↦
            let both = and_both (mark_of marks (slice_index order place)) (has_line (lines_of_node users (slice_index order place)) node) new in
            used (slice_index order place) node (least (slice_index order place) both.0) both.1
      ]

  pub step-early : (from : ℕ) → from ≤ place → AreUnmarked from order marks → AreUnmarked from order after
  step-early from le early i l = is (slice_index order i) ∙ ap (λ b. b || (mark_of marks (slice_index order place) && has_line (lines_of_node users (slice_index order place)) (slice_index order i))) (early i l) ∙ step-front i (omega arith)

-- at the end of a sweep each marked node was met, or there is none
pub closed_before : (users : List (List BillLine)) (order : List ℕ) (marks : List Bool) (end : ℕ) → AreUnmarkedFrom end order marks → ((place user : ℕ) → place < end → mark_of marks (slice_index order place) ≡ true → has_line (lines_of_node users (slice_index order place)) user ≡ true → mark_of marks user ≡ true) →
    (place user : ℕ) → place < length order → mark_of marks (slice_index order place) ≡ true → has_line (lines_of_node users (slice_index order place)) user ≡ true → mark_of marks user ≡ true
closed_before users order marks end late met place user h marked used =
    elim (cases_lt place end) [ inl below ↦ met place user below marked used | inr past ↦ absurd (false≢true (sym (late place past h) ∙ marked)) ]

none_marked : (n : ℕ) (nodes : List ℕ) → count_by (has_mark true (replicate n false)) nodes ≡ 0
none_marked n [] = refl
none_marked n (node ∷ nodes) =
    let ih = none_marked n nodes in
    let here = ap {B = ℕ} (λ b. cond b 1 0) (mark_of-none n node) in
    omega (arith, ih, here, count_cons (has_mark true (replicate n false)) node nodes)

-- the marked seeds are counted, on clear marks
pub seeds_counted : (n : ℕ) (clear seeded : List Bool) (count : ℕ) (order : List ℕ) → clear ≡ replicate n false → HasNoneTwice order → MarksAtMost count clear seeded → count_by (has_mark true seeded) order ≤ count
seeds_counted n clear seeded count order cleared twice most =
    let none = ap (λ marks. count_by (has_mark true marks) order) cleared in
    omega (arith, most order twice, none, none_marked n order)

-- the marked nodes of an order stand between a place before which none is marked, and one from which on none is
pub filter_between : (marks : List Bool) (from end : ℕ) (order : List ℕ) → from ≤ end → end ≤ length order → AreUnmarked from order marks → AreUnmarkedFrom end order marks → filter (has_mark true marks) (drop from (take end order)) ≡ filter (has_mark true marks) order
filter_between marks from end order le within early late =
    filter_behind marks from (take end order) (λ place h. ap (mark_of marks) (get_or-take end order place 0 (omega arith)) ∙ early place h)
    ∙ filter_before marks end order late

pub counted_between : (p : ℕ → Bool) (from end : ℕ) (order : List ℕ) → count_by p (drop from (take end order)) ≤ count_by p order
counted_between p from end order = omega (arith, sum_by-take-drop (λ node. cond (p node) 1 0) (take end order) from, sum_by-take-le (λ node. cond (p node) 1 0) order end)
