-- What is reached along lines that lead down an order.
use Rattle.std.proofs.Common.{◌≡◌, ℕ, zero, suc, ◌<◌, Bool, true, false, cond, ◌||◌, ◌==◌, List, [], ◌∷◌, length, find, Option, Some, None, option_map, IfSome, refl, sym, ap, ◌∙◌, subst, inl, inr, arith, add-one}
use Rattle.std.specs.Prelude.{if◌then◌else◌}
use Rattle.std.specs.List.{list_any}
use Rattle.std.specs.Option.{option_map_or}
use Rattle.std.proofs.lemmas.Bool.{eq-eqb, eqb-true, false_from_ne_true, false≢true, or_cases, or_left, or_right}
use Rattle.desk_graph.specs.declared.line.BillLine.{BillLine}
use Rattle.desk_graph.specs.Graph.{AreUsers, has_line, is_line_between, lines_of_node}
use Rattle.desk_graph.specs.Order.{AreMarkedUp, GoesByNext, mark_of}
use Rattle.desk_graph.specs.Reaches.{Falls, chain_of_nodes, chain_of_nodes_within, longest_node_chain, has_node, is_node_affected, is_node_or_reaches, next_node_to, node_reaches, node_reaches_within}
use Rattle.desk_graph.proofs.Ends.{user_is}

-- two tests that give each other are one
pub same_test : (a b : Bool) → (a ≡ true → b ≡ true) → (b ≡ true → a ≡ true) → a ≡ b
same_test true b f g = sym (f refl)
same_test false true f g = g refl
same_test false false f g = refl

-- a test of some line's node
any-in : (test : ℕ → Bool) (lines : List BillLine) (node : ℕ) → has_line lines node ≡ true → test node ≡ true → list_any (λ line. test line.node) lines ≡ true
any-in test [] node e good = absurd (false≢true e)
any-in test (line ∷ lines) node e good =
    elim (or_cases (line.node == node) (has_line lines node) e) [
      | inl here ↦ or_left (test line.node) (list_any (λ l. test l.node) lines) (subst (λ n. test n ≡ true) (sym (eqb-true line.node node here)) good)
      | inr there ↦ or_right (test line.node) (list_any (λ l. test l.node) lines) (any-in test lines node there good)
    ]

any-out : (test : ℕ → Bool) (lines : List BillLine) → list_any (λ line. test line.node) lines ≡ true → (node : ℕ) × (has_line lines node ≡ true) × (test node ≡ true)
any-out test [] e = absurd (false≢true e)
any-out test (line ∷ lines) e =
    elim (or_cases (test line.node) (list_any (λ l. test l.node) lines) e) [
      | inl here ↦ (line.node, or_left (line.node == line.node) (has_line lines line.node) (eq-eqb line.node line.node refl), here)
      | inr there ↦
          let found = any-out test lines there in
          (found.0, or_right (line.node == found.0) (has_line lines found.0) found.1, found.2)
    ]

-- a test of some node of a list
pub any_node-in : (test : ℕ → Bool) (nodes : List ℕ) (node : ℕ) → has_node nodes node ≡ true → test node ≡ true → list_any test nodes ≡ true
any_node-in test [] node e good = absurd (false≢true e)
any_node-in test (first ∷ nodes) node e good =
    elim (or_cases (first == node) (has_node nodes node) e) [
      | inl here ↦ or_left (test first) (list_any test nodes) (subst (λ n. test n ≡ true) (sym (eqb-true first node here)) good)
      | inr there ↦ or_right (test first) (list_any test nodes) (any_node-in test nodes node there good)
    ]

pub any_node-out : (test : ℕ → Bool) (nodes : List ℕ) → list_any test nodes ≡ true → (node : ℕ) × (has_node nodes node ≡ true) × (test node ≡ true)
any_node-out test [] e = absurd (false≢true e)
any_node-out test (first ∷ nodes) e =
    elim (or_cases (test first) (list_any test nodes) e) [
      | inl here ↦ (first, or_left (first == first) (has_node nodes first) (eq-eqb first first refl), here)
      | inr there ↦
          let found = any_node-out test nodes there in
          (found.0, or_right (first == found.0) (has_node nodes found.0) found.1, found.2)
    ]

module _ (lines : List (List BillLine)) (target : ℕ) where
  within-in : (k node child : ℕ) → is_line_between lines node child ≡ true → (child == target || node_reaches_within lines k child target) ≡ true → node_reaches_within lines (suc k) node target ≡ true
  unfolding node_reaches_within
  within-in k node child line e = any-in (λ c. c == target || node_reaches_within lines k c target) (lines_of_node lines node) child line e

  within-out : (k node : ℕ) → node_reaches_within lines (suc k) node target ≡ true → (child : ℕ) × (is_line_between lines node child ≡ true) × ((child == target || node_reaches_within lines k child target) ≡ true)
  unfolding node_reaches_within
  within-out k node e = any-out (λ c. c == target || node_reaches_within lines k c target) (lines_of_node lines node) e

  within-zero : (node : ℕ) → node_reaches_within lines zero node target ≡ true → ⊥
  unfolding node_reaches_within
  within-zero node e = false≢true e

  -- what holds of the target and of each user of a node of which it holds, holds of all that reach the target
  pub up : (holds : ℕ → Bool) → holds target ≡ true → ((node user : ℕ) → holds node ≡ true → is_line_between lines user node ≡ true → holds user ≡ true) → (k node : ℕ) → node_reaches_within lines k node target ≡ true → holds node ≡ true
  up holds at step zero node e = absurd (within-zero node e)
  up holds at step (suc k) node e =
      let found = within-out k node e in
      elim (or_cases (found.0 == target) (node_reaches_within lines k found.0 target) found.2) [
        | inl here ↦ step found.0 node (subst (λ n. holds n ≡ true) (sym (eqb-true found.0 target here)) at) found.1
        | inr there ↦ step found.0 node (up holds at step k found.0 there) found.1
      ]

module _ (lines : List (List BillLine)) (rank : ℕ → ℕ) (ranked : Falls lines rank) (target : ℕ) where
  -- no chain is longer than the number of its first node
  deep : (k j node : ℕ) → rank node < j → node_reaches_within lines k node target ≡ true → node_reaches_within lines j node target ≡ true
  deep zero j node h e = absurd (within-zero lines target node e)
  deep (suc k) zero node h e = absurd (omega arith)
  deep (suc k) (suc j) node h e =
      let found = within-out lines target k node e in
      let lower = ranked.falls node found.0 found.1 in
      within-in lines target j node found.0 found.1
      (elim (or_cases (found.0 == target) (node_reaches_within lines k found.0 target) found.2) [
        | inl here ↦ or_left (found.0 == target) (node_reaches_within lines j found.0 target) here
        | inr there ↦ or_right (found.0 == target) (node_reaches_within lines j found.0 target) (deep k j found.0 (omega arith) there)
      ])

  pub lower_within : (k node : ℕ) → node_reaches_within lines k node target ≡ true → rank target < rank node
  lower_within zero node e = absurd (within-zero lines target node e)
  lower_within (suc k) node e =
      let found = within-out lines target k node e in
      let lower = ranked.falls node found.0 found.1 in
      elim (or_cases (found.0 == target) (node_reaches_within lines k found.0 target) found.2) [
        | inl here ↦ let same = ap rank (eqb-true found.0 target here) in omega arith
        | inr there ↦ let rest = lower_within k found.0 there in omega arith
      ]

  -- a node reaches what a child of it is or reaches
  pub reach-in : (node child : ℕ) → is_line_between lines node child ≡ true → is_node_or_reaches lines child target ≡ true → node_reaches lines node target ≡ true
  reach-in node child line e =
      let low = ranked.within node child line in
      deep (suc (longest_node_chain lines)) (longest_node_chain lines) node (omega arith) (within-in lines target (longest_node_chain lines) node child line e)

-- no node reaches itself
pub no_cycle : (lines : List (List BillLine)) (rank : ℕ → ℕ) → Falls lines rank → (node : ℕ) → node_reaches lines node node ≡ false
no_cycle lines rank ranked node =
    false_from_ne_true (node_reaches lines node node) (λ e. let lower = lower_within lines rank ranked node (longest_node_chain lines) node e in omega arith)

module _ (lines : List (List BillLine)) (rank : ℕ → ℕ) (ranked : Falls lines rank) (seeds : List ℕ) where
  pub affected-seed : (node : ℕ) → has_node seeds node ≡ true → is_node_affected lines seeds node ≡ true
  affected-seed node e = any_node-in (λ seed. is_node_or_reaches lines node seed) seeds node e (or_left (node == node) (node_reaches lines node node) (eq-eqb node node refl))

  pub affected-up : (node child : ℕ) → is_line_between lines node child ≡ true → is_node_affected lines seeds child ≡ true → is_node_affected lines seeds node ≡ true
  affected-up node child line e =
      let found = any_node-out (λ seed. is_node_or_reaches lines child seed) seeds e in
      any_node-in (λ seed. is_node_or_reaches lines node seed) seeds found.0 found.1 (or_right (node == found.0) (node_reaches lines node found.0) (reach-in lines rank ranked found.0 node child line found.2))

  -- marks that went up from the seeds are on the affected nodes
  pub marks_are : (users : List (List BillLine)) (marks : List Bool) → ((child : ℕ) → AreUsers lines child (lines_of_node users child)) → AreMarkedUp users seeds marks → (node : ℕ) → mark_of marks node ≡ is_node_affected lines seeds node
  marks_are users marks agree up_marks node =
      same_test (mark_of marks node) (is_node_affected lines seeds node)
      (up_marks.least (is_node_affected lines seeds) affected-seed (λ child user e used. affected-up user child (sym (user_is lines child (lines_of_node users child) (agree child) user) ∙ used) e) node)
      (λ e.
      let found = any_node-out (λ seed. is_node_or_reaches lines node seed) seeds e in
      let seeded = up_marks.seeded found.0 found.1 in
      elim (or_cases (node == found.0) (node_reaches lines node found.0) found.2) [
        | inl here ↦ subst (λ n. mark_of marks n ≡ true) (sym (eqb-true node found.0 here)) seeded
        | inr there ↦
            up lines found.0 (mark_of marks) seeded (λ child user m line. up_marks.closed child user m (user_is lines child (lines_of_node users child) (agree child) user ∙ line)) (longest_node_chain lines) node there
      ])

or-false : (b : Bool) → (b || false) ≡ b
or-false true = refl
or-false false = refl

-- of one seed
pub affected-one : (lines : List (List BillLine)) (seed node : ℕ) → is_node_affected lines (seed ∷ []) node ≡ is_node_or_reaches lines node seed
affected-one lines seed node = or-false (is_node_or_reaches lines node seed)

later : (child : Option ℕ) (line : BillLine) (of_node : List BillLine) → IfSome child (λ c. has_line of_node c ≡ true) → IfSome child (λ c. has_line (line ∷ of_node) c ≡ true)
later None line of_node h = tt
later (Some c) line of_node h = or_right (line.node == c) (has_line of_node c) h

-- the node of a line that is found is the node of a line
pub found-line : (test : BillLine → Bool) (of_node : List BillLine) → IfSome (option_map (λ line. line.node) (find test of_node)) (λ child. has_line of_node child ≡ true)
found-line test [] = tt
found-line test (line ∷ of_node) =
    elim (test line) as (λ b. IfSome (option_map (λ l. l.node) (cond b (Some line) (find test of_node))) (λ child. has_line (line ∷ of_node) child ≡ true)) [
      | true ↦ or_left (line.node == line.node) (has_line of_node line.node) (eq-eqb line.node line.node refl)
      | false ↦ later (option_map (λ l. l.node) (find test of_node)) line of_node (found-line test of_node)
    ]

module _ (lines : List (List BillLine)) (rank : ℕ → ℕ) (ranked : Falls lines rank) (target : ℕ) where
  rest_same : (f g : ℕ → List ℕ) (of_node : List BillLine) (child : Option ℕ) → IfSome child (λ c. has_line of_node c ≡ true) → ((c : ℕ) → has_line of_node c ≡ true → f c ≡ g c) → option_map_or f child [] ≡ option_map_or g child []
  rest_same f g of_node None line same = refl
  rest_same f g of_node (Some c) line same = same c line

  -- a longer chain is the same
  chain-longer : (k node : ℕ) → rank node < k → chain_of_nodes_within lines (suc k) node target ≡ chain_of_nodes_within lines k node target
  unfolding chain_of_nodes_within
  chain-longer zero node h = absurd (omega arith)
  chain-longer (suc k) node h =
      ap (λ rest. if node == target then node ∷ [] else node ∷ rest)
      (rest_same (λ c. chain_of_nodes_within lines (suc k) c target) (λ c. chain_of_nodes_within lines k c target) (lines_of_node lines node) (next_node_to lines node target) (found-line (λ line. is_node_or_reaches lines line.node target) (lines_of_node lines node))
      (λ c line. let lower = ranked.falls node c line in chain-longer k c (omega arith)))

  by_next : (b : Bool) (node : ℕ) (f : ℕ → List ℕ) (next : Option ℕ) → (if b then node ∷ [] else node ∷ option_map_or f next []) ≡ node ∷ option_map_or f (if b then None else next) []
  by_next true node f next = refl
  by_next false node f next = refl

  chain_within-suc : (k node : ℕ) → chain_of_nodes_within lines (suc k) node target ≡ node ∷ option_map_or (λ c. chain_of_nodes_within lines k c target) (if node == target then None else next_node_to lines node target) []
  unfolding chain_of_nodes_within
  chain_within-suc k node = by_next (node == target) node (λ c. chain_of_nodes_within lines k c target) (next_node_to lines node target)

  next_line : (b : Bool) (node : ℕ) → IfSome (if b then None else next_node_to lines node target) (λ c. is_line_between lines node c ≡ true)
  next_line true node = tt
  next_line false node = found-line (λ line. is_node_or_reaches lines line.node target) (lines_of_node lines node)

  -- the chain goes from each node to the next
  pub goes_by_next : GoesByNext lines target
  goes_by_next node =
      ap (λ k. chain_of_nodes_within lines k node target) (add-one (length lines))
      ∙ chain_within-suc (length lines) node
      ∙ ap (λ rest. node ∷ rest)
      (rest_same (λ c. chain_of_nodes_within lines (length lines) c target) (λ c. chain_of_nodes lines c target) (lines_of_node lines node) (if node == target then None else next_node_to lines node target) (next_line (node == target) node)
      (λ c line.
      let lower = ranked.falls node c line in
      let low = ranked.within node c line in
      sym (ap (λ k. chain_of_nodes_within lines k c target) (add-one (length lines)) ∙ chain-longer (length lines) c (omega arith))))

pub some_weaker : (P Q : ℕ → Type 0) → ((n : ℕ) → P n → Q n) → (found : Option ℕ) → IfSome found P → IfSome found Q
some_weaker P Q f None h = tt
some_weaker P Q f (Some n) h = f n h
