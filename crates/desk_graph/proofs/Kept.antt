-- What a bill keeps, and what edits do to it.
use Rattle.std.proofs.Common.{◌≡◌, ℕ, ◌+◌, ◌-◌, ◌<◌, ◌≤◌, true, false, not, ◌==◌, List, [], ◌∷◌, ◌++◌, length, get_or, set, refl, sym, ap, ◌∙◌, subst, inl, inr, Equal, arith}
use Rattle.std.specs.Ordering.{is_eq}
use Rattle.std.proofs.lemmas.Bool.{both_ways, cases_eq, cases_lt, ne_eqb}
use Rattle.std.proofs.lemmas.Cmp.{nat_list_cmp_total, tied_back, tied_itself}
use Rattle.std.proofs.lemmas.List.{get_or_append_left, get_or_at, get_or_default, length-set, length_push}
use Rattle.std.proofs.lemmas.List.Folds.{list_any_at}
use Rattle.std.proofs.lemmas.List.Sums.{count_by-le-length, length-filter, sum_by-set, sum_by_push}
use Rattle.desk_graph.specs.declared.line.BillLine.{BillLine}
use Rattle.desk_graph.specs.Graph.{AreUsers, IsByLabel, count_at, has_line, is_line_between, label_cmp, label_of, line_count, lines_of_node}
use Rattle.desk_graph.specs.Bill.{IsBillGraph}
use Rattle.desk_graph.specs.Edits.{is_taken, with_line_of_node, without_line_of_node}
use Rattle.desk_graph.specs.Order.{AreBothEnds, IsInOrder, IsSwept}
use Rattle.desk_graph.proofs.Ends.{has-with, has-without, has_node_there, lines_of-more, lines_of-other, lines_of-same, user_is, with-other, with-same, without-other, without-same}
use Rattle.desk_graph.proofs.Labels.{by_label-more, by_label-with, by_label-without}
use Rattle.desk_graph.proofs.Ordered.{AddsLine, order_falls, order_swept, rank}
use Rattle.desk_graph.specs.Reaches.{Falls}
use Rattle.desk_graph.proofs.Reached.{no_cycle}

-- no two nodes have one label
abbrev pub AreUnique : List (List ℕ) → Type 0
AreUnique labels = (a b : ℕ) → a < length labels → b < length labels → label_cmp (label_of labels a) (label_of labels b) ≡ Equal → a ≡ b

module _ (labels : List (List ℕ)) (lines users : List (List BillLine)) (ends : AreBothEnds labels lines users) where
  -- lines lead to nodes, and so do users
  pub child_there : (parent child : ℕ) → is_line_between lines parent child ≡ true → child < length labels
  child_there parent child e = omega (arith, has_node_there users child parent (user_is lines child (lines_of_node users child) (ends.agree child) parent ∙ e), ends.users_size)

  pub user_there : (child parent : ℕ) → has_line (lines_of_node users child) parent ≡ true → parent < length labels
  user_there child parent e = omega (arith, has_node_there lines parent child (sym (user_is lines child (lines_of_node users child) (ends.agree child) parent) ∙ e), ends.lines_size)

  module _ (unique : AreUnique labels) (parent child count : ℕ) (low : parent < length labels) (there : child < length labels) where
    abbrev new_lines : List (List BillLine)
    new_lines = set lines parent (with_line_of_node labels (record { node = child; count = count }) (lines_of_node lines parent))

    abbrev new_users : List BillLine
    new_users = with_line_of_node labels (record { node = parent; count = count }) (lines_of_node users child)

    at_parent : lines_of_node new_lines parent ≡ with_line_of_node labels (record { node = child; count = count }) (lines_of_node lines parent)
    at_parent = lines_of-same lines parent (with_line_of_node labels (record { node = child; count = count }) (lines_of_node lines parent)) (omega (arith, ends.lines_size))

    at_other : (node : ℕ) → (node ≡ parent → ⊥) → lines_of_node new_lines node ≡ lines_of_node lines node
    at_other node other = lines_of-other lines parent node (with_line_of_node labels (record { node = child; count = count }) (lines_of_node lines parent)) other

    -- the users of the child with the new line
    pub users-with : AreUsers new_lines child new_users
    users-with node =
        elim (cases_eq node parent) [
          | inl same ↦
              subst (λ n. count_at new_users n ≡ count_at (lines_of_node new_lines n) child) (sym same)
              (with-same (record { node = parent; count = count }) labels (lines_of_node users child) ∙ sym (ap (λ l. count_at l child) at_parent ∙ with-same (record { node = child; count = count }) labels (lines_of_node lines parent)))
          | inr other ↦
              with-other (record { node = parent; count = count }) labels node (ne_eqb parent node (λ e. other (sym e))) (lines_of_node users child)
              ∙ ends.agree child node ∙ sym (ap (λ l. count_at l child) (at_other node other))
        ]

    pub by_user-with : IsByLabel labels new_users
    by_user-with =
        by_label-with labels (record { node = parent; count = count }) (lines_of_node users child) (ends.by_user child)
        (λ node e same. unique parent node low (user_there child node e) same)

    by_label-new : (node : ℕ) → IsByLabel labels (lines_of_node new_lines node)
    by_label-new node =
        elim (cases_eq node parent) [
          | inl same ↦
              subst (λ n. IsByLabel labels (lines_of_node new_lines n)) (sym same)
              (subst (IsByLabel labels) (sym at_parent)
              (by_label-with labels (record { node = child; count = count }) (lines_of_node lines parent) (ends.by_label parent) (λ other e tied. unique child other there (child_there parent other e) tied)))
          | inr other ↦ subst (IsByLabel labels) (sym (at_other node other)) (ends.by_label node)
        ]

    other_users : (node : ℕ) → (node ≡ child → ⊥) → AreUsers new_lines node (lines_of_node users node)
    other_users node other user =
        ends.agree node user
        ∙ elim (cases_eq user parent) [
          | inl same ↦
              subst (λ n. count_at (lines_of_node lines n) node ≡ count_at (lines_of_node new_lines n) node) (sym same)
              (sym (ap (λ l. count_at l node) at_parent ∙ with-other (record { node = child; count = count }) labels node (ne_eqb child node (λ e. other (sym e))) (lines_of_node lines parent)))
          | inr away ↦ sym (ap (λ l. count_at l node) (at_other user away))
        ]

    -- both ends with the new line
    pub ends-with : (of_child : List BillLine) → AreUsers new_lines child of_child → IsByLabel labels of_child → AreBothEnds labels new_lines (set users child of_child)
    ends-with of_child agree by_user =
        let same_list = lines_of-same users child of_child (omega (arith, ends.users_size)) in record {
          lines_size = length-set lines parent (with_line_of_node labels (record { node = child; count = count }) (lines_of_node lines parent)) ∙ ends.lines_size;
          users_size = length-set users child of_child ∙ ends.users_size;
          agree = λ node.
              elim (cases_eq node child) [
                | inl same ↦ subst (λ n. AreUsers new_lines n (lines_of_node (set users child of_child) n)) (sym same) (subst (AreUsers new_lines child) (sym same_list) agree)
                | inr other ↦ subst (AreUsers new_lines node) (sym (lines_of-other users child node of_child other)) (other_users node other)
              ];
          by_label = by_label-new;
          by_user = λ node.
              elim (cases_eq node child) [
                | inl same ↦ subst (λ n. IsByLabel labels (lines_of_node (set users child of_child) n)) (sym same) (subst (IsByLabel labels) (sym same_list) by_user)
                | inr other ↦ subst (IsByLabel labels) (sym (lines_of-other users child node of_child other)) (ends.by_user node)
              ];
        }

    -- the new line is all that is added
    pub adds-with : AddsLine lines new_lines parent child
    unfolding AddsLine
    adds-with x y e =
        elim (cases_eq x parent) [
          | inl same ↦
              let at = subst (λ n. has_line (lines_of_node new_lines n) y ≡ true) same e in
              elim (has-with (record { node = child; count = count }) labels (lines_of_node lines parent) y (subst (λ l. has_line l y ≡ true) at_parent at)) [
                | inl old ↦ inl (subst (λ n. is_line_between lines n y ≡ true) (sym same) old)
                | inr new ↦ inr (sym same, new)
              ]
          | inr other ↦ inl (subst (λ l. has_line l y ≡ true) (at_other x other) e)
        ]

  module _ (parent child : ℕ) (low : parent < length labels) (there : child < length labels) where
    abbrev less_lines : List (List BillLine)
    less_lines = set lines parent (without_line_of_node child (lines_of_node lines parent))

    abbrev less_users : List (List BillLine)
    less_users = set users child (without_line_of_node parent (lines_of_node users child))

    less_parent : lines_of_node less_lines parent ≡ without_line_of_node child (lines_of_node lines parent)
    less_parent = lines_of-same lines parent (without_line_of_node child (lines_of_node lines parent)) (omega (arith, ends.lines_size))

    less_other : (node : ℕ) → (node ≡ parent → ⊥) → lines_of_node less_lines node ≡ lines_of_node lines node
    less_other node other = lines_of-other lines parent node (without_line_of_node child (lines_of_node lines parent)) other

    less_child : lines_of_node less_users child ≡ without_line_of_node parent (lines_of_node users child)
    less_child = lines_of-same users child (without_line_of_node parent (lines_of_node users child)) (omega (arith, ends.users_size))

    less_away : (node : ℕ) → (node ≡ child → ⊥) → lines_of_node less_users node ≡ lines_of_node users node
    less_away node other = lines_of-other users child node (without_line_of_node parent (lines_of_node users child)) other

    pub users-without : AreUsers less_lines child (without_line_of_node parent (lines_of_node users child))
    users-without node =
        elim (cases_eq node parent) [
          | inl same ↦
              subst (λ n. count_at (without_line_of_node parent (lines_of_node users child)) n ≡ count_at (lines_of_node less_lines n) child) (sym same)
              (without-same parent (lines_of_node users child) ∙ sym (ap (λ l. count_at l child) less_parent ∙ without-same child (lines_of_node lines parent)))
          | inr other ↦
              without-other parent node (ne_eqb parent node (λ e. other (sym e))) (lines_of_node users child)
              ∙ ends.agree child node ∙ sym (ap (λ l. count_at l child) (less_other node other))
        ]

    away-without : (node : ℕ) → (node ≡ child → ⊥) → AreUsers less_lines node (lines_of_node users node)
    away-without node other user =
        ends.agree node user
        ∙ elim (cases_eq user parent) [
          | inl same ↦
              subst (λ n. count_at (lines_of_node lines n) node ≡ count_at (lines_of_node less_lines n) node) (sym same)
              (sym (ap (λ l. count_at l node) less_parent ∙ without-other child node (ne_eqb child node (λ e. other (sym e))) (lines_of_node lines parent)))
          | inr away ↦ sym (ap (λ l. count_at l node) (less_other user away))
        ]

    -- both ends without the line
    pub ends-without : AreBothEnds labels less_lines less_users
    ends-without = record {
      lines_size = length-set lines parent (without_line_of_node child (lines_of_node lines parent)) ∙ ends.lines_size;
      users_size = length-set users child (without_line_of_node parent (lines_of_node users child)) ∙ ends.users_size;
      agree = λ node.
          elim (cases_eq node child) [
            | inl same ↦ subst (λ n. AreUsers less_lines n (lines_of_node less_users n)) (sym same) (subst (AreUsers less_lines child) (sym less_child) users-without)
            | inr other ↦ subst (AreUsers less_lines node) (sym (less_away node other)) (away-without node other)
          ];
      by_label = λ node.
          elim (cases_eq node parent) [
            | inl same ↦ subst (λ n. IsByLabel labels (lines_of_node less_lines n)) (sym same) (subst (IsByLabel labels) (sym less_parent) (by_label-without labels child (lines_of_node lines parent) (ends.by_label parent)))
            | inr other ↦ subst (IsByLabel labels) (sym (less_other node other)) (ends.by_label node)
          ];
      by_user = λ node.
          elim (cases_eq node child) [
            | inl same ↦ subst (λ n. IsByLabel labels (lines_of_node less_users n)) (sym same) (subst (IsByLabel labels) (sym less_child) (by_label-without labels parent (lines_of_node users child) (ends.by_user child)))
            | inr other ↦ subst (IsByLabel labels) (sym (less_away node other)) (ends.by_user node)
          ];
    }

    pub fewer : (x y : ℕ) → is_line_between less_lines x y ≡ true → is_line_between lines x y ≡ true
    fewer x y e =
        elim (cases_eq x parent) [
          | inl same ↦
              let at = subst (λ n. has_line (lines_of_node less_lines n) y ≡ true) same e in
              subst (λ n. is_line_between lines n y ≡ true) (sym same) (has-without child (lines_of_node lines parent) y (subst (λ l. has_line l y ≡ true) less_parent at))
          | inr other ↦ subst (λ l. has_line l y ≡ true) (less_other x other) e
        ]

  -- both ends with a new node
  pub ends-more : (label : List ℕ) → AreBothEnds (labels ++ label ∷ []) (lines ++ [] ∷ []) (users ++ [] ∷ [])
  ends-more label = record {
    lines_size = length_push lines [] ∙ ap (λ n. n + 1) ends.lines_size ∙ sym (length_push labels label);
    users_size = length_push users [] ∙ ap (λ n. n + 1) ends.users_size ∙ sym (length_push labels label);
    agree = λ node user. ap (λ l. count_at l user) (lines_of-more users node) ∙ ends.agree node user ∙ ap (λ l. count_at l node) (sym (lines_of-more lines user));
    by_label = λ node. subst (IsByLabel (labels ++ label ∷ [])) (sym (lines_of-more lines node)) (by_label-more labels label (lines_of_node lines node) (λ other e. child_there node other e) (ends.by_label node));
    by_user = λ node. subst (IsByLabel (labels ++ label ∷ [])) (sym (lines_of-more users node)) (by_label-more labels label (lines_of_node users node) (λ other e. user_there node other e) (ends.by_user node));
  }

-- the count after the lines of one node changed
pub count-set : (lines : List (List BillLine)) (node : ℕ) (of_node : List BillLine) → node < length lines → line_count (set lines node of_node) ≡ line_count lines + length of_node - length (lines_of_node lines node)
count-set lines node of_node h = omega (arith, sum_by-set (λ l. length l) lines node of_node [] h)

pub count-more : (lines : List (List BillLine)) → line_count (lines ++ [] ∷ []) ≡ line_count lines
count-more lines = sum_by_push (λ l. length l) lines [] ∙ omega arith

-- what was read from a list of lists
pub read_list : (lists : List (List BillLine)) (i : ℕ) (x : List BillLine) → i < length lists → x ≡ get_or lists i x → x ≡ lines_of_node lists i
read_list lists i x h e = e ∙ get_or_default lists i x [] h

-- what a bill keeps is what is told of it
pub is_bill : (labels : List (List ℕ)) (lines users : List (List BillLine)) (order : List ℕ) → AreBothEnds labels lines users → AreUnique labels → IsInOrder lines order → length labels ≤ 24576 → line_count lines ≤ 131072 → IsBillGraph (record { labels = labels; lines = lines })
is_bill labels lines users order ends unique ordered nodes fit =
    let children : (parent child : ℕ) → is_line_between lines parent child ≡ true → child < length lines = λ parent child e. omega (arith, child_there labels lines users ends parent child e, ends.lines_size) in record {
      unique = λ a b h l same. unique a b h l (ap (λ x. label_cmp (label_of labels a) x) (sym same) ∙ tied_itself nat_list_cmp_total (label_of labels a));
      sizes = ends.lines_size;
      children = child_there labels lines users ends;
      by_label = ends.by_label;
      acyclic = no_cycle lines (rank order) (order_falls lines order ordered children);
      ranked = (rank order, order_falls lines order ordered children);
      nodes = nodes;
      lines_fit = fit;
    }

-- a new label that no node has
pub unique-more : (labels : List (List ℕ)) (label : List ℕ) → AreUnique labels → is_taken labels label ≡ false → AreUnique (labels ++ label ∷ [])
unique-more labels label unique free a b h l same =
    let size = length_push labels label in
    let last : label_of (labels ++ label ∷ []) (length labels) ≡ label = get_or_at labels label [] [] (length labels) refl in
    let before : (k : ℕ) → k < length labels → label_of (labels ++ label ∷ []) k ≡ label_of labels k = λ k below. get_or_append_left labels (label ∷ []) [] k below in
    let none : (k : ℕ) → k < length labels → label_cmp (label_of labels k) label ≡ Equal → ⊥ = λ k below e.
    both_ways (is_taken labels label) free (list_any_at (λ kept. is_eq (label_cmp kept label)) labels k [] below (ap is_eq e)) in
    elim (cases_lt a (length labels)) [
      | inl below_a ↦
          elim (cases_lt b (length labels)) [
            | inl below_b ↦ unique a b below_a below_b (ap (λ x. label_cmp x (label_of labels b)) (sym (before a below_a)) ∙ ap (λ x. label_cmp (label_of (labels ++ label ∷ []) a) x) (sym (before b below_b)) ∙ same)
            | inr past_b ↦
                let is_b : b ≡ length labels = omega arith in
                absurd (none a below_a (ap (λ x. label_cmp x label) (sym (before a below_a)) ∙ ap (λ x. label_cmp (label_of (labels ++ label ∷ []) a) x) (sym (ap (label_of (labels ++ label ∷ [])) is_b ∙ last)) ∙ same))
          ]
      | inr past_a ↦
          let is_a : a ≡ length labels = omega arith in
          elim (cases_lt b (length labels)) [
            | inl below_b ↦
                absurd (none b below_b
                (tied_back nat_list_cmp_total label (label_of labels b)
                (ap (λ x. label_cmp x (label_of labels b)) (sym (ap (label_of (labels ++ label ∷ [])) is_a ∙ last)) ∙ ap (λ x. label_cmp (label_of (labels ++ label ∷ []) a) x) (sym (before b below_b)) ∙ same)))
            | inr past_b ↦ omega arith
          ]
    ]

-- the places fall along the lines of a bill
pub bill_falls : (labels : List (List ℕ)) (lines users : List (List BillLine)) (order : List ℕ) → AreBothEnds labels lines users → IsInOrder lines order → Falls lines (rank order)
bill_falls labels lines users order ends ordered = order_falls lines order ordered (λ parent child e. omega (arith, child_there labels lines users ends parent child e, ends.lines_size))

-- its order serves for a sweep
pub bill_swept : (labels : List (List ℕ)) (lines users : List (List BillLine)) (order : List ℕ) → AreBothEnds labels lines users → IsInOrder lines order → IsSwept users order
bill_swept labels lines users order ends ordered = order_swept lines users order ordered (ends.users_size ∙ sym ends.lines_size) ends.agree

pub length-without : (away : ℕ) (lines : List BillLine) → length (without_line_of_node away lines) ≤ length lines
length-without away lines = omega (arith, length-filter (λ line. not (line.node == away)) lines, count_by-le-length (λ line. not (line.node == away)) lines)
