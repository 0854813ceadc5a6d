-- Lines in the order of the labels of their nodes.
use Rattle.std.proofs.Common.{◌≡◌, ℕ, ◌<◌, true, false, ◌==◌, List, [], ◌∷◌, ◌++◌, length, map, refl, sym, ap, ◌∙◌, subst, inl, inr, Ordering, Less, Equal, Greater}
use Rattle.std.specs.Ordering.{is_lt, ordering_reverse}
use Rattle.std.specs.Cmp.{IsTotalOrder}
use Rattle.std.specs.List.{AllByRecursion}
use Rattle.std.proofs.lemmas.Bool.{cases_Bool, eq-eqb, or_left, or_right}
use Rattle.std.proofs.lemmas.Cmp.{nat_list_cmp_total}
use Rattle.std.proofs.lemmas.List.{get_or_append_left}
use Rattle.desk_graph.specs.declared.line.BillLine.{BillLine}
use Rattle.desk_graph.specs.Graph.{IsByLabel, has_line, label_cmp, label_of}
use Rattle.desk_graph.specs.Edits.{inserted_by_label, with_line_of_node, without_line_of_node}
use Rattle.desk_graph.proofs.Ends.{entered_no, entered_yes, goes_here, replaced, replaced_node, with_no, with_yes}

total : IsTotalOrder label_cmp
total = nat_list_cmp_total

-- the label is less than those of all the nodes
abbrev pub AllAbove : List (List ℕ) → ℕ → List BillLine → Type 0
AllAbove labels node lines = AllByRecursion (λ later. label_cmp (label_of labels node) (label_of labels later.node) ≡ Less) lines

above-down : (labels : List (List ℕ)) (node other : ℕ) (lines : List BillLine) → label_cmp (label_of labels node) (label_of labels other) ≡ Less → AllAbove labels other lines → AllAbove labels node lines
above-down labels node other [] e a = tt
above-down labels node other (line ∷ lines) e a = (total.trans (label_of labels node) (label_of labels other) (label_of labels line.node) e a.0, above-down labels node other lines e a.1)

less_from_test : (o : Ordering) → is_lt o ≡ true → o ≡ Less
less_from_test Less e = refl
less_from_test Equal e = cc
less_from_test Greater e = cc

greater : (o : Ordering) → is_lt o ≡ false → (o ≡ Equal → ⊥) → o ≡ Greater
greater Less e apart = cc
greater Equal e apart = absurd (apart refl)
greater Greater e apart = refl

less_back : (labels : List (List ℕ)) (node other : ℕ) → is_lt (label_cmp (label_of labels node) (label_of labels other)) ≡ false → (label_cmp (label_of labels node) (label_of labels other) ≡ Equal → ⊥) → label_cmp (label_of labels other) (label_of labels node) ≡ Less
less_back labels node other e apart =
    total.antisymm (label_of labels other) (label_of labels node) ∙ ap ordering_reverse (greater (label_cmp (label_of labels node) (label_of labels other)) e apart)

module _ (labels : List (List ℕ)) where
  above-filter : (node away : ℕ) (lines : List BillLine) → AllAbove labels node lines → AllAbove labels node (without_line_of_node away lines)
  above-filter node away [] a = tt
  above-filter node away (line ∷ lines) a =
      elim (cases_Bool (line.node == away)) [
        | inl holds ↦ rw holds (above-filter node away lines a.1)
        | inr fails ↦ rw fails (a.0, above-filter node away lines a.1)
      ]

  -- a line less
  pub by_label-without : (away : ℕ) (lines : List BillLine) → IsByLabel labels lines → IsByLabel labels (without_line_of_node away lines)
  by_label-without away [] h = tt
  by_label-without away (line ∷ lines) h =
      elim (cases_Bool (line.node == away)) [
        | inl holds ↦ rw holds (by_label-without away lines h.1)
        | inr fails ↦ rw fails (above-filter line.node away lines h.0, by_label-without away lines h.1)
      ]

  module _ (new : BillLine) where
    above-replaced : (node : ℕ) (lines : List BillLine) → AllAbove labels node lines → AllAbove labels node (map (replaced new) lines)
    above-replaced node [] a = tt
    above-replaced node (line ∷ lines) a = (
      subst (λ n. label_cmp (label_of labels node) (label_of labels n) ≡ Less) (sym (replaced_node new line)) a.0,
      above-replaced node lines a.1,
    )

    by_label-replaced : (lines : List BillLine) → IsByLabel labels lines → IsByLabel labels (map (replaced new) lines)
    by_label-replaced [] h = tt
    by_label-replaced (line ∷ lines) h = (
      subst (λ n. AllAbove labels n (map (replaced new) lines)) (sym (replaced_node new line)) (above-replaced line.node lines h.0),
      by_label-replaced lines h.1,
    )

    above-entered : (node : ℕ) (lines : List BillLine) → label_cmp (label_of labels node) (label_of labels new.node) ≡ Less → AllAbove labels node lines → AllAbove labels node (inserted_by_label labels new lines)
    above-entered node [] e a = (e, tt)
    above-entered node (line ∷ lines) e a =
        elim (cases_Bool (goes_here new labels line)) [
          | inl holds ↦ subst (AllAbove labels node) (sym (entered_yes new labels line lines holds)) (e, a)
          | inr fails ↦ subst (AllAbove labels node) (sym (entered_no new labels line lines fails)) (a.0, above-entered node lines e a.1)
        ]

    by_label-entered : (lines : List BillLine) → IsByLabel labels lines → ((node : ℕ) → has_line lines node ≡ true → label_cmp (label_of labels new.node) (label_of labels node) ≡ Equal → ⊥) → IsByLabel labels (inserted_by_label labels new lines)
    by_label-entered [] h apart = (tt, tt)
    by_label-entered (line ∷ lines) h apart =
        elim (cases_Bool (goes_here new labels line)) [
          | inl holds ↦
              let less = less_from_test (label_cmp (label_of labels new.node) (label_of labels line.node)) holds in
              subst (IsByLabel labels) (sym (entered_yes new labels line lines holds)) ((less, above-down labels new.node line.node lines less h.0), h)
          | inr fails ↦
              let less = less_back labels new.node line.node fails (apart line.node (or_left (line.node == line.node) (has_line lines line.node) (eq-eqb line.node line.node refl))) in
              subst (IsByLabel labels) (sym (entered_no new labels line lines fails))
              (above-entered line.node lines less h.0, by_label-entered lines h.1 (λ node e. apart node (or_right (line.node == node) (has_line lines node) e)))
        ]

    -- a new line, where no other node has its label
    pub by_label-with : (lines : List BillLine) → IsByLabel labels lines → ((node : ℕ) → has_line lines node ≡ true → label_cmp (label_of labels new.node) (label_of labels node) ≡ Equal → new.node ≡ node) → IsByLabel labels (with_line_of_node labels new lines)
    by_label-with lines h unique =
        elim (cases_Bool (has_line lines new.node)) [
          | inl holds ↦ subst (IsByLabel labels) (sym (with_yes new labels lines holds)) (by_label-replaced lines h)
          | inr fails ↦
              subst (IsByLabel labels) (sym (with_no new labels lines fails))
              (by_label-entered lines h (λ node e same. absurd (Rattle.std.proofs.lemmas.Bool.both_ways (has_line lines new.node) fails (subst (λ n. has_line lines n ≡ true) (sym (unique node e same)) e))))
        ]

-- one label more
label_of-more : (labels : List (List ℕ)) (label : List ℕ) (node : ℕ) → node < length labels → label_of (labels ++ label ∷ []) node ≡ label_of labels node
label_of-more labels label node h = get_or_append_left labels (label ∷ []) [] node h

above-more : (labels : List (List ℕ)) (label : List ℕ) (node : ℕ) (lines : List BillLine) → node < length labels → ((other : ℕ) → has_line lines other ≡ true → other < length labels) → AllAbove labels node lines → AllAbove (labels ++ label ∷ []) node lines
above-more labels label node [] h within a = tt
above-more labels label node (line ∷ lines) h within a =
    let there = within line.node (or_left (line.node == line.node) (has_line lines line.node) (eq-eqb line.node line.node refl)) in (
      rw (label_of-more labels label node h, label_of-more labels label line.node there) a.0,
      above-more labels label node lines h (λ other e. within other (or_right (line.node == other) (has_line lines other) e)) a.1,
    )

pub by_label-more : (labels : List (List ℕ)) (label : List ℕ) (lines : List BillLine) → ((other : ℕ) → has_line lines other ≡ true → other < length labels) → IsByLabel labels lines → IsByLabel (labels ++ label ∷ []) lines
by_label-more labels label [] within h = tt
by_label-more labels label (line ∷ lines) within h =
    let there = within line.node (or_left (line.node == line.node) (has_line lines line.node) (eq-eqb line.node line.node refl)) in
    let rest : (other : ℕ) → has_line lines other ≡ true → other < length labels = λ other e. within other (or_right (line.node == other) (has_line lines other) e) in
    (above-more labels label line.node lines there rest h.0, by_label-more labels label lines rest h.1)
