-- A round as a pass over the links in any order: each adds its child's value at its parent's place.
use Rattle.std.proofs.Common.{◌≡◌, ℕ, zero, suc, ◌+◌, ◌<◌, ◌≤◌, true, false, cond, List, [], ◌∷◌, ◌++◌, length, map, get_or, set, take, refl, sym, ap, ◌∙◌, inl, inr, arith}
use Rattle.std.proofs.lemmas.Bool.{both_ways, cases_Bool, false≢true, or_cases}
use Rattle.std.proofs.lemmas.List.{append-nil, get_or-map, length-map, take_all}
use Rattle.std.proofs.lemmas.List.Elements.{filter_more}
use Rattle.desk_text.specs.Code.{same_code}
use Rattle.desk_text.proofs.CodeLemmas.{same_code_itself}
use Rattle.desk_model.proofs.Elements.{each, each_map}
use Rattle.desk_model.proofs.Kept.{same_code-true}
use Rattle.desk_model.specs.declared.rows.line.LineRow.{LineRow}
use Rattle.desk_findings.proofs.FindingRolls.{same_code_back}
use Rattle.desk_findings.specs.Reaches.{lines_of}
use Rattle.desk_totals.proofs.Distinct.{but_at, but_at-other, but_at-same, each_at, later_distinct, map_same, others, written}
use Rattle.desk_totals.specs.declared.link.Link.{Link}
use Rattle.desk_totals.specs.Linked.{are_codes_distinct, is_among}
use Rattle.desk_totals.specs.Places.{line_at, node_at}
use Rattle.desk_totals.specs.Rounds.{round, value_of, with_lines}

module _ {V : Type 0} (none : V) where
  value_of-here : (node : List ℕ) (nodes : List (List ℕ)) (value : V) (values : List V) (code : List ℕ) → same_code node code ≡ true → value_of none (node ∷ nodes) (value ∷ values) code ≡ value
  unfolding value_of
  value_of-here node nodes value values code e = rw e refl

  value_of-there : (node : List ℕ) (nodes : List (List ℕ)) (value : V) (values : List V) (code : List ℕ) → same_code node code ≡ false → value_of none (node ∷ nodes) (value ∷ values) code ≡ value_of none nodes values code
  unfolding value_of
  value_of-there node nodes value values code e = rw e refl

  -- the value of the code at a place is the value at that place
  pub value_of-at : (nodes : List (List ℕ)) (values : List V) (i : ℕ) → are_codes_distinct nodes ≡ true → i < length nodes → length values ≡ length nodes → value_of none nodes values (node_at nodes i) ≡ get_or values i none
  value_of-at [] values i e h size = absurd (omega arith)
  value_of-at (node ∷ nodes) [] i e h size = absurd (omega arith)
  value_of-at (node ∷ nodes) (value ∷ values) zero e h size = value_of-here node nodes value values node (same_code_itself node)
  value_of-at (node ∷ nodes) (value ∷ values) (suc i) e h size =
      value_of-there node nodes value values (node_at nodes i) (each_at (λ other. same_code node other ≡ false) nodes i (omega arith) (others node nodes e))
      ∙ value_of-at nodes values i (later_distinct node nodes e) (omega arith) (omega arith)

  -- the values of the nodes, one after the other, are the list itself
  pub map-value_of : (nodes : List (List ℕ)) (values : List V) → are_codes_distinct nodes ≡ true → length values ≡ length nodes → map (value_of none nodes values) nodes ≡ values
  map-value_of [] [] e size = refl
  map-value_of [] (value ∷ values) e size = absurd (omega arith)
  map-value_of (node ∷ nodes) [] e size = absurd (omega arith)
  map-value_of (node ∷ nodes) (value ∷ values) e size =
      rw (value_of-here node nodes value values node (same_code_itself node))
      (ap (λ vs. value ∷ vs)
      (map_same (value_of none (node ∷ nodes) (value ∷ values)) (value_of none nodes values) nodes
      (each_map (λ other. same_code node other ≡ false) (λ other. value_of none (node ∷ nodes) (value ∷ values) other ≡ value_of none nodes values other) (λ other apart. value_of-there node nodes value values other apart) nodes (others node nodes e))
      ∙ map-value_of nodes values (later_distinct node nodes e) (omega arith)))

  -- the value of a node in a list of what a function gives
  pub value_of-map : (f : List ℕ → V) (nodes : List (List ℕ)) (code : List ℕ) → is_among code nodes ≡ true → value_of none nodes (map f nodes) code ≡ f code
  value_of-map f [] code e = absurd (false≢true e)
  value_of-map f (node ∷ nodes) code e =
      elim (cases_Bool (same_code node code)) [
        | inl same ↦ value_of-here node nodes (f node) (map f nodes) code same ∙ ap f (same_code-true node code same)
        | inr other ↦
            value_of-there node nodes (f node) (map f nodes) code other
            ∙ value_of-map f nodes code
            (elim (or_cases (same_code code node) (is_among code nodes) e) [ inl here ↦ absurd (both_ways (same_code node code) other (same_code_back node code ∙ here)) | inr there ↦ there ])
      ]

module _ {V : Type 0} (add : V → ℕ → V → V) where
  -- one line more
  with_lines-more : (child : List ℕ → V) (value : V) (lines : List LineRow) (line : LineRow) → with_lines add child value (lines ++ line ∷ []) ≡ add (with_lines add child value lines) line.count (child line.child)
  unfolding with_lines
  with_lines-more child value [] line = refl
  with_lines-more child value (first ∷ lines) line = with_lines-more child (add value first.count (child first.child)) lines line

  with_lines-none : (child : List ℕ → V) (value : V) → with_lines add child value [] ≡ value
  unfolding with_lines
  with_lines-none child value = refl

  -- the values of a round after its first links
  pub part_round : V → List (List ℕ) → List Link → List V → List V → ℕ → List V
  part_round none nodes links own values i =
      map (λ code. with_lines add (value_of none nodes values) (value_of none nodes own code) (lines_of (take i (map (line_at nodes) links)) code)) nodes

  module _ (none : V) (nodes : List (List ℕ)) (distinct : are_codes_distinct nodes ≡ true) (links : List Link) (own values : List V) where
    -- a round begins with each node's own value
    pub part_round-none : length own ≡ length nodes → own ≡ part_round none nodes links own values 0
    unfolding part_round
    part_round-none size =
        sym (map-value_of none nodes own distinct size)
        ∙ map_same (value_of none nodes own) (λ code. with_lines add (value_of none nodes values) (value_of none nodes own code) []) nodes
        (each (λ code. value_of none nodes own code ≡ with_lines add (value_of none nodes values) (value_of none nodes own code) []) (λ code. sym (with_lines-none (value_of none nodes values) (value_of none nodes own code))) nodes)

    -- what it has after all links is the round
    pub part_round-all : (count : ℕ) (k : ℕ) → length links ≤ k → part_round none nodes links own values k ≡ round add none (record { nodes = nodes; material_count = count; lines = map (line_at nodes) links }) own values
    unfolding part_round round
    part_round-all count k h =
        rw (take_all k (map (line_at nodes) links) (omega (arith, length-map links (line_at nodes)))) refl

    -- each link adds its child's value at its parent's place
    pub part_round-more : (i : ℕ) (d : Link) (next : List V) → i < length links → (get_or links i d).parent < length nodes → (get_or links i d).child < length nodes → length values ≡ length nodes → next ≡ part_round none nodes links own values i →
        set next (get_or links i d).parent (add (get_or next (get_or links i d).parent none) (get_or links i d).count (get_or values (get_or links i d).child none)) ≡ part_round none nodes links own values (i + 1)
    unfolding part_round
    part_round-more i d next h parent child size so =
        let link : Link = get_or links i d in
        let line : LineRow = line_at nodes link in
        let here : List ℕ = node_at nodes link.parent in
        let lines : List LineRow = map (line_at nodes) links in
        let f : List ℕ → V = λ code. with_lines add (value_of none nodes values) (value_of none nodes own code) (lines_of (take i lines) code) in
        let more : List ℕ → V = λ code. with_lines add (value_of none nodes values) (value_of none nodes own code) (lines_of (take (i + 1) lines) code) in
        let new : V = add (get_or next link.parent none) link.count (get_or values link.child none) in
        let read : get_or next link.parent none ≡ f here = ap (λ vs. get_or vs link.parent none) so ∙ get_or-map f nodes link.parent [] none parent in
        let child_read : get_or values link.child none ≡ value_of none nodes values line.child = sym (value_of-at none nodes values link.child distinct child size) in
        let line_is : get_or lines i line ≡ line = get_or-map (line_at nodes) links i d line h in
        let within : i < length lines = omega (arith, h, length-map links (line_at nodes)) in
        let lines_more : (code : List ℕ) → lines_of (take (i + 1) lines) code ≡ lines_of (take i lines) code ++ cond (same_code here code) (line ∷ []) [] =
        λ code. filter_more (λ l. same_code l.parent code) lines i line within ∙ ap (λ l. lines_of (take i lines) code ++ cond (same_code l.parent code) (l ∷ []) []) line_is in
        let same : (code : List ℕ) → same_code here code ≡ true → new ≡ more code =
        λ code e.
        ap (λ v. add v link.count (get_or values link.child none)) (read ∙ ap f (same_code-true here code e))
        ∙ ap (λ v. add (f code) link.count v) child_read
        ∙ sym (ap (with_lines add (value_of none nodes values) (value_of none nodes own code)) (lines_more code ∙ ap (λ b. lines_of (take i lines) code ++ cond b (line ∷ []) []) e)
        ∙ with_lines-more (value_of none nodes values) (value_of none nodes own code) (lines_of (take i lines) code) line) in
        let other : (code : List ℕ) → same_code here code ≡ false → f code ≡ more code =
        λ code e.
        sym (ap (with_lines add (value_of none nodes values) (value_of none nodes own code)) (lines_more code ∙ ap (λ b. lines_of (take i lines) code ++ cond b (line ∷ []) []) e ∙ append-nil (lines_of (take i lines) code))) in
        ap (λ vs. set vs link.parent new) so
        ∙ written f nodes link.parent new distinct parent
        ∙ map_same (but_at f here new) more nodes
        (each (λ code. but_at f here new code ≡ more code)
        (λ code. elim (cases_Bool (same_code here code)) [ inl e ↦ but_at-same f here new code e ∙ same code e | inr e ↦ but_at-other f here new code e ∙ other code e ])
        nodes)
