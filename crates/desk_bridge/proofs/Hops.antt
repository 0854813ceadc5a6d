-- As many marks as findings, and the hops lead the way of the chains.
use Rattle.std.proofs.Common.{◌≡◌, ℕ, zero, suc, ◌+◌, ◌<◌, ◌≤◌, Bool, true, false, cond, ◌==◌, List, [], ◌∷◌, ◌++◌, length, find, map, sum_by, Option, Some, None, IfSome, option_map, unwrap_or, refl, sym, ap, ◌∙◌, subst, inl, inr}
use Rattle.std.specs.Prelude.{if◌then◌else◌}
use Rattle.std.specs.List.{AllByRecursion, flat_map, list_any, range_with_len}
use Rattle.std.specs.Option.{option_map_or}
use Rattle.std.proofs.lemmas.Bool.{and_parts, both_ways, cases_Bool, eq-eqb, eqb-true, false_from_ne_true}
use Rattle.std.proofs.lemmas.List.{length-map}
use Rattle.desk_graph.specs.declared.line.BillLine.{BillLine}
use Rattle.desk_graph.specs.Graph.{Graph, label_of, lines_of_node as node_lines}
use Rattle.desk_rollup.proofs.Counts.{times}
use Rattle.desk_rollup.proofs.Lists.{each_line, find_same}
use Rattle.desk_rollup.proofs.MarkCount.{once_once}
use Rattle.desk_rollup.proofs.Ranked.{gathered-step}
use Rattle.desk_rollup.specs.Chain.{hop_chain as node_chain, next_hop as node_next, way}
use Rattle.desk_rollup.specs.Numbers.{has, mark_numbers}
use Rattle.desk_rollup.specs.Plan.{AreRolledUp}
use Rattle.desk_rollup.specs.Rolled.{numbers_below, mark_count, mark_numbers_below}
use Rattle.desk_rollup.specs.Values.{KeptValues, OwnValues, own_at}
use Rattle.desk_model.specs.Lists.{IsOrdered, Lists, is_kept}
use Rattle.desk_model.proofs.Elements.{any_of_all, any_same, each_map}
use Rattle.desk_findings.specs.Chain.{chain}
use Rattle.desk_findings.specs.Findings.{Finding, finding_count, findings_at, is_in, own_findings, same_finding}
use Rattle.desk_findings.specs.Reaches.{is_or_reaches, lines_of}
use Rattle.desk_findings.proofs.Bill.{has_children}
use Rattle.desk_findings.proofs.Children.{children_kept}
use Rattle.desk_findings.proofs.FindingsOnce.{same_finding-true}
use Rattle.desk_findings.specs.Bill.{IsRight}
use Rattle.desk_findings.specs.Holders.{holder, next_of, way_within}
use Rattle.desk_findings.specs.Numbering.{AreNumbered, has_numbered, is_found}
use Rattle.desk_bridge.specs.Bridge.{IsBridge}
use Rattle.desk_bridge.specs.RollUps.{AreOwnMarks}
use Rattle.desk_bridge.proofs.Bridges.{ends_alike, labels_of}
use Rattle.desk_bridge.proofs.RolledAlike.{bill, find_lines, marked}
use Rattle.desk_findings.proofs.Holders.{held, own_held, way-is_chain}
use Rattle.desk_findings.proofs.Numbering.{as_many, counted, each_found, kept_label, same_itself}

-- what a search finds
find_if : (P : ℕ → Type 0) (test : BillLine → Bool) (xs : List BillLine) → AllByRecursion (λ line. test line ≡ true → P line.node) xs → IfSome (option_map (λ line. line.node) (find test xs)) P
find_if P test [] a = tt
find_if P test (x ∷ xs) a =
    elim (test x) as (λ b. test x ≡ b → IfSome (option_map (λ line. line.node) (cond b (Some x) (find test xs))) P) [
      | true ↦ λ e. a.0 e
      | false ↦ λ e. find_if P test xs a.1
    ] refl

-- the label of a node is kept
pub label_kept : (t : Lists) → IsRight t → (g : Graph) → IsBridge t g → (node : ℕ) → node < length g.labels → is_kept t (label_of g.labels node) ≡ true
label_kept t right g bridge node inside = kept_label t g.labels (labels_of t g bridge) node inside

module _ (t : Lists) (right : IsRight t) (g : Graph) (bridge : IsBridge t g) (ordered : IsOrdered t) (number : Finding → ℕ) (numbered : AreNumbered t number) where
  abbrev code_of : ℕ → List ℕ
  code_of node = label_of g.labels node

  module _ (own : ℕ → OwnValues) (owned : AreOwnMarks t g number own) where
    pub marks_as_many : (node : ℕ) → node < length g.labels → length (mark_numbers_below g.lines own node) ≡ length (findings_at t (code_of node))
    marks_as_many node inside =
        as_many t ordered (bill t right g bridge) right.apart number numbered (code_of node) (mark_numbers_below g.lines own node)
        (λ n.
        subst (λ ns. times n ns ≤ 1) (sym (gathered-step g.lines bridge.bill.ranked.0 bridge.bill.ranked.1 (λ m. mark_numbers (own m).marks) node))
        (once_once n (mark_numbers (own node).marks ++ flat_map (λ line. numbers_below g.lines (λ m. mark_numbers (own m).marks) line.node) (node_lines g.lines node))))
        (marked t right g bridge ordered number own owned node inside)

    lines_as_many : (node : ℕ) → node < length g.labels → length (node_lines g.lines node) ≡ length (lines_of t.lines (code_of node))
    lines_as_many node inside =
        sym (length-map (node_lines g.lines node) (λ line. (code_of line.node, line.count)))
        ∙ ap length (ends_alike t g bridge node inside)
        ∙ length-map (lines_of t.lines (code_of node)) (λ line. (line.child, line.count))

    pub all_marks : mark_count g.lines own ≡ finding_count t
    all_marks =
        ap (λ n. sum_by (λ node. if length (node_lines g.lines node) == 0 then 0 else length (mark_numbers_below g.lines own node)) (range_with_len 0 n)) bridge.bill.sizes
        ∙ counted t ordered right g.labels (labels_of t g bridge) (λ node. length (node_lines g.lines node)) (λ node. length (mark_numbers_below g.lines own node)) lines_as_many marks_as_many

  -- a finding is found by its number
  module _ (finding : Finding) (there : is_found t finding ≡ true) where
    test_same : (other : Finding) → is_found t other ≡ true → (number other == number finding) ≡ same_finding finding other
    test_same other also =
        elim (cases_Bool (number other == number finding)) [
          | inl same ↦ same ∙ sym (subst (λ f. same_finding finding f ≡ true) (numbered finding other there also (sym (eqb-true (number other) (number finding) same))) (same_itself finding))
          | inr differs ↦
              differs
              ∙ sym (false_from_ne_true (same_finding finding other) (λ same.
              both_ways (number other == number finding) differs (eq-eqb (number other) (number finding) (sym (ap number (same_finding-true finding other same))))))
        ]

    by_number : (found : List Finding) → AllByRecursion (λ other. is_found t other ≡ true) found → has_numbered number found (number finding) ≡ is_in finding found
    by_number found a = any_same (λ other. number other == number finding) (same_finding finding) found (each_map (λ other. is_found t other ≡ true) (λ other. (number other == number finding) ≡ same_finding finding other) test_same found a)

    at_number : (code : List ℕ) → has_numbered number (findings_at t code) (number finding) ≡ is_in finding (findings_at t code)
    at_number code = by_number (findings_at t code) (each_found t ordered (bill t right g bridge) code)

    own_number : (code : List ℕ) → has_numbered number (own_findings t code) (number finding) ≡ is_in finding (own_findings t code)
    own_number code =
        by_number (own_findings t code)
        (each_map (λ other. (q : Finding → Bool) → q other ≡ true → list_any q (own_findings t code) ≡ true) (λ other. is_found t other ≡ true)
        (λ other f. let here = f (same_finding other) (same_itself other) in subst (λ c. is_in other (own_findings t c) ≡ true) (own_held t other code here) here)
        (own_findings t code) (any_of_all (own_findings t code)))

  module _ (kept : KeptValues) (rolled : AreRolledUp g kept) (owned : AreOwnMarks t g number (own_at kept.owns)) (finding : Finding) where
    found_of : (code : List ℕ) → is_in finding (findings_at t code) ≡ true → is_found t finding ≡ true
    found_of code found = (and_parts (is_or_reaches t code (holder finding)) (is_found t finding) (sym (held t ordered (bill t right g bridge) finding code) ∙ found)).1

    unwrapped : (b : Bool) (o : Option BillLine) → unwrap_or (if b then Some None else option_map (λ line. Some line.node) o) None ≡ (if b then None else option_map (λ line. line.node) o)
    unwrapped true o = refl
    unwrapped false None = refl
    unwrapped false (Some line) = refl

    labelled : (b : Bool) (o : Option BillLine) → option_map code_of (if b then None else option_map (λ line. line.node) o) ≡ (if b then None else option_map (λ line. code_of line.node) o)
    labelled true o = refl
    labelled false None = refl
    labelled false (Some line) = refl

    -- where the hop of a finding leads: nowhere from its holder, else to the first child that has it
    hop_next : (node : ℕ) → node < length g.labels → is_found t finding ≡ true →
        node_next kept.rolled (number finding) node ≡ (if is_in finding (own_findings t (code_of node)) then None else option_map (λ line. line.node) (find (λ line. is_in finding (findings_at t (code_of line.node))) (node_lines g.lines node)))
    hop_next node inside there =
        ap (λ o. unwrap_or o None) ((rolled.rolled node inside).hops (number finding))
        ∙ unwrapped (has (mark_numbers (own_at kept.owns node).marks) (number finding)) (find (λ line. has (mark_numbers_below g.lines (own_at kept.owns) line.node) (number finding)) (node_lines g.lines node))
        ∙ ap (λ b. if b then None else option_map (λ line. line.node) (find (λ line. has (mark_numbers_below g.lines (own_at kept.owns) line.node) (number finding)) (node_lines g.lines node))) (owned node inside (number finding) ∙ own_number finding there (code_of node))
        ∙ ap (λ o. if is_in finding (own_findings t (code_of node)) then None else option_map (λ line. line.node) o)
        (find_same (λ line. has (mark_numbers_below g.lines (own_at kept.owns) line.node) (number finding)) (λ line. is_in finding (findings_at t (code_of line.node))) (node_lines g.lines node)
        (each_line (λ child. has (mark_numbers_below g.lines (own_at kept.owns) child) (number finding) ≡ is_in finding (findings_at t (code_of child))) (node_lines g.lines node)
        (λ child line. marked t right g bridge ordered number (own_at kept.owns) owned child (bridge.bill.children node child line) (number finding) ∙ at_number finding there (code_of child))))

    pub next_agrees : (node : ℕ) → node < length g.labels → is_in finding (findings_at t (code_of node)) ≡ true → option_map (label_of g.labels) (node_next kept.rolled (number finding) node) ≡ next_of t finding (code_of node)
    next_agrees node inside found =
        ap (option_map (label_of g.labels)) (hop_next node inside (found_of (code_of node) found))
        ∙ labelled (is_in finding (own_findings t (code_of node))) (find (λ line. is_in finding (findings_at t (code_of line.node))) (node_lines g.lines node))
        ∙ ap (λ o. if is_in finding (own_findings t (code_of node)) then None else o) (find_lines t right g bridge (λ code. is_in finding (findings_at t code)) node inside)

    -- the next node has the finding
    next_has : (node : ℕ) → node < length g.labels → is_found t finding ≡ true → IfSome (node_next kept.rolled (number finding) node) (λ child. (child < length g.labels) × (is_in finding (findings_at t (code_of child)) ≡ true))
    next_has node inside there =
        subst (λ o. IfSome o (λ child. (child < length g.labels) × (is_in finding (findings_at t (code_of child)) ≡ true))) (sym (hop_next node inside there)) (either (is_in finding (own_findings t (code_of node))))
      where
        either : (b : Bool) → IfSome (if b then None else option_map (λ line. line.node) (find (λ line. is_in finding (findings_at t (code_of line.node))) (node_lines g.lines node))) (λ child. (child < length g.labels) × (is_in finding (findings_at t (code_of child)) ≡ true))
        either true = tt
        either false =
            find_if (λ child. (child < length g.labels) × (is_in finding (findings_at t (code_of child)) ≡ true)) (λ line. is_in finding (findings_at t (code_of line.node))) (node_lines g.lines node)
            (each_line (λ child. is_in finding (findings_at t (code_of child)) ≡ true → (child < length g.labels) × (is_in finding (findings_at t (code_of child)) ≡ true)) (node_lines g.lines node)
            (λ child line found. (bridge.bill.children node child line, found)))

    node_way-suc : (k node : ℕ) → way kept.rolled (number finding) (suc k) node ≡ option_map_or (λ next. next ∷ way kept.rolled (number finding) k next) (node_next kept.rolled (number finding) node) []
    unfolding way
    node_way-suc k node = refl

    code_way-suc : (k : ℕ) (code : List ℕ) → way_within (next_of t finding) (suc k) code ≡ option_map_or (λ child. child ∷ way_within (next_of t finding) k child) (next_of t finding code) []
    unfolding way_within
    code_way-suc k code = refl

    way_agrees : (k node : ℕ) → node < length g.labels → is_in finding (findings_at t (code_of node)) ≡ true → map (label_of g.labels) (way kept.rolled (number finding) k node) ≡ way_within (next_of t finding) k (code_of node)
    unfolding way way_within
    way_agrees zero node inside found = refl
    way_agrees (suc k) node inside found =
        ap (map (label_of g.labels)) (node_way-suc k node)
        ∙ by_next (λ child. way_agrees k child) (node_next kept.rolled (number finding) node) (next_has node inside (found_of (code_of node) found))
        ∙ ap (λ o. option_map_or (λ child. child ∷ way_within (next_of t finding) k child) o []) (next_agrees node inside found)
        ∙ sym (code_way-suc k (code_of node))
      where
        by_next : ((child : ℕ) → child < length g.labels → is_in finding (findings_at t (code_of child)) ≡ true → map (label_of g.labels) (way kept.rolled (number finding) k child) ≡ way_within (next_of t finding) k (code_of child)) →
            (o : Option ℕ) → IfSome o (λ child. (child < length g.labels) × (is_in finding (findings_at t (code_of child)) ≡ true)) →
            map (label_of g.labels) (option_map_or (λ next. next ∷ way kept.rolled (number finding) k next) o []) ≡ option_map_or (λ child. child ∷ way_within (next_of t finding) k child) (option_map (label_of g.labels) o) []
        by_next later None h = refl
        by_next later (Some child) h = ap (λ rest. code_of child ∷ rest) (later child h.0 h.1)

    -- the chain of the hops is the chain to the holder
    pub chain_is : (node : ℕ) → node < length g.labels → is_in finding (findings_at t (code_of node)) ≡ true → map (label_of g.labels) (node_chain kept.rolled (number finding) node) ≡ chain t (code_of node) (holder finding)
    chain_is node inside found =
        let long : length kept.rolled ≡ length t.materials + length t.parts = rolled.rolled_size ∙ bridge.of.numbered.count in
        ap (λ rest. code_of node ∷ rest) (way_agrees (length kept.rolled) node inside found)
        ∙ ap (λ n. code_of node ∷ way_within (next_of t finding) n (code_of node)) long
        ∙ way-is_chain t ordered (bill t right g bridge) finding (has_children t (children_kept t right.children)) (next_of t finding) (λ code at has. refl) (length t.materials) (code_of node) (label_kept t right g bridge node inside) found
