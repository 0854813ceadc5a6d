-- The nodes that are swept up from the nodes of the seeds are those that the edit affects.
use Rattle.std.proofs.Common.{◌≡◌, ℕ, zero, suc, ◌<◌, ◌⊎◌, true, ◌||◌, ◌==◌, Bool, List, length, None, refl, sym, ap, ◌∙◌, subst, inl, inr}
use Rattle.std.specs.Prelude.{nat_lt}
use Rattle.std.specs.List.{list_any}
use Rattle.std.proofs.lemmas.Bool.{and_from, and_parts, eq-eqb, eqb-true, false≢true, lt-ltb, ltb-true, or_cases, or_left, or_right}
use Rattle.desk_text.specs.Code.{same_code}
use Rattle.desk_model.specs.declared.edit.Edit.{Edit}
use Rattle.desk_model.specs.declared.rows.line.LineRow.{LineRow}
use Rattle.desk_model.specs.Effect.{with_edit_entered}
use Rattle.desk_model.specs.Lists.{Lists, is_kept}
use Rattle.desk_model.proofs.Elements.{any_gives, any_map, any_of_all, each, each_filter, each_from_all, each_map}
use Rattle.desk_model.proofs.Kept.{same_code-from, same_code-true}
use Rattle.desk_findings.specs.Reaches.{enough, is_or_reaches, lines_of, reaches, reaches_within}
use Rattle.desk_findings.proofs.Children.{children_kept}
use Rattle.desk_graph.specs.Graph.{Graph, label_of}
use Rattle.desk_graph.specs.Reaches.{AreAffected, has_node, is_node_affected as is_affected_node, is_node_or_reaches as node_is_or_reaches, node_reaches}
use Rattle.desk_graph.proofs.Reached.{affected-seed, any_node-in, any_node-out, same_test}
use Rattle.desk_rollup.specs.Plan.{AreDistinct}
use Rattle.desk_rollup.proofs.Counts.{once_distinct}
use Rattle.desk_rollup.proofs.Frame.{affected_had, affected_inside}
use Rattle.desk_rollup.proofs.Prepared.{affected_once}
use Rattle.desk_history.specs.Affected.{is_affected, seeds, seeds_of_new}
use Rattle.desk_history.specs.Sound.{IsConsistent}
use Rattle.desk_history.specs.Step.{kept_number}
use Rattle.desk_history.proofs.SoundClauses.{right_of}
use Rattle.desk_bridge.specs.Bridge.{IsBridge}
use Rattle.desk_bridge.specs.Seeds.{AreNodesOf}
use Rattle.desk_bridge.proofs.Bridges.{right_tables}
use Rattle.desk_bridge.proofs.Nodes.{node_of_taken}
use Rattle.desk_bridge.proofs.RolledAlike.{reached_agree}

-- what is reached is kept
reached_kept : (t : Lists) → IsConsistent t → (target : List ℕ) (k : ℕ) (code : List ℕ) → reaches_within t.lines k code target ≡ true → is_kept t target ≡ true
unfolding reaches_within
reached_kept t s target zero code e = absurd (false≢true e)
reached_kept t s target (suc k) code e =
    any_gives (λ line. same_code line.child target || reaches_within t.lines k line.child target) (lines_of t.lines code)
    (each_map (λ line. (is_kept t line.child ≡ true) × (same_code line.parent code ≡ true)) (λ line. (same_code line.child target || reaches_within t.lines k line.child target) ≡ true → is_kept t target ≡ true)
    (λ line kept at. by_line line kept.0 (reached_kept t s target k line.child) (or_cases (same_code line.child target) (reaches_within t.lines k line.child target) at)) (lines_of t.lines code)
    (each_filter (λ line. is_kept t line.child ≡ true) (λ line. same_code line.parent code) t.lines (each_from_all (λ line. is_kept t line.child) t.lines (children_kept t (right_of t s))))) e
  where
    by_line : (line : LineRow) → is_kept t line.child ≡ true → (reaches_within t.lines k line.child target ≡ true → is_kept t target ≡ true) → ((same_code line.child target ≡ true) ⊎ (reaches_within t.lines k line.child target ≡ true)) → is_kept t target ≡ true
    by_line line kept f (inl here) = subst (λ c. is_kept t c ≡ true) (same_code-true line.child target here) kept
    by_line line kept f (inr there) = f there

seeds_are : (t : Lists) (edit : Edit) → kept_number t edit ≡ None → seeds t edit ≡ seeds_of_new t edit
seeds_are t edit new = rw new refl

-- nodes among which each seed is: a seed that is reached is kept, and so it has a node
module _ (t : Lists) (edit : Edit) (r : IsConsistent (with_edit_entered t edit)) (g : Graph) (bridge : IsBridge (with_edit_entered t edit) g) (new : kept_number t edit ≡ None) (nodes : List ℕ)
    (covers : (seed : ℕ) → seed < length g.labels → list_any (same_code (label_of g.labels seed)) (seeds_of_new t edit) ≡ true → has_node nodes seed ≡ true) where
  -- a node whose code is a seed or reaches one is one of the nodes or reaches one
  pub into_nodes : (node : ℕ) → node < length g.labels → is_affected t edit (label_of g.labels node) ≡ true → is_affected_node g.lines nodes node ≡ true
  unfolding is_affected
  into_nodes node inside e =
      any_gives (λ seed. is_or_reaches (with_edit_entered t edit) (label_of g.labels node) seed) (seeds_of_new t edit)
      (each_map (λ code. (p : List ℕ → Bool) → p code ≡ true → list_any p (seeds_of_new t edit) ≡ true) (λ code. is_or_reaches (with_edit_entered t edit) (label_of g.labels node) code ≡ true → is_affected_node g.lines nodes node ≡ true)
      (λ code listed way. by_seed code listed (or_cases (same_code (label_of g.labels node) code) (reaches (with_edit_entered t edit) (label_of g.labels node) code) way)) (seeds_of_new t edit) (any_of_all (seeds_of_new t edit)))
      (ap (λ codes. list_any (λ seed. is_or_reaches (with_edit_entered t edit) (label_of g.labels node) seed) codes) (sym (seeds_are t edit new)) ∙ e)
    where
      at_seed : (seed : ℕ) → seed < length g.labels → (code : List ℕ) → label_of g.labels seed ≡ code → ((p : List ℕ → Bool) → p code ≡ true → list_any p (seeds_of_new t edit) ≡ true) → node_is_or_reaches g.lines node seed ≡ true → is_affected_node g.lines nodes node ≡ true
      at_seed seed there code is listed way =
          any_node-in (λ other. node_is_or_reaches g.lines node other) nodes seed
          (covers seed there (listed (same_code (label_of g.labels seed)) (same_code-from (label_of g.labels seed) code is))) way

      by_seed : (code : List ℕ) → ((p : List ℕ → Bool) → p code ≡ true → list_any p (seeds_of_new t edit) ≡ true) → ((same_code (label_of g.labels node) code ≡ true) ⊎ (reaches (with_edit_entered t edit) (label_of g.labels node) code ≡ true)) → is_affected_node g.lines nodes node ≡ true
      by_seed code listed (inl here) =
          at_seed node inside code (same_code-true (label_of g.labels node) code here) listed (or_left (node == node) (node_reaches g.lines node node) (eq-eqb node node refl))
      by_seed code listed (inr far) =
          let kept = reached_kept (with_edit_entered t edit) r code (enough (with_edit_entered t edit)) (label_of g.labels node) far in
          let found = node_of_taken g.labels code (bridge.of.numbered.taken code ∙ kept) in
          at_seed found.0 found.1 code found.2 listed
          (or_right (node == found.0) (node_reaches g.lines node found.0)
          (reached_agree (with_edit_entered t edit) (right_tables (with_edit_entered t edit) r) g bridge found.0 found.1 node inside ∙ subst (λ c. reaches (with_edit_entered t edit) (label_of g.labels node) c ≡ true) (sym found.2) far))

module _ (t : Lists) (edit : Edit) (r : IsConsistent (with_edit_entered t edit)) (g : Graph) (bridge : IsBridge (with_edit_entered t edit) g) (new : kept_number t edit ≡ None) (of_seeds : List ℕ) (are : AreNodesOf g.labels (seeds_of_new t edit) of_seeds) where
  seed_is : (seed : ℕ) → has_node of_seeds seed ≡ true → (nat_lt seed (length g.labels) ≡ true) × (list_any (same_code (label_of g.labels seed)) (seeds_of_new t edit) ≡ true)
  seed_is seed has = and_parts (nat_lt seed (length g.labels)) (list_any (same_code (label_of g.labels seed)) (seeds_of_new t edit)) (sym (are seed) ∙ has)

  pub seed_inside : (seed : ℕ) → has_node of_seeds seed ≡ true → seed < length g.labels
  seed_inside seed has = ltb-true seed (length g.labels) (seed_is seed has).0

  -- a node that is a seed or reaches one has a code that is a seed or reaches one
  from_nodes : (node : ℕ) → node < length g.labels → is_affected_node g.lines of_seeds node ≡ true → is_affected t edit (label_of g.labels node) ≡ true
  unfolding is_affected
  from_nodes node inside e =
      let found = any_node-out (λ seed. node_is_or_reaches g.lines node seed) of_seeds e in
      let there = seed_inside found.0 found.1 in
      let way : is_or_reaches (with_edit_entered t edit) (label_of g.labels node) (label_of g.labels found.0) ≡ true =
      elim (or_cases (node == found.0) (node_reaches g.lines node found.0) found.2) [
        | inl here ↦ or_left (same_code (label_of g.labels node) (label_of g.labels found.0)) (reaches (with_edit_entered t edit) (label_of g.labels node) (label_of g.labels found.0)) (same_code-from (label_of g.labels node) (label_of g.labels found.0) (ap (label_of g.labels) (eqb-true node found.0 here)))
        | inr far ↦
            or_right (same_code (label_of g.labels node) (label_of g.labels found.0)) (reaches (with_edit_entered t edit) (label_of g.labels node) (label_of g.labels found.0))
            (sym (reached_agree (with_edit_entered t edit) (right_tables (with_edit_entered t edit) r) g bridge found.0 there node inside) ∙ far)
      ] in
      ap (λ codes. list_any (λ seed. is_or_reaches (with_edit_entered t edit) (label_of g.labels node) seed) codes) (seeds_are t edit new)
      ∙ any_map (same_code (label_of g.labels found.0)) (λ seed. is_or_reaches (with_edit_entered t edit) (label_of g.labels node) seed) (seeds_of_new t edit)
      (each (λ seed. same_code (label_of g.labels found.0) seed ≡ true → is_or_reaches (with_edit_entered t edit) (label_of g.labels node) seed ≡ true)
      (λ seed same. subst (λ c. is_or_reaches (with_edit_entered t edit) (label_of g.labels node) c ≡ true) (same_code-true (label_of g.labels found.0) seed same) way) (seeds_of_new t edit)) (seed_is found.0 found.1).1

  -- the seeds are among their nodes
  pub seeds_in : (seed : ℕ) → seed < length g.labels → list_any (same_code (label_of g.labels seed)) (seeds_of_new t edit) ≡ true → has_node of_seeds seed ≡ true
  seeds_in seed there listed =
      are seed ∙ and_from (nat_lt seed (length g.labels)) (list_any (same_code (label_of g.labels seed)) (seeds_of_new t edit)) (lt-ltb seed (length g.labels) there) listed

  -- the nodes that are swept up, each once
  module _ (nodes : List ℕ) (swept : AreAffected g.lines of_seeds nodes) where
    pub distinct : AreDistinct nodes
    distinct = once_distinct nodes (affected_once g.lines of_seeds nodes swept)

    pub swept_affected : (node : ℕ) → node < length g.labels → has_node nodes node ≡ is_affected t edit (label_of g.labels node)
    swept_affected node inside =
        affected_had g.lines of_seeds nodes swept node
        ∙ same_test (is_affected_node g.lines of_seeds node) (is_affected t edit (label_of g.labels node)) (from_nodes node inside) (into_nodes t edit r g bridge new of_seeds seeds_in node inside)

    -- and the seeds are among them
    pub swept_seeds : (seed : ℕ) → seed < length g.labels → list_any (same_code (label_of g.labels seed)) (seeds_of_new t edit) ≡ true → has_node nodes seed ≡ true
    swept_seeds seed there listed =
        affected_had g.lines of_seeds nodes swept seed ∙ affected-seed g.lines bridge.bill.ranked.0 bridge.bill.ranked.1 of_seeds seed (seeds_in seed there listed)

    pub swept_inside : (node : ℕ) → has_node nodes node ≡ true → node < length g.labels
    swept_inside = affected_inside g bridge.bill of_seeds nodes seed_inside swept
