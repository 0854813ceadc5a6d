-- The own values of the nodes that an edit affects, by the tables after it.
use Rattle.std.proofs.Common.{◌≡◌, ℕ, ◌<◌, ◌≤◌, Bool, true, false, not, ◌&&◌, ◌==◌, List, [], ◌∷◌, filter, length, refl, sym, ap, ◌∙◌, subst, inl, inr, arith}
use Rattle.std.specs.List.{list_any}
use Rattle.std.proofs.lemmas.Bool.{and_from, and_parts, both_ways, cases_Bool, eqb-true, false_from_ne_true, not-true, not_from_false}
use Rattle.desk_text.specs.Code.{same_code}
use Rattle.desk_graph.specs.Bill.{IsBillGraph}
use Rattle.desk_graph.specs.Graph.{Graph, label_of}
use Rattle.desk_graph.specs.Reaches.{AreAffected, has_node}
use Rattle.desk_rollup.specs.Plan.{AreDistinct}
use Rattle.desk_rollup.specs.Values.{OwnValues, own_with}
use Rattle.desk_model.specs.declared.edit.Edit.{Edit}
use Rattle.desk_model.specs.Effect.{with_edit_entered, with_edit_made}
use Rattle.desk_model.specs.Lists.{Lists}
use Rattle.desk_findings.specs.Above.{content, is_above}
use Rattle.desk_findings.specs.Findings.{Finding, own_findings}
use Rattle.desk_findings.specs.Share.{share}
use Rattle.desk_findings.specs.Articles.{is_assembly}
use Rattle.desk_history.specs.Affected.{is_affected, seeds_of_new}
use Rattle.desk_history.specs.History.{PassesRows}
use Rattle.desk_history.specs.Sound.{IsConsistent, Sound}
use Rattle.desk_history.proofs.SoundSteps.{IsConsistent-entered, KeepsLimits-entered}
use Rattle.desk_tables.specs.Change.{with_change_made}
use Rattle.desk_tables.specs.declared.row_change.RowChange.{RowChange}
use Rattle.desk_tables.proofs.Accepting.{consistent_before_ticket}
use Rattle.desk_history.proofs.Unaffected.{stays}
use Rattle.desk_bridge.specs.AfterEdit.{AreRenewed, IsOwnOf, KeepsOwn}
use Rattle.desk_bridge.specs.Bridge.{IsBillOf, IsBridge}
use Rattle.desk_bridge.specs.Numbers.{AreNames, finding_number}
use Rattle.desk_bridge.specs.OwnAfter.{AreOwnAfter, AreOwnAt, changes_lines, stays_assembly}
use Rattle.desk_bridge.specs.Seeds.{AreNodesOf}
use Rattle.desk_bridge.proofs.Cycles.{fit_bill}
use Rattle.desk_bridge.proofs.SeedNodes.{distinct, seed_inside, swept_affected, swept_inside, swept_seeds}
use Rattle.desk_bridge.proofs.StaysAssembly.{keeps_own, no_seed}

-- the ticket changes no line, no candidate and nothing of own values
lines_made : (t : Lists) (edit : Edit) → (with_edit_made t edit).lines ≡ (with_edit_entered t edit).lines
unfolding with_edit_entered
lines_made t edit = refl

names_made : (t : Lists) (edit : Edit) (names : List (List ℕ)) → AreNames (with_edit_entered t edit) names → AreNames (with_edit_made t edit) names
unfolding with_edit_entered
names_made t edit names named = record { named = named.named; few = named.few; nameless = named.nameless }

own_entered : (t : Lists) (edit : Edit) (number : Finding → ℕ) (name : ℕ → List ℕ) (code : List ℕ) (own : OwnValues) → IsOwnOf (with_edit_made t edit) number name code own → IsOwnOf (with_edit_entered t edit) number name code own
unfolding with_edit_entered own_findings share content is_above
own_entered t edit number name code own e = record { weight = e.weight; marks = λ n. e.marks n; loads = λ n. e.loads n }

-- the lists with the change made
module _ (t : Lists) (edit : Edit) (s : Sound t) (passes : PassesRows t edit) (change : RowChange) (is_made : with_change_made t change ≡ with_edit_made t edit) (lists : Lists) (are : lists ≡ with_change_made t change) where
  pub consistent_after : IsConsistent lists
  consistent_after = subst IsConsistent (sym are) (consistent_before_ticket t edit s passes change is_made)

  pub few_after : length lists.lines ≤ 131072
  few_after = omega (arith, ap (λ l. length l.lines) (are ∙ is_made), ap length (lines_made t edit), (fit_bill (with_edit_entered t edit) (KeepsLimits-entered t edit passes).tables_fit).lines)

  pub named_after : (names : List (List ℕ)) → AreNames (with_edit_entered t edit) names → AreNames lists names
  named_after names named = subst (λ l. AreNames l names) (sym (are ∙ is_made)) (names_made t edit names named)

  pub own_at_after : (labels names : List (List ℕ)) (nodes : List ℕ) (owns : List OwnValues) → AreOwnAt lists labels names nodes owns → AreOwnAt (with_edit_entered t edit) labels names nodes owns
  own_at_after labels names nodes owns at = record {
    these = at.these;
    right = λ kept node has.
        own_entered t edit (finding_number labels names) (label_of names) (label_of labels node) (own_with owns kept node)
        (subst (λ l. IsOwnOf l (finding_number labels names) (label_of names) (label_of labels node) (own_with owns kept node)) (are ∙ is_made) (at.right kept node has));
  }

-- the lists as they stand
module _ (t : Lists) (s : Sound t) (lists : Lists) (are : lists ≡ t) where
  pub consistent_now : IsConsistent lists
  consistent_now = subst IsConsistent (sym are) s.consistent

  pub few_now : length lists.lines ≤ 131072
  few_now = omega (arith, ap (λ l. length l.lines) are, (fit_bill t s.limits.tables_fit).lines)

-- nodes that pass a test
had_filtered : (p : ℕ → Bool) (nodes : List ℕ) (node : ℕ) → has_node (filter p nodes) node ≡ (has_node nodes node && p node)
had_filtered p [] node = refl
had_filtered p (first ∷ nodes) node =
    elim (cases_Bool (first == node)) [
      | inl here ↦
          let one = eqb-true first node here in
          elim (cases_Bool (p first)) [
            | inl passes ↦ rw passes (rw here (sym (ap p (sym one) ∙ passes)))
            | inr fails ↦ rw fails (rw here (had_filtered p nodes node ∙ no_more (has_node nodes node) (p node) (ap p (sym one) ∙ fails)))
          ]
      | inr away ↦
          elim (cases_Bool (p first)) [
            | inl passes ↦ rw passes (rw away (had_filtered p nodes node))
            | inr fails ↦ rw fails (rw away (had_filtered p nodes node))
          ]
    ]
  where
    no_more : (a b : Bool) → b ≡ false → (a && b) ≡ b
    no_more true b e = refl
    no_more false b e = sym e

distinct_filtered : (p : ℕ → Bool) (nodes : List ℕ) → AreDistinct nodes → AreDistinct (filter p nodes)
distinct_filtered p [] d = tt
distinct_filtered p (first ∷ nodes) d =
    elim (cases_Bool (p first)) [
      | inl passes ↦ rw passes (had_filtered p nodes first ∙ ap (λ b. b && p first) d.0, distinct_filtered p nodes d.1)
      | inr fails ↦ rw fails (distinct_filtered p nodes d.1)
    ]

-- the nodes that are swept up from the seeds, and own values of them; the seeds and the nodes are lent as slices of what was made
module _ (t : Lists) (edit : Edit) (s : Sound t) (passes : PassesRows t edit) (g : Graph) (bill : IsBillGraph g) (of : IsBillOf (with_edit_entered t edit) g) (codes : List (List ℕ)) (codes_are : codes ≡ seeds_of_new t edit)
    (made_seeds seeds : List ℕ) (lent_seeds : seeds ≡ made_seeds) (are : AreNodesOf g.labels codes made_seeds) where
  r : IsConsistent (with_edit_entered t edit)
  r = IsConsistent-entered t edit s.consistent passes

  bridge : IsBridge (with_edit_entered t edit) g
  bridge = record { bill = bill; of = of }

  seeds_are : AreNodesOf g.labels (seeds_of_new t edit) seeds
  seeds_are = subst (λ list. AreNodesOf g.labels list seeds) codes_are (subst (AreNodesOf g.labels codes) (sym lent_seeds) are)

  pub seeds_inside : (node : ℕ) → has_node seeds node ≡ true → node < length g.labels
  seeds_inside = seed_inside t edit r g bridge passes.is_new seeds seeds_are

  module _ (made_nodes nodes : List ℕ) (lent_nodes : nodes ≡ made_nodes) (affected : AreAffected g.lines seeds made_nodes) where
    swept : AreAffected g.lines seeds nodes
    swept = subst (AreAffected g.lines seeds) (sym lent_nodes) affected

    pub nodes_inside : (node : ℕ) → has_node nodes node ≡ true → node < length g.labels
    nodes_inside = swept_inside t edit r g bridge passes.is_new seeds seeds_are nodes swept

    nodes_affected : (node : ℕ) → node < length g.labels → has_node nodes node ≡ is_affected t edit (label_of g.labels node)
    nodes_affected = swept_affected t edit r g bridge passes.is_new seeds seeds_are nodes swept

    -- of these all but assemblies whose lines stay
    abbrev is_renewed : ℕ → Bool
    is_renewed node = not (stays_assembly t edit (label_of g.labels node))

    renewed_nodes : AreRenewed t edit g (filter is_renewed nodes)
    renewed_nodes = record {
      distinct = distinct_filtered is_renewed nodes (distinct t edit r g bridge passes.is_new seeds seeds_are nodes swept);
      inside = λ node has. nodes_inside node (swept_up node has);
      affected = λ node has. sym (nodes_affected node (nodes_inside node (swept_up node has))) ∙ swept_up node has;
      seeds = λ node there listed.
          had_filtered is_renewed nodes node
          ∙ and_from (has_node nodes node) (is_renewed node) (swept_seeds t edit r g bridge passes.is_new seeds seeds_are nodes swept node there listed)
          (not_from_false (stays_assembly t edit (label_of g.labels node))
          (false_from_ne_true (stays_assembly t edit (label_of g.labels node))
          (λ stay.
          both_ways (list_any (same_code (label_of g.labels node)) (seeds_of_new t edit))
          (let parts = apart node stay in no_seed t s.consistent (label_of g.labels node) parts.0 edit passes parts.1) listed)));
      others = λ node there other.
          elim (cases_Bool (stays_assembly t edit (label_of g.labels node))) [
            | inl stay ↦ (let parts = apart node stay in keeps_own t s.consistent (label_of g.labels node) parts.0 edit passes parts.1)
            | inr changes ↦
                unaffected node there (sym (all_of (has_node nodes node) (is_renewed node) (not_from_false (stays_assembly t edit (label_of g.labels node)) changes)) ∙ sym (had_filtered is_renewed nodes node) ∙ other)
          ];
    }
      where
        swept_up : (node : ℕ) → has_node (filter is_renewed nodes) node ≡ true → has_node nodes node ≡ true
        swept_up node has = (and_parts (has_node nodes node) (is_renewed node) (sym (had_filtered is_renewed nodes node) ∙ has)).0

        apart : (node : ℕ) → stays_assembly t edit (label_of g.labels node) ≡ true → (is_assembly t (label_of g.labels node) ≡ true) × (changes_lines edit (label_of g.labels node) ≡ false)
        apart node stay =
            let parts = and_parts (is_assembly t (label_of g.labels node)) (not (changes_lines edit (label_of g.labels node))) stay in
            (parts.0, not-true (changes_lines edit (label_of g.labels node)) parts.1)

        all_of : (a b : Bool) → b ≡ true → (a && b) ≡ a
        all_of true b e = e
        all_of false b e = refl

        unaffected : (node : ℕ) → node < length g.labels → has_node nodes node ≡ false → KeepsOwn t edit (label_of g.labels node)
        unaffected node there other =
            let stay = stays t s.consistent edit passes (label_of g.labels node) (sym (nodes_affected node there) ∙ other) in
            record { kept = stay.kept; lines = stay.lines; masses = stay.own_masses; found = stay.own_found; loads = stay.own_loads }

    -- lent as a slice
    module _ (made_renewed renewed : List ℕ) (lent_renewed : renewed ≡ made_renewed) (are_renewed : made_renewed ≡ filter is_renewed nodes) where
      renewed_are : AreRenewed t edit g renewed
      renewed_are = subst (AreRenewed t edit g) (sym (lent_renewed ∙ are_renewed)) renewed_nodes

      pub renewed_inside : (node : ℕ) → has_node renewed node ≡ true → node < length g.labels
      renewed_inside = renewed_are.inside

      pub own_after : (names : List (List ℕ)) (owns : List OwnValues) → AreOwnAt (with_edit_entered t edit) g.labels names renewed owns → AreOwnAfter t edit g names owns
      own_after names owns at = record {
        renewed = subst (AreRenewed t edit g) (sym at.these) renewed_are;
        right = λ kept node has. at.right kept node (subst (λ ns. has_node ns node ≡ true) at.these has);
      }
