-- One whole step: the roll-ups may be prepared, refusals are told by the rules' words, and what is stored then is that of the tables.
use Rattle.std.proofs.Common.{◌≡◌, ℕ, ◌+◌, ◌<◌, ◌≤◌, true, cond, filter, inl, inr, List, [], ◌∷◌, ◌++◌, length, Option, Some, None, Ok, Err, refl, sym, ap, ◌∙◌, subst, append_assoc, arith}
use Rattle.std.specs.Prelude.{unwrap_or}
use Rattle.std.specs.List.{range_with_len}
use Rattle.std.proofs.lemmas.Bool.{cases_lt}
use Rattle.std.proofs.lemmas.List.{get_or_append_left, length-append}
use Rattle.desk_rows.specs.Held.{IsRoomFor}
use Rattle.desk_text.specs.Code.{code_of}
use Rattle.desk_graph.specs.Bill.{IsBillGraph}
use Rattle.desk_graph.specs.Graph.{Graph, label_of}
use Rattle.desk_graph.specs.Planned.{AreFree, BillEdit, IsBillPlan, changed_lines, graph_after}
use Rattle.desk_graph.specs.Reaches.{AreAffected, has_node}
use Rattle.desk_graph.proofs.ChangedLines.{with_labels, with_nodes-is}
use Rattle.desk_rollup.specs.Plan.{AllFit, CanPrepare, IsWithinLimits, IsFirstTooLarge, IsRollPlan, PlannedValues, nodes_of_owns}
use Rattle.desk_rollup.specs.Rolled.{mark_count}
use Rattle.desk_rollup.specs.Values.{OwnValues, own_with}
use Rattle.desk_rollup.proofs.Frame.{affected_had}
use Rattle.desk_model.specs.declared.edit.Edit.{Edit}
use Rattle.desk_model.specs.declared.rule_fault.RuleFault.TheVariants.{FindingsFull, TotalTooLarge, YearTooLarge}
use Rattle.desk_model.specs.Effect.{with_edit_entered}
use Rattle.desk_model.specs.Lists.{Lists}
use Rattle.desk_history.specs.Affected.{affected, is_affected}
use Rattle.desk_history.specs.History.{PassesRows}
use Rattle.desk_history.specs.Refused.{refused_by_bill}
use Rattle.desk_history.specs.Sound.{Sound}
use Rattle.desk_history.specs.Step.{step}
use Rattle.desk_history.proofs.SoundSteps.{IsConsistent-entered}
use Rattle.desk_tonnage.specs.Years.{too_heavy_entry_year as too_heavy_entries}
use Rattle.desk_tables.proofs.Accepting.{bill_refuses}
use Rattle.desk_bridge.specs.AfterEdit.{IsEdited, IsOwnOf}
use Rattle.desk_bridge.specs.Bridge.{IsBillOf}
use Rattle.desk_bridge.specs.Index.{IsIndex, index_with}
use Rattle.desk_bridge.specs.Numbers.{AreNames, finding_number}
use Rattle.desk_bridge.specs.OwnAfter.{AreOwnAfter}
use Rattle.desk_bridge.specs.Refusals.{IsPassed}
use Rattle.desk_bridge.specs.Values.{HasOwnValues}
use Rattle.desk_bridge.specs.Years.{entries_of}
use Rattle.desk_bridge.specs.declared.node_index.NodeRow.{NodeRow}
use Rattle.desk_bridge.proofs.AfterEdit.{affected_agree}
use Rattle.desk_bridge.proofs.Chains.{labels_are_codes}
use Rattle.desk_bridge.proofs.Indexes.{index_more}
use Rattle.desk_bridge.proofs.Numbers.{values_kept}
use Rattle.desk_bridge.proofs.Refused.{by_marks, by_none, by_weight, by_year}
use Rattle.desk_engine.specs.declared.stored.Stored.{Stored}
use Rattle.desk_engine.specs.declared.years.YearsPlan.{YearsPlan}
use Rattle.desk_engine.specs.Names.{GrowTo}
use Rattle.desk_engine.specs.Planned.{IsRolledFor, LeavesStored, nodes_with, node_rows_from}
use Rattle.desk_engine.specs.Stored.{IsStoredOf}
use Rattle.desk_engine.specs.Years.{LeavesEntries}
use Rattle.desk_engine.proofs.Ticks.{above, as_many, none_beyond, within}

append_none : {X : Type 0} (xs : List X) → xs ++ [] ≡ xs
append_none [] = refl
append_none (x ∷ xs) = ap (λ rest. x ∷ rest) (append_none xs)

-- a plan puts its labels behind those of the bill
labels_behind : (new labels : List (List ℕ)) → with_labels new labels ≡ labels ++ new
labels_behind [] labels = sym (append_none labels)
labels_behind (label ∷ new) labels = labels_behind new (labels ++ label ∷ []) ∙ append_assoc labels (label ∷ []) new

pub planned_labels : (plan : BillEdit) (g : Graph) → (graph_after plan g).labels ≡ g.labels ++ plan.labels
planned_labels plan g = ap (λ h. h.labels) (with_nodes-is plan.labels (record { labels = g.labels; lines = changed_lines plan.line g.lines })) ∙ labels_behind plan.labels g.labels

-- the index stays one when nodes are added
index_all : (more labels : List (List ℕ)) (rows : List NodeRow) → AreFree more labels → IsIndex labels rows → IsIndex (labels ++ more) (nodes_with (node_rows_from (length labels) more) rows)
index_all [] labels rows free index = subst (λ ls. IsIndex ls rows) (sym (append_none labels)) index
index_all (label ∷ more) labels rows free index =
    subst (λ ls. IsIndex ls (nodes_with (node_rows_from (length labels + 1) more) (index_with label (length labels) rows))) (append_assoc labels (label ∷ []) more)
    (subst (λ n. IsIndex ((labels ++ label ∷ []) ++ more) (nodes_with (node_rows_from n more) (index_with label (length labels) rows))) (length-append labels (label ∷ []))
    (index_all more (labels ++ label ∷ []) (index_with label (length labels) rows) free.1 (index_more labels rows label free.0 index)))

-- the codes of all nodes of the bill after an edit are codes
pub planned_codes : (t : Lists) (edit : Edit) → Sound t → PassesRows t edit → (g : Graph) → IsBillOf (with_edit_entered t edit) g → (node : ℕ) → node < length g.labels → code_of (label_of g.labels node) ≡ Ok (label_of g.labels node)
planned_codes t edit s passes g of = labels_are_codes (with_edit_entered t edit) (IsConsistent-entered t edit s.consistent passes) g of

-- new own values of just the affected nodes
module _ (t : Lists) (edit : Edit) (s : Sound t) (passes : PassesRows t edit) (stored : Stored) (is : IsStoredOf t stored) (bill : IsBillGraph stored.bill) (plan : BillEdit) (new : Graph) (new_is : new ≡ graph_after plan stored.bill) (new_bill : IsBillGraph new)
    (names : List (List ℕ)) (of : IsBillOf (with_edit_entered t edit) (graph_after plan stored.bill)) (grow : GrowTo t (with_edit_entered t edit) stored.names names) (owns : List OwnValues) (after : AreOwnAfter t edit new names owns) where
  labels_are : new.labels ≡ stored.bill.labels ++ plan.labels
  labels_are = ap (λ h. h.labels) new_is ∙ planned_labels plan stored.bill

  of_new : IsBillOf (with_edit_entered t edit) new
  of_new = subst (IsBillOf (with_edit_entered t edit)) (sym new_is) of

  edited : IsEdited t edit stored.bill new stored.rollups owns
  edited = record {
    consistent = s.consistent;
    passes = passes;
    before = record { bill = bill; of = is.of.bill };
    after = record { bill = new_bill; of = of_new };
    nodes = omega (arith, ap length labels_are, length-append stored.bill.labels plan.labels);
    labels = λ node inside. ap (λ ls. label_of ls node) labels_are ∙ get_or_append_left stored.bill.labels plan.labels [] node inside;
    rolled = is.rolled;
    renewed = after.renewed;
  }

  both : CanPrepare new owns stored.rollups × HasOwnValues (with_edit_entered t edit) new (finding_number new.labels names) (label_of names) (own_with owns stored.rollups.owns)
  both =
      subst (λ list. CanPrepare new owns stored.rollups × HasOwnValues (with_edit_entered t edit) new (finding_number new.labels list) (label_of list) (own_with owns stored.rollups.owns)) (sym grow.grown)
      (values_kept t edit stored.bill new stored.rollups owns edited plan.labels labels_are stored.names grow.others is.of.named.named (subst (AreNames (with_edit_entered t edit)) grow.grown grow.named.named) grow.fresh is.of.owns
      (subst (λ list. (node : ℕ) → has_node (nodes_of_owns owns) node ≡ true → IsOwnOf (with_edit_entered t edit) (finding_number new.labels list) (label_of list) (label_of new.labels node) (own_with owns stored.rollups.owns node)) grow.grown (λ node has. after.right stored.rollups.owns node has)))

  pub can_prepare : CanPrepare new owns stored.rollups
  can_prepare = both.0

  passed : IsPassed t edit new (own_with owns stored.rollups.owns)
  passed = record { passes = passes; number = finding_number new.labels names; name = label_of names; values = both.1 }

  pub refused_large : (node : ℕ) → IsFirstTooLarge new (own_with owns stored.rollups.owns) node → (step t edit).0 ≡ Err (TotalTooLarge (label_of new.labels node))
  refused_large node first = bill_refuses t edit passes.is_new passes.by_rows (TotalTooLarge (label_of new.labels node)) (by_weight t edit new (own_with owns stored.rollups.owns) passed node first)

  pub refused_many : AllFit new (own_with owns stored.rollups.owns) → 4194304 < mark_count new.lines (own_with owns stored.rollups.owns) → (step t edit).0 ≡ Err FindingsFull
  refused_many fit many = bill_refuses t edit passes.is_new passes.by_rows FindingsFull (by_marks t edit new (own_with owns stored.rollups.owns) passed fit many)

  rolled_new : (given : PlannedValues) → IsRollPlan new owns stored.rollups given → IsWithinLimits new (own_with owns stored.rollups.owns) → IsRolledFor t edit new names stored.rollups given
  rolled_new given rolls accepted = record {
    rolls = subst (λ os. IsRollPlan new os stored.rollups given) (sym rolls.given) rolls;
    values = subst (λ os. HasOwnValues (with_edit_entered t edit) new (finding_number new.labels names) (label_of names) (own_with os stored.rollups.owns)) (sym rolls.given) both.1;
    accepted = subst (λ os. IsWithinLimits new (own_with os stored.rollups.owns)) (sym rolls.given) accepted;
    affected = λ node inside. affected_had new.lines (nodes_of_owns owns) given.nodes rolls.affected node ∙ affected_agree t edit stored.bill new stored.rollups owns edited node inside;
  }

  -- at most a step for each material and part that the edit affects
  affected_nodes : AreAffected new.lines (nodes_of_owns owns) (filter (λ node. is_affected t edit (label_of new.labels node)) (range_with_len 0 (length new.labels)))
  affected_nodes node =
      elim (cases_lt node (length new.labels)) [
        | inl inside ↦
            within (λ n. is_affected t edit (label_of new.labels n)) 0 (length new.labels) node (omega arith) (omega (arith, inside))
            ∙ ap (λ b. cond b 1 0) (sym (affected_agree t edit stored.bill new stored.rollups owns edited node inside))
        | inr past ↦
            above (λ n. is_affected t edit (label_of new.labels n)) 0 (length new.labels) node (omega (arith, past))
            ∙ ap (λ b. cond b 1 0) (sym (none_beyond new new_bill (nodes_of_owns owns) after.renewed.inside node past))
      ]

  pub few_steps : (start now : ℕ) → ((nodes : List ℕ) → AreAffected new.lines (nodes_of_owns owns) nodes → now ≤ start + length nodes) → now ≤ start + length (affected t edit)
  few_steps start now most =
      omega (
        arith,
        most (filter (λ node. is_affected t edit (label_of new.labels node)) (range_with_len 0 (length new.labels))) affected_nodes,
        as_many (with_edit_entered t edit) (IsConsistent-entered t edit s.consistent passes) new (record { bill = new_bill; of = of_new }) (is_affected t edit),
      )

  pub rolled_for : (given : PlannedValues) → IsRollPlan new owns stored.rollups given → IsWithinLimits new (own_with owns stored.rollups.owns) → IsRolledFor t edit (graph_after plan stored.bill) names stored.rollups given
  rolled_for given rolls accepted = subst (λ g. IsRolledFor t edit g names stored.rollups given) new_is (rolled_new given rolls accepted)

-- the years after roll-ups that are accepted
module _ (t : Lists) (edit : Edit) (passes : PassesRows t edit) (g : Graph) (names : List (List ℕ)) (stored : Stored) (given : PlannedValues) (rolled : IsRolledFor t edit g names stored.rollups given) where
  passed_by : IsPassed t edit g (own_with given.owns stored.rollups.owns)
  passed_by = record { passes = passes; number = finding_number g.labels names; name = label_of names; values = rolled.values }

  pub refused_year : (year : ℕ) → too_heavy_entries (entries_of (with_edit_entered t edit)) ≡ Some year → (step t edit).0 ≡ Err (YearTooLarge year)
  refused_year year heavy = bill_refuses t edit passes.is_new passes.by_rows (YearTooLarge year) (by_year t edit g (own_with given.owns stored.rollups.owns) passed_by rolled.accepted year heavy)

  pub unrefused : too_heavy_entries (entries_of (with_edit_entered t edit)) ≡ None → refused_by_bill t edit ≡ None
  unrefused light = by_none t edit g (own_with given.owns stored.rollups.owns) passed_by rolled.accepted light

-- what is left of what is stored
pub leaves : (t : Lists) (edit : Edit) (stored : Stored) → IsStoredOf t stored → (plan : BillEdit) → IsBillPlan stored.bill plan → IsBillOf (with_edit_entered t edit) (graph_after plan stored.bill) →
    (names : Option (List (List ℕ))) → GrowTo t (with_edit_entered t edit) stored.names (unwrap_or names stored.names) → (nodes : List NodeRow) → nodes ≡ node_rows_from (length stored.bill.labels) plan.labels →
    (room : Option ℕ) → IsRoomFor (length nodes) stored.index room → (rollups : PlannedValues) → IsRolledFor t edit (graph_after plan stored.bill) (unwrap_or names stored.names) stored.rollups rollups →
    (years : YearsPlan) → LeavesEntries stored.years (entries_of (with_edit_entered t edit)) years →
    LeavesStored stored (with_edit_entered t edit) (record { bill = plan; nodes = nodes; room = room; rollups = rollups; names = names; years = years })
leaves t edit stored is plan can of names grow nodes nodes_are room has_room rollups rolled years left = record {
  bill = can;
  room = has_room;
  rollups = rolled.rolls;
  years = left.can;
  of = record {
    bill = of;
    index =
        subst (λ rows. IsIndex (graph_after plan stored.bill).labels (nodes_with rows stored.index.rows)) (sym nodes_are)
        (subst (λ ls. IsIndex ls (nodes_with (node_rows_from (length stored.bill.labels) plan.labels) stored.index.rows)) (sym (planned_labels plan stored.bill))
        (index_all plan.labels stored.bill.labels stored.index.rows can.free is.of.index));
    named = grow.named;
    owns = rolled.values.owns;
    years = left.leaves;
  };
}
