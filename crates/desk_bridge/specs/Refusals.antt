-- Why the bill refuses an edit, as its parts tell it: the chain of a cycle, the first node that is too large, too many marks, or the first
-- year that is too heavy.
use Rattle.std.specs.Prelude.{◌≡◌, ℕ, ◌<◌, true, List, Some, None, map}
use Rattle.desk_graph.specs.Graph.{Graph, label_of}
use Rattle.desk_rollup.specs.Plan.{AllFit, IsWithinLimits, IsFirstTooLarge}
use Rattle.desk_rollup.specs.Rolled.{mark_count}
use Rattle.desk_rollup.specs.Values.{OwnValues}
use Rattle.desk_tonnage.specs.Years.{too_heavy_entry_year}
use Rattle.desk_model.specs.declared.edit.Edit.{Edit}
use Rattle.desk_model.specs.declared.rule_fault.RuleFault.TheVariants.{ClosesCycle, TotalTooLarge, FindingsFull, YearTooLarge}
use Rattle.desk_model.specs.Effect.{with_edit_entered}
use Rattle.desk_model.specs.Forms.{is_edit_in_form}
use Rattle.desk_model.specs.Lists.{Lists}
use Rattle.desk_findings.specs.Findings.{Finding}
use Rattle.desk_history.specs.History.{PassesRows}
use Rattle.desk_history.specs.Refused.{refused_by_bill, refused_by_rows}
use Rattle.desk_history.specs.Sound.{IsConsistent}
use Rattle.desk_history.specs.Step.{kept_number}
use Rattle.desk_bridge.specs.Bridge.{IsBridge}
use Rattle.desk_bridge.specs.Planning.{cycle_by}
use Rattle.desk_bridge.specs.Values.{HasOwnValues}
use Rattle.desk_bridge.specs.Years.{entries_of}

-- an edit that passes the refusals 1 to 20, and the bill and the own values of the tables that it leaves
pub record IsPassed (t : Lists) (edit : Edit) (g : Graph) (own : ℕ → OwnValues) : Type 0 where
  pub passes : PassesRows t edit
  pub number : Finding → ℕ
  pub name : ℕ → List ℕ
  pub values : HasOwnValues (with_edit_entered t edit) g number name own

-- the refusals 20 to 23 say what the parts tell: the bill of the tables before the edit the cycle; the own values after it, rolled up, the
-- first node that is too large, or too many marks; and the entries of the shipments after it the first year that is too heavy
pub record PartsRefuse : Type 0 where
  pub cycle : (t : Lists) → IsConsistent t → (edit : Edit) → is_edit_in_form edit ≡ true → kept_number t edit ≡ None → refused_by_rows t edit ≡ None →
      (g : Graph) → IsBridge t g → (chain : List ℕ) → cycle_by g edit ≡ Some chain → refused_by_bill t edit ≡ Some (ClosesCycle (map (label_of g.labels) chain))
  pub large : (t : Lists) (edit : Edit) (g : Graph) (own : ℕ → OwnValues) → IsPassed t edit g own → (node : ℕ) → IsFirstTooLarge g own node →
      refused_by_bill t edit ≡ Some (TotalTooLarge (label_of g.labels node))
  pub many : (t : Lists) (edit : Edit) (g : Graph) (own : ℕ → OwnValues) → IsPassed t edit g own → AllFit g own → 4194304 < mark_count g.lines own →
      refused_by_bill t edit ≡ Some FindingsFull
  pub heavy : (t : Lists) (edit : Edit) (g : Graph) (own : ℕ → OwnValues) → IsPassed t edit g own → IsWithinLimits g own → (year : ℕ) →
      too_heavy_entry_year (entries_of (with_edit_entered t edit)) ≡ Some year → refused_by_bill t edit ≡ Some (YearTooLarge year)
  pub none : (t : Lists) (edit : Edit) (g : Graph) (own : ℕ → OwnValues) → IsPassed t edit g own → IsWithinLimits g own →
      too_heavy_entry_year (entries_of (with_edit_entered t edit)) ≡ None → refused_by_bill t edit ≡ None
