-- Laws of the bridge. Each is the contract of a function without a body in `src/laws.rt`.
use Rattle.std.specs.Prelude.{◌≡◌, ℕ, ◌<◌, true, List, None, Ok, Err, length, map, option_map, if◌then◌else◌}
use Rattle.desk_model.specs.declared.edit.Edit.{Edit}
use Rattle.desk_model.specs.declared.edit.Edit.TheVariants.{Line}
use Rattle.desk_model.specs.declared.rule_fault.RuleFault.TheVariants.{ClosesCycle}
use Rattle.desk_model.specs.Effect.{with_edit_entered}
use Rattle.desk_model.specs.Forms.{is_edit_in_form}
use Rattle.desk_model.specs.Lists.{Lists, is_kept}
use Rattle.desk_findings.specs.Bill.{are_parents_kept}
use Rattle.desk_findings.specs.Bill as tables_bill
use Rattle.desk_findings.specs.Chain as tables_chain
use Rattle.desk_findings.specs.Reaches as tables
use Rattle.desk_history.specs.History.{PassesRows}
use Rattle.desk_history.specs.Refused.{closes_cycle, refuse_if, refused_by_rows}
use Rattle.desk_history.specs.Sound.{IsConsistent}
use Rattle.desk_history.specs.Step.{kept_number}
use Rattle.desk_graph.specs.declared.fault.LineFault.TheVariants.{Closes}
use Rattle.desk_graph.specs.Bill.{IsBillGraph}
use Rattle.desk_graph.specs.Edits.{line_answer}
use Rattle.desk_graph.specs.Graph.{Graph, label_of, line_count}
use Rattle.desk_graph.specs.Reaches as graph
use Rattle.desk_bridge.specs.Planning.{CanTake, cycle_by}
use Rattle.desk_bridge.specs.Bridge.{IsBillOf, bill_after, node_of}

-- the node of a kept code has that code, and no two nodes have one
pub record NodesAreFound (t : Lists) (g : Graph) : Type 0 where
  pub there : (code : List ℕ) → is_kept t code ≡ true → node_of g.labels code < length g.labels
  pub code : (code : List ℕ) → is_kept t code ≡ true → label_of g.labels (node_of g.labels code) ≡ code
  pub kept : (node : ℕ) → node < length g.labels → is_kept t (label_of g.labels node) ≡ true

-- what is reached, and by which chain, is the same on both sides
pub record ReachesTheSame (t : Lists) (g : Graph) : Type 0 where
  pub reached : (a b : ℕ) → a < length g.labels → b < length g.labels → tables.reaches t (label_of g.labels a) (label_of g.labels b) ≡ graph.node_reaches g.lines a b
  pub chains : (a b : ℕ) → a < length g.labels → b < length g.labels → tables_chain.chain t (label_of g.labels a) (label_of g.labels b) ≡ map (label_of g.labels) (graph.chain_of_nodes g.lines a b)

-- a bill of tables has a node for each of their codes, reaches what they reach, and has as many lines
pub record BillsAgree : Type 0 where
  pub nodes : (t : Lists) (g : Graph) → IsBillOf t g → NodesAreFound t g
  pub reached : (t : Lists) → tables_bill.IsBill t → (g : Graph) → IsBillGraph g → IsBillOf t g → ReachesTheSame t g
  pub lines : (t : Lists) → are_parents_kept t ≡ true → (g : Graph) → IsBillGraph g → IsBillOf t g → line_count g.lines ≡ length t.lines

-- the bill stays that of the tables when an edit that passes the refusals 1 to 20 is entered
abbrev pub BillsStay : Type 0
BillsStay = (t : Lists) → IsConsistent t → (edit : Edit) → PassesRows t edit → (g : Graph) → IsBillGraph g → IsBillOf t g → IsBillOf (with_edit_entered t edit) (bill_after g edit)

-- both nodes are there, the bill refuses the line where refusal 20 does, with the same chain, and for no other reason
pub record IsLineTold (t : Lists) (ticket parent child : List ℕ) (count : ℕ) (g : Graph) : Type 0 where
  pub parent_there : node_of g.labels parent < length g.labels
  pub child_there : node_of g.labels child < length g.labels
  pub rule : closes_cycle t (Line ticket parent child count)
      ≡ refuse_if (graph.is_node_or_reaches g.lines (node_of g.labels child) (node_of g.labels parent)) (ClosesCycle (map (label_of g.labels) (graph.chain_of_nodes g.lines (node_of g.labels child) (node_of g.labels parent))))
  pub answer : line_answer (node_of g.labels parent) (node_of g.labels child) count g
      ≡ (if graph.is_node_or_reaches g.lines (node_of g.labels child) (node_of g.labels parent) then Err (Closes (graph.chain_of_nodes g.lines (node_of g.labels child) (node_of g.labels parent))) else Ok tt)

-- a line that passes the refusals 1 to 19 is refused by the bill where refusal 20 refuses it, with the same chain
abbrev pub CyclesAreTold : Type 0
CyclesAreTold = (t : Lists) → IsConsistent t → (ticket parent child : List ℕ) (count : ℕ) → is_edit_in_form (Line ticket parent child count) ≡ true → kept_number t (Line ticket parent child count) ≡ None
    → refused_by_rows t (Line ticket parent child count) ≡ None → (g : Graph) → IsBillGraph g → IsBillOf t g → IsLineTold t ticket parent child count g

-- an edit that passes the refusals 1 to 19 can be taken by the bill, and closes a cycle there where refusal 20 says so
pub record IsTaken (t : Lists) (edit : Edit) (g : Graph) : Type 0 where
  pub can : CanTake g edit
  pub cycle : closes_cycle t edit ≡ option_map (λ chain. ClosesCycle (map (label_of g.labels) chain)) (cycle_by g edit)
  pub stays : cycle_by g edit ≡ None → IsBillOf (with_edit_entered t edit) (bill_after g edit)

-- every edit that passes the refusals 1 to 19 can be taken
abbrev pub BillsTake : Type 0
BillsTake = (t : Lists) → IsConsistent t → (edit : Edit) → is_edit_in_form edit ≡ true → kept_number t edit ≡ None → refused_by_rows t edit ≡ None → (g : Graph) → IsBillGraph g → IsBillOf t g → IsTaken t edit g
