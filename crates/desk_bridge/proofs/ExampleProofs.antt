-- The examples hold by computation.
use Rattle.std.proofs.Common.{Bool, true, refl}
use Rattle.desk_law.specs.Rule.{rule_number}
use Rattle.desk_findings.proofs.ExampleProofs.{examples as desk_examples}
use Rattle.desk_findings.specs.Findings.{findings_at, own_findings}
use Rattle.desk_history.proofs.ExampleProofs.{examples as history_examples}
use Rattle.desk_history.specs.Refused.{refused_by_bill}
use Rattle.desk_graph.specs.Reaches.{chain_of_nodes_within, node_reaches_within}
use Rattle.desk_rollup.specs.Chain.{way}
use Rattle.desk_rollup.specs.Rolled.{gathered_within, node_rolled_within}
use Rattle.desk_tables.specs.Change.{with_change_made}
use Rattle.desk_tables.specs.Plan.{tables_planned}
use Rattle.desk_bridge.specs.Bridge.{bill_after}
use Rattle.desk_bridge.specs.Examples.{BridgeExamples, EditExamples, FindingExamples, LineExamples, OrderExamples, OwnExamples, RefusalExamples, RollUpExamples, YearExamples}
use Rattle.desk_bridge.specs.Planning.{cycle_by, has_ends}

-- what the examples compute with
unfoldable pub examples : Bool
unfolding desk_examples history_examples bill_after chain_of_nodes_within with_change_made cycle_by findings_at gathered_within has_ends own_findings tables_planned node_reaches_within refused_by_bill node_rolled_within rule_number way
examples = true

pub bridge_examples : BridgeExamples
unfolding examples
bridge_examples = record {
  nodes = refl;
  found = refl;
  not_found = refl;
  cable_lines = refl;
  gateway_lines = refl;
  a_line_less = refl;
  part_again = refl;
  cycle = refl;
  no_cycle = refl;
  brass_chain = refl;
}

pub finding_examples : FindingExamples
unfolding examples
finding_examples = record {
  held = refl;
  way = refl;
  way_ends = refl;
  cable_mass = refl;
  cable_dehp = refl;
  above_thousandth = refl;
  cable_findings = refl;
  lead_in_brass = refl;
  lead_in_pin = refl;
  one_entry = refl;
}

pub order_examples : OrderExamples
unfolding examples
order_examples = record { told = refl; by_material = refl; by_rule = refl; materials_first = refl; by_candidate = refl }

pub line_examples : LineExamples
unfolding examples
line_examples = record {
  kept_lines = refl;
  bill_lines = refl;
  kept_chain = refl;
  bill_chain = refl;
  kept_count = refl;
  bill_count = refl;
  kept_line_less = refl;
  rule_20 = refl;
  bill_refuses = refl;
  both_ends = refl;
  one_end = refl;
}

pub edit_examples : EditExamples
unfolding examples
edit_examples = record {
  new_codes = refl;
  new_labels = refl;
  no_lines = refl;
  new_part = refl;
  kept_part = refl;
  a_line_changes = refl;
  none_changes = refl;
  affected_codes = refl;
  affected_nodes = refl;
}

pub own_examples : OwnExamples
unfolding examples
own_examples = record {
  all_nodes = refl;
  weights = refl;
  marks = refl;
  leads = refl;
  same_number = refl;
  weights_after = refl;
  marks_after = refl;
  leads_after = refl;
  brass_after = refl;
  pin_after = refl;
  cable_after = refl;
}

pub roll_up_examples : RollUpExamples
unfolding examples
roll_up_examples = record {
  masses = refl;
  weights = refl;
  carried_leads = refl;
  amounts = refl;
  pin_findings = refl;
  pin_hops = refl;
  pin_marks = refl;
  as_many = refl;
  next = refl;
  brass_chain = refl;
}

pub year_examples : YearExamples
unfolding examples
year_examples = record {
  units = refl;
  kept_year = refl;
  year = refl;
  shipped = refl;
  units_added = refl;
  taken_off = refl;
  units_taken = refl;
  heavier = refl;
  new_mass = refl;
}

pub refusal_examples : RefusalExamples
unfolding examples
refusal_examples = record {
  refused = refl;
  told = refl;
  unrefused = refl;
  no_heavy_year = refl;
  no_heavy_part = refl;
  not_too_many = refl;
  kept_findings = refl;
  bill_marks = refl;
  kept = refl;
  kept_step = refl;
  new_step = refl;
}
