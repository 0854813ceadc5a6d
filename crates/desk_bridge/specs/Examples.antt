-- The bill, the ways to findings, own values and the years of an ordinary desk, beside values that were worked out by hand: the gateway of
-- a board with brass pins and of two cables.
use Rattle.std.specs.Prelude.{◌≡◌, ℕ, true, false, List, [], ◌∷◌, ◌++◌, Option, Some, None, Ok, Err, codes, filter, length, map, option_map}
use Rattle.std.specs.List.{range_with_len}
use Rattle.std.specs.declared.cmp.Ordering.TheVariants.{Less, Greater}
use Rattle.desk_law.specs.declared.rule.Rule.TheVariants.{Lead, Dehp}
use Rattle.desk_model.specs.declared.edit.Edit.{Edit}
use Rattle.desk_model.specs.declared.edit.Edit.TheVariants.{Declare, Line, Part, Ship, Unline, Unship}
use Rattle.desk_model.specs.declared.part_sort.PartSort.TheVariants.{Assembly}
use Rattle.desk_model.specs.declared.rule_fault.RuleFault.TheVariants.{ClosesCycle}
use Rattle.desk_model.specs.Declaration.{Declared}
use Rattle.desk_model.specs.EditText.{edit_text}
use Rattle.desk_model.specs.Effect.{with_edit_entered}
use Rattle.desk_model.specs.Examples.Desks.{date, holds, material}
use Rattle.desk_model.specs.Lists.{Lists, line_row, material_row}
use Rattle.desk_findings.specs.Carried.{carried, own_load}
use Rattle.desk_findings.specs.Chain.{chain as table_chain}
use Rattle.desk_findings.specs.Examples.Gateway.{desk, edits}
use Rattle.desk_findings.specs.Findings.{Finding, above, finding_count, findings, findings_at, over, own_findings}
use Rattle.desk_findings.specs.Holders.{holder, next_of}
use Rattle.desk_findings.specs.Mass.{mass, own_mass}
use Rattle.desk_findings.specs.OwnValues.{content_of_lines, findings_of_lines, is_over_thousandth, mass_of_lines}
use Rattle.desk_findings.specs.Reaches.{lines_of}
use Rattle.desk_findings.specs.Totals.{has_too_many_findings, too_heavy_part, year_mass}
use Rattle.desk_history.specs.Affected.{affected}
use Rattle.desk_history.specs.Refused.{closes_cycle, refused_by_bill}
use Rattle.desk_history.specs.Step.{kept_number, step}
use Rattle.desk_graph.specs.declared.fault.LineFault.TheVariants.{Closes}
use Rattle.desk_graph.specs.Edits.{line_answer}
use Rattle.desk_graph.specs.Graph.{Graph, count_at, label_of, line_count, lines_of_node as node_lines}
use Rattle.desk_graph.specs.Reaches.{chain_of_nodes, is_node_affected}
use Rattle.desk_rollup.specs.declared.hop.Hop.{Hop}
use Rattle.desk_rollup.specs.Chain.{hop_chain as node_chain, next_hop}
use Rattle.desk_rollup.specs.Numbers.{hop_numbers, mark_numbers}
use Rattle.desk_rollup.specs.Plan.{nodes_of_owns}
use Rattle.desk_rollup.specs.Rolled.{amount, mark_count, mark_numbers_below, weight}
use Rattle.desk_rollup.specs.Values.{OwnValues, RolledValues, amount_of, carried_by_node as node_carried, own_at, own_with, rolled_at}
use Rattle.desk_tonnage.specs.declared.entry.Entry.{Entry}
use Rattle.desk_tonnage.specs.Edits.{with_entry_units, without_entry_units}
use Rattle.desk_tonnage.specs.Entries.{entry_units}
use Rattle.desk_tonnage.specs.Masses.{with_masses}
use Rattle.desk_tonnage.specs.Years.{too_heavy_entry_year, entries_mass_in as entries_mass}
use Rattle.desk_tables.specs.Plan.{tables_planned}
use Rattle.desk_tables.specs.declared.plan.TablesPlan.{TablesPlan}
use Rattle.desk_tables.specs.declared.plan.TablesPlan.TheVariants as plan
use Rattle.desk_tables.specs.declared.row_change.RowChange.TheVariants.{PutShipment}
use Rattle.desk_bridge.specs.Bridge.{bill_after, node_of, rows_at}
use Rattle.desk_bridge.specs.NewNodes.{changes_bill, declared_codes, part_codes}
use Rattle.desk_bridge.specs.Numbers.{finding_number}
use Rattle.desk_bridge.specs.Order.{finding_cmp}
use Rattle.desk_bridge.specs.Planning.{cycle_by, has_ends}
use Rattle.desk_bridge.specs.Years.{entries_of}

-- the bill after edits
abbrev pub bill_of : List Edit → Graph → Graph
bill_of [] g = g
bill_of (edit ∷ more) g = bill_of more (bill_after g edit)

-- the gateway's bill, edit by edit
abbrev pub gateway : Graph
gateway = bill_of edits (record { labels = []; lines = [] })

pub record BridgeExamples : Type 0 where
  pub nodes : gateway.labels ≡ codes "BRASS" ∷ codes "COPPER" ∷ codes "PVC" ∷ codes "PIN" ∷ codes "CABLE" ∷ codes "BOARD" ∷ codes "GATEWAY" ∷ []
  pub found : node_of gateway.labels (codes "CABLE") ≡ 4
  pub not_found : node_of gateway.labels (codes "CABLES") ≡ 7
  pub cable_lines : rows_at gateway 4 ≡ lines_of desk.lines (codes "CABLE")
  pub gateway_lines : rows_at gateway 6 ≡ lines_of desk.lines (codes "GATEWAY")
  pub a_line_less : node_lines (bill_after gateway (Unline (codes "t20") (codes "CABLE") (codes "PVC"))).lines 4 ≡ record { node = 1; count = 2 } ∷ []
  pub part_again : bill_after gateway (Part (codes "t20") (codes "BOARD") Assembly (codes "Board")) ≡ gateway
  pub cycle : cycle_by gateway (Line (codes "t20") (codes "BOARD") (codes "GATEWAY") 1) ≡ Some (6 ∷ 5 ∷ [])
  pub no_cycle : cycle_by gateway (Line (codes "t20") (codes "GATEWAY") (codes "PIN") 1) ≡ None
  pub brass_chain : chain_of_nodes gateway.lines 6 0 ≡ 6 ∷ 5 ∷ 3 ∷ 0 ∷ []

-- the findings of the gateway, in the order of answers
abbrev pub gateway_findings : List Finding
gateway_findings =
    over (codes "BRASS") Lead
    ∷ over (codes "PVC") Dehp
    ∷ above (codes "CABLE") (codes "dehp")
    ∷ above (codes "PIN") (codes "lead")
    ∷ []

pub record OrderExamples : Type 0 where
  pub told : findings desk (codes "GATEWAY") ≡ gateway_findings
  pub by_material : finding_cmp (over (codes "BRASS") Dehp) (over (codes "PVC") Lead) ≡ Less
  pub by_rule : finding_cmp (over (codes "PVC") Dehp) (over (codes "PVC") Lead) ≡ Greater
  pub materials_first : finding_cmp (over (codes "PVC") Dehp) (above (codes "CABLE") (codes "dehp")) ≡ Less
  pub by_candidate : finding_cmp (above (codes "PIN") (codes "lead")) (above (codes "PIN") (codes "dehp")) ≡ Greater

pub record FindingExamples : Type 0 where
  pub held : holder (above (codes "CABLE") (codes "dehp")) ≡ codes "CABLE"
  pub way : next_of desk (over (codes "BRASS") Lead) (codes "GATEWAY") ≡ Some (codes "BOARD")
  pub way_ends : next_of desk (over (codes "BRASS") Lead) (codes "BRASS") ≡ None
  pub cable_mass : mass_of_lines (material_row desk) (lines_of desk.lines (codes "CABLE")) ≡ 11000000
  pub cable_dehp : content_of_lines (material_row desk) (lines_of desk.lines (codes "CABLE")) (codes "dehp") ≡ 15000
  pub above_thousandth : is_over_thousandth (material_row desk) (lines_of desk.lines (codes "CABLE")) (codes "dehp") ≡ true
  pub cable_findings : findings_of_lines (material_row desk) (lines_of desk.lines (codes "CABLE")) desk.candidates (codes "CABLE") ≡ above (codes "CABLE") (codes "dehp") ∷ []
  pub lead_in_brass : finding_number gateway.labels (codes "dehp" ∷ codes "lead" ∷ []) (over (codes "BRASS") Lead) ≡ 1
  pub lead_in_pin : finding_number gateway.labels (codes "dehp" ∷ codes "lead" ∷ []) (above (codes "PIN") (codes "lead")) ≡ 12884901889
  pub one_entry : entries_of desk ≡ record { year = 2024; product = codes "GATEWAY"; units = 500000; mass = 102000000 } ∷ []

-- a line that takes the gateway into its own board
abbrev pub loop : Edit
loop = Line (codes "t20") (codes "BOARD") (codes "GATEWAY") 1

-- the tables' lines, chains and cycles beside those of the bill
pub record LineExamples : Type 0 where
  pub kept_lines : length desk.lines ≡ 6
  pub bill_lines : line_count gateway.lines ≡ 6
  pub kept_chain : table_chain desk (codes "GATEWAY") (codes "BRASS") ≡ codes "GATEWAY" ∷ codes "BOARD" ∷ codes "PIN" ∷ codes "BRASS" ∷ []
  pub bill_chain : map (label_of gateway.labels) (chain_of_nodes gateway.lines 6 0) ≡ codes "GATEWAY" ∷ codes "BOARD" ∷ codes "PIN" ∷ codes "BRASS" ∷ []
  pub kept_count : option_map (λ line. line.count) (line_row desk (codes "CABLE") (codes "COPPER")) ≡ Some 2
  pub bill_count : count_at (node_lines gateway.lines 4) 1 ≡ Some 2
  pub kept_line_less : lines_of (with_edit_entered desk (Unline (codes "t20") (codes "CABLE") (codes "PVC"))).lines (codes "CABLE")
      ≡ record { parent = codes "CABLE"; child = codes "COPPER"; count = 2 } ∷ []
  pub rule_20 : closes_cycle desk loop ≡ Some (ClosesCycle (codes "GATEWAY" ∷ codes "BOARD" ∷ []))
  pub bill_refuses : line_answer 5 6 1 gateway ≡ Err (Closes (6 ∷ 5 ∷ []))
  pub both_ends : has_ends gateway loop ≡ true
  pub one_end : has_ends gateway (Line (codes "t20") (codes "BOARD") (codes "BOLT") 1) ≡ false

-- a declaration of a lighter brass with less lead, and of zinc
abbrev pub lighter : Declared
lighter = record {
  supplier = codes "BRASSCO";
  number = 12;
  day = date 2024 1 23;
  materials = material (codes "BRASS") 1000000 (holds (codes "lead") 900 ∷ []) ∷ material (codes "ZINC") 4000000 [] ∷ [];
}

-- the tables with the lighter brass and the zinc
abbrev pub lighter_desk : Lists
lighter_desk = with_edit_entered desk (Declare lighter)

-- the bill with the lighter brass and the zinc
abbrev pub lighter_bill : Graph
lighter_bill = bill_after gateway (Declare lighter)

-- the nodes that edits add, and those that the lighter brass affects: its pin, the board and the gateway, and not the cable
pub record EditExamples : Type 0 where
  pub new_codes : declared_codes desk lighter ≡ codes "ZINC" ∷ []
  pub new_labels : lighter_bill.labels ≡ gateway.labels ++ codes "ZINC" ∷ []
  pub no_lines : node_lines lighter_bill.lines 7 ≡ []
  pub new_part : part_codes desk (codes "LID") ≡ codes "LID" ∷ []
  pub kept_part : part_codes desk (codes "BOARD") ≡ []
  pub a_line_changes : changes_bill loop ≡ true
  pub none_changes : changes_bill (Ship (codes "t20") (codes "GATEWAY") 2024 100) ≡ false
  pub affected_codes : affected desk (Declare lighter) ≡ codes "BRASS" ∷ codes "ZINC" ∷ codes "BOARD" ∷ codes "GATEWAY" ∷ codes "PIN" ∷ []
  pub affected_nodes : filter (is_node_affected lighter_bill.lines (0 ∷ 7 ∷ [])) (range_with_len 0 8) ≡ 0 ∷ 3 ∷ 5 ∷ 6 ∷ 7 ∷ []

-- the own values of the gateway's nodes, worked out by hand: of the substances, dehp has number 0 and lead has number 1
abbrev pub gateway_owns : List OwnValues
gateway_owns =
    record { node = 0; weight = 2000000; marks = record { node = 0; what = 1 } ∷ []; loads = [] }
    ∷ record { node = 1; weight = 3000000; marks = []; loads = [] }
    ∷ record { node = 2; weight = 5000000; marks = record { node = 2; what = 7 } ∷ []; loads = [] }
    ∷ record { node = 3; weight = 0; marks = record { node = 3; what = 1 } ∷ []; loads = record { what = 1; amount = 60000 } ∷ [] }
    ∷ record { node = 4; weight = 0; marks = record { node = 4; what = 0 } ∷ []; loads = record { what = 0; amount = 15000 } ∷ [] }
    ∷ record { node = 5; weight = 0; marks = []; loads = [] }
    ∷ record { node = 6; weight = 0; marks = []; loads = [] }
    ∷ []

-- the own values of the nodes that the lighter brass affects, worked out by hand
abbrev pub lighter_owns : List OwnValues
lighter_owns =
    record { node = 0; weight = 1000000; marks = []; loads = [] }
    ∷ record { node = 3; weight = 0; marks = []; loads = [] }
    ∷ record { node = 5; weight = 0; marks = []; loads = [] }
    ∷ record { node = 6; weight = 0; marks = []; loads = [] }
    ∷ record { node = 7; weight = 4000000; marks = []; loads = [] }
    ∷ []

-- the own values of a node after the lighter brass: the new ones where it is affected, else those from before
abbrev pub lighter_own : ℕ → OwnValues
lighter_own = own_with lighter_owns gateway_owns

-- the number of a finding, with zinc behind the other two substances
abbrev pub number : Finding → ℕ
number = finding_number lighter_bill.labels (codes "dehp" ∷ codes "lead" ∷ codes "zinc" ∷ [])

-- the own values of codes, before the lighter brass and after it, are those of their nodes
pub record OwnExamples : Type 0 where
  pub all_nodes : nodes_of_owns gateway_owns ≡ range_with_len 0 7
  pub weights : map (own_mass desk) gateway.labels ≡ map (λ own. own.weight) gateway_owns
  pub marks : map (λ code. map number (own_findings desk code)) gateway.labels ≡ map (λ own. mark_numbers own.marks) gateway_owns
  pub leads : map (own_load desk (codes "lead")) gateway.labels ≡ map (λ own. amount_of own.loads 1) gateway_owns
  pub same_number : number (above (codes "PIN") (codes "lead")) ≡ 12884901889
  pub weights_after : map (own_mass lighter_desk) lighter_bill.labels ≡ map (λ node. (lighter_own node).weight) (range_with_len 0 8)
  pub marks_after : map (λ code. map number (own_findings lighter_desk code)) lighter_bill.labels ≡ map (λ node. mark_numbers (lighter_own node).marks) (range_with_len 0 8)
  pub leads_after : map (own_load lighter_desk (codes "lead")) lighter_bill.labels ≡ map (λ node. amount_of (lighter_own node).loads 1) (range_with_len 0 8)
  pub brass_after : own_mass lighter_desk (codes "BRASS") ≡ 1000000
  pub pin_after : own_findings lighter_desk (codes "PIN") ≡ []
  pub cable_after : own_load lighter_desk (codes "dehp") (codes "CABLE") ≡ 15000

-- the hop of a mark: its node and what is found there, and the child that it comes from
abbrev pub hop_by : ℕ → ℕ → Option ℕ → Hop
hop_by node what next = record { mark = record { node = node; what = what }; next = next }

-- the values of the gateway's nodes, rolled up by hand
abbrev pub gateway_rolled : List RolledValues
gateway_rolled =
    record { weight = 2000000; hops = hop_by 0 1 None ∷ []; loads = [] }
    ∷ record { weight = 3000000; hops = []; loads = [] }
    ∷ record { weight = 5000000; hops = hop_by 2 7 None ∷ []; loads = [] }
    ∷ record { weight = 2000000; hops = hop_by 0 1 (Some 0) ∷ hop_by 3 1 None ∷ []; loads = record { what = 1; amount = 60000 } ∷ [] }
    ∷ record { weight = 11000000; hops = hop_by 2 7 (Some 2) ∷ hop_by 4 0 None ∷ []; loads = record { what = 0; amount = 15000 } ∷ [] }
    ∷ record { weight = 80000000; hops = hop_by 0 1 (Some 3) ∷ hop_by 3 1 (Some 3) ∷ []; loads = record { what = 1; amount = 2400000 } ∷ [] }
    ∷ record {
      weight = 102000000;
      hops = hop_by 0 1 (Some 5) ∷ hop_by 2 7 (Some 4) ∷ hop_by 3 1 (Some 5) ∷ hop_by 4 0 (Some 4) ∷ [];
      loads = record { what = 0; amount = 30000 } ∷ record { what = 1; amount = 2400000 } ∷ [];
    }
    ∷ []

-- what the tables say of codes, and what rolls up in the bill, are the values of their nodes
pub record RollUpExamples : Type 0 where
  pub masses : map (mass desk) gateway.labels ≡ map (λ values. values.weight) gateway_rolled
  pub weights : map (weight gateway.lines (own_at gateway_owns)) (range_with_len 0 7) ≡ map (λ values. values.weight) gateway_rolled
  pub carried_leads : map (carried desk (codes "lead")) gateway.labels ≡ map (λ values. node_carried values.loads 1) gateway_rolled
  pub amounts : map (λ node. amount gateway.lines (own_at gateway_owns) node 1) (range_with_len 0 7) ≡ map (λ values. node_carried values.loads 1) gateway_rolled
  pub pin_findings : map number (findings_at desk (codes "PIN")) ≡ 1 ∷ 12884901889 ∷ []
  pub pin_hops : hop_numbers (rolled_at gateway_rolled 3).hops ≡ 1 ∷ 12884901889 ∷ []
  pub pin_marks : mark_numbers_below gateway.lines (own_at gateway_owns) 3 ≡ 12884901889 ∷ 1 ∷ []
  pub as_many : map (λ code. length (findings_at desk code)) gateway.labels ≡ map (λ values. length values.hops) gateway_rolled
  pub next : next_hop gateway_rolled 1 6 ≡ Some 5
  pub brass_chain : node_chain gateway_rolled 1 6 ≡ 6 ∷ 5 ∷ 3 ∷ 0 ∷ []

-- a hundred gateways more
abbrev pub more : Edit
more = Ship (codes "t20") (codes "GATEWAY") 2024 100

-- a thousand gateways fewer
abbrev pub fewer : Edit
fewer = Unship (codes "t20") (codes "GATEWAY") 2024 1000

-- a third cable
abbrev pub third_cable : Edit
third_cable = Line (codes "t20") (codes "GATEWAY") (codes "CABLE") 3

-- the entry of so many gateways in 2024 that weigh so much each
abbrev pub gateway_entry : ℕ → ℕ → Entry
gateway_entry units mass = record { year = 2024; product = codes "GATEWAY"; units = units; mass = mass }

-- the year's units and mass, and the entries after an edit: those of the tables, and what becomes of the entries from before
pub record YearExamples : Type 0 where
  pub units : entry_units 2024 (codes "GATEWAY") (entries_of desk) ≡ 500000
  pub kept_year : year_mass desk 2024 ≡ 51000000000000
  pub year : entries_mass 2024 (entries_of desk) ≡ 51000000000000
  pub shipped : entries_of (with_edit_entered desk more) ≡ gateway_entry 500100 102000000 ∷ []
  pub units_added : with_entry_units 2024 (codes "GATEWAY") 100 102000000 (entries_of desk) ≡ gateway_entry 500100 102000000 ∷ []
  pub taken_off : entries_of (with_edit_entered desk fewer) ≡ gateway_entry 499000 102000000 ∷ []
  pub units_taken : without_entry_units 2024 (codes "GATEWAY") 1000 (entries_of desk) ≡ gateway_entry 499000 102000000 ∷ []
  pub heavier : entries_of (with_edit_entered desk third_cable) ≡ gateway_entry 500000 113000000 ∷ []
  pub new_mass : with_masses (record { product = codes "GATEWAY"; mass = 113000000 } ∷ []) (entries_of desk) ≡ gateway_entry 500000 113000000 ∷ []

-- the plan of a hundred gateways more: the year's entry and the ticket that it puts in
abbrev pub plan_of_more : TablesPlan
plan_of_more = plan.New
    (PutShipment (record { year = 2024; product = codes "GATEWAY"; units = 500100 }) None)
    (record { code = codes "E:t20"; number = 20; text = edit_text more })
    None

-- what the refusals 20 to 23 say of an edit and what the parts tell of them, and what plans do beside the steps of their edits
pub record RefusalExamples : Type 0 where
  pub refused : refused_by_bill desk loop ≡ Some (ClosesCycle (codes "GATEWAY" ∷ codes "BOARD" ∷ []))
  pub told : option_map (map (label_of gateway.labels)) (cycle_by gateway loop) ≡ Some (codes "GATEWAY" ∷ codes "BOARD" ∷ [])
  pub unrefused : refused_by_bill desk more ≡ None
  pub no_heavy_year : too_heavy_entry_year (entries_of (with_edit_entered desk more)) ≡ None
  pub no_heavy_part : too_heavy_part desk ≡ None
  pub not_too_many : has_too_many_findings desk ≡ false
  pub kept_findings : finding_count desk ≡ 10
  pub bill_marks : mark_count gateway.lines (own_at gateway_owns) ≡ 10
  pub kept : kept_number desk (Ship (codes "t19") (codes "GATEWAY") 2024 500000) ≡ Some 19
  pub kept_step : step desk (Ship (codes "t19") (codes "GATEWAY") 2024 500000) ≡ (Ok 19, tables_planned desk (plan.Kept 19))
  pub new_step : step desk more ≡ (Ok 20, tables_planned desk plan_of_more)
