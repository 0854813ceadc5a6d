-- What answers read of what is stored.
use Rattle.std.specs.Prelude.{◌≡◌, ◌<◌, ℕ, Bool, true, false, Option, Some, None, List, length, map, slice_index_or}
use Rattle.std.specs.List.{AllByRecursion}
use Rattle.desk_text.specs.Code.{code_cmp}
use Rattle.desk_rows.specs.Rows.{with_row}
use Rattle.desk_graph.specs.declared.line.BillLine.{BillLine}
use Rattle.desk_graph.specs.Graph.{Graph, label_of}
use Rattle.desk_graph.specs.Reaches.{is_node_or_reaches}
use Rattle.desk_rollup.specs.Numbers.{Rises, has, hop_numbers, mark_number, load_numbers}
use Rattle.desk_rollup.specs.declared.hop.Hop.{Hop}
use Rattle.desk_rollup.specs.Values.{RolledValues, carried_by_node as node_carried}
use Rattle.desk_model.specs.declared.rows.line.LineRow.{LineRow}
use Rattle.desk_model.specs.declared.rows.product.ProductRow.{ProductRow}
use Rattle.desk_model.specs.Lists.{Lists}
use Rattle.desk_findings.specs.Carried.{carried}
use Rattle.desk_findings.specs.Findings.{Finding, findings_at}
use Rattle.desk_findings.specs.Mass.{mass}
use Rattle.desk_findings.specs.Numbering.{has_numbered, is_found}
use Rattle.desk_scratch.specs.declared.finding.Finding.{Finding as Told}
use Rattle.desk_scratch.specs.LookUps.{finding_of}
use Rattle.desk_bridge.specs.Numbers.{finding_number}

-- these are the values of a code: what it weighs, the numbers of its findings, each once, and what it carries of each substance
pub record AreValuesAt (t : Lists) (labels names : List (List ℕ)) (code : List ℕ) (values : RolledValues) : Type 0 where
  pub weight : values.weight ≡ mass t code
  pub rise : Rises (hop_numbers values.hops)
  pub found : (n : ℕ) → has (hop_numbers values.hops) n ≡ has_numbered (finding_number labels names) (findings_at t code) n
  pub loads_rise : Rises (load_numbers values.loads)
  pub loads : (n : ℕ) → node_carried values.loads n ≡ carried t (label_of names n) code

-- the number is that of a finding of the tables
abbrev pub IsNumber : Lists → List (List ℕ) → List (List ℕ) → ℕ → Type 0
IsNumber t labels names n = (finding : Finding) × (is_found t finding ≡ true) × (finding_number labels names finding ≡ n)

-- a finding of the tables with this number
pub record HasNumber (t : Lists) (labels names : List (List ℕ)) (n : ℕ) (finding : Finding) : Type 0 where
  pub found : is_found t finding ≡ true
  pub number : finding_number labels names finding ≡ n

-- findings of the tables with the numbers of these marks
pub record AreTold (t : Lists) (labels names : List (List ℕ)) (hops : List Hop) (list : List Told) : Type 0 where
  pub found : AllByRecursion (λ told. is_found t (finding_of told) ≡ true) list
  pub numbers : map (λ told. finding_number labels names (finding_of told)) list ≡ map (λ hop. mark_number hop.mark) hops

-- the line of a user as the tables keep it
abbrev pub user_row : List (List ℕ) → List ℕ → BillLine → LineRow
user_row labels code user = record { parent = label_of labels user.node; child = code; count = user.count }

-- of each node of the bill there is a mark, which tells whether it reaches this one, or is it
pub record AreMarksOf (g : Graph) (node : ℕ) (marks : List Bool) : Type 0 where
  pub size : length marks ≡ length g.labels
  pub tells : (other : ℕ) → slice_index_or marks other false ≡ is_node_or_reaches g.lines other node

-- of each name there is a sum, which is this of it
abbrev pub AreSumsOf : (List ℕ → ℕ) → List (List ℕ) → List ℕ → Type 0
AreSumsOf of names sums = (place : ℕ) → place < length names → slice_index_or sums place 0 ≡ of (label_of names place)

-- these products with another one, if there is one
abbrev pub with_product : Option ProductRow → List ProductRow → List ProductRow
with_product None rows = rows
with_product (Some product) rows = with_row (λ row. row.part) code_cmp product rows
