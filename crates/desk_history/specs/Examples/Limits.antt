-- Desks at their limits: masses of 2^128, full tables, full texts.
use Rattle.std.specs.Prelude.{◌≡◌, ℕ, true, false, List, [], ◌∷◌, ◌++◌, Some, None, Ok, Err, codes, length, map}
use Rattle.std.specs.List.{range_with_len}
use Rattle.desk_text.specs.Day.{zero_padded}
use Rattle.desk_law.specs.declared.kind.Kind.TheVariants.{Telecommunications}
use Rattle.desk_model.specs.declared.edit.Edit.{Edit}
use Rattle.desk_model.specs.declared.edit.Edit.TheVariants.{Substance, Line, Candidate, Product, Ship}
use Rattle.desk_model.specs.declared.limits.TheConstants.{SUBSTANCE_LIMIT, MEMBER_LIMIT, MATERIAL_LIMIT, PART_LIMIT}
use Rattle.desk_model.specs.declared.limits.TheConstants.{LINE_LIMIT, LINES_OF_PARENT_LIMIT, PRODUCT_LIMIT}
use Rattle.desk_model.specs.declared.limits.TheConstants.{EXEMPTION_LIMIT, CANDIDATE_LIMIT, SHIPMENT_LIMIT}
use Rattle.desk_model.specs.declared.limits.TheConstants.{TICKET_LIMIT, TEXT_LIMIT, FINDING_LIMIT}
use Rattle.desk_model.specs.declared.part_sort.PartSort.TheVariants.{Assembly}
use Rattle.desk_model.specs.declared.rows.substance.SubstanceRow.{SubstanceRow}
use Rattle.desk_model.specs.declared.rows.member.MemberRow.{MemberRow}
use Rattle.desk_model.specs.declared.rows.material.MaterialRow.{MaterialRow}
use Rattle.desk_model.specs.declared.rows.part.PartRow.{PartRow}
use Rattle.desk_model.specs.declared.rows.line.LineRow.{LineRow}
use Rattle.desk_model.specs.declared.rows.product.ProductRow.{ProductRow}
use Rattle.desk_model.specs.declared.rows.exemption.ExemptionRow.{ExemptionRow}
use Rattle.desk_model.specs.declared.rows.candidate.CandidateRow.{CandidateRow}
use Rattle.desk_model.specs.declared.rows.shipment.ShipmentRow.{ShipmentRow}
use Rattle.desk_model.specs.declared.rows.ticket.TicketRow.{TicketRow}
use Rattle.desk_model.specs.declared.rule_fault.RuleFault.TheVariants.{TableFull, TextFull, TotalTooLarge, FindingsFull, YearTooLarge}
use Rattle.desk_model.specs.Effect.{with_edit_entered}
use Rattle.desk_findings.specs.Findings.{finding_count}
use Rattle.desk_model.specs.Lists.{Lists}
use Rattle.desk_findings.specs.Mass.{mass}
use Rattle.desk_findings.specs.Reaches.{lines_of}
use Rattle.desk_history.specs.Refused.{findings_full, table_full, text_full}
use Rattle.desk_model.specs.Start.{start}
use Rattle.desk_findings.specs.Totals.{has_too_many_findings}
use Rattle.desk_history.specs.Limits.{has_too_many_lines, has_too_much_text, tables_over}
use Rattle.desk_model.specs.Examples.Desks.{article, assembly, date, declares, material}
use Rattle.desk_history.specs.Examples.Desks.{answer_at, desk_after}

-- material U of one microgram, an article of one U, and seven levels, each of 1,000,000 of the one below
abbrev pub levels : List Edit
levels =
    declares (codes "ACME") 1 (material (codes "U") 1 [] ∷ [])
    ∷ article (codes "t2") (codes "A")
    ∷ Line (codes "t3") (codes "A") (codes "U") 1
    ∷ assembly (codes "t4") (codes "L1")
    ∷ assembly (codes "t5") (codes "L2")
    ∷ assembly (codes "t6") (codes "L3")
    ∷ assembly (codes "t7") (codes "L4")
    ∷ assembly (codes "t8") (codes "L5")
    ∷ assembly (codes "t9") (codes "L6")
    ∷ assembly (codes "t10") (codes "L7")
    ∷ Line (codes "t11") (codes "L1") (codes "A") 1000000
    ∷ Line (codes "t12") (codes "L2") (codes "L1") 1000000
    ∷ Line (codes "t13") (codes "L3") (codes "L2") 1000000
    ∷ Line (codes "t14") (codes "L4") (codes "L3") 1000000
    ∷ Line (codes "t15") (codes "L5") (codes "L4") 1000000
    ∷ Line (codes "t16") (codes "L6") (codes "L5") 1000000
    ∷ []

abbrev pub tower : Lists
tower = desk_after levels

abbrev pub hundred : Lists
hundred = desk_after (levels ++ Line (codes "t17") (codes "L7") (codes "L6") 100 ∷ Product (codes "t18") (codes "L7") Telecommunications ∷ [])

-- each level and what it holds
abbrev pub above_below : List (List ℕ × List ℕ)
above_below =
    (codes "L1", codes "A")
    ∷ (codes "L2", codes "L1")
    ∷ (codes "L3", codes "L2")
    ∷ (codes "L4", codes "L3")
    ∷ (codes "L5", codes "L4")
    ∷ (codes "L6", codes "L5")
    ∷ (codes "L7", codes "L6")
    ∷ (codes "TOP", codes "L7")
    ∷ []

-- as many candidates as the table holds, of codes 0000, 0001 and so on
abbrev pub full : Lists
full = record start {
  candidates = map (λ n. record { substance = zero_padded 4 n; day = date 2020 1 16 }) (range_with_len 0 1024);
}

-- two kept tickets with these texts
abbrev pub kept_texts : List ℕ → List ℕ → Lists
kept_texts first second = record start {
  tickets = record { code = codes "E:t1"; number = 1; text = first } ∷ record { code = codes "E:t2"; number = 2; text = second } ∷ [];
}

-- the same levels over an article that is empty yet, and an assembly of the greatest
abbrev pub empty_tower : Lists
empty_tower = desk_after (
    declares (codes "ACME") 1 (material (codes "U") 1 [] ∷ [])
    ∷ article (codes "t2") (codes "A")
    ∷ map (λ level. assembly (level.0 ++ codes "a") level.0) above_below
    ++ map (λ level. Line (level.0 ++ codes "b") level.0 level.1 1000000) above_below)

-- a material of 2^14 micrograms, and six levels of 2^19 each: in all 2^128
abbrev pub powers : ℕ → List Edit
powers mass =
    declares (codes "ACME") 1 (material (codes "U") mass [] ∷ [])
    ∷ article (codes "t2") (codes "A")
    ∷ assembly (codes "t3") (codes "L1")
    ∷ assembly (codes "t4") (codes "L2")
    ∷ assembly (codes "t5") (codes "L3")
    ∷ assembly (codes "t6") (codes "L4")
    ∷ assembly (codes "t7") (codes "L5")
    ∷ Line (codes "t8") (codes "A") (codes "U") 524288
    ∷ Line (codes "t9") (codes "L1") (codes "A") 524288
    ∷ Line (codes "t10") (codes "L2") (codes "L1") 524288
    ∷ Line (codes "t11") (codes "L3") (codes "L2") 524288
    ∷ Line (codes "t12") (codes "L4") (codes "L3") 524288
    ∷ Product (codes "t13") (codes "L4") Telecommunications
    ∷ Ship (codes "t14") (codes "L4") 2025 1
    ∷ []

abbrev pub last_power : Edit
last_power = Line (codes "t15") (codes "L5") (codes "L4") 524288

-- 2^19 units weigh 2^128 micrograms
abbrev pub last_units : Edit
last_units = Ship (codes "t15") (codes "L4") 2024 524288

-- three of the product that weighs 10^38 in each of two years
abbrev pub shipped_twice : Lists
shipped_twice = desk_after (
    levels
    ++ Line (codes "t17") (codes "L7") (codes "L6") 100
    ∷ Product (codes "t18") (codes "L7") Telecommunications
    ∷ Ship (codes "t19") (codes "L7") 2025 3
    ∷ Ship (codes "t20") (codes "L7") 2024 3
    ∷ [])

pub record LimitExamples : Type 0 where
  -- 10^6 to the seventh power is more than 2^128, and 10^38 is not
  pub rule_21 : answer_at tower (Line (codes "t17") (codes "L7") (codes "L6") 1000000) ≡ Err (TotalTooLarge (codes "L7"))
  pub below : answer_at tower (Line (codes "t17") (codes "L7") (codes "L6") 100) ≡ Ok 17
  pub mass_below : mass hundred (codes "L7") ≡ 100000000000000000000000000000000000000
  -- of all that are too heavy the part with the least code is told: here L7, which is below TOP
  pub least_part : answer_at empty_tower (Line (codes "t17") (codes "A") (codes "U") 1) ≡ Err (TotalTooLarge (codes "L7"))
  -- 2^128 itself is too much, as a part's mass and as a year's sum
  pub whole_power : answer_at (desk_after (powers 16384)) last_power ≡ Err (TotalTooLarge (codes "L5"))
  pub less_power : answer_at (desk_after (powers 16383)) last_power ≡ Ok 15
  pub whole_year : answer_at (desk_after (powers 16384)) last_units ≡ Err (YearTooLarge 2024)
  pub less_year : answer_at (desk_after (powers 16383)) last_units ≡ Ok 15
  -- of all years that are too heavy the least is told
  pub least_year : answer_at shipped_twice (Line (codes "t21") (codes "L7") (codes "L6") 200) ≡ Err (YearTooLarge 2024)
  -- four of these in one year are more than 2^128, and three are not
  pub rule_23 : answer_at hundred (Ship (codes "t19") (codes "L7") 2024 4) ≡ Err (YearTooLarge 2024)
  pub three_units : answer_at hundred (Ship (codes "t19") (codes "L7") 2024 3) ≡ Ok 19
  -- a new candidate has no room, and a kept one needs none
  pub rule_18 : answer_at full (Candidate (codes "t1") (codes "lead") (date 2018 6 27)) ≡ Err (TableFull 8)
  pub room_in_others : answer_at full (Substance (codes "t1") (codes "tin") (codes "Tin") None) ≡ Ok 1
  -- texts of the greatest length in all leave no room for one more byte, and then refusal 19 refuses
  pub most_text : (text : List ℕ) → length text ≡ 67108864 → has_too_much_text (kept_texts text []) ≡ false
  pub too_much_text : (text : List ℕ) → length text ≡ 67108864 → has_too_much_text (kept_texts text (0 ∷ [])) ≡ true
  pub rule_19 : (t : Lists) (edit : Edit) → has_too_much_text (with_edit_entered t edit) ≡ true → text_full t edit ≡ Some TextFull
  -- with more findings than the desk keeps, refusal 22 refuses
  pub rule_22 : (t : Lists) (edit : Edit) → has_too_many_findings (with_edit_entered t edit) ≡ true → findings_full t edit ≡ Some FindingsFull

-- parts that are one part, P, and lines
abbrev pub lines_of_one : List LineRow → Lists
lines_of_one lines = record start { parts = record { code = codes "P"; sort = Assembly; name = codes "P" } ∷ []; lines = lines }

-- which tables are over their limits: at the limit none is, and one row more is too much
pub record TableLimitExamples : Type 0 where
  -- of the ten tables, of the lines of one parent, of the bytes of texts, of findings
  pub limits : SUBSTANCE_LIMIT ∷ MEMBER_LIMIT ∷ MATERIAL_LIMIT ∷ PART_LIMIT ∷ LINE_LIMIT ∷ PRODUCT_LIMIT ∷ EXEMPTION_LIMIT
      ∷ CANDIDATE_LIMIT ∷ SHIPMENT_LIMIT ∷ TICKET_LIMIT ∷ []
      ≡ 4096 ∷ 8192 ∷ 8192 ∷ 16384 ∷ 131072 ∷ 4096 ∷ 2048 ∷ 1024 ∷ 65536 ∷ 262144 ∷ []
  pub other_limits : LINES_OF_PARENT_LIMIT ∷ TEXT_LIMIT ∷ FINDING_LIMIT ∷ [] ≡ 4096 ∷ 67108864 ∷ 4194304 ∷ []
  pub substances : (rows : List SubstanceRow) → length rows ≡ 4096 → tables_over (record start { substances = rows }) ≡ []
  pub substances_over : (rows : List SubstanceRow) → length rows ≡ 4097 → tables_over (record start { substances = rows }) ≡ 1 ∷ []
  pub members : (rows : List MemberRow) → length rows ≡ 8192 → tables_over (record start { members = rows }) ≡ []
  pub members_over : (rows : List MemberRow) → length rows ≡ 8193 → tables_over (record start { members = rows }) ≡ 2 ∷ []
  pub materials : (rows : List MaterialRow) → length rows ≡ 8192 → tables_over (record start { materials = rows }) ≡ []
  pub materials_over : (rows : List MaterialRow) → length rows ≡ 8193 → tables_over (record start { materials = rows }) ≡ 3 ∷ []
  pub parts : (rows : List PartRow) → length rows ≡ 16384 → has_too_many_lines (record start { parts = rows }) ≡ false →
      tables_over (record start { parts = rows }) ≡ []
  pub parts_over : (rows : List PartRow) → length rows ≡ 16385 → has_too_many_lines (record start { parts = rows }) ≡ false →
      tables_over (record start { parts = rows }) ≡ 4 ∷ []
  pub lines : (rows : List LineRow) → length rows ≡ 131072 → tables_over (record start { lines = rows }) ≡ []
  pub lines_over : (rows : List LineRow) → length rows ≡ 131073 → tables_over (record start { lines = rows }) ≡ 5 ∷ []
  pub products : (rows : List ProductRow) → length rows ≡ 4096 → tables_over (record start { products = rows }) ≡ []
  pub products_over : (rows : List ProductRow) → length rows ≡ 4097 → tables_over (record start { products = rows }) ≡ 6 ∷ []
  pub exemptions : (rows : List ExemptionRow) → length rows ≡ 2048 → tables_over (record start { exemptions = rows }) ≡ []
  pub exemptions_over : (rows : List ExemptionRow) → length rows ≡ 2049 → tables_over (record start { exemptions = rows }) ≡ 7 ∷ []
  pub candidates : (rows : List CandidateRow) → length rows ≡ 1024 → tables_over (record start { candidates = rows }) ≡ []
  pub candidates_over : (rows : List CandidateRow) → length rows ≡ 1025 → tables_over (record start { candidates = rows }) ≡ 8 ∷ []
  pub shipments : (rows : List ShipmentRow) → length rows ≡ 65536 → tables_over (record start { shipments = rows }) ≡ []
  pub shipments_over : (rows : List ShipmentRow) → length rows ≡ 65537 → tables_over (record start { shipments = rows }) ≡ 9 ∷ []
  pub tickets : (rows : List TicketRow) → length rows ≡ 262144 → tables_over (record start { tickets = rows }) ≡ []
  pub tickets_over : (rows : List TicketRow) → length rows ≡ 262145 → tables_over (record start { tickets = rows }) ≡ 10 ∷ []
  pub lines_of_parent : (lines : List LineRow) → length lines ≡ 5000 → length (lines_of lines (codes "P")) ≡ 4096 → tables_over (lines_of_one lines) ≡ []
  pub lines_of_parent_over : (lines : List LineRow) → length lines ≡ 5000 → length (lines_of lines (codes "P")) ≡ 4097 →
      tables_over (lines_of_one lines) ≡ 11 ∷ []
  -- of tables that are over together the first is told
  pub first_table : (t : Lists) (edit : Edit) → tables_over (with_edit_entered t edit) ≡ 7 ∷ 8 ∷ 11 ∷ [] → table_full t edit ≡ Some (TableFull 7)
  pub two_tables : (rows : List ExemptionRow) (others : List TicketRow) → length rows ≡ 2049 → length others ≡ 262145 →
      tables_over (record start { exemptions = rows; tickets = others }) ≡ 7 ∷ 10 ∷ []
  -- as many findings as the desk keeps, and one more
  pub most_findings : (t : Lists) → finding_count t ≡ 4194304 → has_too_many_findings t ≡ false
  pub too_many_findings : (t : Lists) → finding_count t ≡ 4194305 → has_too_many_findings t ≡ true
