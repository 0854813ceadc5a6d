-- What the rules on sums over whole tables say of tables as an edit leaves them.
use Rattle.std.specs.Prelude.{Bool, true, false, ◌||◌, List, [], ◌∷◌, Option, option_map}
use Rattle.desk_model.specs.declared.rule_fault.RuleFault.{RuleFault}
use Rattle.desk_model.specs.declared.rule_fault.RuleFault.TheVariants.{FindingsFull, TotalTooLarge, YearTooLarge}
use Rattle.desk_model.specs.declared.edit.Edit.{Edit}
use Rattle.desk_model.specs.Lists.{Lists}
use Rattle.desk_tables.specs.declared.row_change.RowChange.{RowChange}
use Rattle.desk_tables.specs.declared.row_change.RowChange.TheVariants as change
use Rattle.desk_tables.specs.declared.changed_table.ChangedTable.{ChangedTable}
use Rattle.desk_tables.specs.declared.changed_table.ChangedTable.TheVariants as table
use Rattle.desk_findings.specs.Totals.{has_too_many_findings, too_heavy_part, too_heavy_year}
use Rattle.desk_history.specs.Refused.{refuse_if}
use Rattle.desk_history.specs.Rising.{may_add_findings, may_raise_masses, may_raise_years}

-- the refusals 21 to 23, in order: a part is too heavy, there are too many findings, a year is too heavy
abbrev pub refusals_of_sums : Lists → List (Option RuleFault)
refusals_of_sums t =
    option_map TotalTooLarge (too_heavy_part t)
    ∷ refuse_if (has_too_many_findings t) FindingsFull
    ∷ option_map YearTooLarge (too_heavy_year t)
    ∷ []

-- the edit may raise a mass, a number of findings or the mass of a year
abbrev pub may_raise_sums : Edit → Bool
may_raise_sums edit = may_raise_masses edit || may_add_findings edit || may_raise_years edit

-- the change is of a table that a sum is taken over
abbrev pub is_of_sums : RowChange → Bool
is_of_sums (change.PutMember row room) = true
is_of_sums (change.DropMember substance rule) = true
is_of_sums (change.PutMaterials rows room) = true
is_of_sums (change.PutLine row room) = true
is_of_sums (change.DropLine parent child) = true
is_of_sums (change.PutCandidate row room) = true
is_of_sums (change.PutShipment row room) = true
is_of_sums (change.DropShipment year product) = true
is_of_sums _ = false

-- the change is of lines or of shipments
abbrev pub is_of_lines_or_shipments : RowChange → Bool
is_of_lines_or_shipments (change.PutLine row room) = true
is_of_lines_or_shipments (change.DropLine parent child) = true
is_of_lines_or_shipments (change.PutShipment row room) = true
is_of_lines_or_shipments (change.DropShipment year product) = true
is_of_lines_or_shipments _ = false

-- the lists with the changed table in the place of theirs
abbrev pub with_table : Lists → ChangedTable → Lists
with_table t (table.Members members) = record t { members = members.rows }
with_table t (table.Materials materials) = record t { materials = materials.rows }
with_table t (table.Lines lines) = record t { lines = lines.rows }
with_table t (table.Candidates candidates) = record t { candidates = candidates.rows }
with_table t (table.Shipments shipments) = record t { shipments = shipments.rows }
