-- What a plan for the tables does to the records of a store.
use Rattle.std.specs.Prelude.{◌≡◌, ◌<◌, ◌^◌, List, [], ◌∷◌, ◌++◌, decimal, map, Ok}
use Rattle.desk_text.specs.Code.{code_of}
use Rattle.desk_edge.specs.declared.change.Change.{Change}
use Rattle.desk_edge.specs.declared.change.Change.TheVariants.{Put, Drop}
use Rattle.desk_law.specs.Rule.{rule_code}
use Rattle.desk_model.specs.declared.row.Row.TheVariants.{Substance, Member, Material, Part, Line, Product, Exemption, Candidate, Shipment, Ticket}
use Rattle.desk_model.specs.Rows.{pair_code}
use Rattle.desk_model.specs.Tables.{number_of_table}
use Rattle.desk_model.specs.declared.table_name.TableName.TheVariants.{Members, Lines, Exemptions, Shipments}
use Rattle.desk_tables.specs.declared.plan.TablesPlan.{TablesPlan}
use Rattle.desk_tables.specs.declared.plan.TablesPlan.TheVariants as plan
use Rattle.desk_tables.specs.declared.row_change.RowChange.{RowChange}
use Rattle.desk_tables.specs.declared.row_change.RowChange.TheVariants as change
use Rattle.desk_records.specs.Records.{record_of}

-- the record of each row that goes in is put, and the key of a row that is taken out is dropped
unfoldable pub row_changes : RowChange → List Change
row_changes (change.PutSubstance row room) = Put (record_of (Substance row)) ∷ []
row_changes (change.PutMember row room) = Put (record_of (Member row)) ∷ []
row_changes (change.DropMember substance rule) = Drop (record { kind = number_of_table Members; code = pair_code substance (rule_code rule) }) ∷ []
row_changes (change.PutMaterials rows room) = map (λ row. Put (record_of (Material row))) rows
row_changes (change.PutPart row room) = Put (record_of (Part row)) ∷ []
row_changes (change.PutLine row room) = Put (record_of (Line row)) ∷ []
row_changes (change.DropLine parent child) = Drop (record { kind = number_of_table Lines; code = pair_code parent child }) ∷ []
row_changes (change.PutProduct row room) = Put (record_of (Product row)) ∷ []
row_changes (change.PutExemption row room) = Put (record_of (Exemption row)) ∷ []
row_changes (change.DropExemption row) = Drop (record { kind = number_of_table Exemptions; code = row }) ∷ []
row_changes (change.PutCandidate row room) = Put (record_of (Candidate row)) ∷ []
row_changes (change.PutShipment row room) = Put (record_of (Shipment row)) ∷ []
row_changes (change.DropShipment year product) = Drop (record { kind = number_of_table Shipments; code = pair_code (decimal year) product }) ∷ []

-- the changes of a plan: those of its rows, and for a new edit the record of its ticket is put; none for an edit that is kept
unfoldable pub plan_changes : TablesPlan → List Change
plan_changes (plan.Kept number) = []
plan_changes (plan.New change ticket room) = row_changes change ++ Put (record_of (Ticket ticket)) ∷ []

-- what stands before the `/` in a key that is dropped is a code, or a year
unfoldable pub AreDropsInForm : RowChange → Type 0
AreDropsInForm (change.DropMember substance rule) = code_of substance ≡ Ok substance
AreDropsInForm (change.DropLine parent child) = code_of parent ≡ Ok parent
AreDropsInForm (change.DropShipment year product) = year < 2 ^ 64
AreDropsInForm (change.PutSubstance row room) = Unit {0}
AreDropsInForm (change.PutMember row room) = Unit {0}
AreDropsInForm (change.PutMaterials rows room) = Unit {0}
AreDropsInForm (change.PutPart row room) = Unit {0}
AreDropsInForm (change.PutLine row room) = Unit {0}
AreDropsInForm (change.PutProduct row room) = Unit {0}
AreDropsInForm (change.PutExemption row room) = Unit {0}
AreDropsInForm (change.DropExemption row) = Unit {0}
AreDropsInForm (change.PutCandidate row room) = Unit {0}
AreDropsInForm (change.PutShipment row room) = Unit {0}
