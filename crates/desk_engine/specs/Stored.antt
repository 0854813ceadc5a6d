-- What is stored of the tables: their bill of materials, its nodes by code, what the nodes have, names of substances, and the years.
use Rattle.std.specs.Prelude.{◌≡◌, ℕ, List, []}
use Rattle.desk_graph.specs.Graph.{Graph, label_of}
use Rattle.desk_rollup.specs.Plan.{AreRolledUp}
use Rattle.desk_rollup.specs.Values.{OwnValues, own_at}
use Rattle.desk_tonnage.specs.declared.entry.Entry.{Entry}
use Rattle.desk_model.specs.Lists.{Lists}
use Rattle.desk_bridge.specs.AfterEdit.{AreOwnOf}
use Rattle.desk_bridge.specs.Bridge.{IsBillOf}
use Rattle.desk_bridge.specs.Index.{IsIndex}
use Rattle.desk_bridge.specs.Numbers.{finding_number}
use Rattle.desk_bridge.specs.Years.{entries_of}
use Rattle.desk_bridge.specs.declared.node_index.NodeRow.{NodeRow}
use Rattle.desk_engine.specs.declared.stored.Stored.{Stored}
use Rattle.desk_engine.specs.Names.{AreFewNames}

-- a bill, its nodes by code, what they have of their own, names of substances and entries of years are those of the tables
pub record AreStoredOf (t : Lists) (g : Graph) (nodes : List NodeRow) (own : ℕ → OwnValues) (names : List (List ℕ)) (entries : List Entry) : Type 0 where
  pub bill : IsBillOf t g
  pub index : IsIndex g.labels nodes
  pub named : AreFewNames t names
  pub owns : AreOwnOf t g (finding_number g.labels names) (label_of names) own
  pub years : entries ≡ entries_of t

-- what is stored is that of the tables, and what the nodes have of their own is rolled up
pub record IsStoredOf (t : Lists) (stored : Stored) : Type 0 where
  pub of : AreStoredOf t stored.bill stored.index.rows (own_at stored.rollups.owns) stored.names stored.years.entries
  pub rolled : AreRolledUp stored.bill stored.rollups

-- nothing is stored
abbrev pub nothing_stored : Stored
nothing_stored = record {
  bill = record { labels = []; lines = [] };
  index = record { rows = []; room = 0 };
  rollups = record { owns = []; rolled = [] };
  years = record { entries = []; room = 0 };
  names = [];
}
