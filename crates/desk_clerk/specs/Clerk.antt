-- A desk with the store that keeps it, and a clerk over one, as contracts see them. Clauses, here and in the crates above, speak of them
-- by these words alone.
use Rattle.std.specs.Prelude.{List}
use Rattle.desk_engine.specs.Engine.{Engined, lists_of}
use Rattle.desk_history.specs.History.{History}
use Rattle.desk_model.specs.Lists.{Lists}
use Rattle.desk_model.specs.declared.edit.Edit.{Edit}

-- an engine, and the store that keeps its tables
pub record KeptDesk (K : Type 0) : Type 0 where
  pub engine : Engined
  pub keeper : K

-- the tables of a desk that is kept
abbrev pub tables_of : {K : Type 0} → KeptDesk K → Lists
tables_of desk = lists_of desk.engine

-- a clerk: its desk and store, the edits that are published since it was opened, and all that it has accepted since
pub record Clerked (K : Type 0) : Type 0 where
  pub desk : KeptDesk K
  pub published : List Edit
  pub accepted : List Edit

-- the tables after all edits that the clerk has accepted
abbrev pub current_tables : {K : Type 0} → Clerked K → Lists
current_tables clerk = tables_of clerk.desk

-- the store that the clerk writes
abbrev pub keeper_of : {K : Type 0} → Clerked K → K
keeper_of clerk = clerk.desk.keeper

-- the list of these edits, from these tables on
abbrev pub list_from : Lists → List Edit → History
list_from opening edits = record { opening = opening; edits = edits }
