-- An engine as contracts see it. Clauses, here and in the crates above, speak of it by these words alone.
use Rattle.std.specs.Prelude.{◌≡◌, true}
use Rattle.desk_model.specs.Forms.{is_edit_in_form}
use Rattle.desk_model.specs.Lists.{Lists}
use Rattle.desk_model.specs.declared.edit.Edit.{Edit}
use Rattle.desk_history.specs.Sound.{Sound}
use Rattle.desk_tables.specs.Desk.{Desk}
use Rattle.desk_tables.specs.Plan.{IsPlan, tables_planned}
use Rattle.desk_engine.specs.declared.plan.Plan.{Plan}
use Rattle.desk_engine.specs.declared.stored.Stored.{Stored}
use Rattle.desk_engine.specs.Planned.{LeavesStoredOr, ReplacesAffected}
use Rattle.desk_engine.specs.Stored.{IsStoredOf}

-- an engine: its tables, with the room that each list has, and what is stored of them. The rooms and what is stored are spoken of by the
-- condition of a commit alone
pub record Engined : Type 0 where
  pub desk : Desk
  pub stored : Stored

-- the tables of an engine
abbrev pub lists_of : Engined → Lists
lists_of engine = engine.desk.lists

-- the tables are sound, and what is stored is that of these
pub record IsWhole (engine : Engined) : Type 0 where
  pub sound : Sound (lists_of engine)
  pub stored : IsStoredOf (lists_of engine) engine.stored

-- the plan is the edit's, prepared at this engine as it stands: the tables answer and leave what the edit's step does, what is to be
-- stored of these is left, and just what the edit affects is replaced
pub record IsPlanOf (engine : Engined) (edit : Edit) (plan : Plan) : Type 0 where
  pub tables : IsPlan engine.desk edit plan.tables
  pub stored : LeavesStoredOr engine.stored (lists_of engine) (tables_planned (lists_of engine) plan.tables) plan.stored
  pub replaced : ReplacesAffected engine.stored (lists_of engine) edit plan.stored

-- the plan was prepared at this engine as it stands, for an edit in form
abbrev pub IsPrepared : Engined → Plan → Type 0
IsPrepared engine plan = (edit : Edit) × (is_edit_in_form edit ≡ true) × IsPlanOf engine edit plan
