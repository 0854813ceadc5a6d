-- What a call inside a transaction leaves.
use Rattle.std.specs.Prelude.{◌≡◌, ◌⊎◌, ℕ, false, List, Result, Ok, Err, OnOk, OnErr, IsTrue}
use Rattle.sqlite_value.specs.Order.{Row}
use Rattle.sqlite.specs.declared.error.Error.{Error}
use Rattle.sqlite.specs.State.{State, HasCleanDisk, KeepsCommit}
use Rattle.desk_sqlite.specs.Store.{IsStore, rows_in}

-- the statement was run, or its refusal is told
abbrev pub IsDone : Result ℕ Error → Result (Unit {0}) Error → Type 0
IsDone (Ok count) done = done ≡ Ok tt
IsDone (Err e) done = done ≡ Err e

-- where the disk is clean it was before, and inside a transaction what was committed stays
pub record IsInside (old new : State) : Type 0 where
  pub clean : HasCleanDisk new → HasCleanDisk old
  pub kept : HasCleanDisk new → IsTrue old.in_transaction → KeepsCommit old new

-- where it wasn't refused, the transaction goes on, and of a store it leaves a store, of whose rows this is true
abbrev pub Leaves : State → State → Result (Unit {0}) Error → (List Row → List Row → Type 0) → Type 0
Leaves old new result Did =
    HasCleanDisk new → IsTrue old.in_transaction
    → OnOk result (IsTrue new.in_transaction × (IsStore old → IsStore new × Did (rows_in old) (rows_in new)))

-- where it was refused, it changed nothing, or the transaction is ended
abbrev pub Spares : State → State → Result (Unit {0}) Error → Type 0
Spares old new result =
    HasCleanDisk new → IsTrue old.in_transaction → OnErr result (((new.now ≡ old.now) × IsTrue new.in_transaction) ⊎ (new.in_transaction ≡ false))
