-- The engine's tables keep the records, and a damage is told by its key.
use Rattle.std.proofs.Common.{◌≡◌, ◌∙◌, Err, sym}
use Rattle.std.specs.Prelude.{Result}
use Rattle.desk_clerk.specs.declared.open_fault.OpenFault.{OpenFault}
use Rattle.desk_clerk.specs.declared.open_fault.OpenFault.TheVariants.{Damaged}
use Rattle.desk_clerk.proofs.Damages.{told_damage, told_not_memory}
use Rattle.desk_clerk.proofs.opening.engine_of.Goals as goal

handed : {T : Type 0} (fault other : OpenFault) → ◌≡◌ {A = Result T OpenFault} (Err fault) (Err other) → fault ≡ other
handed fault other e = cc

pub returns-in-Err-clause-damage : goal.returns-in-Err-clause-damage
returns-in-Err-clause-damage c = λ kind code e records by_key gathered.
    told_damage c.in-Err.fault kind code records (sym c.into.ensures ∙ handed c.into.result (Damaged kind code) e) (c.in-Err.ensures.told records by_key gathered)

pub returns-in-Err-clause-not_sound : goal.returns-in-Err-clause-not_sound
returns-in-Err-clause-not_sound c = λ kind code e records by_key gathered.
    c.in-Err.ensures.not_sound (told_not_memory c.in-Err.fault kind code (sym c.into.ensures ∙ handed c.into.result (Damaged kind code) e)) records by_key gathered

pub returns-in_err-from_sound_tables-in-Ok-clause-memory : goal.returns-in_err-from_sound_tables-in-Ok-clause-memory
returns-in_err-from_sound_tables-in-Ok-clause-memory c = λ wanting. c.in-Ok.ensures.of_tables
