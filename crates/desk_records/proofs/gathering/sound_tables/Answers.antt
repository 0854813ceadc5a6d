-- The tables keep the records that they were gathered of, and are the only ones in form that do.
use Rattle.std.proofs.Common.{◌≡◌, ◌∙◌, Err, ap, subst, sym}
use Rattle.std.specs.Prelude.{Result}
use Rattle.desk_edge.specs.Content.{IsSame}
use Rattle.desk_tables.specs.Soundness.{NamesBreach}
use Rattle.desk_tables.specs.declared.sound_fault.SoundFault.{SoundFault}
use Rattle.desk_tables.specs.declared.sound_fault.SoundFault.TheVariants.{Unsound}
use Rattle.desk_records.specs.Damage.{AreTablesOf}
use Rattle.desk_records.specs.Records.{content_in, tables_content}
use Rattle.desk_records.proofs.GatheredTables.{gathered_rows, gathered_same, gathered_sound}
use Rattle.desk_records.proofs.gathering.sound_tables.Goals as goal

handed : {T : Type 0} (fault other : SoundFault) → ◌≡◌ {A = Result T SoundFault} (Err fault) (Err other) → fault ≡ other
handed fault other e = cc

pub returns-in-Ok-clause-same : goal.returns-in-Ok-clause-same
returns-in-Ok-clause-same c = λ records by_key are.
    subst (λ t. IsSame (content_in records) (tables_content t)) (sym c.into_tables-tables.ensures) (gathered_same records c.args.gathering by_key are)

pub returns-in-Err-clause-told : goal.returns-in-Err-clause-told
returns-in-Err-clause-told c = λ kind code e records by_key are.
    let lists = c.into_tables-tables.result.lists in
    let theirs = subst (AreTablesOf records) (sym c.into_tables-tables.ensures) are in
    let broken = subst (NamesBreach lists) (handed c.in-Err.fault (Unsound kind code) e) c.in-Err.ensures.told in
    (lists, c.in_order.ensures, gathered_rows records lists theirs, (λ key. sym (gathered_same records lists by_key theirs key)), broken)

pub returns-in-Err-clause-not_sound : goal.returns-in-Err-clause-not_sound
returns-in-Err-clause-not_sound c = λ kind code e records by_key are t sound same.
    let lists = c.into_tables-tables.result.lists in
    let theirs = subst (AreTablesOf records) (sym c.into_tables-tables.ensures) are in
    c.is_sound.ensures.unsound kind code (c.in-Err.is ∙ ap (λ f. Err f) (handed c.in-Err.fault (Unsound kind code) e))
    (gathered_sound records lists by_key theirs c.in_order.ensures t sound same)
