-- What is made of the records has the fault that is told: a record that no row has, or tables that aren't sound.
use Rattle.std.proofs.Common.{◌∙◌, Err, ap, subst, sym}
use Rattle.desk_records.specs.Gathered.{NamesDamage}
use Rattle.desk_records.specs.Records.{HasNoRow, IsOfOtherVersion}
use Rattle.desk_records.proofs.Few.{each_has_a_row}
use Rattle.desk_records.proofs.Gatherings.{gathered_none, gathered_other, gathered_tables, none_of_no_row, none_of_other_version, unless_memory, unsound_named}
use Rattle.desk_records.proofs.gathered_records.GatheredRecords.into_tables.Goals as goal

pub returns-in-Ok-clause-same : goal.returns-in-Ok-clause-same
returns-in-Ok-clause-same c = λ records by_key gathered.
    c.in-Ok.ensures.same records by_key (gathered_tables records c.args.self c.in-Tables.gathering c.in-Tables.is gathered)

pub returns-in-Err-clause-told : goal.returns-in-Err-clause-told
returns-in-Err-clause-told c = λ records by_key gathered.
    let are = gathered_tables records c.args.self c.in-Tables.gathering c.in-Tables.is gathered in
    subst (NamesDamage records) (sym c.into.ensures)
    (unsound_named c.in-Err.fault records (λ kind code e. c.sound_tables.ensures.told kind code (c.in-Err.is ∙ ap (λ f. Err f) e) records by_key are))

pub returns-in-Err-clause-not_sound : goal.returns-in-Err-clause-not_sound
returns-in-Err-clause-not_sound c = λ some records by_key gathered.
    let are = gathered_tables records c.args.self c.in-Tables.gathering c.in-Tables.is gathered in
    unless_memory c.in-Err.fault (λ e. some (c.into.ensures ∙ e))
    (λ kind code e. c.sound_tables.ensures.not_sound kind code (c.in-Err.is ∙ ap (λ f. Err f) e) records by_key are)

pub returns-in-OtherVersion-clause-told : goal.returns-in-OtherVersion-clause-told
unfolding NamesDamage
returns-in-OtherVersion-clause-told c = λ records by_key gathered. gathered_other records c.args.self c.in-OtherVersion.key c.in-OtherVersion.is gathered

pub returns-in-OtherVersion-clause-not_sound : goal.returns-in-OtherVersion-clause-not_sound
returns-in-OtherVersion-clause-not_sound c = λ some records by_key gathered t sound same.
    let key = c.in-OtherVersion.key in
    each_has_a_row IsOfOtherVersion none_of_other_version records t key.kind key.code sound by_key same (gathered_other records c.args.self key c.in-OtherVersion.is gathered)

pub returns-in-NoRow-clause-told : goal.returns-in-NoRow-clause-told
unfolding NamesDamage
returns-in-NoRow-clause-told c = λ records by_key gathered. gathered_none records c.args.self c.in-NoRow.key c.in-NoRow.is gathered

pub returns-in-NoRow-clause-not_sound : goal.returns-in-NoRow-clause-not_sound
returns-in-NoRow-clause-not_sound c = λ some records by_key gathered t sound same.
    let key = c.in-NoRow.key in
    each_has_a_row HasNoRow none_of_no_row records t key.kind key.code sound by_key same (gathered_none records c.args.self key c.in-NoRow.is gathered)
