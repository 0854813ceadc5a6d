-- What is made of records one after the other.
use Rattle.std.proofs.Common.{◌≡◌, ℕ, List, [], ◌∷◌, ◌++◌, map, ap, refl, sym, subst, ◌∙◌, arith}
use Rattle.std.specs.List.{AllByRecursion}
use Rattle.std.proofs.lemmas.Grind.{common_steps}
use Rattle.std.proofs.lemmas.List.{map-append}
use Rattle.std.proofs.lemmas.List.Quantifiers.{Any-push}
use Rattle.desk_edge.specs.Content.{key_of}
use Rattle.desk_edge.specs.declared.key.Key.{Key}
use Rattle.desk_edge.specs.declared.record.Record.{Record}
use Rattle.desk_fields.specs.RowTexts.{HasVersion, IsRowInForm}
use Rattle.desk_fields.proofs.RowLaws.{has_version}
use Rattle.desk_model.specs.Lists.{Lists}
use Rattle.desk_model.specs.declared.row.Row.{Row}
use Rattle.desk_model.specs.PutRows.{put_in}
use Rattle.desk_tables.specs.Gathered.{no_rows}
use Rattle.desk_tables.proofs.Gathers.{gathered_last}
use Rattle.desk_tables.specs.declared.sound_fault.SoundFault.{SoundFault}
use Rattle.desk_tables.specs.declared.sound_fault.SoundFault.TheVariants as sound_fault
use Rattle.desk_records.specs.Damage.{AreTablesOf, HasAt, HasNoRowAt, HasOtherVersionAt, IsUnsoundAt}
use Rattle.desk_records.specs.Faults.{sound_as_gather}
use Rattle.desk_records.specs.Gathered.{IsGatheredOf, NamesDamage}
use Rattle.desk_records.specs.Records.{HasNoRow, IsOfNoRow, IsOfOtherVersion, IsRecordOf, record_of}
use Rattle.desk_records.specs.declared.gather_fault.GatherFault.TheVariants as gather_fault
use Rattle.desk_records.specs.declared.gathered_records.GatheredRecords.{GatheredRecords}
use Rattle.desk_records.specs.declared.gathered_records.GatheredRecords.TheVariants.{Tables, OtherVersion, NoRow}

-- no records have the tables without a row
pub no_tables : AreTablesOf [] no_rows
no_tables = record { rows = []; are_written = refl; forms = tt; are_gathered = refl }

each_and_last : (rows : List Row) (row : Row) → AllByRecursion IsRowInForm rows → IsRowInForm row → AllByRecursion IsRowInForm (rows ++ row ∷ [])
each_and_last [] row forms form = (form, tt)
each_and_last (first ∷ rows) row forms form = (forms.0, each_and_last rows row forms.1 form)

-- one record more puts its row into the tables
pub one_table_more : (records : List Record) (lists : Lists) (kept : Record) (row : Row) → AreTablesOf records lists → IsRecordOf row kept
    → AreTablesOf (records ++ kept ∷ []) (put_in row lists)
one_table_more records lists kept row are is = record {
  rows = are.rows ++ row ∷ [];
  are_written = ap (λ (l : List Record). l ++ kept ∷ []) are.are_written ∙ ap (λ (k : Record). map record_of are.rows ++ k ∷ []) is.is_written ∙ sym (map-append record_of are.rows (row ∷ []));
  forms = each_and_last are.rows row are.forms is.form;
  are_gathered = ap (put_in row) are.are_gathered ∙ sym (gathered_last are.rows row);
}

-- the record of a row is of the version, so that one of another version is that of no row
pub has_the_version : (kept : Record) (row : Row) → IsRecordOf row kept → HasVersion kept.body
has_the_version kept row is =
    has_version kept.kind kept.code kept.body row
    (record { form = is.form; of_table = ap (λ r. r.kind) is.is_written; has_code = ap (λ r. r.code) is.is_written; has_body = ap (λ r. r.body) is.is_written })

pub none_of_other_version : (kept : Record) → IsOfOtherVersion kept → IsOfNoRow kept
none_of_other_version kept other row is = other (has_the_version kept row is)

pub none_of_no_row : (kept : Record) → HasNoRow kept → IsOfNoRow kept
none_of_no_row kept none = none.1

-- what holds of a record still does with one record more behind
at_later : (Holds : Record → Type 0) (records : List Record) (kept : Record) (key : Key) → HasAt Holds records key.kind key.code → HasAt Holds (records ++ kept ∷ []) key.kind key.code
at_later Holds records kept key a = (a.0, a.1, grind (arith, common_steps), grind (arith, common_steps), a.4)

pub other_version_later : (records : List Record) (kept : Record) (key : Key) → HasOtherVersionAt records key.kind key.code → HasOtherVersionAt (records ++ kept ∷ []) key.kind key.code
other_version_later = at_later IsOfOtherVersion

pub no_row_later : (records : List Record) (kept : Record) (key : Key) → HasNoRowAt records key.kind key.code → HasNoRowAt (records ++ kept ∷ []) key.kind key.code
no_row_later = at_later HasNoRow

-- and it may hold of the last one
at_last : (Holds : Record → Type 0) (records : List Record) (kept : Record) (key : Key) → key ≡ key_of kept → Holds kept → HasAt Holds (records ++ kept ∷ []) key.kind key.code
at_last Holds records kept key is holds =
    Any-push (λ other. (other.kind ≡ key.kind) × (other.code ≡ key.code) × Holds other) records kept (ap (λ k. k.kind) (sym is), ap (λ k. k.code) (sym is), holds)

pub other_version_last : (records : List Record) (kept : Record) (key : Key) → key ≡ key_of kept → IsOfOtherVersion kept → HasOtherVersionAt (records ++ kept ∷ []) key.kind key.code
other_version_last = at_last IsOfOtherVersion

pub no_row_last : (records : List Record) (kept : Record) (key : Key) → key ≡ key_of kept → HasNoRow kept → HasNoRowAt (records ++ kept ∷ []) key.kind key.code
no_row_last = at_last HasNoRow

-- what is made of the records, by its case
pub gathered_tables : (records : List Record) (gathered : GatheredRecords) (tables : Lists) → gathered ≡ Tables tables → IsGatheredOf records gathered → AreTablesOf records tables
unfolding IsGatheredOf
gathered_tables records gathered tables e of = subst (IsGatheredOf records) e of

pub gathered_other : (records : List Record) (gathered : GatheredRecords) (key : Key) → gathered ≡ OtherVersion key → IsGatheredOf records gathered → HasOtherVersionAt records key.kind key.code
unfolding IsGatheredOf
gathered_other records gathered key e of = subst (IsGatheredOf records) e of

pub gathered_none : (records : List Record) (gathered : GatheredRecords) (key : Key) → gathered ≡ NoRow key → IsGatheredOf records gathered → HasNoRowAt records key.kind key.code
unfolding IsGatheredOf
gathered_none records gathered key e of = subst (IsGatheredOf records) e of

-- a fault of the tables is one of the records
pub unsound_named : (fault : SoundFault) (records : List Record) → ((kind : ℕ) (code : List ℕ) → fault ≡ sound_fault.Unsound kind code → IsUnsoundAt records kind code)
    → NamesDamage records (sound_as_gather fault)
unfolding NamesDamage
unsound_named (sound_fault.Unsound kind code) records unsound = unsound kind code refl
unsound_named sound_fault.OutOfMemory records unsound = tt

-- what holds where tables aren't sound, holds unless memory was wanting
pub unless_memory : {P : Type 0} (fault : SoundFault) → (sound_as_gather fault ≡ gather_fault.OutOfMemory → ⊥) → ((kind : ℕ) (code : List ℕ) → fault ≡ sound_fault.Unsound kind code → P) → P
unless_memory (sound_fault.Unsound kind code) some holds = holds kind code refl
unless_memory sound_fault.OutOfMemory some holds = absurd (some refl)
