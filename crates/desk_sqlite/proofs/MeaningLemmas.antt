-- What the statements do to the rows, from the clauses of the crate.
use Rattle.std.proofs.Common.{◌≡◌, ◌⊎◌, inl, inr, ℕ, ◌/◌, ℤ, pos, List, [], ◌∷◌, drop, length, map, Bool, true, false, cond, None, Ok, Err, Result, refl, ap, subst, ◌∙◌}
use Rattle.sqlite_value.specs.declared.value.Value.{Value}
use Rattle.sqlite_value.specs.declared.value.Value.TheVariants.{Null, Int, Blob}
use Rattle.sqlite_value.specs.declared.keys.Collation.TheVariants.{Binary}
use Rattle.sqlite_value.specs.Order.{Row}
use Rattle.sqlite_trees.specs.Tree.{Trees, put_row}
use Rattle.sqlite_sql.specs.declared.ops.BinaryOp.TheVariants.{Compare}
use Rattle.sqlite_sql.specs.declared.ops.CompareOp.TheVariants.{Eq, Gt}
use Rattle.sqlite_sql.specs.Term.{Term, col, op2}
use Rattle.sqlite_sql.specs.Ops.{unary}
use Rattle.sqlite_sql.specs.Query.{IsAnswer}
use Rattle.sqlite_sql.specs.Program.{overlay}
use Rattle.sqlite_schema.specs.declared.schema.Kind.TheVariants.{Integer}
use Rattle.sqlite_schema.specs.declared.command.Source.TheVariants.{Values}
use Rattle.sqlite_schema.specs.declared.command.Command.TheVariants.{Insert, Delete}
use Rattle.sqlite_rules.specs.Edit.{edit_of, edited, without_all, are_fresh, next_rowid, numbered, put_all, with_rowid}
use Rattle.sqlite_rules.specs.Cast.{cast, cast_row}
use Rattle.sqlite_rules.specs.Calls.{ids_of}
use Rattle.sqlite_rules.specs.declared.error.Rowids.TheVariants.{Chosen, Given}
use Rattle.sqlite.specs.Effect.{Database, IsDatabase, value_rows}
use Rattle.sqlite.specs.Given.{IsPlain}
use Rattle.sqlite.specs.Does.{Tally, Does}
use Rattle.sqlite.specs.Rows.{Written, stamped}
use Rattle.sqlite.specs.Listing.{understood}
use Rattle.sqlite.specs.State.{State, mode_of, Executes, Shown}
use Rattle.sqlite.proofs.Callers.{command_of, statement_of, runs_as, reads_as, one_step}
use Rattle.desk_edge.specs.declared.record.Record.{Record}
use Rattle.desk_sqlite.specs.Texts.{first_text, within_text, beyond_text, numbers_text, drop_text}
use Rattle.desk_sqlite.specs.Table.{record_table, store_schema}
use Rattle.desk_sqlite.proofs.TextLemmas.{first_query, drop_query, numbers_query, drop_is, drop_plain, first_is, first_plain, first_listed, within_is, within_plain, within_listed, beyond_is, beyond_plain, beyond_listed, numbers_is, numbers_plain, numbers_listed}

-- the tests of a drop, of a look within a kind, and of one beyond it
abbrev pub drop_tests : List Term
drop_tests = op2 (Compare Eq Binary) (col 1 1) (col 0 0) ∷ op2 (Compare Eq Binary) (col 1 2) (col 0 1) ∷ []

abbrev pub within_tests : List Term
within_tests = op2 (Compare Eq Binary) (col 1 1) (col 0 0) ∷ op2 (Compare Gt Binary) (col 1 2) (col 0 1) ∷ []

abbrev pub beyond_tests : List Term
beyond_tests = op2 (Compare Gt Binary) (col 1 1) (col 0 0) ∷ []

-- the row that an insert puts in
abbrev pub row_of : ℤ → ℕ → List ℕ → List ℕ → Row
row_of n kind code body = Int n ∷ Int (pos kind) ∷ Blob code ∷ Blob body ∷ []

either : (b : Bool) (x : Value) → cond b x x ≡ x
either true x = refl
either false x = refl

cast_null : cast Integer Null ≡ Null
unfolding unary
cast_null = either _ Null

cast_number : (n : ℤ) → cast Integer (Int n) ≡ Int n
unfolding unary
cast_number n = either _ (Int n)

-- the row that a record is put in as
abbrev pub new_row : List Row → Record → Row
new_row rows kept = row_of (next_rowid rows) kept.kind kept.code kept.body

-- the rows that records are put in as, one after the other
abbrev pub new_rows : List Row → List Record → List Row
new_rows rows [] = []
new_rows rows (kept ∷ more) = new_row rows kept ∷ new_rows (put_row (new_row rows kept) rows) more

-- what an insert is given for the records
abbrev pub sources : List Record → List Row
sources records = map (λ kept. Null ∷ Int (pos kept.kind) ∷ Blob kept.code ∷ Blob kept.body ∷ []) records

module _ (checks : List Term) where
  abbrev casts : List Row → List Row
  casts all = map (λ s. cast_row (record_table checks) (drop 0 s)) all

  number_of : (rows : List Row) (kept : Record)
      → with_rowid Chosen rows (cast_row (record_table checks) (Null ∷ Int (pos kept.kind) ∷ Blob kept.code ∷ Blob kept.body ∷ [])) ≡ new_row rows kept
  number_of rows kept = rw (cast_null, cast_number (pos kept.kind)) refl

  numbered_new : (rows : List Row) (records : List Record) → numbered Chosen rows (casts (sources records)) ≡ new_rows rows records
  numbered_new rows [] = refl
  numbered_new rows (kept ∷ more) =
      ap (λ row. row ∷ numbered Chosen (put_row row rows) (casts (sources more))) (number_of rows kept)
      ∙ ap (λ rest. new_row rows kept ∷ rest) (numbered_new (put_row (new_row rows kept) rows) more)

-- a part that gave a value did not stop on the way
went : {B E R : Type 0} {b : B} {Stops : E → Type 0} → ((stop : E) × Stops stop × (Ok b ≡ Err stop)) ⊎ R → R
went (inl stopped) = absurd (let e = stopped.2 in cc)
went (inr on) = on

same_value : {B E : Type 0} {a b : B} → ◌≡◌ {A = Result B E} (Ok a) (Ok b) → a ≡ b
same_value e = cc

module _ (checks : List Term) (name : List ℕ) (old new : State) (has : old.now.schema ≡ store_schema checks name) where
  -- a drop takes out the rows that pass its tests
  pub drops : (kind : ℕ) (code : List ℕ) (count : ℕ) → Executes drop_text (Int (pos kind) ∷ Blob code ∷ []) old new (Ok count)
      → (new.now.schema ≡ store_schema checks name) × (found : List Row) × IsAnswer (drop_query drop_tests) (overlay old.now.trees []) (Int (pos kind) ∷ Blob code ∷ []) found
      × (new.now.trees 0 ≡ without_all (old.now.trees 0) (ids_of found))
  drops kind code count h =
      let params = Int (pos kind) ∷ Blob code ∷ [] in
      let db = old.now.trees in
      let command = Delete 0 (record { lets = []; body = drop_query drop_tests }) in
      let w = runs_as drop_text params old new (store_schema checks name) has command (drop_is checks name) (drop_plain checks name) count h in
      let text = statement_of drop_text (understood (store_schema checks name) drop_text) in
      let done = went (subst (λ s. Does old.step_limit (mode_of old) params (record old.now { schema = s }) text None command (Ok (w.tally, new.now))) has w.changed) in
      let now = ap (λ (p : Tally × Database). p.1) (same_value (went (went done.2).2).2) in
      let given = went done.1 in
      let applied = went given.2 in
      let trees : done.0.trees ≡ applied.0 = ap (λ (it : Written). it.trees) (same_value applied.2) in
      let rows = (one_step (store_schema checks name) _ db applied.0 (edit_of db (record_table checks) (ids_of given.0) Given 0 []) refl applied.1).rows in
      (ap (λ (d : Database). d.schema) now, given.0, given.1.answer Null, ap (λ (d : Database). d.trees 0) now ∙ ap (λ (t : Trees). t 0) trees ∙ rows)

  -- an insert puts in the rows that the records are, each under a number that none had, and leaves a database
  pub inserts : (sql : List ℕ) (terms : List Term) (params : Row) (records : List Record) (count : ℕ)
      → IsPlain (understood (store_schema checks name) sql) → command_of (understood (store_schema checks name) sql) ≡ Insert 0 (Values terms 4)
      → value_rows (stamped (record_table checks) params) 4 (length terms / 4) terms ≡ sources records → Executes sql params old new (Ok count)
      → (new.now.schema ≡ store_schema checks name) × (are_fresh (old.now.trees 0) (new_rows (old.now.trees 0) records) ≡ true)
      × (new.now.trees 0 ≡ put_all (old.now.trees 0) (new_rows (old.now.trees 0) records)) × IsDatabase new.now
  inserts sql terms params records count plain is from h =
      let db = old.now.trees in
      let table = record_table checks in
      let command = Insert 0 (Values terms 4) in
      let w = runs_as sql params old new (store_schema checks name) has command is plain count h in
      let text = statement_of sql (understood (store_schema checks name) sql) in
      let done = went (subst (λ s. Does old.step_limit (mode_of old) params (record old.now { schema = s }) text None command (Ok (w.tally, new.now))) has w.changed) in
      let now = ap (λ (p : Tally × Database). p.1) (same_value (went (went done.2).2).2) in
      let given = went done.1 in
      let written = went (went given.2).2 in
      let counted = went written.2 in
      let trees : done.0.trees ≡ written.0 = ap (λ (it : Written). it.trees) (same_value counted.2) ∙ same_value counted.1 in
      let applies = one_step (store_schema checks name) _ db written.0 (edit_of db table [] Chosen 0 given.0) refl written.1 in
      let news : (edit_of db table [] Chosen 0 given.0).news ≡ new_rows (db 0) records =
      ap (λ all. (edit_of db table [] Chosen 0 all).news) (given.1.1 ∙ from) ∙ numbered_new checks (db 0) records in
      let rows : written.0 0 ≡ put_all (db 0) (new_rows (db 0) records) = applies.rows ∙ ap (λ all. edited db (record { table = table; gone = []; news = all })) news in (
        ap (λ (d : Database). d.schema) now,
        subst (λ all. are_fresh (db 0) all ≡ true) news applies.fresh,
        ap (λ (d : Database). d.trees 0) now ∙ ap (λ (t : Trees). t 0) trees ∙ rows,
        w.sound,
      )

  -- what the looks show
  pub shows_first : (rows : List Row) → Shown first_text [] old new rows → IsAnswer (first_query []) (overlay old.now.trees []) [] rows
  shows_first rows h =
      (reads_as first_text [] old new (store_schema checks name) has _ (first_is checks name) (first_plain checks name) (first_listed checks name) rows h).answer Null

  pub shows_within : (kind : ℕ) (code : List ℕ) (rows : List Row) → Shown within_text (Int (pos kind) ∷ Blob code ∷ []) old new rows
      → IsAnswer (first_query within_tests) (overlay old.now.trees []) (Int (pos kind) ∷ Blob code ∷ []) rows
  shows_within kind code rows h =
      (reads_as within_text (Int (pos kind) ∷ Blob code ∷ []) old new (store_schema checks name) has _ (within_is checks name) (within_plain checks name) (within_listed checks name) rows h).answer Null

  pub shows_beyond : (kind : ℕ) (rows : List Row) → Shown beyond_text (Int (pos kind) ∷ []) old new rows
      → IsAnswer (first_query beyond_tests) (overlay old.now.trees []) (Int (pos kind) ∷ []) rows
  shows_beyond kind rows h =
      (reads_as beyond_text (Int (pos kind) ∷ []) old new (store_schema checks name) has _ (beyond_is checks name) (beyond_plain checks name) (beyond_listed checks name) rows h).answer Null

  pub shows_numbers : (rows : List Row) → Shown numbers_text [] old new rows → IsAnswer numbers_query (overlay old.now.trees []) [] rows
  shows_numbers rows h =
      (reads_as numbers_text [] old new (store_schema checks name) has _ (numbers_is checks name) (numbers_plain checks name) (numbers_listed checks name) rows h).answer Null
