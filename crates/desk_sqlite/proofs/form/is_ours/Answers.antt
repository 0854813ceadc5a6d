use Rattle.std.proofs.Common.{◌≡◌, ◌∙◌, List, [], ◌∷◌, length, get_or, true, false, sym, ap, rules, arith, true≢false}
use Rattle.sqlite_schema.specs.declared.schema.Schema.{Schema}
use Rattle.sqlite_schema.specs.declared.schema.Table.{Table}
use Rattle.sqlite_schema.specs.declared.schema.Index.{Index}
use Rattle.desk_sqlite.specs.Store.{IsOurs}
use Rattle.desk_sqlite.specs.Table.{key_index, record_table}
use Rattle.desk_sqlite.proofs.form.is_ours.Goals as goal
use Rattle.desk_sqlite.proofs.form.is_ours.Goals.{then-is_empty, else-is_empty}

one_of : {X : Type 0} (xs ys : List X) (x : X) → ys ≡ xs → length ys ≡ 1 → x ≡ get_or ys 0 x → xs ≡ x ∷ []
one_of xs [] x same one is = absurd (omega arith)
one_of xs (y ∷ []) x same one is = sym same ∙ ap (λ z. z ∷ []) (sym is)
one_of xs (y ∷ z ∷ more) x same one is = absurd (omega arith)

ours_by : (schema : Schema) (table : Table) (index : Index) → schema.tables ≡ table ∷ [] → schema.indexes ≡ index ∷ [] → schema.views ≡ [] → table ≡ record_table table.checks → index ≡ key_index index.name
    → IsOurs schema
ours_by schema table index tables indexes views ours key = (
  table.checks,
  index.name,
  ap (λ all. record { tables = all; indexes = schema.indexes; views = schema.views }) (tables ∙ ap (λ t. t ∷ []) ours)
      ∙ ap (λ all. record { tables = record_table table.checks ∷ []; indexes = all; views = schema.views }) (indexes ∙ ap (λ i. i ∷ []) key)
      ∙ ap (λ all. record { tables = record_table table.checks ∷ []; indexes = key_index index.name ∷ []; views = all }) views,
)

pub returns-then-is_record_table-clause-right : goal.returns-then-is_record_table-clause-right
returns-then-is_record_table-clause-right c passes = elim c.if-is_empty.branch [
  | then-is_empty w ↦ ours_by c.args.schema.now c.table-item.result c.index-item.result
      (one_of c.args.schema.now.tables c.as_slice.result.now c.table-item.result (search rules) (search rules) (search rules))
      (one_of c.args.schema.now.indexes c.as_slice-2.result.now c.index-item.result (search rules) (search rules) (search rules))
      (search rules) (w.is_record_table.ensures.right (sym w.value-is ∙ c.if-is_record_table.true)) (c.is_key_index.ensures.right passes)
  | else-is_empty w ↦ absurd (true≢false (sym c.if-is_record_table.true ∙ w.value-is ∙ w.if-is_empty.false))
]
