-- The table of a store.
use Rattle.std.specs.Prelude.{ℕ, true, false, List, [], ◌∷◌, None, codes}
use Rattle.sqlite_value.specs.declared.value.Value.TheVariants.{Null}
use Rattle.sqlite_value.specs.declared.keys.Collation.TheVariants.{Binary}
use Rattle.sqlite_value.specs.Keys.{plain}
use Rattle.sqlite_sql.specs.Term.{Term}
use Rattle.sqlite_schema.specs.declared.schema.Kind.{Kind}
use Rattle.sqlite_schema.specs.declared.schema.Kind.TheVariants.{Integer, Blob}
use Rattle.sqlite_schema.specs.declared.schema.Column.{Column}
use Rattle.sqlite_schema.specs.declared.schema.Index.{Index}
use Rattle.sqlite_schema.specs.declared.schema.Table.{Table}
use Rattle.sqlite_schema.specs.declared.schema.Schema.{Schema}

-- a column of a type, which every row has a value in
abbrev pub filled_column : List ℕ → Kind → Column
filled_column name kind = record { name = name; kind = kind; is_strict = true; not_null = true; default = Null; collation = Binary }

-- the columns: kind, code and body
abbrev pub record_columns : List Column
record_columns = filled_column (codes "kind") Integer ∷ filled_column (codes "code") Blob ∷ filled_column (codes "body") Blob ∷ []

-- the table, with what it checks of a row
abbrev pub record_table : List Term → Table
record_table checks = record {
  name = codes "record";
  tree = 0;
  columns = record_columns;
  key = None;
  primary = 1 ∷ 2 ∷ [];
  uniques = (1 ∷ 2 ∷ []) ∷ [];
  orders = plain ∷ [];
  checks = checks;
  references = [];
  computed = [];
  stamps = record { places = []; terms = []; formats = [] };
  is_counted = false;
}

-- the index over kind and code, under which no two rows agree
abbrev pub key_index : List ℕ → Index
key_index name = record { name = name; tree = 1; table = 0; columns = 1 ∷ 2 ∷ []; order = plain; is_unique = true }

-- nothing but the table and its index
abbrev pub store_schema : List Term → List ℕ → Schema
store_schema checks name = record { tables = record_table checks ∷ []; indexes = key_index name ∷ []; views = [] }
