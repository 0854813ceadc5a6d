-- Records as lines, and in which order they stand.
use Rattle.std.specs.Prelude.{ℕ, List, [], ◌∷◌, ◌++◌, decimal}
use Rattle.std.specs.List.{flat_map}
use Rattle.desk_edge.specs.Content.{key_cmp, key_of}
use Rattle.desk_edge.specs.declared.record.Record.{Record}
use Rattle.desk_rows.specs.Rows.{with_rows}

-- the line of a record: its kind in digits, TAB, its code, TAB, its body, LF
abbrev pub line_of : Record → List ℕ
line_of kept = decimal kept.kind ++ 9 ∷ kept.code ++ 9 ∷ kept.body ++ 10 ∷ []

-- a line for each record, in order
abbrev pub record_lines : List Record → List ℕ
record_lines records = flat_map line_of records

-- the records in the order of their keys
abbrev pub sorted : List Record → List Record
sorted records = with_rows key_of key_cmp records []
