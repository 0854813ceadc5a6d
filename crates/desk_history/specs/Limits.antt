-- Limits of whole tables.
use Rattle.std.specs.Prelude.{ℕ, Bool, List, [], ◌∷◌, ◌++◌, length, nat_lt, sum_by, if◌then◌else◌}
use Rattle.std.specs.List.{flat_map, list_any}
use Rattle.desk_model.specs.declared.limits.TheConstants.{LINES_OF_PARENT_LIMIT, TEXT_LIMIT}
use Rattle.desk_model.specs.declared.table_name.TableName.{TableName}
use Rattle.desk_model.specs.Lists.{Lists}
use Rattle.desk_model.specs.Tables.{all_tables, number_of_table, row_count, table_limit}
use Rattle.desk_findings.specs.Reaches.{lines_of}

-- the table holds more rows than it may
abbrev pub is_overfull : Lists → TableName → Bool
is_overfull t table = nat_lt (table_limit table) (row_count t table)

-- some part has more lines than one parent may have
abbrev pub has_too_many_lines : Lists → Bool
has_too_many_lines t = list_any (λ part. nat_lt LINES_OF_PARENT_LIMIT (length (lines_of t.lines part.code))) t.parts

-- the table's number, where it is overfull
abbrev pub if_over : Lists → TableName → List ℕ
if_over t table = if is_overfull t table then number_of_table table ∷ [] else []

-- the numbers of the tables over their limits, in order, and 11 for the lines of one parent
unfoldable pub tables_over : Lists → List ℕ
tables_over t = flat_map (if_over t) all_tables ++ (if has_too_many_lines t then 11 ∷ [] else [])

-- the kept edit texts have more bytes than the desk keeps
unfoldable pub has_too_much_text : Lists → Bool
has_too_much_text t = nat_lt TEXT_LIMIT (sum_by (λ ticket. length ticket.text) t.tickets)
