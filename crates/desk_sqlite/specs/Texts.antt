-- The statements that a store is asked.
use Rattle.std.specs.Prelude.{ℕ, List, codes}

-- tells the number of each row
abbrev pub numbers_text : List ℕ
numbers_text = codes "SELECT rowid FROM record ORDER BY rowid"

-- the first records of all
abbrev pub first_text : List ℕ
first_text = codes "SELECT kind, code, body FROM record ORDER BY kind, code LIMIT 64"

-- the first records of a kind past a code
abbrev pub within_text : List ℕ
within_text = codes "SELECT kind, code, body FROM record WHERE kind = ?1 AND code > ?2 ORDER BY kind, code LIMIT 64"

-- the first records of the kinds past a kind
abbrev pub beyond_text : List ℕ
beyond_text = codes "SELECT kind, code, body FROM record WHERE kind > ?1 ORDER BY kind, code LIMIT 64"

-- keeps a record whose key no other has
abbrev pub insert_text : List ℕ
insert_text = codes "INSERT INTO record (kind, code, body) VALUES (?1, ?2, ?3)"

-- keeps four records whose keys no other has
abbrev pub four_text : List ℕ
four_text = codes "INSERT INTO record (kind, code, body) VALUES (?1, ?2, ?3), (?4, ?5, ?6), (?7, ?8, ?9), (?10, ?11, ?12)"

-- drops the record of a key
abbrev pub drop_text : List ℕ
drop_text = codes "DELETE FROM record WHERE kind = ?1 AND code = ?2"
