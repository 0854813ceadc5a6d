-- What the rows of a store keep under each key.
use Rattle.std.specs.Prelude.{◌≡◌, ℕ, pos, List, [], ◌∷◌, map, Option, None, Some, Bool, true, false}
use Rattle.std.specs.Ordering.{is_lt}
use Rattle.sqlite_value.specs.declared.value.Value.TheVariants.{Int, Blob}
use Rattle.sqlite_value.specs.Order.{Row, column}
use Rattle.sqlite_rules.specs.Lists.{Has}
use Rattle.desk_edge.specs.Content.{Content, IsChanged, IsFirstOf, IsFirstPast, body_after, is_past, key_cmp, key_of}
use Rattle.desk_edge.specs.declared.change.Change.{Change}
use Rattle.desk_edge.specs.declared.change.Change.TheVariants.{Put}
use Rattle.desk_edge.specs.declared.key.Key.{Key}
use Rattle.desk_edge.specs.declared.record.Record.{Record}
use Rattle.desk_sqlite.specs.Rows.{body_kept, is_of}

-- the body that the rows keep under each key
abbrev pub rows_content : List Row → Content
rows_content rows key = body_kept rows key.kind key.code

-- the change was made
abbrev pub IsMade : Change → List Row → List Row → Type 0
IsMade change old new = (key : Key) → rows_content new key ≡ body_after change key (rows_content old key)

-- all the changes were made, one after the other
abbrev pub AreMade : List Change → List Row → List Row → Type 0
AreMade changes old new = IsChanged changes (rows_content old) (rows_content new)

-- the record was put in
abbrev pub IsPut : Record → List Row → List Row → Type 0
IsPut kept = IsMade (Put kept)

-- the records were put in, one after the other
abbrev pub ArePut : List Record → List Row → List Row → Type 0
ArePut records = AreMade (map Put records)

-- the row has the key
abbrev pub IsOf : Key → Row → Type 0
IsOf key row = is_of key.kind key.code row ≡ true

-- no two rows have one key
abbrev pub AreKeyed : List Row → Type 0
AreKeyed rows = (key : Key) (a b : Row) → Has rows a → Has rows b → IsOf key a → IsOf key b → a ≡ b

-- the columns of these rows were shown in turn: each is wanted, and of those that are wanted and past the one before it none has an earlier
-- key
abbrev pub AreNextWanted : (ℕ → List ℕ → Bool) → Option Key → List Row → List Row → Type 0
AreNextWanted wanted after rows [] = Unit {0}
AreNextWanted wanted after rows (shown ∷ more) =
    (row : Row) × Has rows row × (shown ≡ column row 1 ∷ column row 2 ∷ column row 3 ∷ [])
    × ((own : Key) → IsOf own row
    → (wanted own.kind own.code ≡ true)
    × ((key : Key) (x : Row) → Has rows x → IsOf key x → wanted key.kind key.code ≡ true → is_past after key ≡ true → is_lt (key_cmp key own) ≡ false)
    × AreNextWanted wanted (Some own) rows more)

-- of the rows whose keys are wanted there is none, or the first of them were shown
abbrev pub AreLooked : (ℕ → List ℕ → Bool) → List Row → List Row → Type 0
AreLooked wanted rows [] = (key : Key) (x : Row) → Has rows x → IsOf key x → wanted key.kind key.code ≡ false
AreLooked wanted rows (shown ∷ more) = AreNextWanted wanted None rows (shown ∷ more)

-- the columns of these rows were shown in turn, and of those past the one before it none has an earlier key
abbrev pub AreNextRows : Option Key → List Row → List Row → Type 0
AreNextRows after rows [] = Unit {0}
AreNextRows after rows (shown ∷ more) =
    (row : Row) × Has rows row × (shown ≡ column row 1 ∷ column row 2 ∷ column row 3 ∷ [])
    × ((own : Key) → IsOf own row
    → ((key : Key) (x : Row) → Has rows x → IsOf key x → is_past after key ≡ true → is_lt (key_cmp key own) ≡ false)
    × AreNextRows (Some own) rows more)

-- of the rows past the key there is none, or the first of them were shown
abbrev pub AreFirstRows : Option Key → List Row → List Row → Type 0
AreFirstRows after rows [] = (key : Key) (x : Row) → Has rows x → IsOf key x → is_past after key ≡ false
AreFirstRows after rows (shown ∷ more) = AreNextRows after rows (shown ∷ more)

-- each of the records is kept, and nothing is kept that lies past the one before it, or past the key, and before the record. That it lies
-- there itself is looked at as it is given
abbrev pub AreNextPast : Content → Option Key → List Record → Type 0
AreNextPast content after [] = Unit {0}
AreNextPast content after (kept ∷ more) = IsFirstOf content after kept × AreNextPast content (Some (key_of kept)) more

-- nothing is kept past the key, or these records come next
abbrev pub AreFirstPast : Content → Option Key → List Record → Type 0
AreFirstPast content after [] = IsFirstPast content after None
AreFirstPast content after (kept ∷ more) = AreNextPast content after (kept ∷ more)

-- the row shows the columns of the record
pub record IsShown (kept : Record) (shown : Row) : Type 0 where
  pub kind : column shown 0 ≡ Int (pos kept.kind)
  pub code : column shown 1 ≡ Blob kept.code
  pub body : column shown 2 ≡ Blob kept.body

-- the first of the rows show the columns of the records, each of one
abbrev pub AreShown : List Record → List Row → Type 0
AreShown [] rows = Unit {0}
AreShown (kept ∷ more) [] = ⊥
AreShown (kept ∷ more) (shown ∷ rest) = IsShown kept shown × AreShown more rest
