-- A shelf in memory: which stores it keeps and which are lent, call by call.
use Rattle.std.specs.Prelude.{◌≡◌, ℕ, ◌==◌, ◌<◌, Bool, true, false, List, [], ◌∷◌, ◌++◌, if◌then◌else◌, Option, None, Some, is_some, length, remove, slice_index_or}
use Rattle.std.specs.Option.{option_map_or}
use Rattle.std.specs.Cmp.Lexicographic.{slice_cmp}
use Rattle.std.specs.List.{list_any}
use Rattle.std.specs.Ordering.{nat_cmp}
use Rattle.std.specs.declared.cmp.Ordering.{Ordering}
use Rattle.desk_edge.specs.Content.{Content}
use Rattle.desk_edge.specs.Faults.{one_more}
use Rattle.desk_edge.specs.Stores.{KeeperInMemory, blank, content_of}
use Rattle.desk_rows.specs.Rows.{row_of, without_row}

-- names are compared by their bytes
abbrev pub name_cmp : List ℕ → List ℕ → Ordering
name_cmp = slice_cmp nat_cmp

-- the name is one of these
abbrev pub is_name_among : List (List ℕ) → List ℕ → Bool
is_name_among names name = is_some (row_of (λ own. own) name_cmp name names)

-- no name stands twice among these
abbrev pub AreApart : List (List ℕ) → Type 0
AreApart [] = Unit {0}
AreApart (name ∷ names) = (is_name_among names name ≡ false) × AreApart names

-- the first element of the name stands at the place: there it is found, and from there it is taken out
pub record StandsFirst {X : Type 0} (name_of : X → List ℕ) (name : List ℕ) (xs : List X) (place : ℕ) : Type 0 where
  pub within : place < length xs
  pub found : (d : X) → row_of name_of name_cmp name xs ≡ Some (slice_index_or xs place d)
  pub is_there : is_some (row_of name_of name_cmp name xs) ≡ true
  pub taken : without_row name_of name_cmp name xs ≡ remove xs place

-- a shelf in memory, as its calls see it
pub record Shelved : Type 0 where
  -- the stores as they were given back last, each behind its name
  pub stores : List (List ℕ × KeeperInMemory)
  -- the names of those that are lent
  pub lent : List (List ℕ)
  -- the numbers of the openings that fail, counted from 1
  pub failing : List ℕ
  -- how many openings there were, counted up to the last value of the count
  pub calls : ℕ
  -- how many faults, counted in the same way
  pub faults : ℕ

-- a store of this name is lent
abbrev pub is_lent : Shelved → List ℕ → Bool
is_lent s name = is_name_among s.lent name

-- the store of this name, if there is one
abbrev pub store_named : Shelved → List ℕ → Option (List ℕ × KeeperInMemory)
store_named s name = row_of (λ store. store.0) name_cmp name s.stores

-- what the store of this name keeps; a store that isn't there keeps nothing
abbrev pub shelf_content : Shelved → List ℕ → Content
shelf_content s name key = option_map_or (λ store. content_of store.1 key) (store_named s name) None

-- how many faults the store of this name has counted; a store that isn't there has counted none
abbrev pub count_in : Shelved → List ℕ → ℕ
count_in s name = option_map_or (λ store. store.1.faults) (store_named s name) 0

-- the store of this name as it is opened: with no fault counted; one that isn't there is blank
abbrev pub opened : Shelved → List ℕ → KeeperInMemory
opened s name = option_map_or (λ store. record store.1 { faults = 0 }) (store_named s name) blank

-- whether the next opening is one of those that fail
abbrev pub shelf_fails_next : Shelved → Bool
shelf_fails_next s = list_any (λ n. n == one_more s.calls) s.failing

-- the same stores are kept, and the same are lent
abbrev pub LendsTheSame : Shelved → Shelved → Type 0
LendsTheSame old new = (new.stores ≡ old.stores) × (new.lent ≡ old.lent)

-- the store of this name is lent, and those that were lent before; the stores stay
abbrev pub Lends : List ℕ → Shelved → Shelved → Type 0
Lends name old new = (new.stores ≡ old.stores) × (new.lent ≡ (if is_lent old name then old.lent else old.lent ++ name ∷ []))

-- the store was put back under this name, before the others that are kept, in place of the one of its name, and is lent no more
abbrev pub IsPutBack : List ℕ → KeeperInMemory → Shelved → Shelved → Type 0
IsPutBack name store old new =
    (new.stores ≡ (name, store) ∷ without_row (λ store. store.0) name_cmp name old.stores) × (new.lent ≡ without_row (λ lent. lent) name_cmp name old.lent)
