-- A keeper in memory: what it keeps and refuses, call by call.
use Rattle.std.specs.Prelude.{ℕ, ◌==◌, Bool, List, [], ◌∷◌, Option, option_map}
use Rattle.std.specs.List.{list_any, find}
use Rattle.desk_edge.specs.Content.{Content, is_past, key_cmp, key_of}
use Rattle.desk_edge.specs.Faults.{one_more}
use Rattle.desk_edge.specs.declared.change.Change.{Change}
use Rattle.desk_edge.specs.declared.change.Change.TheVariants.{Put, Drop}
use Rattle.desk_edge.specs.declared.record.Record.{Record}
use Rattle.desk_edge.specs.declared.key.Key.{Key}
use Rattle.desk_rows.specs.Rows.{row_of, with_row, without_row}

-- a keeper in memory, as its calls see it
pub record KeeperInMemory : Type 0 where
  -- the records, in order of their keys
  pub records : List Record
  -- the numbers of the calls that fail, counted from 1
  pub failing : List ℕ
  -- how many calls were made, counted up to the last value of the count
  pub calls : ℕ
  -- how many of them failed, counted in the same way
  pub faults : ℕ

-- a keeper with nothing in it, whose calls never fail
abbrev pub blank : KeeperInMemory
blank = record { records = []; failing = []; calls = 0; faults = 0 }

-- what it keeps under each key
abbrev pub content_of : KeeperInMemory → Content
content_of k key = option_map (λ kept. kept.body) (row_of key_of key_cmp key k.records)

-- whether the next call is one of those that fail
abbrev pub keeper_fails_next : KeeperInMemory → Bool
keeper_fails_next k = list_any (λ n. n == one_more k.calls) k.failing

-- the keeper after a call that failed, which is counted twice, as a call and as a fault
abbrev pub keeper_after_fault : KeeperInMemory → KeeperInMemory
keeper_after_fault k = record k { calls = one_more k.calls; faults = one_more k.faults }

-- the keeper after a call that didn't fail and changed nothing
abbrev pub keeper_after_call : KeeperInMemory → KeeperInMemory
keeper_after_call k = record k { calls = one_more k.calls }

-- the first record past a key
abbrev pub first_past : KeeperInMemory → Option Key → Option Record
first_past k after = find (λ kept. is_past after (key_of kept)) k.records

-- the records after a change
abbrev pub records_with : Change → List Record → List Record
records_with (Put kept) records = with_row key_of key_cmp kept records
records_with (Drop key) records = without_row key_of key_cmp key records

-- the records after all these changes, one after the other
abbrev pub records_with_all : List Change → List Record → List Record
records_with_all [] records = records
records_with_all (change ∷ changes) records = records_with_all changes (records_with change records)
