-- What the reader of a query keeps of the pairs that it has read.
use Rattle.std.specs.Prelude.{◌≡◌, ◌≢◌, ℕ, Bool, true, false, not, List, [], ◌∷◌, Option, Result, Ok, Err, codes, if◌then◌else◌}
use Rattle.std.specs.List.{list_any}
use Rattle.std.specs.Option.{option_and_then}
use Rattle.std.specs.Str.{bytes_eq}
use Rattle.desk_text.specs.Day.{Date}
use Rattle.desk_law.specs.declared.kind.Kind.{Kind}
use Rattle.desk_law.specs.Kind.{kind_of}
use Rattle.desk_http.specs.declared.ask.Ask.{Ask}
use Rattle.desk_http.specs.declared.http_fault.HttpFault.{HttpFault}
use Rattle.desk_http.specs.declared.http_fault.QueryKey.{QueryKey}
use Rattle.desk_http.specs.declared.http_fault.QueryKey.TheVariants as key
use Rattle.desk_http.specs.declared.query.Field.{Field}
use Rattle.desk_http.specs.declared.query.Field.TheVariants.{Absent, Said}
use Rattle.desk_http.specs.declared.query.Query.{Query}
use Rattle.desk_text.specs.Forms.{an_askable_day}
use Rattle.desk_http.specs.Query.{Pair, only, query_values}
use Rattle.desk_http.specs.Routes.{FromQuery, asks, day, kind}

-- the field is right for the values of its name: there is none, or it says what the only one of them is
abbrev pub IsField : {T : Type 0} → (List ℕ → Option T) → List (List ℕ) → Field T → Type 0
IsField read values Absent = values ≡ []
IsField read values (Said value) = (values ≢ []) × (option_and_then read (only values) ≡ value)

-- no pair has the name of the field
abbrev pub is_absent : {T : Type 0} → Field T → Bool
is_absent Absent = true
is_absent (Said value) = false

-- the key of a name
abbrev pub key_named : List ℕ → QueryKey
key_named name = if bytes_eq name (codes "kind") then key.Kind else (if bytes_eq name (codes "day") then key.Day else key.Other)

-- the pair has another name than the two that rows take
abbrev pub is_other : Pair → Bool
is_other pair = not (list_any (bytes_eq pair.0) (codes "day" ∷ codes "kind" ∷ []))

-- what is kept is right for these pairs
pub record IsQueryOf (query : Query) (pairs : List Pair) : Type 0 where
  pub kind : IsField kind_of (query_values (codes "kind") pairs) query.kind
  pub day : IsField an_askable_day (query_values (codes "day") pairs) query.day
  pub other : query.other ≡ list_any is_other pairs

-- the names that a row takes which takes the kind, the day, both or none
abbrev pub names_of : Bool → Bool → List (List ℕ)
names_of false false = []
names_of false true = codes "day" ∷ []
names_of true false = codes "kind" ∷ []
names_of true true = codes "day" ∷ codes "kind" ∷ []

-- a row that takes nothing from the query
abbrev pub by_nothing : Ask → FromQuery
by_nothing it = asks it

-- a row that takes the day
abbrev pub by_day : (Date → Ask) → FromQuery
by_day next = day (λ d. asks (next d))

-- a row that takes the kind and the day
abbrev pub by_kind_and_day : (Kind → Date → Ask) → FromQuery
by_kind_and_day next = kind (λ k. day (λ d. asks (next k d)))

-- the answer is what is asked by the value, or the fault in its place
abbrev pub IsAsked : {T : Type 0} → Result T HttpFault → (T → Ask) → Result Ask HttpFault → Type 0
IsAsked (Ok value) next answer = answer ≡ Ok (next value)
IsAsked (Err e) next answer = answer ≡ Err e
