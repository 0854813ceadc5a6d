-- The routes: which path asks what, by which method and with which keys of the query. A request's target is a path, and behind
-- its first `?` a query. No escapes are decoded in a path.
use Rattle.std.specs.Prelude.{ℕ, ◌+◌, ◌==◌, ◌^◌, Bool, true, false, List, [], ◌∷◌, Option, Some, None, Result, Ok, Err, if◌then◌else◌}
use Rattle.std.specs.Prelude.{codes, drop, find, option_map, take}
use Rattle.std.specs.List.{list_all, list_any, position_or_len}
use Rattle.std.specs.Option.{option_and_then, option_map_or}
use Rattle.std.specs.Result.{result_ok}
use Rattle.std.specs.Str.{bytes_eq}
use Rattle.desk_text.specs.Code.{code_of}
use Rattle.desk_text.specs.Day.{Date}
use Rattle.desk_text.specs.Number.{number_below}
use Rattle.desk_law.specs.declared.kind.Kind.{Kind}
use Rattle.desk_model.specs.Forms.{is_year}
use Rattle.desk_scratch.specs.declared.question.Question.{Question}
use Rattle.desk_scratch.specs.declared.question.Question.TheVariants.{Material, Rohs, Reach33, Reach7, Part, Uses, Summary, Version}
use Rattle.desk_scratch.specs.Questions.{is_question_in_range}
use Rattle.desk_http.specs.declared.ask.Ask.{Ask}
use Rattle.desk_http.specs.declared.ask.Ask.TheVariants as ask
use Rattle.desk_http.specs.declared.http_fault.HttpFault.{HttpFault}
use Rattle.desk_http.specs.declared.http_fault.HttpFault.TheVariants.{NoRoute, WrongMethod, BadQuery}
use Rattle.desk_http.specs.declared.http_fault.QueryKey.TheVariants as key
use Rattle.desk_http.specs.declared.method.Method.{Method}
use Rattle.desk_http.specs.declared.method.Method.TheVariants.{Get, Post, Other}
use Rattle.desk_http.specs.Query.{Pair, day_in, kind_in, pairs_of}

-- what a row takes from the query, key by key in order, and what it asks then
pub data FromQuery : Type 0 where
  asks : Ask → FromQuery
  kind : (Kind → FromQuery) → FromQuery
  day : (Date → FromQuery) → FromQuery

-- what a row takes from the path behind its word: nothing is there, or a slash and a code, or a slash and a year
pub data FromPath : Type 0 where
  ends : FromQuery → FromPath
  code : (List ℕ → FromQuery) → FromPath
  year : (ℕ → FromQuery) → FromPath

-- a row of the table
pub record RouteRow : Type 0 where
  pub method : Method
  pub word : List ℕ
  pub path : FromPath

-- the row of a word that is read with GET
abbrev pub get : List ℕ → FromPath → RouteRow
get word path = record { method = Get; word = word; path = path }

-- the row of a word to which a body is sent with POST
abbrev pub post : List ℕ → FromPath → RouteRow
post word path = record { method = Post; word = word; path = path }

-- a row asks a question
abbrev pub asks_for : Question → FromQuery
asks_for question = asks (ask.Question question)

-- the table: a method, the path's word, what follows the word, the query's keys, and what is asked
abbrev pub routes : List RouteRow
routes =
    get (codes "/material") (code (λ c. kind (λ k. day (λ d. asks_for (Material c k d)))))
    ∷ get (codes "/rohs") (code (λ c. day (λ d. asks_for (Rohs c d))))
    ∷ get (codes "/article33") (code (λ c. day (λ d. asks_for (Reach33 c d))))
    ∷ get (codes "/article7") (year (λ y. day (λ d. asks_for (Reach7 y d))))
    ∷ get (codes "/part") (code (λ c. asks_for (Part c)))
    ∷ get (codes "/uses") (code (λ c. asks_for (Uses c)))
    ∷ get (codes "/summary") (ends (day (λ d. asks_for (Summary d))))
    ∷ get (codes "/version") (ends (asks_for Version))
    ∷ post (codes "/edit") (ends (asks ask.Edit))
    ∷ post (codes "/declare") (ends (asks ask.Declaration))
    ∷ []

-- the path of a target: what stands before the first `?`
abbrev pub path_of : List ℕ → List ℕ
path_of target = take (position_or_len (λ b. b == 63) target) target

-- the query of a target: what stands behind the first `?`, if there is one
abbrev pub query_of : List ℕ → List ℕ
query_of target = drop (position_or_len (λ b. b == 63) target + 1) target

-- where the word of a path ends: before the second slash
abbrev pub word_end : List ℕ → ℕ
word_end path = position_or_len (λ b. b == 47) (drop 1 path) + 1

-- the word of a path: a slash, and what stands before the second slash
abbrev pub path_word : List ℕ → List ℕ
path_word path = take (word_end path) path

-- what stands behind the word: the second slash and all that follows, if there is one
abbrev pub behind_word : List ℕ → List ℕ
behind_word path = drop (word_end path) path

-- the row of a word
unfoldable pub route_row : List ℕ → Option RouteRow
route_row word = find (λ row. bytes_eq row.word word) routes

-- the number, where it is the year of a shipment: 2008 to 2099, so four digits
abbrev pub if_year : ℕ → Option ℕ
if_year n = if is_year n then Some n else None

-- the code that the bytes spell
abbrev pub code_in : List ℕ → Option (List ℕ)
code_in bytes = result_ok (code_of bytes)

-- the year that the bytes write
abbrev pub year_in : List ℕ → Option ℕ
year_in bytes = option_and_then if_year (result_ok (number_below (2 ^ 32) bytes))

-- what is left to take from the query, where the bytes behind the word are what the row takes
abbrev pub taken_from_path : FromPath → List ℕ → Option FromQuery
taken_from_path (ends next) [] = Some next
taken_from_path (ends next) (b ∷ bytes) = None
taken_from_path (code next) bytes = option_map next (code_in (drop 1 bytes))
taken_from_path (year next) bytes = option_map next (year_in (drop 1 bytes))

-- each pair has one of these names
abbrev pub are_named : List (List ℕ) → List Pair → Bool
are_named names pairs = list_all (λ pair. list_any (bytes_eq pair.0) names) pairs

-- what the query asks: the first key that isn't there exactly once with a good value is told, and then that there is a key besides
-- these and those that were taken before
unfoldable pub asked_by : List (List ℕ) → FromQuery → List Pair → Result Ask HttpFault
asked_by names (asks it) pairs = if are_named names pairs then Ok it else Err (BadQuery key.Other)
asked_by names (kind next) pairs =
    option_map_or (λ k. asked_by (codes "kind" ∷ names) (next k) pairs) (kind_in pairs) (Err (BadQuery key.Kind))
asked_by names (day next) pairs =
    option_map_or (λ d. asked_by (codes "day" ∷ names) (next d) pairs) (day_in pairs) (Err (BadQuery key.Day))

-- what a row asks with the bytes behind its word and a query
abbrev pub asked_at : RouteRow → List ℕ → List Pair → Result Ask HttpFault
asked_at row behind pairs = option_map_or (λ next. asked_by [] next pairs) (taken_from_path row.path behind) (Err NoRoute)

-- the two are the same method
abbrev pub same_method : Method → Method → Bool
same_method Get Get = true
same_method Get Post = false
same_method Get Other = false
same_method Post Get = false
same_method Post Post = true
same_method Post Other = false
same_method Other Get = false
same_method Other Post = false
same_method Other Other = true

-- which method a path takes, and what is left to take from the query; there is none where no row takes the path
abbrev pub path_taken : List ℕ → Option (Method × FromQuery)
path_taken path = option_and_then (λ row. option_map (λ next. (row.method, next)) (taken_from_path row.path (behind_word path))) (route_row (path_word path))

-- what is asked where the path takes this method, or that it takes another
abbrev pub asked_with : Method → List Pair → Method × FromQuery → Result Ask HttpFault
asked_with method pairs taken = if same_method taken.0 method then asked_by [] taken.1 pairs else Err (WrongMethod taken.0)

-- what a request with this method and target asks: its path is looked for, then the method, and then the keys of its query
unfoldable pub route_of : Method → List ℕ → Result Ask HttpFault
route_of method target = option_map_or (asked_with method (pairs_of (query_of target))) (path_taken (path_of target)) (Err NoRoute)

-- what is asked is in range: a question is, and an edit or a declaration always
abbrev pub is_ask_in_range : Ask → Bool
is_ask_in_range (ask.Question question) = is_question_in_range question
is_ask_in_range ask.Edit = true
is_ask_in_range ask.Declaration = true
