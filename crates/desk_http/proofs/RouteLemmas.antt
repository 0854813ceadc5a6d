-- The rows of the router are those of the table of routes.
use Rattle.std.proofs.Common.{◌≡◌, ◌∙◌, sym, ap, refl, subst, ℕ, zero, suc, ◌+◌, ◌<◌, arith, add-one, drop, get_or, length, Result, Ok, Err, Bool, true, false, List, [], ◌∷◌, Option, Some, None, is_some, option_map}
use Rattle.std.specs.Prelude.{find, ltb, IsUtf8, MatchOption, if◌then◌else◌}
use Rattle.std.specs.Option.{option_and_then, option_map_or}
use Rattle.std.specs.List.{AllByRecursion, list_all, list_any}
use Rattle.std.specs.Str.{bytes_eq}
use Rattle.std.proofs.lemmas.Slice.Eq.{bytes_eq-Decides}
use Rattle.std.proofs.lemmas.Bool.{ltb-true}
use Rattle.std.proofs.lemmas.List.Elements.{All-weaker}
use Rattle.std.proofs.lemmas.List.Sums.{AllPass-from_list_all}
use Rattle.std.proofs.lemmas.Str.{IsUtf8-from_ascii}
use Rattle.std.proofs.lemmas.Str.Ascii.{IsAscii-from_all}
use Rattle.matchit.proofs.OnLiterals.{matchit_on_literals}
use Rattle.matchit.specs.Order.{lookup, placed}
use Rattle.matchit.specs.Route.{Scan, parse_route}
use Rattle.matchit.specs.Router.{RouteOf}
use Rattle.matchit.specs.Rows.{RowsOf}
use Rattle.matchit.specs.Seek.{first}
use Rattle.desk_model.proofs.Elements.{each_from_all, find_each}
use Rattle.desk_http.specs.declared.endpoint.Endpoint.{Endpoint}
use Rattle.desk_http.specs.declared.endpoint.Endpoint.TheVariants.{Material, Rohs, Article33, Article7, Part, Uses, Summary, Version, Edit, Declare}
use Rattle.desk_http.specs.Endpoints.{literal_row, row_at, row_place, router_rows, rows_with}
use Rattle.desk_http.specs.declared.ask.Ask.{Ask}
use Rattle.desk_http.specs.declared.http_fault.HttpFault.{HttpFault}
use Rattle.desk_http.specs.declared.http_fault.HttpFault.TheVariants.{NoRoute, WrongMethod}
use Rattle.desk_http.specs.declared.method.Method.{Method}
use Rattle.desk_http.specs.Query.{Pair, pairs_of}
use Rattle.desk_http.specs.Routes.{FromQuery, RouteRow, asked_at, asked_by, asked_with, behind_word, path_of, path_word, query_of, route_of, route_row, routes, same_method, taken_from_path}
use Rattle.desk_http.proofs.Literals.{are_literal, found-is, found_each}

-- the table has the row of each name under its word
row-named : (e : Endpoint) → route_row (row_at e).word ≡ Some (row_at e)
unfolding route_row row_place
row-named Material = refl
row-named Rohs = refl
row-named Article33 = refl
row-named Article7 = refl
row-named Part = refl
row-named Uses = refl
row-named Summary = refl
row-named Version = refl
row-named Edit = refl
row-named Declare = refl

-- the router's rows are literal, and each has the word of its row
all_literal : are_literal router_rows ≡ true
unfolding row_place
all_literal = refl

-- each row of the router has the word of the table's row that it names
words : list_all (λ row. bytes_eq row.0 (row_at row.1.value).word) router_rows ≡ true
unfolding row_place
words = refl

-- each row of the table is in the router
all_there : list_all (λ row. is_some (lookup row.word router_rows)) routes ≡ true
unfolding row_place
all_there = refl

-- each word is ASCII
is_ascii : List ℕ → Bool
is_ascii word = list_all (λ b. ltb b 128) word

all_ascii : list_all (λ row. is_ascii row.word) routes ≡ true
unfolding is_ascii
all_ascii = refl

text_of_ascii : (word : List ℕ) → is_ascii word ≡ true → IsUtf8 word
unfolding is_ascii
text_of_ascii word ascii =
    IsUtf8-from_ascii word (IsAscii-from_all word (All-weaker (λ b. ltb b 128 ≡ true) (λ b. b < 128) (λ b e. ltb-true b 128 e) word
    (AllPass-from_list_all (λ b. ltb b 128) word ascii)))

same : (a b : List ℕ) → bytes_eq a b ≡ true → a ≡ b
same a b e = (bytes_eq-Decides a b).0 e

-- a word that has no row
none_of : (word : List ℕ) (P : RouteRow → Type 0) → AllByRecursion P routes → ((row : RouteRow) → P row → row.word ≡ word → ⊥) → None ≡ route_row word
unfolding route_row
none_of word P each never = by (find (λ row. bytes_eq row.word word) routes) (find_each P (λ row. bytes_eq row.word word) routes each)
  where
    by : (found : Option RouteRow)
        → MatchOption found (list_any (λ row. bytes_eq row.word word) routes ≡ false) (λ row. P row × (bytes_eq row.word word ≡ true) × (list_any (λ row. bytes_eq row.word word) routes ≡ true))
        → None ≡ found
    by None h = refl
    by (Some row) h = absurd (never row h.0 (same row.word word h.1))

-- bytes that are no text have none
pub none_for_bytes : (word : List ℕ) → (IsUtf8 word → ⊥) → None ≡ route_row word
none_for_bytes word none = none_of word (λ row. is_ascii row.word ≡ true) (each_from_all (λ row. is_ascii row.word) routes all_ascii)
    (λ row ascii is. none (subst IsUtf8 is (text_of_ascii row.word ascii)))

-- and nor has what the router doesn't find
pub none_unfound : (word : List ℕ) → first router_rows word ≡ None → None ≡ route_row word
none_unfound word none = none_of word (λ row. is_some (lookup row.word router_rows) ≡ true) (each_from_all (λ row. is_some (lookup row.word router_rows)) routes all_there)
    (λ row there is. some_none (lookup word router_rows) (sym (found-is word router_rows all_literal) ∙ none) (subst (λ w. is_some (lookup w router_rows) ≡ true) is there))
  where
    some_none : (found : Option (RouteOf Endpoint)) → found ≡ None → is_some found ≡ true → ⊥
    some_none None e h = cc
    some_none (Some x) e h = cc

-- what the router finds is the word's row
pub row_found : (word : List ℕ) (found : RouteOf Endpoint) → first router_rows word ≡ Some found → Some (row_at found.value) ≡ route_row word
row_found word found e =
    let each = each_from_all (λ row. bytes_eq row.0 (row_at row.1.value).word) router_rows words in
    let here = found_each (λ row. bytes_eq row.0 (row_at row.1.value).word ≡ true) word router_rows found each (sym (found-is word router_rows all_literal) ∙ e) in
    let is : (row_at found.value).word ≡ word = sym (same here.0 (row_at found.value).word here.1) ∙ same here.0 word here.2 in
    sym (row-named found.value) ∙ ap route_row is

-- one row more is in, and one fewer is left
pub row_added : (rows : RowsOf (RouteOf Endpoint)) (es : List Endpoint) (i : ℕ) (d : Endpoint) → i < length es
    → rows_with (placed (literal_row (get_or es i d)) rows) (drop (i + 1) es) ≡ rows_with rows (drop i es)
row_added rows es i d inside = rw add-one (by es i inside)
  where
    by : (more : List Endpoint) (k : ℕ) → k < length more → rows_with (placed (literal_row (get_or more k d)) rows) (drop (suc k) more) ≡ rows_with rows (drop k more)
    by [] k h = absurd (omega arith)
    by (e ∷ more) zero h = refl
    by (e ∷ more) (suc k) h = by more k (omega arith)

-- what a router reads of a word: the word as it stands
abbrev as_it_stands : List ℕ → Scan
as_it_stands word = record { pattern = word; text = word; names = []; name_start = 0; catch_all = false; mode = 0 }

pub read_as_is : (e : Endpoint) → parse_route (row_at e).word ≡ Ok (as_it_stands (row_at e).word)
unfolding row_place matchit_on_literals
read_as_is Material = refl
read_as_is Rohs = refl
read_as_is Article33 = refl
read_as_is Article7 = refl
read_as_is Part = refl
read_as_is Uses = refl
read_as_is Summary = refl
read_as_is Version = refl
read_as_is Edit = refl
read_as_is Declare = refl

-- what a request asks, by the row of its path's word
module _ (method : Method) (target : List ℕ) where
  abbrev behind : List ℕ
  behind = behind_word (path_of target)

  abbrev pairs : List Pair
  pairs = pairs_of (query_of target)

  abbrev asked_of : Option RouteRow → Result Ask HttpFault
  asked_of found = option_map_or (asked_with method pairs) (option_and_then (λ row. option_map (λ next. (row.method, next)) (taken_from_path row.path behind)) found) (Err NoRoute)

  pub unrouted : None ≡ route_row (path_word (path_of target)) → Err NoRoute ≡ route_of method target
  unfolding route_of
  unrouted found = ap asked_of found

  module _ (row : RouteRow) (found : Some row ≡ route_row (path_word (path_of target))) where
    pub routed : same_method row.method method ≡ true → asked_at row behind pairs ≡ route_of method target
    unfolding route_of
    routed same = by (taken_from_path row.path behind) ∙ ap asked_of found
      where
        by : (taken : Option FromQuery) → option_map_or (λ next. asked_by [] next pairs) taken (Err NoRoute) ≡ option_map_or (asked_with method pairs) (option_map (λ next. (row.method, next)) taken) (Err NoRoute)
        by None = refl
        by (Some next) = rw same refl

    pub otherwise_taken : same_method row.method method ≡ false → is_some (taken_from_path row.path behind) ≡ true → Err (WrongMethod row.method) ≡ route_of method target
    unfolding route_of
    otherwise_taken other there = by (taken_from_path row.path behind) there ∙ ap asked_of found
      where
        by : (taken : Option FromQuery) → is_some taken ≡ true → Err (WrongMethod row.method) ≡ option_map_or (asked_with method pairs) (option_map (λ next. (row.method, next)) taken) (Err NoRoute)
        by None e = cc
        by (Some next) e = rw other refl

    pub not_taken : is_some (taken_from_path row.path behind) ≡ false → Err NoRoute ≡ route_of method target
    unfolding route_of
    not_taken none = by (taken_from_path row.path behind) none ∙ ap asked_of found
      where
        by : (taken : Option FromQuery) → is_some taken ≡ false → Err NoRoute ≡ option_map_or (asked_with method pairs) (option_map (λ next. (row.method, next)) taken) (Err NoRoute)
        by None e = refl
        by (Some next) e = cc
