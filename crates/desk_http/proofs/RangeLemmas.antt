-- What a request asks is in range: its day may be asked about, and its year is one of which shipments are kept.
use Rattle.std.proofs.Common.{◌≡◌, ◌≢◌, sym, refl, subst, ℕ, Bool, true, false, List, [], ◌∷◌, Option, Some, None, Result, Ok, Err}
use Rattle.std.specs.Prelude.{IfOk, MatchOption, codes, drop, option_map, if◌then◌else◌, ◌^◌, ⊤}
use Rattle.std.specs.List.{AllByRecursion, list_any}
use Rattle.std.specs.Option.{option_and_then, option_map_or}
use Rattle.std.specs.Result.{result_ok}
use Rattle.std.specs.Str.{bytes_eq}
use Rattle.std.proofs.lemmas.Bool.{and_from}
use Rattle.desk_law.specs.declared.kind.Kind.{Kind}
use Rattle.desk_model.specs.Forms.{is_year}
use Rattle.desk_model.proofs.Elements.{find_each}
use Rattle.desk_text.specs.Day.{Date, day_of, is_askable}
use Rattle.desk_text.specs.Number.{number_below}
use Rattle.desk_http.specs.declared.ask.Ask.{Ask}
use Rattle.desk_http.specs.declared.http_fault.HttpFault.{HttpFault}
use Rattle.desk_http.specs.declared.http_fault.HttpFault.TheVariants.{BadQuery, NoRoute, OutOfMemory, WrongMethod}
use Rattle.desk_http.specs.declared.http_fault.QueryKey.TheVariants as key
use Rattle.desk_http.specs.declared.method.Method.{Method}
use Rattle.desk_text.specs.Forms.{an_askable_day, if_askable}
use Rattle.desk_http.specs.Query.{Pair, day_in, kind_in, only, pairs_of, query_values}
use Rattle.desk_http.specs.Routes.{FromPath, FromQuery, RouteRow, are_named, asked_by, asked_with, asks, behind_word, code, code_in, day, ends, if_year, is_ask_in_range, kind, path_of, path_taken, query_of, route_of, routes, route_row, same_method, taken_from_path, path_word, year, year_in}

-- what is asked in the end is in range, whatever is taken from the query
abbrev IsGood : FromQuery → Type 0
IsGood (asks it) = is_ask_in_range it ≡ true
IsGood (kind next) = (k : Kind) → IsGood (next k)
IsGood (day next) = (d : Date) → is_askable d ≡ true → IsGood (next d)

-- and whatever from the path
abbrev IsGoodPath : FromPath → Type 0
IsGoodPath (ends next) = IsGood next
IsGoodPath (code next) = (c : List ℕ) → IsGood (next c)
IsGoodPath (year next) = (y : ℕ) → is_year y ≡ true → IsGood (next y)

-- each row is so
rows_good : AllByRecursion (λ row. IsGoodPath row.path) routes
rows_good = (
  λ c k d askable. askable,
  (
    λ c d askable. askable,
    (
      λ c d askable. askable,
      (
        λ y is d askable. and_from (is_year y) (is_askable d) is askable,
        (
          λ c. refl,
          (
            λ c. refl,
            (
              λ d askable. askable,
              (refl, (refl, (refl, tt))),
            ),
          ),
        ),
      ),
    ),
  ),
)

-- a day that a query names may be asked about
askable_found : (found : Option (List ℕ)) (d : Date) → option_and_then an_askable_day found ≡ Some d → is_askable d ≡ true
askable_found None d e = cc
askable_found (Some value) d e = by (result_ok (day_of value)) e
  where
    in_turn : (b : Bool) (x : Date) → is_askable x ≡ b → (if b then Some x else None) ≡ Some d → is_askable d ≡ true
    in_turn true x is h = subst (λ y. is_askable y ≡ true) (some x d h) is
      where
        some : (a b : Date) → Some a ≡ Some b → a ≡ b
        some a b h = cc
    in_turn false x is h = cc

    by : (read : Option Date) → option_and_then if_askable read ≡ Some d → is_askable d ≡ true
    by None h = cc
    by (Some x) h = in_turn (is_askable x) x refl h

year_found : (bytes : List ℕ) (y : ℕ) → year_in bytes ≡ Some y → is_year y ≡ true
year_found bytes y e = by (result_ok (number_below (2 ^ 32) bytes)) e
  where
    in_turn : (b : Bool) (x : ℕ) → is_year x ≡ b → (if b then Some x else None) ≡ Some y → is_year y ≡ true
    in_turn true x is h = subst (λ z. is_year z ≡ true) (some x y h) is
      where
        some : (a b : ℕ) → Some a ≡ Some b → a ≡ b
        some a b h = cc
    in_turn false x is h = cc

    by : (read : Option ℕ) → option_and_then if_year read ≡ Some y → is_year y ≡ true
    by None h = cc
    by (Some x) h = in_turn (is_year x) x refl h

abbrev given : Ask → Result Ask HttpFault
given a = Ok a

given_is : (a b : Ask) → given a ≡ given b → a ≡ b
given_is a b e = cc

-- an answer that a value was needed for has one
by_value : {T : Type 0} (found : Option T) (answer : T → Result Ask HttpFault) (fault : HttpFault) (a : Ask) {G : Type 0}
    → ((x : T) → found ≡ Some x → answer x ≡ Ok a → G) → option_map_or answer found (Err fault) ≡ Ok a → G
by_value None answer fault a each e = cc
by_value (Some x) answer fault a each e = each x refl e

asked_it : (it a : Ask) (b : Bool) → is_ask_in_range it ≡ true → (if b then given it else Err (BadQuery key.Other)) ≡ Ok a → is_ask_in_range a ≡ true
asked_it it a true good e = subst (λ x. is_ask_in_range x ≡ true) (given_is it a e) good
asked_it it a false good e = cc

asked_good : (names : List (List ℕ)) (next : FromQuery) (pairs : List Pair) (a : Ask) → IsGood next → asked_by names next pairs ≡ Ok a → is_ask_in_range a ≡ true
unfolding asked_by
asked_good names (asks it) pairs a good e = asked_it it a (are_named names pairs) good e
asked_good names (kind next) pairs a good e =
    by_value (kind_in pairs) (λ k. asked_by (codes "kind" ∷ names) (next k) pairs) (BadQuery key.Kind) a
    (λ k is h. asked_good (codes "kind" ∷ names) (next k) pairs a (good k) h) e
asked_good names (day next) pairs a good e =
    by_value (day_in pairs) (λ d. asked_by (codes "day" ∷ names) (next d) pairs) (BadQuery key.Day) a
    (λ d is h. asked_good (codes "day" ∷ names) (next d) pairs a (good d (askable_found (only (query_values (codes "day") pairs)) d is)) h) e

-- what is left to take is good, where a path is taken
taken_good : (path : FromPath) (bytes : List ℕ) (next : FromQuery) → IsGoodPath path → taken_from_path path bytes ≡ Some next → IsGood next
taken_good (ends left) [] next good e = subst IsGood (some left next e) good
  where
    some : (a b : FromQuery) → Some a ≡ Some b → a ≡ b
    some a b h = cc
taken_good (ends left) (b ∷ bytes) next good e = cc
taken_good (code left) bytes next good e = by (code_in (drop 1 bytes)) e
  where
    some : (a b : FromQuery) → Some a ≡ Some b → a ≡ b
    some a b h = cc

    by : (found : Option (List ℕ)) → option_map left found ≡ Some next → IsGood next
    by None h = cc
    by (Some c) h = subst IsGood (some (left c) next h) (good c)
taken_good (year left) bytes next good e = by (year_in (drop 1 bytes)) refl e
  where
    some : (a b : FromQuery) → Some a ≡ Some b → a ≡ b
    some a b h = cc

    by : (found : Option ℕ) → year_in (drop 1 bytes) ≡ found → option_map left found ≡ Some next → IsGood next
    by None is h = cc
    by (Some y) is h = subst IsGood (some (left y) next h) (good y (year_found (drop 1 bytes) y is))

abbrev with_method : Method → FromQuery → Method × FromQuery
with_method method next = (method, next)

path_good : (path : List ℕ) → MatchOption (path_taken path) ⊤ (λ taken. IsGood taken.1)
unfolding route_row
path_good path = by (route_row (path_word path)) (find_each (λ row. IsGoodPath row.path) (λ row. bytes_eq row.word (path_word path)) routes rows_good)
  where
    in_turn : (row : RouteRow) (found : Option FromQuery) → taken_from_path row.path (behind_word path) ≡ found → IsGoodPath row.path
        → MatchOption (option_map (with_method row.method) found) ⊤ (λ taken. IsGood taken.1)
    in_turn row None e good = tt
    in_turn row (Some next) e good = taken_good row.path (behind_word path) next good e

    by : (found : Option RouteRow)
        → MatchOption found (list_any (λ row. bytes_eq row.word (path_word path)) routes ≡ false)
        (λ row. IsGoodPath row.path × (bytes_eq row.word (path_word path) ≡ true) × (list_any (λ row. bytes_eq row.word (path_word path)) routes ≡ true))
        → MatchOption (option_and_then (λ row. option_map (with_method row.method) (taken_from_path row.path (behind_word path))) found) ⊤ (λ taken. IsGood taken.1)
    by None h = tt
    by (Some row) h = in_turn row (taken_from_path row.path (behind_word path)) refl h.0

route_good : (method : Method) (target : List ℕ) (a : Ask) → Ok a ≡ route_of method target → is_ask_in_range a ≡ true
unfolding route_of
route_good method target a e = by (path_taken (path_of target)) (path_good (path_of target)) (sym e)
  where
    pairs : List Pair
    pairs = pairs_of (query_of target)

    in_turn : (allow : Method) (next : FromQuery) (same : Bool) → IsGood next → (if same then asked_by [] next pairs else Err (WrongMethod allow)) ≡ Ok a → is_ask_in_range a ≡ true
    in_turn allow next true good h = asked_good [] next pairs a good h
    in_turn allow next false good h = cc

    by : (taken : Option (Method × FromQuery)) → MatchOption taken ⊤ (λ t. IsGood t.1) → option_map_or (asked_with method pairs) taken (Err NoRoute) ≡ Ok a → is_ask_in_range a ≡ true
    by None good h = cc
    by (Some taken) good h = in_turn taken.0 taken.1 (same_method taken.0 method) good h

pub answer_good : (method : Method) (target : List ℕ) (answer : Result Ask HttpFault) → (answer ≢ Err OutOfMemory → answer ≡ route_of method target)
    → IfOk answer (λ a. is_ask_in_range a ≡ true)
answer_good method target (Ok a) value = route_good method target a (value (λ e. cc))
answer_good method target (Err fault) value = tt
