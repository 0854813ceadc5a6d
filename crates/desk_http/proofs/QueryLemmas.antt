-- What is kept of a query as its pairs are read, and what it says of the names that stand in it.
use Rattle.std.proofs.Common.{◌≡◌, ◌≢◌, ◌∙◌, sym, ap, refl, subst, ℕ, Bool, true, false, cond, List, [], ◌∷◌, ◌++◌, filter, map, Option, Result, Ok, Err}
use Rattle.std.specs.Prelude.{◌&&◌, ◌||◌, not, codes}
use Rattle.std.specs.List.{list_any}
use Rattle.std.specs.Str.{bytes_eq}
use Rattle.std.proofs.Math.Bool.{and-false}
use Rattle.std.proofs.lemmas.Bool.{false≢true}
use Rattle.std.proofs.lemmas.List.{append-nil, map-append}
use Rattle.std.proofs.lemmas.List.Elements.{filter-append}
use Rattle.std.proofs.lemmas.List.Folds.{list_any-append}
use Rattle.std.proofs.lemmas.Slice.Eq.{bytes_eq-Decides}
use Rattle.desk_law.specs.declared.kind.Kind.{Kind}
use Rattle.desk_law.specs.Kind.{kind_of}
use Rattle.desk_text.specs.Day.{Date}
use Rattle.desk_http.specs.declared.ask.Ask.{Ask}
use Rattle.desk_http.specs.declared.http_fault.HttpFault.{HttpFault}
use Rattle.desk_http.specs.declared.http_fault.QueryKey.TheVariants as key
use Rattle.desk_http.specs.declared.http_fault.QueryKey.{QueryKey}
use Rattle.desk_http.specs.declared.query.Field.{Field}
use Rattle.desk_http.specs.declared.query.Field.TheVariants.{Absent, Said}
use Rattle.desk_http.specs.declared.query.Query.{Query}
use Rattle.desk_http.specs.Fields.{IsAsked, IsField, is_absent, IsQueryOf, is_other, key_named, names_of}
use Rattle.desk_text.specs.Forms.{an_askable_day}
use Rattle.desk_http.specs.Query.{Pair, query_values}
use Rattle.desk_http.specs.Routes.{are_named}

-- a pair adds its value to those of its name
more : (name : List ℕ) (pairs : List Pair) (pair : Pair) → query_values name (pairs ++ pair ∷ []) ≡ query_values name pairs ++ query_values name (pair ∷ [])
more name pairs pair =
    ap (map (λ (p : Pair). p.1)) (filter-append (λ p. bytes_eq p.0 name) pairs (pair ∷ []))
    ∙ map-append (λ (p : Pair). p.1) (filter (λ p. bytes_eq p.0 name) pairs) (filter (λ p. bytes_eq p.0 name) (pair ∷ []))

module _ (sought name value : List ℕ) (pairs : List Pair) where
  named : bytes_eq name sought ≡ true → query_values sought (pairs ++ (name, value) ∷ []) ≡ query_values sought pairs ++ value ∷ []
  named e = more sought pairs (name, value) ∙ ap (λ b. query_values sought pairs ++ map (λ (p : Pair). p.1) (cond b ((name, value) ∷ []) [])) e

  unnamed : bytes_eq name sought ≡ false → query_values sought (pairs ++ (name, value) ∷ []) ≡ query_values sought pairs
  unnamed e =
      more sought pairs (name, value) ∙ ap (λ b. query_values sought pairs ++ map (λ (p : Pair). p.1) (cond b ((name, value) ∷ []) [])) e ∙ append-nil (query_values sought pairs)

-- which names a key has
abbrev Says : QueryKey → Bool → Bool → Type 0
Says key.Kind kind day = (kind ≡ true) × (day ≡ false)
Says key.Day kind day = (kind ≡ false) × (day ≡ true)
Says key.Other kind day = (kind ≡ false) × (day ≡ false)

-- no name is both
apart : (name : List ℕ) → (bytes_eq name (codes "kind") && bytes_eq name (codes "day")) ≡ false
apart name = by (bytes_eq name (codes "kind")) refl
  where
    by : (b : Bool) → bytes_eq name (codes "kind") ≡ b → (b && bytes_eq name (codes "day")) ≡ false
    by true e = rw ((bytes_eq-Decides name (codes "kind")).0 e) refl
    by false e = refl

says : (name : List ℕ) → Says (key_named name) (bytes_eq name (codes "kind")) (bytes_eq name (codes "day"))
says name = by (bytes_eq name (codes "kind")) (bytes_eq name (codes "day")) (apart name)
  where
    by : (kind day : Bool) → (kind && day) ≡ false → Says (cond kind key.Kind (cond day key.Day key.Other)) kind day
    by true day apart = (refl, apart)
    by false true apart = (refl, refl)
    by false false apart = (refl, refl)

module _ (query : Query) (pairs : List Pair) (name value : List ℕ) (is : IsQueryOf query pairs) where
  others : (b : Bool) → is_other (name, value) ≡ b → list_any is_other (pairs ++ (name, value) ∷ []) ≡ (query.other || (b || false))
  others b e =
      list_any-append is_other pairs ((name, value) ∷ []) ∙ ap (λ x. list_any is_other pairs || (x || false)) e ∙ ap (λ x. x || (b || false)) (sym is.other)

  other_by : (kind day : Bool) → bytes_eq name (codes "kind") ≡ kind → bytes_eq name (codes "day") ≡ day → is_other (name, value) ≡ not (day || (kind || false))
  other_by kind day k d = rw (k, d) refl

  by_key : {k : QueryKey} → key_named name ≡ k → Says k (bytes_eq name (codes "kind")) (bytes_eq name (codes "day"))
  by_key e = subst (λ k. Says k (bytes_eq name (codes "kind")) (bytes_eq name (codes "day"))) e (says name)

  same_other : (b : Bool) → (b || (false || false)) ≡ b
  same_other true = refl
  same_other false = refl

  pub kind_added : (field : Field Kind) → key_named name ≡ key.Kind → IsField kind_of (query_values (codes "kind") pairs ++ value ∷ []) field
      → IsQueryOf (record { kind = field; day = query.day; other = query.other }) (pairs ++ (name, value) ∷ [])
  kind_added field e f =
      let names : Says key.Kind (bytes_eq name (codes "kind")) (bytes_eq name (codes "day")) = by_key e in
      record {
        kind = rw (named (codes "kind") name value pairs names.0) f;
        day = rw (unnamed (codes "day") name value pairs names.1) is.day;
        other = sym (others false (other_by true false names.0 names.1) ∙ same_other query.other);
      }

  pub day_added : (field : Field Date) → key_named name ≡ key.Day → IsField an_askable_day (query_values (codes "day") pairs ++ value ∷ []) field
      → IsQueryOf (record { kind = query.kind; day = field; other = query.other }) (pairs ++ (name, value) ∷ [])
  day_added field e f =
      let names : Says key.Day (bytes_eq name (codes "kind")) (bytes_eq name (codes "day")) = by_key e in
      record {
        kind = rw (unnamed (codes "kind") name value pairs names.0) is.kind;
        day = rw (named (codes "day") name value pairs names.1) f;
        other = sym (others false (other_by false true names.0 names.1) ∙ same_other query.other);
      }

  pub other_added : key_named name ≡ key.Other → IsQueryOf (record { kind = query.kind; day = query.day; other = true }) (pairs ++ (name, value) ∷ [])
  other_added e =
      let names : Says key.Other (bytes_eq name (codes "kind")) (bytes_eq name (codes "day")) = by_key e in
      record {
        kind = rw (unnamed (codes "kind") name value pairs names.0) is.kind;
        day = rw (unnamed (codes "day") name value pairs names.1) is.day;
        other = sym (others true (other_by false false names.0 names.1) ∙ whole query.other);
      }
    where
      whole : (b : Bool) → (b || (true || false)) ≡ true
      whole true = refl
      whole false = refl

-- there is no value
abbrev is_empty : List (List ℕ) → Bool
is_empty [] = true
is_empty (value ∷ values) = false

no_values : (name : List ℕ) (pairs : List Pair) → is_empty (query_values name pairs) ≡ not (list_any (λ pair. bytes_eq pair.0 name) pairs)
no_values name [] = refl
no_values name (pair ∷ pairs) = by (bytes_eq pair.0 name) (no_values name pairs)
  where
    by : (b : Bool) → is_empty (query_values name pairs) ≡ not (list_any (λ p. bytes_eq p.0 name) pairs)
        → is_empty (map (λ (p : Pair). p.1) (cond b (pair ∷ filter (λ p. bytes_eq p.0 name) pairs) (filter (λ p. bytes_eq p.0 name) pairs))) ≡ not (b || list_any (λ p. bytes_eq p.0 name) pairs)
    by true rest = refl
    by false rest = rest

-- a field is absent where no pair has the name
absent : {T : Type 0} (read : List ℕ → Option T) (name : List ℕ) (pairs : List Pair) (field : Field T) → IsField read (query_values name pairs) field
    → is_absent field ≡ not (list_any (λ pair. bytes_eq pair.0 name) pairs)
absent read name pairs Absent f = sym (ap is_empty f) ∙ no_values name pairs
absent read name pairs (Said value) f = some (query_values name pairs) f.0 ∙ no_values name pairs
  where
    some : (values : List (List ℕ)) → values ≢ [] → false ≡ is_empty values
    some [] empty = absurd (empty refl)
    some (value ∷ values) empty = refl

-- whether a pair has one of the names, by whether it has each
abbrev has_one : (may_kind may_day kind day : Bool) → Bool
has_one false false kind day = false
has_one false true kind day = day || false
has_one true false kind day = kind || false
has_one true true kind day = day || (kind || false)

has_one-is : (may_kind may_day : Bool) (name : List ℕ) → list_any (bytes_eq name) (names_of may_kind may_day) ≡ has_one may_kind may_day (bytes_eq name (codes "kind")) (bytes_eq name (codes "day"))
has_one-is false false name = refl
has_one-is false true name = refl
has_one-is true false name = refl
has_one-is true true name = refl

-- each pair has one of the names where none has another, and none has one that may not be
abbrev fits : (may_kind may_day kind day other : Bool) → Bool
fits may_kind may_day kind day other = not other && (may_kind || not kind) && (may_day || not day)

kills : (x y : Bool) → (x && false && y) ≡ false
kills true y = refl
kills false y = refl

one_more : (may_kind may_day kind day kinds days others : Bool) → (kind && day) ≡ false
    → (has_one may_kind may_day kind day && fits may_kind may_day kinds days others)
    ≡ fits may_kind may_day (kind || kinds) (day || days) (not (day || (kind || false)) || others)
one_more may_kind may_day true true kinds days others apart = absurd (false≢true (sym apart))
one_more false false false false kinds days others apart = refl
one_more false true false false kinds days others apart = refl
one_more true false false false kinds days others apart = refl
one_more true true false false kinds days others apart = refl
one_more false false true false kinds days others apart = sym (kills (not others) (not days))
one_more false true true false kinds days others apart = sym (kills (not others) true)
one_more true false true false kinds days others apart = refl
one_more true true true false kinds days others apart = refl
one_more false false false true kinds days others apart = sym (and-false (not others && not kinds))
one_more false true false true kinds days others apart = refl
one_more true false false true kinds days others apart = sym (and-false (not others && true))
one_more true true false true kinds days others apart = refl

all_named : (may_kind may_day : Bool) (pairs : List Pair)
    → are_named (names_of may_kind may_day) pairs
    ≡ fits may_kind may_day (list_any (λ pair. bytes_eq pair.0 (codes "kind")) pairs) (list_any (λ pair. bytes_eq pair.0 (codes "day")) pairs) (list_any is_other pairs)
all_named false false [] = refl
all_named false true [] = refl
all_named true false [] = refl
all_named true true [] = refl
all_named may_kind may_day (pair ∷ pairs) =
    rw (has_one-is may_kind may_day pair.0, all_named may_kind may_day pairs)
    (one_more may_kind may_day (bytes_eq pair.0 (codes "kind")) (bytes_eq pair.0 (codes "day"))
    (list_any (λ p. bytes_eq p.0 (codes "kind")) pairs) (list_any (λ p. bytes_eq p.0 (codes "day")) pairs) (list_any is_other pairs) (apart pair.0))

pub only_named : (query : Query) (pairs : List Pair) (may_kind may_day : Bool) → IsQueryOf query pairs
    → (not query.other && (may_kind || is_absent query.kind) && (may_day || is_absent query.day)) ≡ are_named (names_of may_kind may_day) pairs
only_named query pairs may_kind may_day is =
    rw (absent kind_of (codes "kind") pairs query.kind is.kind, absent an_askable_day (codes "day") pairs query.day is.day, is.other) (sym (all_named may_kind may_day pairs))

-- the answer where a value was read, and where none was
module _ {T : Type 0} (next : T → Ask) (answer : Result Ask HttpFault) where
  pub asked_so : (result : Result T HttpFault) (value : T) → result ≡ Ok value → IsAsked result next answer → Ok (next value) ≡ answer
  asked_so result value e is = sym (subst (λ r. IsAsked r next answer) e is)

  pub not_asked : (result : Result T HttpFault) (fault : HttpFault) → result ≡ Err fault → IsAsked result next answer → Err fault ≡ answer
  not_asked result fault e is = sym (subst (λ r. IsAsked r next answer) e is)
