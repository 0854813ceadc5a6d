-- What a query says: its pairs of name and value, by the form of `application/x-www-form-urlencoded`.
use Rattle.std.specs.Prelude.{ℕ, List, [], ◌∷◌, Option, Some, None, codes, filter, map}
use Rattle.std.specs.List.{AllByRecursion}
use Rattle.std.specs.Option.{option_and_then}
use Rattle.std.specs.Str.{bytes_eq}
use Rattle.std.specs.Str.Lossy.{utf8_lossy}
use Rattle.form_urlencoded.specs.Form.{IsPlainText, decode, raw_pairs}
use Rattle.desk_text.specs.Day.{Date}
use Rattle.desk_text.specs.Forms.{an_askable_day}
use Rattle.desk_law.specs.declared.kind.Kind.{Kind}
use Rattle.desk_law.specs.Kind.{kind_of}

-- a name and its value
abbrev pub Pair : Type 0
Pair = List ℕ × List ℕ

-- no name and no value of these pairs has to be decoded
abbrev pub ArePlain : List Pair → Type 0
ArePlain raw = AllByRecursion (λ pair. IsPlainText pair.0 × IsPlainText pair.1) raw

-- the text that a name or a value spells: `+` is a space, escapes are decoded, and what is no UTF-8 becomes U+FFFD
abbrev pub text_of : List ℕ → List ℕ
text_of raw = utf8_lossy (decode raw)

-- the pairs of a query, in order
abbrev pub decoded : List Pair → List Pair
decoded raw = map (λ pair. (text_of pair.0, text_of pair.1)) raw

-- the pairs between the `&` of a query, in order
abbrev pub pairs_of : List ℕ → List Pair
pairs_of query = decoded (raw_pairs query)

-- the values of the pairs with a name, in order
abbrev pub query_values : List ℕ → List Pair → List (List ℕ)
query_values name pairs = map (λ pair. pair.1) (filter (λ pair. bytes_eq pair.0 name) pairs)

-- the value of a name that stands exactly once
abbrev pub only : List (List ℕ) → Option (List ℕ)
only [] = None
only (value ∷ []) = Some value
only (value ∷ second ∷ values) = None

-- the kind of equipment that a query names, exactly once
abbrev pub kind_in : List Pair → Option Kind
kind_in pairs = option_and_then kind_of (only (query_values (codes "kind") pairs))

-- the day that a query names, exactly once
abbrev pub day_in : List Pair → Option Date
day_in pairs = option_and_then an_askable_day (only (query_values (codes "day") pairs))
