-- What the value of an edit's key may be: a text of a form, a whole number of a range, or the kinds of equipment.
use Rattle.std.specs.Prelude.{ℕ, Bool, true, not, ◌&&◌, if◌then◌else◌, List, [], ◌∷◌, length, nat_lt, Option, Some, None}
use Rattle.std.specs.Prelude.{option_map, option_and_then}
use Rattle.serde_json.specs.Data.{Data, Items, no_items, item}
use Rattle.serde_json.specs.Find.{as_array, as_number, as_str, as_u64}
use Rattle.desk_text.specs.Day.{Date}
use Rattle.desk_text.specs.Forms as text
use Rattle.desk_law.specs.declared.annex.Annex.{Annex}
use Rattle.desk_law.specs.declared.kind.Kind.{Kind}
use Rattle.desk_law.specs.declared.rule.Rule.{Rule}
use Rattle.desk_law.specs.Annex.{annex_of}
use Rattle.desk_law.specs.Kind.{kind_of}
use Rattle.desk_law.specs.KindSet.{has_kind, set_of}
use Rattle.desk_law.specs.Rule.{rule_of}
use Rattle.desk_model.specs.declared.part_sort.PartSort.{PartSort}
use Rattle.desk_model.specs.EditText.{sort_of}
use Rattle.desk_model.specs.Forms.{are_units, is_count, is_factor, is_year}
use Rattle.desk_model.specs.Terms.{is_ppm}

-- a code
unfoldable pub code_value : Data → Option (List ℕ)
code_value d = option_and_then text.a_code (as_str d)

-- a name
unfoldable pub name_value : Data → Option (List ℕ)
name_value d = option_and_then text.a_name (as_str d)

-- a CAS number
unfoldable pub cas_value : Data → Option (List ℕ)
cas_value d = option_and_then text.a_cas (as_str d)

-- the number of an exemption
unfoldable pub exemption_number_value : Data → Option (List ℕ)
exemption_number_value d = option_and_then text.an_exemption_number (as_str d)

-- a day
unfoldable pub day_value : Data → Option Date
day_value d = option_and_then text.a_day (as_str d)

-- a rule, by its code
unfoldable pub rule_value : Data → Option Rule
rule_value d = option_and_then rule_of (as_str d)

-- a kind of equipment, by its code
unfoldable pub a_kind : Data → Option Kind
a_kind d = option_and_then kind_of (as_str d)

-- the sort of a part, by its word
unfoldable pub a_sort : Data → Option PartSort
a_sort d = option_and_then sort_of (as_str d)

-- a number from 0 to 2^64 - 1, written without fraction and exponent
abbrev pub a_whole_number : Data → Option ℕ
a_whole_number d = option_and_then as_u64 (as_number d)

-- a whole number of a range
abbrev pub number_value : (ℕ → Bool) → Data → Option ℕ
number_value is_in_range d = option_and_then (λ n. if is_in_range n then Some n else None) (a_whole_number d)

-- the count of a line
unfoldable pub a_count : Data → Option ℕ
a_count = number_value is_count

-- a factor in millionths
unfoldable pub a_factor : Data → Option ℕ
a_factor = number_value is_factor

-- the year of a shipment
unfoldable pub a_year : Data → Option ℕ
a_year = number_value is_year

-- the units of a shipment
unfoldable pub some_units : Data → Option ℕ
some_units = number_value are_units

-- a floor or a cap in ppm
unfoldable pub a_ppm : Data → Option ℕ
a_ppm = number_value (λ n. is_ppm (Some n))

-- an annex, by its number
unfoldable pub annex_value : Data → Option Annex
annex_value d = option_and_then annex_of (a_whole_number d)

-- the kinds of equipment that items are the codes of, where each is one's
abbrev pub kinds_of : Items → Option (List Kind)
kinds_of no_items = Some []
kinds_of (item d ds) = option_and_then (λ kind. option_map (λ kinds. kind ∷ kinds) (kinds_of ds)) (a_kind d)

-- no kind stands twice in the list
abbrev pub are_kinds_distinct : List Kind → Bool
are_kinds_distinct [] = true
are_kinds_distinct (kind ∷ kinds) = not (has_kind kinds kind) && are_kinds_distinct kinds

-- the set of these kinds, where there is one and none stands twice; so there are at most fourteen
abbrev pub distinct_set : List Kind → Option (List Kind)
distinct_set kinds = if nat_lt 0 (length kinds) && are_kinds_distinct kinds then Some (set_of kinds) else None

-- a set of kinds, by an array of their codes
unfoldable pub kinds_value : Data → Option (List Kind)
kinds_value d = option_and_then distinct_set (option_and_then kinds_of (as_array d))
