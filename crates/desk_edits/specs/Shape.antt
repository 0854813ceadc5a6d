-- The shape of an object: its keys in order, each with the form of its value, and what their values make. The faults of
-- an object are those of its shape.
use Rattle.std.specs.Prelude.{ℕ, Bool, false, not, ◌||◌, if◌then◌else◌, List, [], ◌∷◌, ◌++◌, find, is_none, is_some, Option, Some, None}
use Rattle.std.specs.Prelude.{unwrap_or, option_map, option_and_then, Result, Ok, Err}
use Rattle.std.specs.List.{list_any}
use Rattle.std.specs.Option.{ok_or}
use Rattle.std.specs.Str.{bytes_eq}
use Rattle.serde_json.specs.Data.{Data, Members, no_members, member}
use Rattle.serde_json.specs.Find.{as_null, as_object, get}
use Rattle.desk_text.specs.Forms.{applied}
use Rattle.desk_edits.specs.declared.edit_key.EditKey.{EditKey}
use Rattle.desk_edits.specs.declared.json_fault.JsonFault.{JsonFault}
use Rattle.desk_edits.specs.declared.json_fault.JsonFault.TheVariants.{MissingKey, ExtraKey, BadValue}
use Rattle.desk_edits.specs.declared.shape_key.ShapeKey.{ShapeKey}
use Rattle.desk_edits.specs.declared.shape_key.ShapeKey.TheVariants.{Needed, Optional}
use Rattle.desk_edits.specs.Keys.{key_name, word_key}

-- the keys of an object in order, and what their values make, or the fault of the first value that isn't of its form
pub record Shape (A : Type 0) : Type 0 where
  pub keys : List ShapeKey
  pub values : Data → Result A JsonFault

-- a value, unless it is null
abbrev pub unless_null : Data → Option Data
unless_null d = if is_some (as_null d) then None else Some d

-- the value of a key that has to be there, as its form reads it; that it is absent is told before
unfoldable pub needed : {A : Type 0} → (Data → Option A) → EditKey → Data → Result A JsonFault
needed form key d = ok_or (option_and_then form (get (key_name key) d)) (BadValue key)

-- what a form reads of a value, if there is one
abbrev pub optional_value_by : {A : Type 0} → (Data → Option A) → EditKey → Option Data → Result (Option A) JsonFault
optional_value_by form key None = Ok None
optional_value_by form key (Some d) = ok_or (option_map Some (form d)) (BadValue key)

-- the value of a key that may be absent or null, as its form reads it
unfoldable pub optional : {A : Type 0} → (Data → Option A) → EditKey → Data → Result (Option A) JsonFault
optional form key d = optional_value_by form key (option_and_then unless_null (get (key_name key) d))

-- a shape of a key that has to be there
abbrev pub needs : {A : Type 0} → EditKey → (Data → Option A) → Shape A
needs key form = record { keys = Needed key ∷ []; values = needed form key }

-- a shape of a key that may be absent or null
abbrev pub may_have : {A : Type 0} → EditKey → (Data → Option A) → Shape (Option A)
may_have key form = record { keys = Optional key ∷ []; values = optional form key }

-- a shape without keys
abbrev pub makes : {A : Type 0} → A → Shape A
makes a = record { keys = []; values = λ d. Ok a }

-- a shape, and then another
infixl 10 ◌then◌
abbrev pub ◌then◌ : {A B : Type 0} → Shape (A → B) → Shape A → Shape B
f then a = record { keys = f.keys ++ a.keys; values = λ d. applied (f.values d) (a.values d) }

-- the key itself
abbrev pub json_key_of : ShapeKey → EditKey
json_key_of (Needed key) = key
json_key_of (Optional key) = key

-- the key has to be there, and isn't
abbrev pub is_missing : Data → ShapeKey → Bool
is_missing d (Needed key) = is_none (get (key_name key) d)
is_missing d (Optional key) = false

-- the first key of a shape that has to be there and isn't
unfoldable pub missing_key : List ShapeKey → Data → Option EditKey
missing_key keys d = option_map json_key_of (find (is_missing d) keys)

-- a name is that of a key, or `edit`
abbrev pub is_known : List ShapeKey → List ℕ → Bool
is_known keys name = bytes_eq word_key name || list_any (λ key. bytes_eq (key_name (json_key_of key)) name) keys

-- there is a member whose name isn't known
abbrev pub has_unknown : List ShapeKey → Members → Bool
has_unknown keys no_members = false
has_unknown keys (member name d ms) = not (is_known keys name) || has_unknown keys ms

-- there is a key besides `edit` and those of a shape
unfoldable pub has_extra_key : List ShapeKey → Data → Bool
has_extra_key keys d = unwrap_or (option_map (has_unknown keys) (as_object d)) false

-- what is told of an object's keys, and else of its values
abbrev pub by_keys : {A : Type 0} → Option EditKey → Bool → Result A JsonFault → Result A JsonFault
by_keys (Some key) has_extra values = Err (MissingKey key)
by_keys None has_extra values = if has_extra then Err ExtraKey else values

-- what an object of a shape makes, or its first fault: a missing key, an extra key, a bad value
abbrev pub edit_made_by : {A : Type 0} → Shape A → Data → Result A JsonFault
edit_made_by shape d = by_keys (missing_key shape.keys d) (has_extra_key shape.keys d) (shape.values d)
