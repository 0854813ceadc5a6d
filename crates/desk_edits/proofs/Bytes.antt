-- Without bytes there is no value.
use Rattle.std.proofs.Common.{◌≡◌, ℕ, ◌<◌, List, [], ◌∷◌, length, None, Some, Bool, true, false, cond, IsUtf8, refl, sym, ◌∙◌, arith}
use Rattle.std.specs.Str.{is_utf8}
use Rattle.std.proofs.lemmas.Str.{IsUtf8-from_is_utf8, is_utf8-from_IsUtf8}
use Rattle.serde_json.specs.Data.{Data}
use Rattle.serde_json.specs.Read.{read}
use Rattle.serde_json.proofs.OnLiterals.{serde_json_on_literals}
use Rattle.desk_edits.specs.Edit.{json_of}

read-nothing : read [] ≡ None
unfolding serde_json_on_literals
read-nothing = refl

-- so a text that is one has bytes
pub some_bytes : (bytes : List ℕ) (d : Data) → read bytes ≡ Some d → 0 < length bytes
some_bytes [] d e = let none : Some d ≡ None = sym e ∙ read-nothing in cc
some_bytes (b ∷ bytes) d e = omega arith

-- bytes that are UTF-8 are what is read
pub json_of_text : (bytes : List ℕ) → IsUtf8 bytes → json_of bytes ≡ read bytes
unfolding json_of
json_of_text bytes utf8 = rw (is_utf8-from_IsUtf8 bytes utf8) refl

-- and bytes of which nothing is read where they are UTF-8 are nothing
pub json_of_none : (bytes : List ℕ) → (IsUtf8 bytes → read bytes ≡ None) → json_of bytes ≡ None
unfolding json_of
json_of_none bytes none = by (is_utf8 bytes) (λ e. none (IsUtf8-from_is_utf8 bytes e))
  where
    by : (b : Bool) → (b ≡ true → read bytes ≡ None) → cond b (read bytes) None ≡ None
    by true none = none refl
    by false none = refl
