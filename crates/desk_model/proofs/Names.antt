-- Texts that are names.
use Rattle.std.proofs.Common.{◌≡◌, ℕ, true, false, List, [], ◌∷◌, length, refl}
use Rattle.std.specs.Prelude.{nat_lt, ◌==◌}
use Rattle.std.specs.Char.{is_control}
use Rattle.std.specs.List.{list_all, list_any}
use Rattle.std.specs.Str.{IsAscii, chars, is_utf8}
use Rattle.std.proofs.lemmas.Bool.{and_parts, ltb-true}
use Rattle.std.proofs.lemmas.Str.{IsUtf8-from_ascii, chars-IsAscii, is_utf8-from_IsUtf8}
use Rattle.std.proofs.lemmas.Str.Ascii.{IsAscii-cons, IsAscii-nil}
use Rattle.desk_text.specs.Name.{name_of}
use Rattle.desk_text.specs.declared.name.TheConstants.{NAME_LIMIT}
use Rattle.desk_model.specs.Values.{is_name}

ascii_from : (bytes : List ℕ) → list_all (λ b. nat_lt b 128) bytes ≡ true → IsAscii bytes
ascii_from [] e = IsAscii-nil
ascii_from (b ∷ bytes) e =
    let parts = and_parts (nat_lt b 128) (list_all (λ c. nat_lt c 128) bytes) e in
    IsAscii-cons b bytes (ltb-true b 128 parts.0) (ascii_from bytes parts.1)

-- an ASCII text without control characters, not empty and not too long, is a name
pub name_from : (bytes : List ℕ) → list_all (λ b. nat_lt b 128) bytes ≡ true → list_any is_control bytes ≡ false → (length bytes == 0) ≡ false → nat_lt NAME_LIMIT (length bytes) ≡ false → is_name bytes ≡ true
unfolding name_of
name_from bytes ascii plain some short =
    let is_ascii = ascii_from bytes ascii in
    let utf8 : is_utf8 bytes ≡ true = is_utf8-from_IsUtf8 bytes (IsUtf8-from_ascii bytes is_ascii) in
    let spelled : chars bytes ≡ bytes = chars-IsAscii bytes is_ascii in
    rw (some, short, utf8, spelled, plain) refl
