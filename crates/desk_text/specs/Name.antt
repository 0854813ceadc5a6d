-- Names: short texts without control characters.
use Rattle.std.specs.Prelude.{ℕ, Bool, not, ◌&&◌, ◌==◌, List, length, Result, Ok, Err, if◌then◌else◌, nat_lt}
use Rattle.std.specs.Char.{is_control}
use Rattle.std.specs.List.{list_any}
use Rattle.std.specs.Str.{chars, is_utf8}
use Rattle.desk_text.specs.declared.name.NameFault.{NameFault}
use Rattle.desk_text.specs.declared.name.NameFault.TheVariants.{Empty, TooLong, BadText}

-- UTF-8 without the control characters, which are U+0000 to U+001F and U+007F to U+009F
abbrev pub is_name_text : List ℕ → Bool
is_name_text bytes = is_utf8 bytes && not (list_any is_control (chars bytes))

-- the name that the bytes spell: 1 to 200 bytes
unfoldable pub name_of : List ℕ → Result (List ℕ) NameFault
name_of bytes =
    if length bytes == 0 then Err Empty
    else (if nat_lt 200 (length bytes) then Err TooLong
    else (if is_name_text bytes then Ok bytes else Err BadText))
