-- Texts of their form, of which the desk's values are made.
use Rattle.std.specs.Prelude.{ℕ, Bool, List, is_ok}
use Rattle.desk_text.specs.Code.{code_of, exemption_number_of}
use Rattle.desk_text.specs.Name.{name_of}

-- the bytes are a code
abbrev pub is_code : List ℕ → Bool
is_code bytes = is_ok (code_of bytes)

-- the bytes are a name
abbrev pub is_name : List ℕ → Bool
is_name bytes = is_ok (name_of bytes)

-- the bytes are the number of an exemption
abbrev pub is_exemption_number : List ℕ → Bool
is_exemption_number bytes = is_ok (exemption_number_of bytes)
