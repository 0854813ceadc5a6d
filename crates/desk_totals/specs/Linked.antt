-- A bill of materials by itself: the codes that its lines go between, and the lines.
use Rattle.std.specs.Prelude.{◌≡◌, ℕ, ◌≤◌, Bool, true, not, ◌&&◌, List, [], ◌∷◌, ◌++◌, length, map}
use Rattle.std.specs.List.{list_all, list_any}
use Rattle.desk_text.specs.Code.{same_code}
use Rattle.desk_model.specs.declared.rows.line.LineRow.{LineRow}
use Rattle.desk_model.specs.Lists.{Lists, nodes_of}

-- the codes of materials and then of parts, how many of them are those of materials, and the lines
pub record Linked : Type 0 where
  pub nodes : List (List ℕ)
  pub material_count : ℕ
  pub lines : List LineRow

-- the bill has the materials, the parts and the lines of these tables
pub record IsLinkedOf (bill : Linked) (t : Lists) : Type 0 where
  pub nodes : bill.nodes ≡ nodes_of t
  pub material_count : bill.material_count ≡ length t.materials
  pub lines : bill.lines ≡ t.lines

-- the code is one of these
abbrev pub is_among : List ℕ → List (List ℕ) → Bool
is_among code codes = list_any (same_code code) codes

-- no code stands twice
abbrev pub are_codes_distinct : List (List ℕ) → Bool
are_codes_distinct [] = true
are_codes_distinct (code ∷ codes) = not (is_among code codes) && are_codes_distinct codes

-- the line goes from one of the codes to one of them
abbrev pub has_ends_in : List (List ℕ) → LineRow → Bool
has_ends_in codes line = is_among line.parent codes && is_among line.child codes

-- what is right of a bill: no code stands twice, no more of them are materials than there are, and each line has both its ends
-- among them
pub record IsLinked (bill : Linked) : Type 0 where
  pub distinct : are_codes_distinct bill.nodes ≡ true
  pub materials : bill.material_count ≤ length bill.nodes
  pub ends : list_all (has_ends_in bill.nodes) bill.lines ≡ true

-- the line with the count 1 in the place of its own
abbrev pub single : LineRow → LineRow
single line = record { parent = line.parent; child = line.child; count = 1 }
