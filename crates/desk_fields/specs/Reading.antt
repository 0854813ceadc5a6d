-- How values are read from fields, one after the other. Of these words a public clause speaks of `fields_of` alone.
use Rattle.std.specs.Prelude.{ℕ, zero, suc, Bool, true, ◌&&◌, ◌==◌, if◌then◌else◌, List, [], ◌∷◌, Option, Some, None, option_map, option_and_then}
use Rattle.std.specs.List.{slice_split}
use Rattle.std.specs.Ordering.{is_lt}
use Rattle.std.specs.declared.cmp.Ordering.{Ordering}
use Rattle.desk_text.specs.Forms.{a_number}
use Rattle.desk_model.specs.Content.{rises}

-- the fields of a text
unfoldable pub fields_of : List ℕ → List (List ℕ)
fields_of text = slice_split (λ b. b == 9) text

-- what reads a value from the front of fields, and leaves the others
abbrev pub Reader : Type 0 → Type 0
Reader A = List (List ℕ) → Option (A × List (List ℕ))

-- a value of one field
abbrev pub one : {A : Type 0} → (List ℕ → Option A) → Reader A
one form [] = None
one form (field ∷ fields) = option_map (λ a. (a, fields)) (form field)

-- a value, and another behind it
abbrev pub both : {A B : Type 0} → Reader A → Reader B → Reader (A × B)
both first second fields = option_and_then (λ x. option_map (λ y. ((x.0, y.0), y.1)) (second x.1)) (first fields)

-- a value that is made of what is read
abbrev pub built_of : {A B : Type 0} → (A → B) → Reader A → Reader B
built_of make read fields = option_map (λ x. (make x.0, x.1)) (read fields)

-- what is made of values that were read one behind the other
abbrev pub two : {A B M : Type 0} → (A → B → M) → A × B → M
two make x = make x.0 x.1

abbrev pub three : {A B C M : Type 0} → (A → B → C → M) → A × (B × C) → M
three make x = make x.0 x.1.0 x.1.1

abbrev pub four : {A B C D M : Type 0} → (A → B → C → D → M) → A × (B × (C × D)) → M
four make x = make x.0 x.1.0 x.1.1.0 x.1.1.1

abbrev pub five : {A B C D E M : Type 0} → (A → B → C → D → E → M) → A × (B × (C × (D × E))) → M
five make x = make x.0 x.1.0 x.1.1.0 x.1.1.1.0 x.1.1.1.1

abbrev pub nine : {A B C D E F G H I M : Type 0} → (A → B → C → D → E → F → G → H → I → M) → A × (B × (C × (D × (E × (F × (G × (H × I))))))) → M
nine make x = make x.0 x.1.0 x.1.1.0 x.1.1.1.0 x.1.1.1.1.0 x.1.1.1.1.1.0 x.1.1.1.1.1.1.0 x.1.1.1.1.1.1.1.0 x.1.1.1.1.1.1.1.1

abbrev pub eight : {A B C D E F G H M : Type 0} → (A → B → C → D → E → F → G → H → M) → A × (B × (C × (D × (E × (F × (G × H)))))) → M
eight make x = make x.0 x.1.0 x.1.1.0 x.1.1.1.0 x.1.1.1.1.0 x.1.1.1.1.1.0 x.1.1.1.1.1.1.0 x.1.1.1.1.1.1.1

-- a value that passes a test
abbrev pub tested : {A : Type 0} → (A → Bool) → Reader A → Reader A
tested test read fields = option_and_then (λ x. if test x.0 then Some x else None) (read fields)

-- so many values
abbrev pub times : {A : Type 0} → ℕ → Reader A → Reader (List A)
times zero read fields = Some ([], fields)
times (suc n) read fields = option_and_then (λ x. option_map (λ y. (x.0 ∷ y.0, y.1)) (times n read x.1)) (read fields)

-- a list of at most so many values, with how many there are in front
abbrev pub counted_list : {A : Type 0} → ℕ → Reader A → Reader (List A)
counted_list limit read fields = option_and_then (λ n. times n.0 read n.1) (one (a_number 0 limit) fields)

-- each value is below the one behind it, which is what a loop over neighbours finds: in an order these are the lists that rise
abbrev pub in_turn : {A : Type 0} → (A → A → Ordering) → List A → Bool
in_turn order [] = true
in_turn order (a ∷ []) = true
in_turn order (a ∷ b ∷ rest) = is_lt (order a b) && in_turn order (b ∷ rest)

-- a counted list whose values rise
abbrev pub rising : {A : Type 0} → (A → A → Ordering) → ℕ → Reader A → Reader (List A)
rising order limit read = tested (rises order) (counted_list limit read)

-- a value is all that was read
abbrev pub ended : {A : Type 0} → A × List (List ℕ) → Option A
ended (a, []) = Some a
ended (a, field ∷ fields) = None

-- the value that all of the fields are
abbrev pub all_fields : {A : Type 0} → Reader A → List (List ℕ) → Option A
all_fields read fields = option_and_then ended (read fields)
