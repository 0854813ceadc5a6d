-- What a field is read as. No clause of a public call speaks of these words.
use Rattle.std.specs.Prelude.{ℕ, ◌^◌, ◌&&◌, ◌==◌, if◌then◌else◌, List, [], ◌∷◌, nat_le, Option, Some, None, option_map, option_and_then}
use Rattle.std.specs.List.{slice_split}
use Rattle.std.specs.Result.{result_ok}
use Rattle.std.specs.Str.{bytes_eq}
use Rattle.desk_text.specs.Cas.{cas_of}
use Rattle.desk_text.specs.Code.{code_of, exemption_number_of}
use Rattle.desk_text.specs.Day.{Date, day_of}
use Rattle.desk_text.specs.Name.{name_of}
use Rattle.desk_text.specs.Number.{number_below}
use Rattle.desk_law.specs.declared.annex.Annex.{Annex}
use Rattle.desk_law.specs.declared.kind.Kind.{Kind}
use Rattle.desk_law.specs.Annex.{annex_of}
use Rattle.desk_law.specs.Kind.{kind_of}
use Rattle.desk_law.specs.KindSet.{kinds_text, set_of}
use Rattle.desk_model.specs.Terms.{are_kinds}

-- an annex, by its number
unfoldable pub annex_of_text : List ℕ → Option Annex
annex_of_text field = option_and_then annex_of (result_ok (number_below (2 ^ 64) field))

-- what may be absent: the field is empty then
abbrev pub maybe : {A : Type 0} → (List ℕ → Option A) → List ℕ → Option (Option A)
maybe form [] = Some None
maybe form (b ∷ field) = option_map (λ a. Some a) (form (b ∷ field))

-- the set with the kinds whose codes the words are
abbrev pub kinds_with : List Kind → List (List ℕ) → Option (List Kind)
kinds_with set [] = Some set
kinds_with set (word ∷ words) = option_and_then (λ kind. kinds_with (set_of (kind ∷ set)) words) (kind_of word)

-- a set of at least one kind, by the codes of its kinds with commas between them, in the one order in which a set is written
unfoldable pub kinds_of_text : List ℕ → Option (List Kind)
kinds_of_text field =
    option_and_then (λ kinds. if are_kinds kinds && bytes_eq (kinds_text kinds) field then Some kinds else None)
    (kinds_with [] (slice_split (λ b. b == 44) field))
