-- How a refusal is told.
use Rattle.std.specs.Prelude.{ℕ, List, [], ◌∷◌, ◌++◌, ◌==◌, codes, decimal, if◌then◌else◌}
use Rattle.std.specs.List.{flat_map}
use Rattle.desk_model.specs.declared.rule_fault.RuleFault.{RuleFault}
use Rattle.desk_model.specs.declared.rule_fault.RuleFault.TheVariants as fault

-- each of the words behind a space
abbrev pub spaced : List (List ℕ) → List ℕ
spaced words = flat_map (λ word. 32 ∷ word) words

-- the name by which a refusal tells a full table, by number; 11 is for the lines of one parent
unfoldable pub table_name : ℕ → List ℕ
table_name table =
    if table == 1 then codes "substances"
    else if table == 2 then codes "members"
    else if table == 3 then codes "materials"
    else if table == 4 then codes "parts"
    else if table == 5 then codes "lines"
    else if table == 6 then codes "products"
    else if table == 7 then codes "exemptions"
    else if table == 8 then codes "candidates"
    else if table == 9 then codes "shipments"
    else if table == 10 then codes "tickets"
    else codes "lines-of-parent"

-- the words for a refusal
unfoldable pub refusal_words : RuleFault → List ℕ
refusal_words fault.TicketReused = codes "ticket-reused"
refusal_words (fault.UnknownSubstance code) = codes "unknown-substance" ++ spaced (code ∷ [])
refusal_words (fault.UnknownMaterial code) = codes "unknown-material" ++ spaced (code ∷ [])
refusal_words (fault.UnknownPart code) = codes "unknown-part" ++ spaced (code ∷ [])
refusal_words (fault.UnknownProduct code) = codes "unknown-product" ++ spaced (code ∷ [])
refusal_words (fault.UnknownExemption row) = codes "unknown-exemption" ++ spaced (row ∷ [])
refusal_words (fault.NameTaken code) = codes "name-taken" ++ spaced (code ∷ [])
refusal_words (fault.KindChanged code) = codes "kind-changed" ++ spaced (code ∷ [])
refusal_words (fault.WrongChild child) = codes "wrong-child" ++ spaced (child ∷ [])
refusal_words (fault.NoSuchLine parent child) = codes "no-such-line" ++ spaced (parent ∷ child ∷ [])
refusal_words (fault.ForeignMaterial material supplier) = codes "foreign-material" ++ spaced (material ∷ supplier ∷ [])
refusal_words (fault.StaleDeclaration material kept) = codes "stale-declaration" ++ spaced (material ∷ decimal kept ∷ [])
refusal_words (fault.MassesExceed material) = codes "masses-exceed" ++ spaced (material ∷ [])
refusal_words fault.ExemptionSpan = codes "exemption-span"
refusal_words fault.AnnexKinds = codes "annex-kinds"
refusal_words (fault.ShipBelowZero kept) = codes "ship-below-zero" ++ spaced (decimal kept ∷ [])
refusal_words fault.UnitsTooLarge = codes "units-too-large"
refusal_words (fault.TableFull table) = codes "table-full" ++ spaced (table_name table ∷ [])
refusal_words fault.TextFull = codes "text-full"
refusal_words (fault.ClosesCycle chain) = codes "closes-cycle" ++ spaced chain
refusal_words (fault.TotalTooLarge part) = codes "total-too-large" ++ spaced (part ∷ [])
refusal_words fault.FindingsFull = codes "findings-full"
refusal_words (fault.YearTooLarge year) = codes "year-too-large" ++ spaced (decimal year ∷ [])
