-- Lines that stand in several answers. Each ends with a line feed.
use Rattle.std.specs.Prelude.{ℕ, Bool, true, false, List, ◌++◌, codes}
use Rattle.std.specs.Fmt.{decimal}
use Rattle.std.specs.List.{flat_map}
use Rattle.desk_model.specs.Lists.{Lists, number_at}

-- `version N`: the tables' number is the number of their tickets
unfoldable pub version_line : Lists → List ℕ
version_line t = codes "version " ++ decimal (number_at t) ++ codes "\n"

-- `name NAME`
unfoldable pub name_line : List ℕ → List ℕ
name_line name = codes "name " ++ name ++ codes "\n"

-- `chain CODE CODE ..`, each code after a space
unfoldable pub chain_line : List (List ℕ) → List ℕ
chain_line chain = codes "chain" ++ flat_map (λ code. codes " " ++ code) chain ++ codes "\n"

-- the word for whether nothing is breached
abbrev pub compliance_word : Bool → List ℕ
compliance_word true = codes "compliant"
compliance_word false = codes "not-compliant"

-- the last line of a judgement: `compliant` or `not-compliant`
abbrev pub compliance_line : Bool → List ℕ
compliance_line true = codes "compliant\n"
compliance_line false = codes "not-compliant\n"
