-- Two lists in the order of their numbers, made one.
use Rattle.std.specs.Prelude.{ℕ, List, [], ◌∷◌, nat_lt, ◌==◌, if◌then◌else◌}

-- the entry before the first of the list that has a greater number, or joined to one of the same number, and then what `go` makes of
-- the rest
abbrev pub merged_in : {X : Type 0} → (X → ℕ) → (X → X → X) → X → (List X → List X) → List X → List X
merged_in number join entry go [] = entry ∷ go []
merged_in number join entry go (held ∷ rest) =
    if nat_lt (number held) (number entry) then held ∷ merged_in number join entry go rest
    else (if number held == number entry then join held entry ∷ go rest else entry ∷ go (held ∷ rest))

-- the entries of both lists; two of the same number are joined
abbrev pub merged : {X : Type 0} → (X → ℕ) → (X → X → X) → List X → List X → List X
merged number join [] held = held
merged number join (entry ∷ more) held = merged_in number join entry (merged number join more) held
