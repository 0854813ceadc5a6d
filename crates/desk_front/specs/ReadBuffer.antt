-- The bytes that were read of a stream and aren't used yet.
use Rattle.std.specs.Prelude.{◌≡◌, ℕ, ◌≤◌, List, ◌++◌, length, Option}
use Rattle.std.specs.Io.KnownBytes.{Consumes, IsAtEnd}

-- the most bytes that are held: those of the longest request
abbrev pub held_limit : ℕ
held_limit = 73728

-- so many bytes came, at most as many as were asked for, and stand behind those that were held; where none came the input is at its end
abbrev pub ReadMore : Option (List ℕ) → Option (List ℕ) → List ℕ → List ℕ → ℕ → ℕ → Type 0
ReadMore unread left old new most count =
    (came : List ℕ) × (new ≡ old ++ came) × (length came ≡ count) × (count ≤ most) × Consumes unread left came × (count ≡ 0 → IsAtEnd left)
