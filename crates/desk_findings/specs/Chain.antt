-- The chain from a part to what it reaches.
use Rattle.std.specs.Prelude.{ℕ, zero, suc, Bool, true, false, ◌&&◌, ◌||◌, List, [], ◌∷◌, Option, find, option_map, if◌then◌else◌}
use Rattle.std.specs.Option.{option_map_or}
use Rattle.desk_text.specs.Code.{same_code}
use Rattle.desk_model.specs.declared.rows.line.LineRow.{LineRow}
use Rattle.desk_model.specs.Lists.{Lists, is_line}
use Rattle.desk_findings.specs.Reaches.{enough, lines_of, reaches_within}

-- the child of the part with the least code that is the target, or reaches it within so many lines: the lines of a part stand in
-- order of child
abbrev pub next_within : List LineRow → ℕ → List ℕ → List ℕ → Option (List ℕ)
next_within lines deep part target =
    option_map (λ line. line.child) (find (λ line. same_code line.child target || reaches_within lines deep line.child target) (lines_of lines part))

-- the chain of at most so many lines: the part alone where it is the target; else the part, and the chain from the next child
unfoldable pub chain_within : List LineRow → ℕ → ℕ → List ℕ → List ℕ → List (List ℕ)
chain_within lines deep zero part target = part ∷ []
chain_within lines deep (suc k) part target =
    if same_code part target then part ∷ []
    else part ∷ option_map_or (λ child. chain_within lines deep k child target) (next_within lines deep part target) []

-- the child of the part with the least code that is the target or reaches it
abbrev pub next_to : Lists → List ℕ → List ℕ → Option (List ℕ)
next_to t part target = next_within t.lines (enough t) part target

-- the chain from a part to a target
abbrev pub chain : Lists → List ℕ → List ℕ → List (List ℕ)
chain t part target = chain_within t.lines (enough t) (enough t) part target

-- each two neighbours in a list of codes are the parent and the child of a kept line
abbrev pub are_linked : Lists → List (List ℕ) → Bool
are_linked t [] = true
are_linked t (part ∷ []) = true
are_linked t (part ∷ child ∷ codes) = is_line t part child && are_linked t (child ∷ codes)

-- the list of codes begins with this one
abbrev pub begins_with : List ℕ → List (List ℕ) → Bool
begins_with code [] = false
begins_with code (first ∷ codes) = same_code first code

-- the list of codes ends with this one
abbrev pub ends_with : List ℕ → List (List ℕ) → Bool
ends_with code [] = false
ends_with code (last ∷ []) = same_code last code
ends_with code (part ∷ child ∷ codes) = ends_with code (child ∷ codes)
