-- What a part reaches along the lines of the bill of materials.
use Rattle.std.specs.Prelude.{ℕ, zero, suc, ◌+◌, Bool, false, ◌||◌, List, length, filter}
use Rattle.std.specs.List.{list_any}
use Rattle.desk_text.specs.Code.{same_code}
use Rattle.desk_model.specs.declared.rows.line.LineRow.{LineRow}
use Rattle.desk_model.specs.Lists.{Lists}

-- the lines of a part
abbrev pub lines_of : List LineRow → List ℕ → List LineRow
lines_of lines part = filter (λ line. same_code line.parent part) lines

-- the part reaches the target within so many lines: some line of it has a child that is the target or reaches it within one line fewer
unfoldable pub reaches_within : List LineRow → ℕ → List ℕ → List ℕ → Bool
reaches_within lines zero part target = false
reaches_within lines (suc k) part target =
    list_any (λ line. same_code line.child target || reaches_within lines k line.child target) (lines_of lines part)

-- a depth that suffices: no chain has more lines than this
abbrev pub enough : Lists → ℕ
enough t = length t.parts + 1

-- the part reaches the target, directly or through other parts
abbrev pub reaches : Lists → List ℕ → List ℕ → Bool
reaches t part target = reaches_within t.lines (enough t) part target

-- the part is the target or reaches it
abbrev pub is_or_reaches : Lists → List ℕ → List ℕ → Bool
is_or_reaches t part target = same_code part target || reaches t part target
