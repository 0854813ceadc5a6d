-- Values that go up the bill of materials.
use Rattle.std.specs.Prelude.{ℕ, zero, suc, ◌+◌, ◌*◌, List, sum_by}
use Rattle.desk_model.specs.declared.rows.line.LineRow.{LineRow}
use Rattle.desk_model.specs.Lists.{Lists}
use Rattle.desk_findings.specs.Reaches.{enough, lines_of}

-- what a code has of its own and, for each of its lines, count times what the child has, down to so many lines deep
unfoldable pub rolled_within : List LineRow → (List ℕ → ℕ) → ℕ → List ℕ → ℕ
rolled_within lines own zero code = own code
rolled_within lines own (suc k) code =
    own code + sum_by (λ line. line.count * rolled_within lines own k line.child) (lines_of lines code)

-- what a code has of its own and by its lines, down to the end of the bill
abbrev pub rolled : Lists → (List ℕ → ℕ) → List ℕ → ℕ
rolled t own code = rolled_within t.lines own (enough t) code
