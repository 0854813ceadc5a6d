-- The next node of a chain, by places. The bodies say it of one another; no public call does.
use Rattle.std.specs.Prelude.{◌≡◌, ℕ, ◌<◌, List, Option, None, Some, IfSome, length, option_map, slice_index_or, if◌then◌else◌}
use Rattle.std.specs.Option.{option_or}
use Rattle.desk_model.specs.declared.rows.line.LineRow.{LineRow}
use Rattle.desk_findings.specs.Chain.{next_within}
use Rattle.desk_totals.specs.Marks.{has_bit}
use Rattle.desk_totals.specs.Places.{node_at}

-- the first of a node's children is the one of the first line that has one, whatever the count
abbrev pub or_child : Option ℕ → ℕ → Option ℕ → Option ℕ
or_child first count child = option_or first child

-- where a chain may go on: each place whose node has the lowest bit
abbrev pub AreSteps : List ℕ → List (Option ℕ) → Type 0
AreSteps bits steps =
    (place : ℕ) → place < length bits → slice_index_or steps place None ≡ (if has_bit 0 (slice_index_or bits place 0) then Some place else None)

-- the next node of each is the child that a chain takes, where lines are followed so deep
abbrev pub AreNext : List (List ℕ) → List (Option ℕ) → List LineRow → ℕ → List ℕ → Type 0
AreNext nodes next lines deep target =
    (place : ℕ) → place < length nodes →
    IfSome (slice_index_or next place None) (λ child. child < length nodes)
    × (option_map (node_at nodes) (slice_index_or next place None) ≡ next_within lines deep (node_at nodes place) target)
