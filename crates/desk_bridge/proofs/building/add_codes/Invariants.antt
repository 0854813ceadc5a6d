use Rattle.std.proofs.Common.{◌≡◌, ℕ, ◌&&◌, ◌||◌, List, take}
use Rattle.desk_model.specs.Lists.{is_kept}
use Rattle.desk_graph.specs.Edits.{is_taken}
use Rattle.desk_bridge.specs.Building.{IsFilled}
use Rattle.desk_bridge.proofs.building.add_codes.Given as goal

abbrev pub invariant-loop-code : goal.invariant-loop-code
invariant-loop-code l =
    IsFilled l.tables.lists l.bill l.index.rows
    × ((other : List ℕ) → is_taken l.bill.labels other ≡ (is_taken l.fn.bill.labels other || (is_kept l.tables.lists other && is_taken (take l.code-index l.codes) other)))
