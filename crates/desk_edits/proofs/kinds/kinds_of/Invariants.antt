-- The set so far with what is left of the items is the set of all.
use Rattle.std.proofs.Common.{◌≡◌, [], drop}
use Rattle.serde_json.specs.View.{items_view}
use Rattle.desk_edits.proofs.KindItems.{set_with}
use Rattle.desk_edits.proofs.kinds.kinds_of.Given as goal

abbrev pub invariant-loop-item : goal.invariant-loop-item
invariant-loop-item l = set_with l.kinds (items_view (drop l.item-index l.items)) ≡ set_with [] (items_view l.items)
