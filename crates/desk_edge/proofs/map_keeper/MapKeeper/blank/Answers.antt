use Rattle.std.proofs.Common.{sym, subst}
use Rattle.desk_edge.specs.Content.{key_cmp, key_of}
use Rattle.desk_edge.proofs.Keys.{key_order}
use Rattle.desk_rows.specs.Rows.{IsByKey}
use Rattle.desk_rows.proofs.Order.{none_by_key}
use Rattle.desk_edge.proofs.map_keeper.MapKeeper.blank.Goals as goal

pub invariant_of-result : goal.invariant_of-result
invariant_of-result c = subst (IsByKey key_of key_cmp) (sym c.new.ensures.items) (none_by_key key_of key_cmp key_order)
