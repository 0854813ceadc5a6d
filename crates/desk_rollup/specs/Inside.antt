-- What roll-ups keep: that their parts agree.
use Rattle.std.specs.Prelude.{◌≡◌, ◌≤◌, length, vec_capacity, IfSome}
use Rattle.desk_rollup.specs.declared.rollups.Rollups.TheInside.{Inside}
use Rattle.desk_rollup.specs.Values.{AreHopsInOrder, DoFit, hop_total}

-- each node has own values and what they come to, no weight is too large, hops stand in order, all hops are counted, unless there are
-- too many to count, and there is room for all nodes that a bill may have
pub record HoldsTogether (rollups : Inside) : Type 0 where
  pub sizes : length rollups.owns.items ≡ length rollups.rolled.items
  pub fit : DoFit rollups.rolled.items
  pub order : AreHopsInOrder rollups.rolled.items
  pub hops : IfSome rollups.hops (λ hops. hops ≡ hop_total rollups.rolled.items)
  pub owns_room : 24576 ≤ vec_capacity rollups.owns
  pub rolled_room : 24576 ≤ vec_capacity rollups.rolled
