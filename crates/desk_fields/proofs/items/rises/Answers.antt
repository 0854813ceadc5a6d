-- Values that rise one after the other rise in all.
use Rattle.std.proofs.Common.{◌∙◌, sym}
use Rattle.desk_fields.proofs.Rising.{rises_in_turn}
use Rattle.desk_fields.proofs.items.rises.Goals as goal

pub returns : goal.returns
returns g c = c.in_turn.ensures ∙ sym (rises_in_turn g.T.Item.order g.met.T.Item.total c.args.list.now)
