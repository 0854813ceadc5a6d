use Rattle.std.proofs.Common.{◌+◌, ap}
use Rattle.desk_bridge.proofs.HeldAmounts.{amount-put}
use Rattle.desk_bridge.proofs.holdings.add.Goals as goal

pub returns : goal.returns
returns c =
    amount-put c.args.held.now.rows c.put.new.self.rows c.args.substance.now c.args.more (c.amount_of.result + c.args.more) (ap (λ n. n + c.args.more) c.amount_of.ensures) c.in_ok-put.ensures.ok
