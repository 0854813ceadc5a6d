use Rattle.desk_rollup.proofs.OneNode.{may_prepare}
use Rattle.desk_rollup.proofs.laws.may_prepare_one.Goals as goal

pub returns : goal.returns
returns c = may_prepare
