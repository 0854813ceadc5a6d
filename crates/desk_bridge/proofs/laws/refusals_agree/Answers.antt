use Rattle.desk_bridge.proofs.Refusals.{all_fit, first_large, too_many}
use Rattle.desk_bridge.proofs.laws.refusals_agree.Goals as goal

pub returns : goal.returns
returns c = record { large = first_large; fit = all_fit; many = too_many }
