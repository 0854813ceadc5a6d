use Rattle.desk_bridge.proofs.Numbers.{numbers_differ, owns_grow}
use Rattle.desk_bridge.proofs.laws.numbers_serve.Goals as goal

pub returns : goal.returns
returns c = record { differ = numbers_differ; grow = owns_grow }
