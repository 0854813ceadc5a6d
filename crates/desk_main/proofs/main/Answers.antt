use denote.Param.Send.{IsSend, param_send}
use Rattle.desk_sqlite.proofs.Crossing.{Kept, file_keeper_send}
use Rattle.desk_main.proofs.main.Goals as goal

pub launch-requires-send-S-Store : goal.launch-requires-send-S-Store
launch-requires-send-S-Store c κs = let store : IsSend Kept = file_keeper_send in λ lifetimes. search (param_send)
