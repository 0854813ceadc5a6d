use Rattle.std.proofs.Common.{◌≡◌, map, take}
use Rattle.desk_engine.specs.Answers.{user_row}
use Rattle.desk_engine.proofs.stored_uses.user_rows.Given as goal

abbrev pub invariant-loop-user : goal.invariant-loop-user
invariant-loop-user l = l.rows.items ≡ map (user_row l.stored.bill.labels l.code) (take l.user-index l.users)
