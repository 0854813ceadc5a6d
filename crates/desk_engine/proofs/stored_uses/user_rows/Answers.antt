use Rattle.std.proofs.Common.{◌<◌, arith, length}
use Rattle.desk_engine.proofs.Listed.{each_at}
use Rattle.desk_engine.proofs.stored_uses.user_rows.Goals as goal

pub kept_label-parent-requires-clause-there : goal.kept_label-parent-requires-clause-there
kept_label-parent-requires-clause-there c =
    each_at (λ user. user.node < length c.args.stored.now.bill.labels) c.args.users.now c.loop-user.user-index _ c.requires.there (omega arith)
