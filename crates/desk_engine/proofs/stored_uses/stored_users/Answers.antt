use Rattle.std.proofs.Common.{◌≡◌, ◌∙◌, map}
use Rattle.std.proofs.lemmas.Result.{IfOk-weaker}
use Rattle.desk_scratch.specs.Uses.{lines_to}
use Rattle.desk_engine.specs.Answers.{user_row}
use Rattle.desk_engine.proofs.Uses.{users_are, users_there}
use Rattle.desk_engine.proofs.stored_uses.stored_users.Goals as goal

pub user_rows-requires-clause-there : goal.user_rows-requires-clause-there
user_rows-requires-clause-there c =
    users_there c.args.tables.now.lists c.requires.sound.consistent c.args.stored.now.bill c.node_count.ensures.bill c.requires.stored.of.bill c.args.code.now c.kept_node-node.result c.kept_node-node.ensures.there c.kept_node-node.ensures.label c.users_at-users.result.now c.users_at-users.ensures.users

pub returns : goal.returns
returns c =
    IfOk-weaker c.user_rows.result (λ rows. rows.items ≡ map (user_row c.args.stored.now.bill.labels c.args.code.now) c.users_at-users.result.now) (λ rows. rows.items ≡ lines_to c.args.tables.now.lists c.args.code.now)
    (λ rows e. e ∙ users_are c.args.tables.now.lists c.requires.sound.consistent c.args.stored.now.bill c.node_count.ensures.bill c.requires.stored.of.bill c.args.code.now c.kept_node-node.result c.kept_node-node.ensures.there c.kept_node-node.ensures.label c.users_at-users.result.now c.users_at-users.ensures.users c.users_at-users.ensures.by_label)
    c.user_rows.ensures
