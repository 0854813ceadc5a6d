use Rattle.std.proofs.Common.{◌∙◌, sym}
use Rattle.desk_bridge.proofs.Filled.{is_missing, isnt_missing, missing_free, there_already}
use Rattle.desk_bridge.proofs.building.add_code.Goals as goal

pub add_free_code-requires-clause-free : goal.add_free_code-requires-clause-free
add_free_code-requires-clause-free c =
    let lists = c.args.tables.now.lists in
    let sound = c.requires.sound.consistent in
    let missing = is_missing lists sound c.args.bill.now c.node_count.ensures.bill c.args.index.now.rows c.requires.filled c.args.code.now c.node_of.result c.node_of.ensures.row (sym c.eq.ensures ∙ c.if-eq.true) in
    missing_free lists sound c.args.bill.now c.node_count.ensures.bill c.args.index.now.rows c.requires.filled c.args.code.now c.node_of.result c.node_of.ensures.row missing

pub returns-else-eq-clause-taken : goal.returns-else-eq-clause-taken
returns-else-eq-clause-taken c =
    let lists = c.args.tables.now.lists in
    let sound = c.requires.sound.consistent in
    let away = isnt_missing lists sound c.args.bill.now c.node_count.ensures.bill c.args.index.now.rows c.requires.filled c.args.code.now c.node_of.result c.node_of.ensures.row (sym c.eq.ensures ∙ c.if-eq.false) in
    there_already lists sound c.args.bill.now c.node_count.ensures.bill c.args.index.now.rows c.requires.filled c.args.code.now c.node_of.result c.node_of.ensures.row away
