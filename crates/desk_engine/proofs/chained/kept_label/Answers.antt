use Rattle.desk_bridge.proofs.Chains.{labels_are_codes}
use Rattle.desk_engine.proofs.chained.kept_label.Goals as goal

pub label_at-requires-clause-code : goal.label_at-requires-clause-code
label_at-requires-clause-code c = labels_are_codes c.args._tables.now.lists c.requires.sound.consistent c.args.stored.now.bill c.requires.stored.of.bill c.args.node c.requires.there
