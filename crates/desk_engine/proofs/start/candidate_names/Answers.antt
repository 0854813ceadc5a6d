use Rattle.std.proofs.Common.{◌∙◌}
use Rattle.desk_engine.proofs.NamesGrow.{all_named}
use Rattle.desk_engine.proofs.start.candidate_names.Goals as goal

pub returns : goal.returns
returns c = all_named c.args.tables.now.lists c.requires c.new.result c.candidates.result.now (c.new.ensures ∙ c.in_ok-names.ensures) c.candidates.ensures
