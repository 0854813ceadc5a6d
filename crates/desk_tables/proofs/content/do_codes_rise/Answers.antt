use Rattle.std.proofs.Common.{◌∙◌}
use Rattle.desk_tables.proofs.RisingContent.{codes_rise}
use Rattle.desk_tables.proofs.content.do_codes_rise.Goals as goal

pub returns : goal.returns
returns c = c.is_each_code_below.ensures ∙ codes_rise c.args.held.now
