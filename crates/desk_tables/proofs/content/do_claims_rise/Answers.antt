use Rattle.std.proofs.Common.{◌∙◌}
use Rattle.desk_tables.proofs.RisingContent.{claims_rise}
use Rattle.desk_tables.proofs.content.do_claims_rise.Goals as goal

pub returns : goal.returns
returns c = c.is_each_claim_below.ensures ∙ claims_rise c.args.claims.now
