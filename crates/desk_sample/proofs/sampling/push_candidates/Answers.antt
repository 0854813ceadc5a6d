use Rattle.desk_sample.proofs.Declaring.{dehp_code, lead_code}
use Rattle.desk_sample.proofs.sampling.push_candidates.Goals as goal

pub word-dehp-requires : goal.word-dehp-requires
word-dehp-requires c = dehp_code

pub word-lead-requires : goal.word-lead-requires
word-lead-requires c = lead_code
