-- All that is held, whatever tables and material say so.
use Rattle.std.proofs.Common.{◌∙◌, ◌*◌, ap, sum_by}
use Rattle.desk_tables.proofs.Taken.{take_whole}
use Rattle.desk_scratch.specs.Holdings.{Holding, factor_in}
use Rattle.desk_scratch.proofs.Factors.{share_by_holdings}
use Rattle.desk_scratch.proofs.holdings.Holdings.share.Goals as goal

pub returns : goal.returns
returns c = λ t material told.
    c.loop-holding.invariant.share
    ∙ ap (sum_by (λ (holding : Holding). holding.mass * factor_in c.args.rule holding.members))
    (take_whole _ c.loop-holding.holding-index c.loop-holding-test.false ∙ c.as_slice-holding-items.ensures.value ∙ c.self.view_is ∙ told)
    ∙ share_by_holdings t c.args.rule material
