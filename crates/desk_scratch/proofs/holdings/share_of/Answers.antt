-- All that is held, whatever material says so.
use Rattle.std.proofs.Common.{◌∙◌, ◌*◌, ap, sum_by}
use Rattle.desk_model.specs.declared.substance_mass.SubstanceMass.{SubstanceMass}
use Rattle.desk_findings.specs.Share.{members_of}
use Rattle.desk_tables.proofs.Taken.{take_whole}
use Rattle.desk_scratch.specs.Holdings.{factor_in}
use Rattle.desk_scratch.proofs.Factors.{share_by_members}
use Rattle.desk_scratch.proofs.holdings.share_of.Goals as goal

pub returns : goal.returns
returns c = λ material told.
    let t = c.args.tables.now.lists in
    c.loop-held.invariant.share
    ∙ ap (sum_by (λ (held : SubstanceMass). held.mass * factor_in c.args.rule (members_of t held.substance))) (take_whole c.args.substances.now c.loop-held.held-index c.loop-held-test.false ∙ told)
    ∙ share_by_members t c.args.rule material
