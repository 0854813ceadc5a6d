use Rattle.std.proofs.Common.{◌<◌, ◌^◌, sym, subst}
use Rattle.desk_findings.specs.Above.{content}
use Rattle.desk_scratch.proofs.Light.{content_light}
use Rattle.desk_scratch.proofs.bill.Bill.is_above.Goals as goal

pub is_above-requires-clause-fits : goal.is_above-requires-clause-fits
is_above-requires-clause-fits c =
    subst (λ t. content t c.args.part.now c.args.substance.now < 2 ^ 128) (sym c.lists.ensures)
    (content_light c.self.inside.tables.now.lists c.self.invariant.0 c.args.part.now c.args.substance.now (rw c.self.view_is c.requires))
