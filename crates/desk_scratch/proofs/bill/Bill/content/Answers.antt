use Rattle.std.proofs.Common.{◌<◌, ◌^◌, sym, subst}
use Rattle.desk_findings.specs.Above.{content}
use Rattle.desk_scratch.proofs.Light.{content_light}
use Rattle.desk_scratch.proofs.bill.Bill.content.Goals as goal

pub content-requires-clause-fits : goal.content-requires-clause-fits
content-requires-clause-fits c =
    subst (λ t. content t c.args.part.now c.args.substance.now < 2 ^ 128) (sym c.lists.ensures)
    (content_light c.self.inside.tables.now.lists c.self.invariant.0 c.args.part.now c.args.substance.now (rw c.self.view_is c.requires))
