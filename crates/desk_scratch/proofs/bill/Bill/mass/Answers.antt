use Rattle.std.proofs.Common.{◌∙◌, ap}
use Rattle.desk_findings.specs.Mass.{mass}
use Rattle.desk_totals.specs.Fit.{fit}
use Rattle.desk_scratch.proofs.Light.{mass_fits, none_or_some}
use Rattle.desk_scratch.proofs.bill.Bill.mass.Goals as goal

pub unreachable-requires : goal.unreachable-requires
unreachable-requires c =
    let t = c.self.inside.tables.now.lists in
    none_or_some c.mass_of_part.result (mass t c.args.part.now) c.in-None.is
    (c.mass_of_part.ensures ∙ ap (λ u. fit (mass u c.args.part.now)) c.lists.ensures ∙ mass_fits t c.self.invariant.0 c.args.part.now (rw c.self.view_is c.requires))
