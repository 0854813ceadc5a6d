use Rattle.std.proofs.Common.{◌≤◌, ap, arith}
use Rattle.desk_tonnage.specs.Entries.{entry_units}
use Rattle.desk_tonnage.proofs.Kept.{without_units-kept}
use Rattle.desk_tonnage.proofs.yearly.Yearly.take.Goals as goal

pub invariant_of-self : goal.invariant_of-self
invariant_of-self c =
    let enough : c.args.units ≤ entry_units c.args.year c.args.product.now c.self.inside.entries.items = omega (arith, c.units-kept.ensures.units, ap (λ v. entry_units c.args.year c.args.product.now v.entries) c.self.view_is) in
    rw c.lower_units.ensures (without_units-kept c.args.year c.args.product.now c.args.units c.self.inside.entries.items enough c.self.invariant)
