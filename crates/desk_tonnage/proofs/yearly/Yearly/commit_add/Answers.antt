use Rattle.desk_tonnage.specs.Kept.{IsAddPlan}
use Rattle.desk_tonnage.proofs.Kept.{with_entry-kept}
use Rattle.desk_tonnage.proofs.yearly.Yearly.commit_add.Goals as goal

pub invariant_of-self : goal.invariant_of-self
invariant_of-self c =
    let plan : IsAddPlan _ _ = rw (← c.self.view_is, ← c.plan.view_is) at c.requires in
    rw c.set_entry.ensures (with_entry-kept c.plan.inside.entry c.self.inside.entries.items c.self.invariant (plan.some, plan.fits) plan.year_fits)
