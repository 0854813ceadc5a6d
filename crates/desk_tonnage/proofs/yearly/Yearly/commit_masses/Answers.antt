use Rattle.std.proofs.Common.{drop, length, ap, subst, sym, ◌∙◌, arith}
use Rattle.std.proofs.lemmas.List.{take_at}
use Rattle.desk_tonnage.specs.Kept.{IsMassPlan}
use Rattle.desk_tonnage.specs.Masses.{with_masses}
use Rattle.desk_tonnage.specs.Years.{IsYearly}
use Rattle.desk_tonnage.proofs.Kept.{with_masses-kept}
use Rattle.desk_tonnage.proofs.yearly.Yearly.commit_masses.Goals as goal

pub invariant_of-self : goal.invariant_of-self
invariant_of-self c =
    let plan : IsMassPlan c.self.inside.entries.items c.plan.inside.masses.items = rw (← c.self.view_is, ← c.plan.view_is) at c.requires in
    let kept = with_masses-kept c.plan.inside.masses.items c.self.inside.entries.items c.self.invariant plan in
    let whole = take_at c.set_masses.new.entries (drop (length c.set_masses.new.entries) c.self.inside.entries.items) c.self.inside.entries.len (omega (arith, c.set_masses.auto.entries, c.as_mut_slice.ensures.len)) in
    subst IsYearly (sym (whole ∙ c.set_masses.ensures ∙ ap (λ ms. with_masses ms c.as_mut_slice.result.now) c.as_slice.ensures.value ∙ ap (with_masses c.plan.inside.masses.items) c.as_mut_slice.ensures.value)) kept
