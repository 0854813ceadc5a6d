use Rattle.std.proofs.Common.{◌≡◌, ◌*◌, ap, ◌∙◌, arith}
use Rattle.desk_tonnage.specs.Edits.{HasMass}
use Rattle.desk_tonnage.specs.Entries.{entries_in}
use Rattle.desk_tonnage.specs.Years.{total_mass, entries_mass_in}
use Rattle.desk_tonnage.proofs.Lowered.{product_too_large, sum_too_large}
use Rattle.desk_tonnage.proofs.Weights.{year_mass-with_units}
use Rattle.desk_tonnage.proofs.yearly.Yearly.is_too_heavy.Goals as goal

pub returns-in-Some : goal.returns-in-Some
returns-in-Some c =
    let year = c.args.year in
    let items = c.self.inside.entries.items in
    let mass : HasMass year c.args.product.now c.args.mass items = rw (← c.self.view_is) at c.requires in
    let whole = year_mass-with_units year c.args.product.now c.args.units c.args.mass items c.self.invariant.by_key mass in
    let kept : c.total_mass-kept.result ≡ entries_mass_in year items = c.total_mass-kept.ensures ∙ ap total_mass (c.entries_of_year.ensures ∙ ap (entries_in year) c.as_slice.ensures.value) in
    let more : c.in-Some.more ≡ c.args.units * c.args.mass = c.in-Some.ensures.1 ∙ ap (λ n. n * c.args.mass) c.from.ensures in
    rw (← c.self.view_is) (sum_too_large c.total_mass-kept.result c.in-Some.more _ c.checked_add.result c.is_none.result (omega (arith, whole, kept, more)) c.checked_add.ensures c.is_none.ensures)

pub returns-in-None : goal.returns-in-None
returns-in-None c =
    let year = c.args.year in
    let items = c.self.inside.entries.items in
    let mass : HasMass year c.args.product.now c.args.mass items = rw (← c.self.view_is) at c.requires in
    let whole = year_mass-with_units year c.args.product.now c.args.units c.args.mass items c.self.invariant.by_key mass in
    rw (← c.self.view_is) (product_too_large (entries_mass_in year items) c.args.units c.args.mass _ whole (λ h. c.in-None.ensures (rw c.from.ensures h)))
