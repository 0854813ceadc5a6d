use Rattle.std.proofs.Common.{◌<◌, ◌^◌, sym, ap, ◌∙◌, subst, arith}
use Rattle.desk_tonnage.specs.Entries.{entries_in}
use Rattle.desk_tonnage.specs.Tonnage.{AreWithinMasses, carried_by, total_carried}
use Rattle.desk_tonnage.proofs.Carried.{carried-le}
use Rattle.desk_tonnage.proofs.yearly.Yearly.tonnage.Goals as goal

pub total_carried-requires-clause-fits : goal.total_carried-requires-clause-fits
total_carried-requires-clause-fits c =
    let loads = c.args.carried.now in
    let items = c.self.inside.entries.items in
    let within : AreWithinMasses c.args.year loads items = rw (← c.self.view_is) at c.requires.within in
    let le = carried-le (carried_by loads) (entries_in c.args.year items) within in
    let small : total_carried loads (entries_in c.args.year items) < 2 ^ 128 = omega (arith, le, c.self.invariant.masses c.args.year) in
    subst (λ es. total_carried loads es < 2 ^ 128) (ap (entries_in c.args.year) (sym c.as_slice.ensures.value) ∙ sym c.entries_of_year.ensures) small
