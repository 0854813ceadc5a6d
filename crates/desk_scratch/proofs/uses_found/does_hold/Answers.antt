use Rattle.std.proofs.Common.{sym, refl}
use Rattle.desk_totals.proofs.Walks.{reaches_nothing}
use Rattle.desk_scratch.proofs.uses_found.does_hold.Goals as goal

pub returns-in-None : goal.returns-in-None
returns-in-None c = λ t of is_bill marks.
    let nothing = reaches_nothing t is_bill c.args.links.now of c.args.part.now c.args.code.now c.in-None.ensures in
    sym (rw (nothing, sym c.eq.ensures, c.if-eq.false) refl)
