use Rattle.std.proofs.Common.{ap, sym, ◌∙◌, subst}
use Rattle.desk_edge.specs.Shelves.{AreApart, is_name_among}
use Rattle.desk_edge.proofs.Lending.{found_has, gone, same_name, without_apart, without_stay}
use Rattle.desk_edge.proofs.lent.Lent.take.Goals as goal

pub invariant_of-self : goal.invariant_of-self
invariant_of-self c = subst AreApart (sym c.take_name.ensures.rest) (without_apart c.args.name.now c.self.inside.names.items c.self.invariant)

pub returns-clause-taken : goal.returns-clause-taken
returns-clause-taken c =
    let name = c.args.name.now in
    let own = c.take_name.result in
    same_name own name (found_has (λ own. own) name c.self.inside.names.items own c.take_name.ensures.taken)

pub returns-clause-gone : goal.returns-clause-gone
returns-clause-gone c = ap (λ names. is_name_among names c.args.name.now) c.take_name.ensures.rest ∙ gone c.args.name.now c.self.inside.names.items c.self.invariant

pub returns-clause-stay : goal.returns-clause-stay
returns-clause-stay c other differ was =
    let name = c.args.name.now in
    ap (λ names. is_name_among names other) c.take_name.ensures.rest ∙ without_stay name other c.self.inside.names.items differ (ap (λ names. is_name_among names other) c.self.view_is ∙ was)
