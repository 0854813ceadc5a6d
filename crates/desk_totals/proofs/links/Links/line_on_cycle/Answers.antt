use Rattle.std.proofs.Common.{get_or, sym, ap, ◌∙◌}
use Rattle.std.specs.Prelude.{nat_lt}
use Rattle.std.specs.List.{list_all}
use Rattle.desk_totals.proofs.Cycles.{acyclic_by_heights}
use Rattle.desk_totals.proofs.links.Links.line_on_cycle.Goals as goal

pub returns-then-does_fall : goal.returns-then-does_fall
returns-then-does_fall c t of parents =
    let links = c.links.result.now in
    acyclic_by_heights t c.args.self.now of c.links.ensures.linked.distinct links c.links.ensures.lines c.links.ensures.places c.in_ok-heights.heights.items c.in_ok-heights.ensures
    (ap (λ list. list_all (λ link. nat_lt (get_or list link.child 0) (get_or list link.parent 0)) links) (sym c.as_slice.ensures.value) ∙ sym c.does_fall.ensures ∙ c.if-does_fall.true)
