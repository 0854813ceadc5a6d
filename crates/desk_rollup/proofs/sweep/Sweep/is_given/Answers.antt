use Rattle.std.proofs.Common.{◌≡◌, sym, ap, ◌∙◌, subst, true}
use Rattle.desk_graph.specs.Reaches.{has_node}
use Rattle.desk_rollup.proofs.Counts.{has_at}
use Rattle.desk_rollup.proofs.sweep.Sweep.is_given.Goals as goal

pub returns-in-Some : goal.returns-in-Some
returns-in-Some g c =
    let seeds = c.args.self.now.of_owns.now.nodes in
    let told = c.in-Some.ensures.told in
    sym (ap (λ l. has_node l c.args.node) (sym c.requires.own_nodes) ∙ subst (λ n. has_node seeds n ≡ true) told.1 (has_at seeds c.in-Some.field-0 told.0))

pub returns-in-None : goal.returns-in-None
returns-in-None g c = sym (ap (λ l. has_node l c.args.node) (sym c.requires.own_nodes) ∙ c.in-None.ensures.told)
