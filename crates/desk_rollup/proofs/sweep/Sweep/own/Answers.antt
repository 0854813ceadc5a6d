use Rattle.std.proofs.Common.{◌≡◌, ◌<◌, length, false, slice_index, sym, ap, ◌∙◌, arith}
use Rattle.std.proofs.lemmas.List.{get_or_default, length-map}
use Rattle.desk_graph.specs.Reaches.{has_node}
use Rattle.desk_rollup.specs.Plan.{nodes_of_owns}
use Rattle.desk_rollup.specs.Values.{no_own}
use Rattle.desk_rollup.proofs.Frame.{own_found, own_other}
use Rattle.desk_rollup.proofs.sweep.Sweep.own.Goals as goal

pub returns-in-Some : goal.returns-in-Some
returns-in-Some g c =
    let owns = c.args.self.now.owns.now in
    let kept = c.args.self.now.kept.now in
    let sweep = c.requires.sweep in
    let place = c.in-Some.place in
    let told = c.in-Some.ensures.told in
    let low : place < length (nodes_of_owns owns) = omega (arith, told.0, ap (λ l. length l) sweep.own_nodes) in
    let is : slice_index (nodes_of_owns owns) place ≡ c.args.node = ap (λ l. slice_index l place) (sym sweep.own_nodes) ∙ told.1 in
    get_or_default owns place c.index-self-place.result no_own (omega (arith, low, length-map owns (λ own. own.node)))
    ∙ sym (own_found owns kept.owns c.args.node place sweep.can.distinct low is)

pub returns-in-None : goal.returns-in-None
returns-in-None g c =
    let owns = c.args.self.now.owns.now in
    let kept = c.args.self.now.kept.now in
    let sweep = c.requires.sweep in
    let none : has_node (nodes_of_owns owns) c.args.node ≡ false = ap (λ l. has_node l c.args.node) (sym sweep.own_nodes) ∙ c.in-None.ensures.told in
    c.own.ensures ∙ sym (own_other owns kept.owns c.args.node none)
