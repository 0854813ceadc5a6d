use Rattle.std.proofs.Common.{◌≤◌, ◌==◌, cond, length, sym, ap, ◌∙◌, subst, arith}
use Rattle.std.specs.Prelude.{position}
use Rattle.std.proofs.lemmas.Bool.{le-ltb}
use Rattle.desk_rollup.specs.Places.{IsPlaceOf, Placed, place_at, place_in}
use Rattle.desk_rollup.proofs.places.Places.place_of.Goals as goal

pub returns-then-node-len-clause-place : goal.returns-then-node-len-clause-place
returns-then-node-len-clause-place c =
    let placed : Placed = record { nodes = c.self.inside.nodes.items; slots = c.self.inside.slots.items } in
    let node = c.args.node in
    let past : length placed.slots ≤ node = omega (arith, c.if-node-len.true, c.len.ensures, c.self.inside.slots.ok.0) in
    let first = λ (low : Rattle.std.proofs.Common.Bool). cond low (place_in placed.slots node) (position (λ other. other == node) placed.nodes) in
    c.first_place.ensures ∙ ap (position (λ other. other == node)) c.as_slice.ensures.value ∙ sym (ap first (le-ltb node (length placed.slots) past)) ∙ ap (λ p. place_at p node) c.self.view_is

pub returns-then-node-len-clause-told : goal.returns-then-node-len-clause-told
returns-then-node-len-clause-told c =
    let placed : Placed = record { nodes = c.self.inside.nodes.items; slots = c.self.inside.slots.items } in
    let is = returns-then-node-len-clause-place c in
    let told = subst (λ p. IsPlaceOf p.nodes c.args.node (place_at p c.args.node)) c.self.view_is (c.self.invariant c.args.node) in
    subst (IsPlaceOf c.args.self.now.nodes c.args.node) (sym is) told
