use Rattle.std.proofs.Common.{◌≡◌, ◌∙◌, ap, arith, drop, length, subst, sym}
use Rattle.std.proofs.lemmas.List.{take_at}
use Rattle.desk_graph.specs.Order.{HasOnce}
use Rattle.desk_graph.proofs.Ordered.{moved_facts, order_inside}
use Rattle.desk_graph.proofs.node_order.NodeOrder.move_behind.Goals as goal

pub set_places-requires-clause-small : goal.set_places-requires-clause-small
set_places-requires-clause-small c =
    let facts = moved_facts c.as_slice-2.result.now c.self.inside.nodes.items c.as_slice-3.result.now (subst HasOnce (sym c.self.view_is) c.requires.once) (c.as_slice-3.ensures.value ∙ c.move_marked.ensures.nodes) in
    omega (arith, facts.0, c.self.invariant.nodes_fit)

pub set_places-requires-clause-inside : goal.set_places-requires-clause-inside
set_places-requires-clause-inside c = λ place h.
    let facts = moved_facts c.as_slice-2.result.now c.self.inside.nodes.items c.as_slice-3.result.now (subst HasOnce (sym c.self.view_is) c.requires.once) (c.as_slice-3.ensures.value ∙ c.move_marked.ensures.nodes) in
    omega (arith, order_inside c.as_slice-3.result.now facts.1 place h, facts.0, ap (λ l. length l) c.as_mut_slice-2.ensures.value, c.self.invariant.places_size)

pub set_places-requires-clause-once : goal.set_places-requires-clause-once
set_places-requires-clause-once c =
    let facts = moved_facts c.as_slice-2.result.now c.self.inside.nodes.items c.as_slice-3.result.now (subst HasOnce (sym c.self.view_is) c.requires.once) (c.as_slice-3.ensures.value ∙ c.move_marked.ensures.nodes) in
    facts.1

pub invariant_of-self : goal.invariant_of-self
invariant_of-self c =
    let kept = c.self.invariant in
    let order = c.self.inside in
    let nodes = c.move_marked.new.nodes.items in
    let facts = moved_facts c.as_slice-2.result.now order.nodes.items nodes (subst HasOnce (sym c.self.view_is) c.requires.once) c.move_marked.ensures.nodes in
    let marks_len = c.mark_from.ensures.up.size in
    let marks_were = ap (λ l. length l) c.as_mut_slice.ensures.value in
    let swept = subst (λ o. length o ≡ length c.args.users.now) (sym c.self.view_is) c.requires.order.size in
    let marks = take_at c.mark_from.new.marks (drop (length c.mark_from.new.marks) order.marks.items) order.marks.len (omega (arith, marks_len, marks_were, swept, kept.marks_size, c.as_mut_slice.ensures.len)) in
    let places = take_at c.set_places.new.places (drop (length c.set_places.new.places) order.places.items) order.places.len (c.set_places.ensures.size ∙ c.as_mut_slice-2.ensures.len) in
    let places_were = ap (λ l. length l) c.as_mut_slice-2.ensures.value in
    let placed = rw c.as_slice-3.ensures.value at c.set_places.ensures.places in
    record {
      nodes_fit = omega (arith, facts.0, kept.nodes_fit);
      places_size = ap (λ l. length l) places ∙ omega (arith, c.set_places.ensures.size, places_were, kept.places_size, facts.0);
      marks_size = ap (λ l. length l) marks ∙ omega (arith, marks_len, swept, facts.0);
      inside = order_inside nodes facts.1;
      placed = rw places placed;
      nodes_room = omega (arith, c.move_marked.ensures.capacity, kept.room_room);
      places_room = kept.places_room;
      marks_room = kept.marks_room;
      room_room = omega (arith, c.move_marked.ensures.room, kept.nodes_room);
    }
