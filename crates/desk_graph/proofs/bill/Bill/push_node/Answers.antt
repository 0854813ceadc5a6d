use Rattle.std.proofs.Common.{◌≡◌, ◌∙◌, ℕ, true, false, ◌<◌, length, subst, sym, arith}
use Rattle.std.proofs.lemmas.List.{length_push}
use Rattle.desk_graph.specs.Edits.{is_taken}
use Rattle.desk_graph.specs.Graph.{is_line_between}
use Rattle.desk_graph.proofs.Kept.{child_there, count-more, ends-more, unique-more}
use Rattle.desk_graph.proofs.Ordered.{in_order-more}
use Rattle.desk_graph.proofs.bill.Bill.push_node.Goals as goal

pub invariant_of-self : goal.invariant_of-self
invariant_of-self c =
    let bill = c.self.inside in
    let kept = c.self.invariant in
    let children : (parent child : ℕ) → is_line_between bill.lines.items parent child ≡ true → child < length bill.lines.items = λ parent child e. omega (arith, child_there bill.labels.items bill.lines.items bill.users.items kept.ends parent child e, kept.ends.lines_size) in
    let free = subst (λ g. is_taken g.labels c.args.label ≡ false) (sym c.self.view_is) c.requires.free in
    let fits = subst (λ g. length g.labels < 24576) (sym c.self.view_is) c.requires.fits in
    record {
      unique = rw c.push_reserved.ensures.items (unique-more bill.labels.items c.args.label kept.unique free);
      ends = rw (c.push_reserved.ensures.items, c.push_reserved-2.ensures.items, c.push_reserved-3.ensures.items, c.new.ensures, c.new-2.ensures) (ends-more bill.labels.items bill.lines.items bill.users.items kept.ends c.args.label);
      order = rw (c.push_reserved-2.ensures.items, c.new.ensures, c.add.ensures) (in_order-more bill.lines.items bill.order kept.order children);
      count = rw (c.push_reserved-2.ensures.items, c.new.ensures) (kept.count ∙ sym (count-more bill.lines.items));
      lines_fit = kept.lines_fit;
      nodes_fit = rw c.push_reserved.ensures.items (omega (arith, fits, length_push bill.labels.items c.args.label));
      labels_room = omega (arith, c.push_reserved.ensures.capacity, kept.labels_room);
      lines_room = omega (arith, c.push_reserved-2.ensures.capacity, kept.lines_room);
      users_room = omega (arith, c.push_reserved-3.ensures.capacity, kept.users_room);
    }
