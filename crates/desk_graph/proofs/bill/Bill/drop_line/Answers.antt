use Rattle.std.proofs.Common.{◌∙◌, ◌<◌, ap, arith, length, subst, sym}
use Rattle.std.proofs.lemmas.List.{length-set}
use Rattle.desk_graph.specs.Edits.{without_line_of_node}
use Rattle.desk_graph.specs.Graph.{lines_of_node}
use Rattle.desk_graph.proofs.Kept.{count-set, ends-without, fewer, length-without, read_list}
use Rattle.desk_graph.proofs.Ordered.{in_order-without}
use Rattle.desk_graph.proofs.bill.Bill.drop_line.Goals as goal

pub invariant_of-self : goal.invariant_of-self
invariant_of-self c =
    let bill = c.self.inside in
    let kept = c.self.invariant in
    let low = subst (λ g. c.args.parent < length g.labels) (sym c.self.view_is) c.requires.parent in
    let there = subst (λ g. c.args.child < length g.labels) (sym c.self.view_is) c.requires.child in
    let read = read_list bill.lines.items c.args.parent c.index_mut-lines.result.now (omega (arith, low, kept.ends.lines_size)) c.index_mut-lines.ensures.value in
    let read_users = read_list bill.users.items c.args.child c.index_mut.result.now (omega (arith, there, kept.ends.users_size)) c.index_mut.ensures.value in
    let lines = c.remove.ensures ∙ ap (without_line_of_node c.args.child) read in
    let users = c.remove-2.ensures ∙ ap (without_line_of_node c.args.parent) read_users in
    let had = ap (λ l. length l) (c.as_slice-had.ensures ∙ read) in
    let has = ap (λ l. length l) (c.as_slice-has.ensures ∙ lines) in
    let fewer_lines = length-without c.args.child (lines_of_node bill.lines.items c.args.parent) in
    let count = count-set bill.lines.items c.args.parent (without_line_of_node c.args.child (lines_of_node bill.lines.items c.args.parent)) (omega (arith, low, kept.ends.lines_size)) in
    record {
      unique = kept.unique;
      ends = rw (lines, users) (ends-without bill.labels.items bill.lines.items bill.users.items kept.ends c.args.parent c.args.child low there);
      order = rw lines (in_order-without bill.lines.items _ bill.order kept.order (length-set _ _ _) (fewer bill.labels.items bill.lines.items bill.users.items kept.ends c.args.parent c.args.child low there));
      count = rw lines (omega (arith, had, has, count, kept.count));
      lines_fit = omega (arith, had, has, fewer_lines, kept.lines_fit);
      nodes_fit = kept.nodes_fit;
      labels_room = kept.labels_room;
      lines_room = kept.lines_room;
      users_room = kept.users_room;
    }
