use Rattle.std.proofs.Common.{ap, arith, length, subst, sym, ◌∙◌}
use Rattle.desk_graph.specs.Planned.{IsChange, IsChangeOf}
use Rattle.desk_graph.proofs.ChangedLines.{ends-changed, in_order-changed}
use Rattle.desk_graph.proofs.Kept.{bill_swept, count-set, read_list}
use Rattle.desk_graph.proofs.bill.Bill.commit_change.Goals as goal

pub make_way-requires-clause-swept : goal.make_way-requires-clause-swept
make_way-requires-clause-swept c =
    let bill = c.self.inside in
    let kept = c.self.invariant in
    rw c.as_slice.ensures.value (bill_swept bill.labels.items bill.lines.items bill.users.items bill.order kept.ends kept.order)

pub invariant_of-self : goal.invariant_of-self
invariant_of-self c =
    let bill = c.self.inside in
    let kept = c.self.invariant in
    let change = c.in-Some.change in
    let good : IsChange (record { labels = bill.labels.items; lines = bill.lines.items }) change = subst (λ g. IsChange g change) (sym c.self.view_is) (subst (IsChangeOf c.args.self.now) c.in-Some.is c.requires) in
    let way = rw c.as_slice.ensures.value at c.make_way.ensures in
    let read = read_list bill.lines.items change.parent c.index.result.now (omega (arith, good.parent_there, kept.ends.lines_size)) c.index.ensures in
    let had = ap (λ l. length l) (c.as_slice-in-Some-2.ensures ∙ read) in
    let has = ap (λ l. length l) c.as_slice-in-Some.ensures in
    let total = count-set bill.lines.items change.parent change.lines (omega (arith, good.parent_there, kept.ends.lines_size)) in
    record {
      unique = kept.unique;
      ends = ends-changed bill.labels.items bill.lines.items bill.users.items kept.ends change good;
      order = in_order-changed bill.labels.items bill.lines.items bill.users.items kept.ends change good bill.order c.make_way.new.order kept.order way;
      count = omega (arith, had, has, total, kept.count);
      lines_fit = omega (arith, had, has, total, kept.count, good.fits);
      nodes_fit = kept.nodes_fit;
      labels_room = kept.labels_room;
      lines_room = kept.lines_room;
      users_room = kept.users_room;
    }
