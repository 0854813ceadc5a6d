use Rattle.std.proofs.Common.{◌<◌, ◌++◌, length, ap, ◌∙◌, sym, subst}
use Rattle.std.specs.List.{All}
use Rattle.std.proofs.lemmas.List.Elements.{All-drop}
use Rattle.desk_findings.specs.Reaches.{is_or_reaches}
use Rattle.desk_totals.proofs.Results.{one_batch}
use Rattle.desk_totals.specs.Places.{node_at}
use Rattle.desk_totals.proofs.links.Links.reached_among.Goals as goal

pub loop-rest-preserved : goal.loop-rest-preserved
loop-rest-preserved c = (
  subst (All (λ place. place < length c.args.self.now.nodes)) (sym c.split_at.ensures.back) (All-drop (λ place. place < length c.args.self.now.nodes) c.min.result c.loop-rest.rest.now c.loop-rest.invariant.0),
  λ t of is_bill.
      one_batch (λ place. is_or_reaches t (node_at c.args.self.now.nodes c.args.from) (node_at c.args.self.now.nodes place)) c.loop-rest.rest.now c.split_at.result.0.now c.split_at.result.1.now c.loop-rest.marks.items c.in_ok-more.more.items c.extend_from_slice.new.self.items _
      c.split_at.ensures.by_index.0 (c.in_ok-extend_from_slice.ensures.items ∙ ap (λ l. c.loop-rest.marks.items ++ l) c.as_slice.ensures.value) (c.in_ok-more.ensures t of is_bill) (c.loop-rest.invariant.1 t of is_bill),
)
