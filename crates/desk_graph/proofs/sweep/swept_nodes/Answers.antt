use Rattle.std.proofs.Common.{true, filter, length, ap, ◌∙◌, arith}
use Rattle.std.proofs.lemmas.List.{take_at}
use Rattle.std.proofs.lemmas.Result.{IfOk-weaker}
use Rattle.desk_graph.specs.Order.{has_mark}
use Rattle.desk_graph.proofs.sweep.swept_nodes.Goals as goal

pub returns : goal.returns
returns c =
    let marks = c.mark_from-sweep.new.marks in
    let marked = c.as_slice.ensures.value ∙ take_at marks _ _ (omega (arith, c.mark_from-sweep.auto.marks, c.in_ok-marks.marks.ok.0, ap (λ l. length l) c.as_mut_slice.ensures.value)) in
    IfOk-weaker c.marked_nodes.result _ _ (λ nodes same. (
      marks,
      c.mark_from-sweep.ensures.up,
      same ∙ ap (λ m. filter (has_mark true m) c.args.order.now) marked,
    )) c.marked_nodes.ensures
