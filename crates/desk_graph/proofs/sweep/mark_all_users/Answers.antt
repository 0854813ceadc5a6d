use Rattle.std.proofs.Common.{◌≡◌, true, ◌+◌, cond, get_or, refl, sym, ◌∙◌, arith}
use Rattle.std.proofs.lemmas.Bool.{false≢true}
use Rattle.std.proofs.lemmas.List.Sums.{count_by-le-length, sum_by-take-drop}
use Rattle.desk_graph.specs.Order.{has_mark, mark_of}
use Rattle.desk_graph.proofs.Marks.{closed_at_end, closed_before, counted_rest, none_behind, none_twice, step-closed, step-early, step-kept, step-least, swept_more}
use Rattle.desk_graph.proofs.sweep.mark_all_users.Goals as goal

pub loop-place-init : goal.loop-place-init
loop-place-init c = (
  refl,
  λ node e. e,
  λ place user h marked used. absurd (false≢true (sym (c.requires.early place h) ∙ marked)),
  λ holds below. below.marked,
  c.requires.early,
  omega (arith, c.requires.seeded, sum_by-take-drop (λ node. cond (mark_of c.args.marks.now node) 1 0) c.args.order.now c.args.from),
  omega arith,
  c.requires.seeded,
)

pub loop-place-preserved : goal.loop-place-preserved
loop-place-preserved c =
    let users = c.args.users.now in
    let order = c.args.order.now in
    let marks = c.loop-place.marks in
    let after = c.mark_users.new.marks in
    let place = c.loop-place.place in
    let is = c.mark_users.ensures.marks in
    let swept = c.requires.order in
    let here : c.count_at-met.result ≡ cond (mark_of marks (get_or order place 0)) 1 0 = c.count_at-met.ensures.count in
    let more = c.mark_users.ensures.more order (none_twice order c.requires.once) in
    let rest = counted_rest (has_mark true after) order (place + 1) (omega arith) in
    let next = swept_more marks after order place c.loop-place.met c.loop-place.count c.mark_users.result c.requires.once (omega arith) c.mark_users.ensures.more c.loop-place.invariant.5 in (
      c.mark_users.ensures.size ∙ c.loop-place.invariant.0,
      λ node e. step-kept users order marks after place swept (omega arith) is node (c.loop-place.invariant.1 node e),
      step-closed users order marks after place swept (omega arith) is c.loop-place.invariant.2,
      λ holds below. step-least users order marks after place swept (omega arith) is holds below.used (c.loop-place.invariant.3 holds below),
      step-early users order marks after place swept (omega arith) is c.args.from (omega arith) c.loop-place.invariant.4,
      omega (arith, next, rest, here, c.count_at-met.ensures.few, c.loop-place.invariant.6),
      omega (arith, c.count_at-met.ensures.few, c.loop-place.invariant.6),
      omega (arith, more, c.loop-place.invariant.7, count_by-le-length (has_mark true after) order),
    )

pub returns-then-met-count-clause-late : goal.returns-then-met-count-clause-late
returns-then-met-count-clause-late c = none_behind c.loop-place.marks c.args.order.now c.loop-place.place c.loop-place.met c.loop-place.count c.loop-place.invariant.5 (omega (arith, c.if-met-count.true))

pub returns-then-met-count-clause-closed : goal.returns-then-met-count-clause-closed
returns-then-met-count-clause-closed c =
    let late = none_behind c.loop-place.marks c.args.order.now c.loop-place.place c.loop-place.met c.loop-place.count c.loop-place.invariant.5 (omega (arith, c.if-met-count.true)) in
    closed_at_end c.args.users.now c.args.order.now c.loop-place.marks (omega (arith, c.requires.size, c.loop-place.invariant.0)) c.requires.order
    (closed_before c.args.users.now c.args.order.now c.loop-place.marks c.loop-place.place late c.loop-place.invariant.2)

pub returns-clause-closed : goal.returns-clause-closed
returns-clause-closed c =
    closed_at_end c.args.users.now c.args.order.now c.loop-place.marks (omega (arith, c.requires.size, c.loop-place.invariant.0)) c.requires.order
    (λ place user h. c.loop-place.invariant.2 place user (omega (arith, c.requires.order.size)))
