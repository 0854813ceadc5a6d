use Rattle.std.proofs.Common.{◌≡◌, ◌+◌, ◌<◌, ◌||◌, true, false, Ok, length, sym, ap, ◌∙◌, arith}
use Rattle.desk_graph.specs.Edits.{is_taken}
use Rattle.desk_graph.proofs.AfterPlans.{answer_full, answer_ok, answer_taken, count_after, taken_in}
use Rattle.desk_graph.proofs.bill.Bill.plan_node.Goals as goal

pub returns-then-is_taken-clause-answer : goal.returns-then-is_taken-clause-answer
returns-then-is_taken-clause-answer c = λ _.
    let own = c.is_taken.ensures ∙ ap (λ l. is_taken l c.args.label.now) (c.as_slice.ensures.value ∙ ap (λ g. g.labels) c.self.view_is) in
    let other = c.is_taken-2.ensures ∙ ap (λ l. is_taken l c.args.label.now) (c.as_slice-2.ensures.value ∙ ap (λ e. e.labels) c.plan.view_is) in
    let both : (is_taken c.args.self.now.labels c.args.label.now || is_taken c.args.plan.now.labels c.args.label.now) ≡ true = cc (own, other, c.if-is_taken.true) in
    sym (answer_taken c.args.plan.now c.args.self.now c.args.label.now both)

pub returns-then-id-ge-NODE_LIMIT-clause-answer : goal.returns-then-id-ge-NODE_LIMIT-clause-answer
returns-then-id-ge-NODE_LIMIT-clause-answer c = λ _.
    let own = c.is_taken.ensures ∙ ap (λ l. is_taken l c.args.label.now) (c.as_slice.ensures.value ∙ ap (λ g. g.labels) c.self.view_is) in
    let other = c.is_taken-2.ensures ∙ ap (λ l. is_taken l c.args.label.now) (c.as_slice-2.ensures.value ∙ ap (λ e. e.labels) c.plan.view_is) in
    let both : (is_taken c.args.self.now.labels c.args.label.now || is_taken c.args.plan.now.labels c.args.label.now) ≡ false = cc (own, other, c.if-is_taken.false) in
    sym (answer_full c.args.plan.now c.args.self.now c.args.label.now both (omega (arith, c.if-id-ge-NODE_LIMIT.true, c.len.ensures, c.len-2.ensures, ap (λ g. length g.labels) c.self.view_is, ap (λ e. length e.labels) c.plan.view_is)))

pub plan_new_node-requires-clause-free : goal.plan_new_node-requires-clause-free
plan_new_node-requires-clause-free c =
    let own = c.is_taken.ensures ∙ ap (λ l. is_taken l c.args.label.now) (c.as_slice.ensures.value ∙ ap (λ g. g.labels) c.self.view_is) in
    let other = c.is_taken-2.ensures ∙ ap (λ l. is_taken l c.args.label.now) (c.as_slice-2.ensures.value ∙ ap (λ e. e.labels) c.plan.view_is) in
    let both : (is_taken c.args.self.now.labels c.args.label.now || is_taken c.args.plan.now.labels c.args.label.now) ≡ false = cc (own, other, c.if-is_taken.false) in
    taken_in c.args.plan.now c.args.self.now c.args.label.now ∙ both

pub plan_new_node-requires-clause-room : goal.plan_new_node-requires-clause-room
plan_new_node-requires-clause-room c =
    let fits : length c.args.self.now.labels + length c.args.plan.now.labels < 24576 = omega (arith, c.if-id-ge-NODE_LIMIT.false, c.len.ensures, c.len-2.ensures, ap (λ g. length g.labels) c.self.view_is, ap (λ e. length e.labels) c.plan.view_is) in
    omega (arith, fits, count_after c.args.plan.now c.args.self.now c.args.label.now)

pub returns-in-Ok-clause-answer : goal.returns-in-Ok-clause-answer
returns-in-Ok-clause-answer c = λ _.
    let own = c.is_taken.ensures ∙ ap (λ l. is_taken l c.args.label.now) (c.as_slice.ensures.value ∙ ap (λ g. g.labels) c.self.view_is) in
    let other = c.is_taken-2.ensures ∙ ap (λ l. is_taken l c.args.label.now) (c.as_slice-2.ensures.value ∙ ap (λ e. e.labels) c.plan.view_is) in
    let both : (is_taken c.args.self.now.labels c.args.label.now || is_taken c.args.plan.now.labels c.args.label.now) ≡ false = cc (own, other, c.if-is_taken.false) in
    let fits : length c.args.self.now.labels + length c.args.plan.now.labels < 24576 = omega (arith, c.if-id-ge-NODE_LIMIT.false, c.len.ensures, c.len-2.ensures, ap (λ g. length g.labels) c.self.view_is, ap (λ e. length e.labels) c.plan.view_is) in
    ap (λ n. Ok n) (c.in-Ok.ensures.answer ∙ count_after c.args.plan.now c.args.self.now c.args.label.now) ∙ sym (answer_ok c.args.plan.now c.args.self.now c.args.label.now both fits)
