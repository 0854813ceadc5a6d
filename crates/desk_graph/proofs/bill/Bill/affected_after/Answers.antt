use Rattle.std.proofs.Common.{◌≡◌, length, sym, ap, ◌∙◌, subst, arith}
use Rattle.std.specs.Prelude.{option_copied}
use Rattle.std.proofs.lemmas.Result.{IfOk-weaker}
use Rattle.desk_graph.specs.Order.{AreSweptUp, HasOnce, IsSwept}
use Rattle.desk_graph.specs.Planned.{HasMadeWayFor, IsBillPlan, changed_users, graph_after, with_empty, with_next}
use Rattle.desk_graph.specs.Reaches.{AreAffected, AreChildrenFirst}
use Rattle.desk_graph.proofs.AfterPlans.{first_after, nodes_after, once_after, sizes_after, swept_after}
use Rattle.desk_graph.proofs.Kept.{bill_swept}
use Rattle.desk_graph.proofs.bill.Bill.affected_after.Goals as goal

pub swept_nodes-requires-clause-order : goal.swept_nodes-requires-clause-order
swept_nodes-requires-clause-order c =
    let bill = c.self.inside in
    let kept = c.self.invariant in
    let edit = c.args.plan.now in
    let line = c.as_ref-line.ensures.value ∙ ap (λ p. p.line) c.plan.view_is in
    let more = c.len-more.ensures ∙ c.plan.inside.labels.ok.0 ∙ ap (λ p. length p.labels) c.plan.view_is in
    let good : IsBillPlan (record { labels = bill.labels.items; lines = bill.lines.items }) edit = subst (λ g. IsBillPlan g edit) (sym c.self.view_is) c.requires.plan in
    let are : c.as_planned-users.result ≡ with_empty (length edit.labels) (changed_users edit.line bill.users.items) = c.as_planned-users.ensures ∙ ap (λ n. with_empty n (changed_users (option_copied c.as_ref-line.result) c.as_slice.result.now)) more ∙ ap (λ l. with_empty (length edit.labels) (changed_users l c.as_slice.result.now)) line ∙ ap (λ u. with_empty (length edit.labels) (changed_users edit.line u)) c.as_slice.ensures.value in
    let way : HasMadeWayFor bill.users.items edit.line bill.order bill.order = subst (λ l. HasMadeWayFor bill.users.items l bill.order bill.order) line (c.leaves_order.ensures bill.users.items c.if-leaves_order.true) in
    let none : 0 ≡ length edit.labels = omega (arith, c.if-more-eq0.true, more) in
    let next : bill.order ≡ with_next (length edit.labels) bill.order = ap (λ n. with_next n bill.order) none in
    subst (IsSwept c.as_planned-users.result) (sym c.as_slice-then-leaves_order.ensures) (swept_after bill.labels.items bill.lines.items bill.users.items bill.order kept.ends kept.order edit good bill.order bill.order way next c.as_planned-users.result are)

pub returns-then-leaves_order-clause-nodes : goal.returns-then-leaves_order-clause-nodes
returns-then-leaves_order-clause-nodes c =
    let bill = c.self.inside in
    let kept = c.self.invariant in
    let edit = c.args.plan.now in
    let line = c.as_ref-line.ensures.value ∙ ap (λ p. p.line) c.plan.view_is in
    let more = c.len-more.ensures ∙ c.plan.inside.labels.ok.0 ∙ ap (λ p. length p.labels) c.plan.view_is in
    let good : IsBillPlan (record { labels = bill.labels.items; lines = bill.lines.items }) edit = subst (λ g. IsBillPlan g edit) (sym c.self.view_is) c.requires.plan in
    let are : c.as_planned-users.result ≡ with_empty (length edit.labels) (changed_users edit.line bill.users.items) = c.as_planned-users.ensures ∙ ap (λ n. with_empty n (changed_users (option_copied c.as_ref-line.result) c.as_slice.result.now)) more ∙ ap (λ l. with_empty (length edit.labels) (changed_users l c.as_slice.result.now)) line ∙ ap (λ u. with_empty (length edit.labels) (changed_users edit.line u)) c.as_slice.ensures.value in
    let way : HasMadeWayFor bill.users.items edit.line bill.order bill.order = subst (λ l. HasMadeWayFor bill.users.items l bill.order bill.order) line (c.leaves_order.ensures bill.users.items c.if-leaves_order.true) in
    let none : 0 ≡ length edit.labels = omega (arith, c.if-more-eq0.true, more) in
    let next : bill.order ≡ with_next (length edit.labels) bill.order = ap (λ n. with_next n bill.order) none in
    IfOk-weaker c.swept_nodes.result _ _ (λ nodes swept.
    subst (λ g. AreAffected (graph_after edit g).lines c.args.seeds.now nodes.items) c.self.view_is
    (nodes_after bill.labels.items bill.lines.items bill.users.items bill.order kept.ends kept.order edit good bill.order bill.order way next c.as_planned-users.result are c.args.seeds.now nodes.items
    (subst (λ o. AreSweptUp c.as_planned-users.result o c.args.seeds.now nodes.items) c.as_slice-then-leaves_order.ensures swept))) c.swept_nodes.ensures

pub returns-then-leaves_order-clause-children_first : goal.returns-then-leaves_order-clause-children_first
returns-then-leaves_order-clause-children_first c =
    let bill = c.self.inside in
    let kept = c.self.invariant in
    let edit = c.args.plan.now in
    let line = c.as_ref-line.ensures.value ∙ ap (λ p. p.line) c.plan.view_is in
    let more = c.len-more.ensures ∙ c.plan.inside.labels.ok.0 ∙ ap (λ p. length p.labels) c.plan.view_is in
    let good : IsBillPlan (record { labels = bill.labels.items; lines = bill.lines.items }) edit = subst (λ g. IsBillPlan g edit) (sym c.self.view_is) c.requires.plan in
    let are : c.as_planned-users.result ≡ with_empty (length edit.labels) (changed_users edit.line bill.users.items) = c.as_planned-users.ensures ∙ ap (λ n. with_empty n (changed_users (option_copied c.as_ref-line.result) c.as_slice.result.now)) more ∙ ap (λ l. with_empty (length edit.labels) (changed_users l c.as_slice.result.now)) line ∙ ap (λ u. with_empty (length edit.labels) (changed_users edit.line u)) c.as_slice.ensures.value in
    let way : HasMadeWayFor bill.users.items edit.line bill.order bill.order = subst (λ l. HasMadeWayFor bill.users.items l bill.order bill.order) line (c.leaves_order.ensures bill.users.items c.if-leaves_order.true) in
    let none : 0 ≡ length edit.labels = omega (arith, c.if-more-eq0.true, more) in
    let next : bill.order ≡ with_next (length edit.labels) bill.order = ap (λ n. with_next n bill.order) none in
    IfOk-weaker c.swept_nodes.result _ _ (λ nodes swept.
    subst (λ g. AreChildrenFirst (graph_after edit g).lines nodes.items) c.self.view_is
    (first_after bill.labels.items bill.lines.items bill.users.items bill.order kept.ends kept.order edit good bill.order bill.order way next c.as_planned-users.result are c.args.seeds.now nodes.items
    (subst (λ o. AreSweptUp c.as_planned-users.result o c.args.seeds.now nodes.items) c.as_slice-then-leaves_order.ensures swept))) c.swept_nodes.ensures

pub order_after-requires-clause-swept : goal.order_after-requires-clause-swept
order_after-requires-clause-swept c =
    let bill = c.self.inside in
    let kept = c.self.invariant in
    rw c.as_slice-2.ensures.value (bill_swept bill.labels.items bill.lines.items bill.users.items bill.order kept.ends kept.order)

pub swept_nodes-requires-2-clause-order : goal.swept_nodes-requires-2-clause-order
swept_nodes-requires-2-clause-order c =
    let bill = c.self.inside in
    let kept = c.self.invariant in
    let edit = c.args.plan.now in
    let line = c.as_ref-line.ensures.value ∙ ap (λ p. p.line) c.plan.view_is in
    let more = c.len-more.ensures ∙ c.plan.inside.labels.ok.0 ∙ ap (λ p. length p.labels) c.plan.view_is in
    let good : IsBillPlan (record { labels = bill.labels.items; lines = bill.lines.items }) edit = subst (λ g. IsBillPlan g edit) (sym c.self.view_is) c.requires.plan in
    let are : c.as_planned-users.result ≡ with_empty (length edit.labels) (changed_users edit.line bill.users.items) = c.as_planned-users.ensures ∙ ap (λ n. with_empty n (changed_users (option_copied c.as_ref-line.result) c.as_slice.result.now)) more ∙ ap (λ l. with_empty (length edit.labels) (changed_users l c.as_slice.result.now)) line ∙ ap (λ u. with_empty (length edit.labels) (changed_users edit.line u)) c.as_slice.ensures.value in
    let made = c.in_ok-order.order.items in
    let way : HasMadeWayFor bill.users.items edit.line bill.order made = subst (λ u. HasMadeWayFor u edit.line bill.order made) c.as_slice-2.ensures.value (subst (λ l. HasMadeWayFor c.as_slice-2.result.now l bill.order made) line c.in_ok-order.ensures.way) in
    let next : c.push_next.new.order.items ≡ with_next (length edit.labels) made = c.push_next.ensures.nodes ∙ ap (λ n. with_next n made) more in
    subst (IsSwept c.as_planned-users.result) (sym c.as_slice-3.ensures.value) (swept_after bill.labels.items bill.lines.items bill.users.items bill.order kept.ends kept.order edit good made c.push_next.new.order.items way next c.as_planned-users.result are)

pub swept_nodes-requires-2-clause-once : goal.swept_nodes-requires-2-clause-once
swept_nodes-requires-2-clause-once c =
    let bill = c.self.inside in
    let kept = c.self.invariant in
    let edit = c.args.plan.now in
    let line = c.as_ref-line.ensures.value ∙ ap (λ p. p.line) c.plan.view_is in
    let more = c.len-more.ensures ∙ c.plan.inside.labels.ok.0 ∙ ap (λ p. length p.labels) c.plan.view_is in
    let good : IsBillPlan (record { labels = bill.labels.items; lines = bill.lines.items }) edit = subst (λ g. IsBillPlan g edit) (sym c.self.view_is) c.requires.plan in
    let are : c.as_planned-users.result ≡ with_empty (length edit.labels) (changed_users edit.line bill.users.items) = c.as_planned-users.ensures ∙ ap (λ n. with_empty n (changed_users (option_copied c.as_ref-line.result) c.as_slice.result.now)) more ∙ ap (λ l. with_empty (length edit.labels) (changed_users l c.as_slice.result.now)) line ∙ ap (λ u. with_empty (length edit.labels) (changed_users edit.line u)) c.as_slice.ensures.value in
    let made = c.in_ok-order.order.items in
    let way : HasMadeWayFor bill.users.items edit.line bill.order made = subst (λ u. HasMadeWayFor u edit.line bill.order made) c.as_slice-2.ensures.value (subst (λ l. HasMadeWayFor c.as_slice-2.result.now l bill.order made) line c.in_ok-order.ensures.way) in
    let next : c.push_next.new.order.items ≡ with_next (length edit.labels) made = c.push_next.ensures.nodes ∙ ap (λ n. with_next n made) more in
    subst HasOnce (sym c.as_slice-3.ensures.value) (once_after bill.labels.items bill.lines.items bill.users.items bill.order kept.ends kept.order edit good made c.push_next.new.order.items way next c.as_planned-users.result are)

pub swept_nodes-requires-2-clause-seeds : goal.swept_nodes-requires-2-clause-seeds
swept_nodes-requires-2-clause-seeds c =
    let bill = c.self.inside in
    let kept = c.self.invariant in
    let edit = c.args.plan.now in
    let line = c.as_ref-line.ensures.value ∙ ap (λ p. p.line) c.plan.view_is in
    let more = c.len-more.ensures ∙ c.plan.inside.labels.ok.0 ∙ ap (λ p. length p.labels) c.plan.view_is in
    let good : IsBillPlan (record { labels = bill.labels.items; lines = bill.lines.items }) edit = subst (λ g. IsBillPlan g edit) (sym c.self.view_is) c.requires.plan in
    let are : c.as_planned-users.result ≡ with_empty (length edit.labels) (changed_users edit.line bill.users.items) = c.as_planned-users.ensures ∙ ap (λ n. with_empty n (changed_users (option_copied c.as_ref-line.result) c.as_slice.result.now)) more ∙ ap (λ l. with_empty (length edit.labels) (changed_users l c.as_slice.result.now)) line ∙ ap (λ u. with_empty (length edit.labels) (changed_users edit.line u)) c.as_slice.ensures.value in
    let made = c.in_ok-order.order.items in
    let way : HasMadeWayFor bill.users.items edit.line bill.order made = subst (λ u. HasMadeWayFor u edit.line bill.order made) c.as_slice-2.ensures.value (subst (λ l. HasMadeWayFor c.as_slice-2.result.now l bill.order made) line c.in_ok-order.ensures.way) in
    let next : c.push_next.new.order.items ≡ with_next (length edit.labels) made = c.push_next.ensures.nodes ∙ ap (λ n. with_next n made) more in
    λ node e. omega (arith, c.requires.seeds node e, (sizes_after bill.labels.items bill.lines.items bill.users.items bill.order kept.ends kept.order edit good made c.push_next.new.order.items way next c.as_planned-users.result are).1, ap (λ g. length (graph_after edit g).labels) c.self.view_is)

pub returns-clause-nodes : goal.returns-clause-nodes
returns-clause-nodes c =
    let bill = c.self.inside in
    let kept = c.self.invariant in
    let edit = c.args.plan.now in
    let line = c.as_ref-line.ensures.value ∙ ap (λ p. p.line) c.plan.view_is in
    let more = c.len-more.ensures ∙ c.plan.inside.labels.ok.0 ∙ ap (λ p. length p.labels) c.plan.view_is in
    let good : IsBillPlan (record { labels = bill.labels.items; lines = bill.lines.items }) edit = subst (λ g. IsBillPlan g edit) (sym c.self.view_is) c.requires.plan in
    let are : c.as_planned-users.result ≡ with_empty (length edit.labels) (changed_users edit.line bill.users.items) = c.as_planned-users.ensures ∙ ap (λ n. with_empty n (changed_users (option_copied c.as_ref-line.result) c.as_slice.result.now)) more ∙ ap (λ l. with_empty (length edit.labels) (changed_users l c.as_slice.result.now)) line ∙ ap (λ u. with_empty (length edit.labels) (changed_users edit.line u)) c.as_slice.ensures.value in
    let made = c.in_ok-order.order.items in
    let way : HasMadeWayFor bill.users.items edit.line bill.order made = subst (λ u. HasMadeWayFor u edit.line bill.order made) c.as_slice-2.ensures.value (subst (λ l. HasMadeWayFor c.as_slice-2.result.now l bill.order made) line c.in_ok-order.ensures.way) in
    let next : c.push_next.new.order.items ≡ with_next (length edit.labels) made = c.push_next.ensures.nodes ∙ ap (λ n. with_next n made) more in
    IfOk-weaker c.swept_nodes-2.result _ _ (λ nodes swept.
    subst (λ g. AreAffected (graph_after edit g).lines c.args.seeds.now nodes.items) c.self.view_is
    (nodes_after bill.labels.items bill.lines.items bill.users.items bill.order kept.ends kept.order edit good made c.push_next.new.order.items way next c.as_planned-users.result are c.args.seeds.now nodes.items
    (subst (λ o. AreSweptUp c.as_planned-users.result o c.args.seeds.now nodes.items) c.as_slice-3.ensures.value swept))) c.swept_nodes-2.ensures

pub returns-clause-children_first : goal.returns-clause-children_first
returns-clause-children_first c =
    let bill = c.self.inside in
    let kept = c.self.invariant in
    let edit = c.args.plan.now in
    let line = c.as_ref-line.ensures.value ∙ ap (λ p. p.line) c.plan.view_is in
    let more = c.len-more.ensures ∙ c.plan.inside.labels.ok.0 ∙ ap (λ p. length p.labels) c.plan.view_is in
    let good : IsBillPlan (record { labels = bill.labels.items; lines = bill.lines.items }) edit = subst (λ g. IsBillPlan g edit) (sym c.self.view_is) c.requires.plan in
    let are : c.as_planned-users.result ≡ with_empty (length edit.labels) (changed_users edit.line bill.users.items) = c.as_planned-users.ensures ∙ ap (λ n. with_empty n (changed_users (option_copied c.as_ref-line.result) c.as_slice.result.now)) more ∙ ap (λ l. with_empty (length edit.labels) (changed_users l c.as_slice.result.now)) line ∙ ap (λ u. with_empty (length edit.labels) (changed_users edit.line u)) c.as_slice.ensures.value in
    let made = c.in_ok-order.order.items in
    let way : HasMadeWayFor bill.users.items edit.line bill.order made = subst (λ u. HasMadeWayFor u edit.line bill.order made) c.as_slice-2.ensures.value (subst (λ l. HasMadeWayFor c.as_slice-2.result.now l bill.order made) line c.in_ok-order.ensures.way) in
    let next : c.push_next.new.order.items ≡ with_next (length edit.labels) made = c.push_next.ensures.nodes ∙ ap (λ n. with_next n made) more in
    IfOk-weaker c.swept_nodes-2.result _ _ (λ nodes swept.
    subst (λ g. AreChildrenFirst (graph_after edit g).lines nodes.items) c.self.view_is
    (first_after bill.labels.items bill.lines.items bill.users.items bill.order kept.ends kept.order edit good made c.push_next.new.order.items way next c.as_planned-users.result are c.args.seeds.now nodes.items
    (subst (λ o. AreSweptUp c.as_planned-users.result o c.args.seeds.now nodes.items) c.as_slice-3.ensures.value swept))) c.swept_nodes-2.ensures
