use Rattle.std.proofs.Common.{◌≡◌, ◌<◌, ◌≤◌, ◌+◌, ◌-◌, ◌++◌, [], length, sym, ap, ◌∙◌, arith}
use Rattle.std.proofs.lemmas.List.{get_or-append_right, get_or_append_left, get_or_default}
use Rattle.desk_graph.specs.Graph.{label_of}
use Rattle.desk_graph.specs.Planned.{graph_after}
use Rattle.desk_graph.proofs.AfterPlans.{count_after, labels_are}
use Rattle.desk_graph.proofs.ChangedLines.{with_labels-is}
use Rattle.desk_graph.proofs.bill.Bill.label_after.Goals as goal

pub returns-then-id-kept : goal.returns-then-id-kept
returns-then-id-kept c =
    let g = c.args.self.now in
    let edit = c.args.plan.now in
    let kept = c.self.inside.labels.items in
    let same : kept ≡ g.labels = ap (λ h. h.labels) c.self.view_is in
    let all : (graph_after edit g).labels ≡ kept ++ edit.labels = labels_are edit g [] ∙ with_labels-is edit.labels g.labels ∙ ap (λ l. l ++ edit.labels) (sym same) in
    let below : c.args.id < length kept = omega (arith, c.if-id-kept.true, c.len-kept.ensures, c.self.inside.labels.ok.0) in
    c.as_bytes.ensures.value ∙ c.index.ensures ∙ get_or_default kept c.args.id c.index.result.now [] below
    ∙ sym (ap (λ l. label_of l c.args.id) all ∙ get_or_append_left kept edit.labels [] c.args.id below)

pub index-requires-2 : goal.index-requires-2
index-requires-2 c =
    let g = c.args.self.now in
    let edit = c.args.plan.now in
    omega (arith, count_after edit g [], c.requires.there, c.len-kept.ensures, c.self.inside.labels.ok.0, c.plan.inside.labels.ok.0, ap (λ h. length h.labels) c.self.view_is, ap (λ p. length p.labels) c.plan.view_is, c.if-id-kept.false)

pub returns : goal.returns
returns c =
    let g = c.args.self.now in
    let edit = c.args.plan.now in
    let kept = c.self.inside.labels.items in
    let new = c.plan.inside.labels.items in
    let count = c.len-kept.result in
    let same : kept ≡ g.labels = ap (λ h. h.labels) c.self.view_is in
    let planned_new : new ≡ edit.labels = ap (λ p. p.labels) c.plan.view_is in
    let all : (graph_after edit g).labels ≡ kept ++ new = labels_are edit g [] ∙ with_labels-is edit.labels g.labels ∙ ap (λ l. l ++ edit.labels) (sym same) ∙ ap (λ l. kept ++ l) (sym planned_new) in
    let size : length kept ≡ count = omega (arith, c.len-kept.ensures, c.self.inside.labels.ok.0) in
    let past : count ≤ c.args.id = c.if-id-kept.false in
    let there : c.args.id - count < length new =
    omega (arith, count_after edit g [], c.requires.there, size, past, ap (λ h. length h) same, ap (λ h. length h) planned_new) in
    c.as_bytes-2.ensures.value ∙ c.index-2.ensures ∙ get_or_default new (c.args.id - count) c.index-2.result.now [] there
    ∙ sym (ap (λ l. label_of l c.args.id) all ∙ get_or-append_right kept new count c.args.id [] size past)
