use Rattle.std.proofs.Common.{◌≡◌, ◌∙◌, ap, is_lt, rules, subst, sym}
use Rattle.std.specs.List.{AllByRecursion}
use Rattle.std.proofs.lemmas.Fn.{always_returns_same}
use Rattle.std.proofs.lemmas.List.Sorted.{ranks_by}
use Rattle.desk_rollup.specs.Numbers.{mark_number}
use Rattle.desk_history.proofs.SoundClauses.{bill_of}
use Rattle.desk_scratch.specs.LookUps.{finding_of}
use Rattle.desk_bridge.specs.Order.{finding_cmp}
use Rattle.desk_engine.specs.Answers.{AreTold, IsNumber}
use Rattle.desk_engine.proofs.Answered.{numbered}
use Rattle.desk_engine.proofs.Sorting.{finding_total, marks_are_numbers, sorted_findings}
use Rattle.desk_engine.proofs.told.stored_findings.Goals as goal

pub told_of-requires-clause-marks : goal.told_of-requires-clause-marks
told_of-requires-clause-marks g c =
    let t = c.args.tables.now.lists in
    let hops = c.as_slice.ensures ∙ ap (λ v. v.hops) c.values.view_is in
    subst (AllByRecursion (λ hop. IsNumber t c.args.stored.now.bill.labels c.args.stored.now.names (mark_number hop.mark))) (sym hops)
    (marks_are_numbers t c.requires.sound.consistent.ordered (bill_of t c.requires.sound.consistent) c.args.stored.now.bill.labels c.args.stored.now.names (numbered t c.requires.sound c.args.stored.now c.node_count.ensures.bill c.requires.stored) c.args.part.now c.peek_values-values.result.now.hops c.peek_values-values.ensures.values.found)

pub returns-clause-findings : goal.returns-clause-findings
returns-clause-findings g c =
    let t = c.args.tables.now.lists in
    let hops = c.as_slice.ensures ∙ ap (λ v. v.hops) c.values.view_is in
    sorted_findings t c.requires.sound.consistent.ordered (bill_of t c.requires.sound.consistent) c.args.stored.now.bill.labels c.args.stored.now.names (numbered t c.requires.sound c.args.stored.now c.node_count.ensures.bill c.requires.stored) c.args.part.now c.peek_values-values.result.now.hops c.peek_values-values.ensures.values.found
    c.peek_values-values.ensures.values.rise c.in_ok-list.list.items c.sort_unstable_by.new.self.items
    (subst (λ hops. AreTold t c.args.stored.now.bill.labels c.args.stored.now.names hops c.in_ok-list.list.items) hops c.in_ok-list.ensures)
    c.sort_unstable_by.ensures.permutation
    (c.sort_unstable_by.ensures.sorted (λ x y. is_lt (finding_cmp (finding_of x) (finding_of y))) (ranks_by finding_total finding_of)
    (always_returns_same _ (λ a r. is_lt r ≡ is_lt (finding_cmp (finding_of a.0.now) (finding_of a.1.0.now))) _ (λ a r h called. search rules)))
    c.requires.sound.consistent.codes_apart c.requires.part
