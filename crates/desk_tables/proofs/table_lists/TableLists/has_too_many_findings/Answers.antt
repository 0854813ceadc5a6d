use Rattle.std.proofs.Common.{◌∙◌, ◌<◌, ap, sym, subst, length, map, sum_by}
use Rattle.std.specs.Prelude.{nat_lt}
use Rattle.std.specs.List.{All, range_with_len}
use Rattle.std.proofs.lemmas.List.{length-map}
use Rattle.desk_model.specs.declared.limits.TheConstants.{FINDING_LIMIT}
use Rattle.desk_findings.specs.Totals.{has_too_many_findings}
use Rattle.desk_history.proofs.SoundClauses.{bill_of}
use Rattle.desk_tables.specs.FindingCounts.{added_at, holders_among}
use Rattle.desk_tables.proofs.FindingSums.{added_up, holders_inside, same_len}
use Rattle.desk_totals.specs.Marks.{reach_count}
use Rattle.desk_totals.specs.Places.{node_at}
use Rattle.desk_tables.proofs.table_lists.TableLists.has_too_many_findings.Goals as goal

pub reach_counts-requires : goal.reach_counts-requires
reach_counts-requires c =
    let t = c.args.self.now in
    let own = c.as_slice.result.now in
    subst (λ count. All (λ place. place < count) c.as_slice-2.result.now)
    (same_len t c.requires.consistent.ordered (bill_of t c.requires.consistent) own c.args.bill.now.nodes (c.as_slice.ensures.value ∙ c.in_ok-own.ensures) c.requires.bill.nodes)
    (subst (All (λ place. place < length own)) (sym (c.as_slice-2.ensures.value ∙ c.in_ok-holders.ensures)) (holders_inside own))

pub are_too_many-requires-clause-places : goal.are_too_many-requires-clause-places
are_too_many-requires-clause-places c =
    let own = c.as_slice-3.result.now in
    subst (All (λ place. place < length own))
    (sym (c.as_slice-4.ensures.value ∙ c.in_ok-holders.ensures ∙ ap holders_among (c.as_slice.ensures.value ∙ sym c.as_slice-3.ensures.value)))
    (holders_inside own)

pub are_too_many-requires-clause-reach : goal.are_too_many-requires-clause-reach
are_too_many-requires-clause-reach c =
    let t = c.args.self.now in
    let nodes = c.args.bill.now.nodes in
    ap length (c.as_slice-5.ensures.value ∙ c.in_ok-reach.ensures t c.requires.bill (bill_of t c.requires.consistent))
    ∙ length-map c.as_slice-2.result.now (λ place. reach_count t (node_at nodes place))
    ∙ ap length (c.as_slice-2.ensures.value ∙ sym c.as_slice-4.ensures.value)

pub returns : goal.returns
unfolding has_too_many_findings
returns c =
    let t = c.args.self.now in
    let nodes = c.args.bill.now.nodes in
    let own = c.as_slice-3.result.now in
    let holders = c.as_slice-4.result.now in
    let reach = c.as_slice-5.result.now in
    let sum =
    added_up t c.requires.consistent.ordered (bill_of t c.requires.consistent) own nodes (c.as_slice-3.ensures.value ∙ c.in_ok-own.ensures) c.requires.bill.nodes holders reach
    (c.as_slice-4.ensures.value ∙ c.in_ok-holders.ensures ∙ ap holders_among (c.as_slice.ensures.value ∙ sym c.as_slice-3.ensures.value))
    (c.as_slice-5.ensures.value ∙ c.in_ok-reach.ensures t c.requires.bill (bill_of t c.requires.consistent)
    ∙ ap (map (λ place. reach_count t (node_at nodes place))) (c.as_slice-2.ensures.value ∙ sym c.as_slice-4.ensures.value)) in
    c.are_too_many.ensures
    ∙ ap (λ rows. nat_lt FINDING_LIMIT (sum_by (added_at own holders reach (length rows)) (range_with_len 0 (length holders)))) c.materials.ensures
    ∙ ap (nat_lt FINDING_LIMIT) sum
