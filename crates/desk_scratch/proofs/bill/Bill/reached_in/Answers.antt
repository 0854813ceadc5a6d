use Rattle.std.proofs.Common.{◌≡◌, ◌+◌, ◌-◌, ◌++◌, ◌∷◌, ◌∙◌, [], suc, length, map, sym, ap, subst, arith}
use Rattle.std.specs.List.{range_with_len}
use Rattle.std.proofs.lemmas.Bool.{both_ways}
use Rattle.std.proofs.lemmas.Result.{IfOk-weaker}
use Rattle.desk_model.specs.Lists.{is_part}
use Rattle.desk_findings.specs.Reaches.{is_or_reaches}
use Rattle.desk_history.proofs.SoundClauses.{bill_of}
use Rattle.desk_history.specs.Sound.{Sound}
use Rattle.desk_tables.proofs.FindingSums.{range_push}
use Rattle.desk_totals.specs.Linked.{IsLinkedOf}
use Rattle.desk_totals.specs.Places.{node_at}
use Rattle.desk_totals.proofs.Walks.{no_part}
use Rattle.desk_model.specs.Lists.{nodes_of}
use Rattle.desk_scratch.proofs.Reached.{inside_range}
use Rattle.desk_scratch.proofs.bill.Bill.reached_in.Goals as goal

pub loop-place-preserved : goal.loop-place-preserved
loop-place-preserved c =
    let first = c.args.first in
    let place = c.loop-place.place in
    let low = c.loop-place.invariant.low in
    let later : place + 1 - first ≡ suc (place - first) = omega (arith, low) in
    let here : first + (place - first) ≡ place = omega (arith, low) in
    record {
      places =
          c.push_reserved.ensures.items ∙ ap (λ l. l ++ place ∷ []) c.loop-place.invariant.places
          ∙ sym (ap (range_with_len first) later ∙ range_push first (place - first) ∙ ap (λ k. range_with_len first (place - first) ++ k ∷ []) here);
      low = omega (arith, low);
      count = omega (arith, low, c.push_reserved.ensures.len, c.loop-place.invariant.count);
      room = omega (arith, c.push_reserved.ensures.capacity, c.loop-place.invariant.room);
    }

pub reached_among-requires-clause-places : goal.reached_among-requires-clause-places
reached_among-requires-clause-places c =
    let of = subst (IsLinkedOf c.self.inside.links) c.self.view_is c.self.invariant.1 in
    inside_range c.as_slice.result.now c.args.first c.loop-place.place (length c.self.inside.links.nodes) (c.as_slice.ensures.value ∙ c.loop-place.invariant.places) c.loop-place.invariant.low
    (omega (arith, c.loop-place.auto.place-end c.requires.order, c.requires.within, ap length of.nodes))

pub unreachable-requires : goal.unreachable-requires
unreachable-requires c =
    both_ways (is_part c.args.self.now c.args.part.now)
    (no_part c.args.self.now c.self.inside.links (subst (IsLinkedOf c.self.inside.links) c.self.view_is c.self.invariant.1) c.args.part.now c.in-None.ensures) c.requires.kept

pub returns : goal.returns
returns c =
    let t = c.args.self.now in
    let part = c.args.part.now in
    let nodes = c.self.inside.links.nodes in
    let targets = c.as_slice.result.now in
    let of = subst (IsLinkedOf c.self.inside.links) c.self.view_is c.self.invariant.1 in
    let s = subst Sound c.self.view_is c.self.invariant.0 in
    let whole : c.loop-place.place ≡ c.args.end = omega (arith, c.loop-place.auto.place-end c.requires.order, c.loop-place-test.false) in
    IfOk-weaker c.reached_among.result _ _
    (λ marks e.
    e ∙ ap (λ p. map (λ place. is_or_reaches t p (node_at nodes place)) targets) c.in-Some.ensures.1
    ∙ ap (λ ns. map (λ place. is_or_reaches t part (node_at ns place)) targets) of.nodes
    ∙ ap (map (λ place. is_or_reaches t part (node_at (nodes_of t) place))) (c.as_slice.ensures.value ∙ c.loop-place.invariant.places ∙ ap (λ n. range_with_len c.args.first (n - c.args.first)) whole))
    (c.reached_among.ensures t of (bill_of t s.consistent))
