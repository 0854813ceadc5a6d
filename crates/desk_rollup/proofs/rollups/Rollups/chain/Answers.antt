use Rattle.std.proofs.Common.{◌≡◌, suc, ◌+◌, ◌-◌, ◌++◌, length, sym, ap, ◌∙◌, arith}
use Rattle.desk_rollup.specs.Chain.{way}
use Rattle.desk_rollup.specs.Numbers.{mark_number}
use Rattle.desk_rollup.proofs.Ways.{way_done, way_ends, way_on}
use Rattle.desk_rollup.proofs.rollups.Rollups.chain.Goals as goal

pub returns-in_default-clause-nodes : goal.returns-in_default-clause-nodes
returns-in_default-clause-nodes g c =
    let rolled = c.args.self.now.rolled in
    let mark = mark_number c.args.mark.now in
    let left : length rolled - c.loop.counter ≡ suc (length rolled - (c.loop.counter + 1)) =
    omega (arith, c.loop-test.true, c.len-end.ensures, c.self.inside.rolled.ok.0, ap (λ k. length k.rolled) c.self.view_is) in
    sym (ap (λ k. c.loop.nodes.items ++ way rolled mark k c.loop.at) left ∙ way_ends rolled mark (length rolled - (c.loop.counter + 1)) c.loop.at c.loop.nodes.items (sym c.next_to.ensures ∙ c.in_default.is))
    ∙ c.loop.invariant.0

pub loop-preserved : goal.loop-preserved
loop-preserved g c =
    let rolled = c.args.self.now.rolled in
    let mark = mark_number c.args.mark.now in
    let left : length rolled - c.loop.counter ≡ suc (length rolled - (c.loop.counter + 1)) =
    omega (arith, c.loop-test.true, c.len-end.ensures, c.self.inside.rolled.ok.0, ap (λ k. length k.rolled) c.self.view_is) in
    let items = c.in_ok-push-2.ensures.items in (
      ap (λ l. l ++ way rolled mark (length rolled - (c.loop.counter + 1)) c.in-Some.next) items
          ∙ sym (ap (λ k. c.loop.nodes.items ++ way rolled mark k c.loop.at) left ∙ way_on rolled mark (length rolled - (c.loop.counter + 1)) c.loop.at c.in-Some.next c.loop.nodes.items (sym c.next_to.ensures ∙ c.in-Some.is))
          ∙ c.loop.invariant.0,
      omega (arith, c.tick.ensures, c.loop.invariant.1),
      ap (λ l. length l) items ∙ omega (arith, c.loop.invariant.2, Rattle.std.proofs.lemmas.List.length_push c.loop.nodes.items c.in-Some.next),
    )

pub returns-clause-nodes : goal.returns-clause-nodes
returns-clause-nodes g c =
    let rolled = c.args.self.now.rolled in
    let mark = mark_number c.args.mark.now in
    let none : length rolled - c.loop.counter ≡ 0 = omega (arith, c.loop-test.false, c.len-end.ensures, c.self.inside.rolled.ok.0, ap (λ k. length k.rolled) c.self.view_is) in
    sym (ap (λ k. c.loop.nodes.items ++ way rolled mark k c.loop.at) none ∙ way_done rolled mark c.loop.at c.loop.nodes.items) ∙ c.loop.invariant.0
