-- What one substance more comes to.
use Rattle.std.proofs.Common.{◌∙◌, [], ◌∷◌, ◌++◌, ap, arith, map, sym, take}
use Rattle.std.proofs.lemmas.List.{map_more}
use Rattle.desk_tables.proofs.Taken.{take_whole}
use Rattle.desk_scratch.specs.Holdings.{holding_of, holdings_of}
use Rattle.desk_scratch.proofs.holdings.Holdings.new.Goals as goal

pub loop-held-preserved : goal.loop-held-preserved
loop-held-preserved c =
    let own = holding_of c.args.tables.now.lists in
    let substances = c.args.substances.now in
    let i = c.loop-held.held-index in
    let before = map own (take i substances) in
    let is = c.holding_of.ensures ∙ ap own c.held-item.is in
    record {
      each =
          c.push_reserved.ensures.items ∙ ap (λ l. l ++ c.holding_of.result ∷ []) c.loop-held.invariant.each ∙ ap (λ h. before ++ h ∷ []) is
          ∙ sym (map_more own substances i c.held-item.result c.loop-held-test.true);
      count = omega (arith, c.push_reserved.ensures.len);
      room = omega (arith, c.push_reserved.ensures.capacity);
    }

pub returns : goal.returns
returns c =
    c.loop-held.invariant.each ∙ ap (holdings_of c.args.tables.now.lists) (take_whole c.args.substances.now c.loop-held.held-index c.loop-held-test.false)
