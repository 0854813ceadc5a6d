use Rattle.std.proofs.Common.{◌≡◌, true, sym, subst}
use Rattle.std.specs.List.{AllByRecursion}
use Rattle.desk_model.specs.Lists.{is_part}
use Rattle.desk_model.proofs.Elements.{each_from_all}
use Rattle.desk_history.proofs.NamesKept.{names_of}
use Rattle.desk_tables.proofs.HeavyYears.{at_each}
use Rattle.desk_scratch.proofs.summary.push_standings.Goals as goal

pub push_standing-requires-clause-kept : goal.push_standing-requires-clause-kept
push_standing-requires-clause-kept g c =
    let t = g.S.AnswerSource.lists c.args.source.now in
    let names = names_of t c.tables.ensures.sound.consistent.names_kept in
    subst (λ row. is_part t row.part ≡ true) (sym c.product-item.is)
    (at_each (λ row. is_part t row.part ≡ true) c.products-product-items.result.now c.loop-product.product-index c.product-item.result
    (subst (AllByRecursion (λ row. is_part t row.part ≡ true)) (sym c.loop-product.invariant.same) (each_from_all (λ product. is_part t product.part) t.products names.products))
    c.loop-product-test.true)
