use Rattle.std.proofs.Common.{◌≡◌, ◌∷◌, ◌∙◌, [], ap, arith, get_or, length, subst, sym, true}
use Rattle.std.specs.Prelude.{if◌then◌else◌}
use Rattle.std.specs.List.{flat_map}
use Rattle.desk_findings.specs.Reaches.{is_or_reaches}
use Rattle.desk_model.specs.declared.rows.product.ProductRow.{ProductRow}
use Rattle.desk_model.specs.Lists.{is_kept}
use Rattle.desk_tables.proofs.Taken.{take_whole}
use Rattle.desk_scratch.proofs.FlatMaps.{kept_each}
use Rattle.desk_engine.proofs.Weights.{product_row_kept}
use Rattle.desk_engine.proofs.stored_uses.products_by_row.Goals as goal

pub does_hold-holds-requires-clause-part : goal.does_hold-holds-requires-clause-part
does_hold-holds-requires-clause-part c =
    let read = c.product-item.is ∙ ap (λ rows. get_or rows c.loop-product.product-index c.product-item.result) c.loop-product.invariant.same in
    subst (λ row. is_kept c.args.tables.now.lists row.part ≡ true) (sym read)
    (product_row_kept c.args.tables.now.lists c.requires.sound.consistent c.loop-product.product-index c.product-item.result (omega (arith, c.loop-product-test.true, ap length c.loop-product.invariant.same)))

pub returns : goal.returns
returns c =
    let t = c.args.tables.now.lists in
    let test = λ (product : ProductRow). is_or_reaches t product.part c.args.code.now in
    c.loop-product.invariant.products
    ∙ ap (flat_map (λ product. if test product then product ∷ [] else [])) (take_whole _ c.loop-product.product-index c.loop-product-test.false ∙ c.loop-product.invariant.same)
    ∙ sym (kept_each test t.products)
