use Rattle.std.proofs.Common.{◌∷◌, ◌∙◌, [], ap, sym}
use Rattle.std.specs.Prelude.{if◌then◌else◌}
use Rattle.std.specs.List.{flat_map}
use Rattle.desk_findings.specs.Reaches.{is_or_reaches}
use Rattle.desk_model.specs.declared.rows.product.ProductRow.{ProductRow}
use Rattle.desk_tables.proofs.Taken.{take_whole}
use Rattle.desk_scratch.proofs.FlatMaps.{kept_each}
use Rattle.desk_scratch.proofs.bill.Bill.products_with.Goals as goal

pub returns : goal.returns
returns c =
    let t = c.args.self.now in
    let test = λ (product : ProductRow). is_or_reaches t product.part c.args.code.now in
    c.loop-product.invariant.products
    ∙ ap (flat_map (λ product. if test product then product ∷ [] else [])) (take_whole _ c.loop-product.product-index c.loop-product-test.false ∙ c.loop-product.invariant.same)
    ∙ sym (kept_each test t.products)
