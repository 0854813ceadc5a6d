use Rattle.std.proofs.Common.{◌≡◌, ◌∙◌, ap, arith, get_or, length, subst, sym, true}
use Rattle.std.specs.List.{AllByRecursion}
use Rattle.std.proofs.lemmas.List.{take_all}
use Rattle.desk_model.specs.Lists.{is_kept}
use Rattle.desk_engine.specs.Masses.{IsWeighedIfPlanned}
use Rattle.desk_engine.proofs.Listed.{each_more}
use Rattle.desk_engine.proofs.Weights.{all_products, product_row_kept}
use Rattle.desk_engine.proofs.masses.masses_by_product.Goals as goal

pub weigh_product-requires-clause-kept : goal.weigh_product-requires-clause-kept
weigh_product-requires-clause-kept c =
    let read = c.row-item.is ∙ ap (λ rows. get_or rows c.loop-row.row-index c.row-item.result) c.products-products.ensures in
    subst (λ row. is_kept c.args.tables.now.lists row.part ≡ true) (sym read)
    (product_row_kept c.args.tables.now.lists c.requires.sound.consistent c.loop-row.row-index c.row-item.result (omega (arith, c.loop-row-test.true, ap length c.products-products.ensures)))

pub loop-row-preserved : goal.loop-row-preserved
loop-row-preserved c = record {
  weights = c.in_ok-weigh_product.ensures.weights c.loop-row.invariant.weights;
  all = each_more (λ row. IsWeighedIfPlanned c.args.bill.now.labels c.args.plan.now.nodes c.loop-row.masses.rows row.part) (λ row. IsWeighedIfPlanned c.args.bill.now.labels c.args.plan.now.nodes c.weigh_product.new.masses.rows row.part)
      (λ row before node has e. c.in_ok-weigh_product.ensures.stays row.part (before node has e)) c.products-products.result.now c.loop-row.row-index c.row-item.result c.loop-row-test.true c.row-item.is c.loop-row.invariant.all c.in_ok-weigh_product.ensures.here;
}

pub returns-clause-all : goal.returns-clause-all
returns-clause-all c =
    all_products c.args.tables.now.lists c.args.bill.now.labels c.args.plan.now.nodes c.loop-row.masses.rows c.products-products.result.now c.products-products.ensures
    (subst (AllByRecursion (λ row. IsWeighedIfPlanned c.args.bill.now.labels c.args.plan.now.nodes c.loop-row.masses.rows row.part)) (take_all c.loop-row.row-index c.products-products.result.now (omega (arith, c.loop-row-test.false))) c.loop-row.invariant.all)
