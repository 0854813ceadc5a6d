use Rattle.std.proofs.Common.{◌<◌, ◌∙◌, arith, length, subst, sym}
use Rattle.std.proofs.lemmas.List.{take_all}
use Rattle.desk_text.specs.Code.{code_cmp}
use Rattle.desk_rows.specs.Rows.{IsByKey}
use Rattle.desk_engine.proofs.Listed.{each_at}
use Rattle.desk_engine.proofs.Products.{AreFound, found_more, nodes_inside, products_are}
use Rattle.desk_engine.proofs.stored_uses.products_by_node.Goals as goal

pub put_product-requires-clause-there : goal.put_product-requires-clause-there
put_product-requires-clause-there c =
    each_at (λ n. n < length c.args.stored.now.bill.labels) c.args.nodes.now c.loop-node.node-index 0
    (nodes_inside c.args.tables.now.lists c.requires.sound.consistent c.args.stored.now.bill c.node_count.ensures.bill c.requires.stored.of.bill c.args._code.now c.requires.kept c.args.nodes.now c.requires.nodes) (omega arith)

pub loop-node-preserved : goal.loop-node-preserved
loop-node-preserved c =
    found_more c.args.tables.now.lists c.args.stored.now.bill.labels c.args.nodes.now c.loop-node.node-index 0 c.loop-node.products.rows c.put_product.new.products.rows (omega arith) c.loop-node.invariant c.in_ok-put_product.ensures

pub returns : goal.returns
returns c =
    c.in_ok-from_slice.ensures.items
    ∙ products_are c.args.tables.now.lists c.requires.sound.consistent c.args.stored.now.bill c.node_count.ensures.bill c.requires.stored.of.bill c.args._code.now c.requires.kept c.args.nodes.now c.requires.nodes c.as_slice.result.now
    (subst (IsByKey (λ row. row.part) code_cmp) (sym c.as_slice.ensures.rows) c.as_slice.ensures.by_key)
    (subst (AreFound c.args.tables.now.lists c.args.stored.now.bill.labels c.args.nodes.now) (sym c.as_slice.ensures.rows)
    (subst (λ nodes. AreFound c.args.tables.now.lists c.args.stored.now.bill.labels nodes c.loop-node.products.rows) (take_all c.loop-node.node-index c.args.nodes.now (omega (arith, c.loop-node-test.false))) c.loop-node.invariant))
