use Rattle.desk_engine.proofs.Uses.{all_inside, marked}
use Rattle.desk_engine.proofs.stored_uses.marks_above.Goals as goal

pub marks_of-requires : goal.marks_of-requires
marks_of-requires c =
    all_inside c.args.bill.now c.node_count-count.ensures.bill c.args._node c.requires.there c.args.nodes.now c.requires.nodes c.node_count-count.result c.node_count-count.ensures.count

pub returns : goal.returns
returns c =
    marked c.args.bill.now c.node_count-count.ensures.bill c.args._node c.requires.there c.args.nodes.now c.requires.nodes c.node_count-count.result c.node_count-count.ensures.count
    (λ marks. marks.items) c.marks_of.result c.marks_of.ensures.size c.marks_of.ensures.marks
