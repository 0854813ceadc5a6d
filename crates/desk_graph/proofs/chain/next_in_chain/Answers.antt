use Rattle.std.proofs.Common.{◌≡◌, ◌∙◌, true, ◌<◌, length, ap, sym, arith}
use Rattle.desk_graph.specs.Graph.{has_line}
use Rattle.desk_graph.proofs.Kept.{read_list}
use Rattle.desk_graph.proofs.Reached.{some_weaker}
use Rattle.desk_graph.proofs.chain.next_in_chain.Goals as goal

pub first_marked-requires : goal.first_marked-requires
first_marked-requires c = λ node e.
    let read = read_list c.args.lines.now c.args.node c.index-lines-node.result c.requires.node c.index-lines-node.is in
    let line = ap (λ l. has_line l node) (sym (c.as_slice.ensures ∙ read)) ∙ e in
    omega (arith, c.requires.children c.args.node node line, c.requires.size)

pub returns-clause-there : goal.returns-clause-there
returns-clause-there c =
    let read = read_list c.args.lines.now c.args.node c.index-lines-node.result c.requires.node c.index-lines-node.is in
    some_weaker (λ child. has_line c.as_slice.result.now child ≡ true) (λ child. child < length c.args.lines.now)
    (λ child e. c.requires.children c.args.node child (ap (λ l. has_line l child) (sym (c.as_slice.ensures ∙ read)) ∙ e)) c.first_marked.result c.first_marked.ensures.there
