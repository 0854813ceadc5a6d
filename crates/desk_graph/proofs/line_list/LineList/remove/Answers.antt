use Rattle.std.proofs.Common.{◌==◌, not, rules, ap, ◌∙◌}
use Rattle.std.proofs.lemmas.Fn.{filter_same}
use Rattle.desk_graph.specs.declared.line.BillLine.{BillLine}
use Rattle.desk_graph.specs.Edits.{without_line_of_node}
use Rattle.desk_graph.proofs.line_list.LineList.remove.Goals as goal

pub returns : goal.returns
returns c =
    filter_same _ (λ (line : BillLine). not (line.node == c.args.node)) _ (λ x b f' k. search rules) _ _ c.retain.ensures.filtered
    ∙ ap (without_line_of_node c.args.node) c.self.view_is
