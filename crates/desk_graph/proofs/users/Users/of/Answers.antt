use Rattle.std.proofs.Common.{sym, ap, ◌∙◌}
use Rattle.std.specs.Prelude.{option_copied}
use Rattle.desk_graph.specs.Graph.{lines_of_node}
use Rattle.desk_graph.specs.Planned.{changed_users}
use Rattle.desk_graph.proofs.ChangedLines.{lines_of-empty}
use Rattle.desk_graph.proofs.users.Users.of.Goals as goal

pub returns-in-Some : goal.returns-in-Some
returns-in-Some c =
    let users = c.self.inside in
    let node = c.args.node in
    c.changed_at.ensures ∙ ap (λ o. lines_of_node (changed_users (option_copied o) users.lists.now) node) (sym c.in-Some.is) ∙ sym (lines_of-empty users.more (changed_users (option_copied users.change) users.lists.now) node) ∙ ap (λ v. lines_of_node v node) c.self.view_is

pub returns-in-None : goal.returns-in-None
returns-in-None c =
    let users = c.self.inside in
    let node = c.args.node in
    c.list_at.ensures ∙ ap (λ o. lines_of_node (changed_users (option_copied o) users.lists.now) node) (sym c.in-None.is) ∙ sym (lines_of-empty users.more (changed_users (option_copied users.change) users.lists.now) node) ∙ ap (λ v. lines_of_node v node) c.self.view_is
