use Rattle.std.proofs.Common.{ap, ◌∙◌, ◌+◌, arith, length, sum_by, nat_lt}
use Rattle.desk_model.specs.declared.limits.TheConstants.{TEXT_LIMIT}
use Rattle.desk_model.specs.declared.rule_fault.RuleFault.TheVariants.{TextFull}
use Rattle.desk_history.specs.Refused.{refuse_if}
use Rattle.desk_tables.proofs.Tickets.{text_bound, text_over}
use Rattle.desk_tables.proofs.tables.Tables.text_full.Goals as goal

pub overflow_add-text : goal.overflow_add-text
overflow_add-text c =
    let sum = c.self.invariant ∙ ap (λ desk. sum_by (λ row. length row.text) desk.lists.tickets) c.self.view_is in
    let bound = text_bound c.args.self.now.lists c.self.inside.text c.requires.sound.limits.texts_fit sum in
    omega (arith, bound, c.len.type_inv)

pub returns : goal.returns
returns c =
    let sum = c.self.invariant ∙ ap (λ desk. sum_by (λ row. length row.text) desk.lists.tickets) c.self.view_is in
    c.refuse_if.ensures
    ∙ ap (λ len. refuse_if (nat_lt TEXT_LIMIT (c.self.inside.text + len)) TextFull) c.len.ensures
    ∙ ap (λ over. refuse_if over TextFull) (text_over c.args.self.now.lists c.args.change.now c.args.ticket.now c.self.inside.text c.requires.new sum)
