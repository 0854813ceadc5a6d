use Rattle.std.proofs.Common.{◌+◌, ◌∙◌, ap, sym, length, sum_by, arith}
use Rattle.desk_text.specs.Code.{code_cmp}
use Rattle.desk_rows.specs.Rows.{with_row}
use Rattle.desk_tables.proofs.Tickets.{sum_with, text_fits}
use Rattle.desk_tables.proofs.tables.Tables.enter.Goals as goal

pub overflow_add-self : goal.overflow_add-self
overflow_add-self c =
    let sum = c.self.invariant ∙ ap (λ desk. sum_by (λ row. length row.text) desk.lists.tickets) c.self.view_is in
    let bound = text_fits c.args.self.now.lists c.args.ticket c.self.inside.text c.requires.new c.requires.fits sum in
    omega (arith, bound, c.len.ensures)

pub invariant_of-self : goal.invariant_of-self
invariant_of-self c =
    let sum = c.self.invariant ∙ ap (λ desk. sum_by (λ row. length row.text) desk.lists.tickets) c.self.view_is in
    ap (λ len. c.self.inside.text + len) c.len.ensures
    ∙ sum_with c.args.self.now.lists c.args.ticket c.self.inside.text c.requires.new sum
    ∙ ap (λ rows. sum_by (λ row. length row.text) (with_row (λ row. row.code) code_cmp c.args.ticket rows)) (sym (ap (λ desk. desk.lists.tickets) c.self.view_is))
    ∙ sym (ap (sum_by (λ row. length row.text)) c.put_ready.ensures)
