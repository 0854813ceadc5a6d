use Rattle.std.proofs.Common.{◌∙◌, ap, sym, subst}
use Rattle.desk_rows.specs.Held.{IsRoomFor}
use Rattle.desk_tables.specs.Change.{rows_with_room}
use Rattle.desk_model.specs.Lists.{ticket_row}
use Rattle.desk_history.specs.Limits.{has_too_much_text}
use Rattle.desk_tables.specs.Judged.{IsRowsFault, IsRowsPlan}
use Rattle.desk_tables.specs.Plan.{CanCommit, CanEnter}
use Rattle.desk_tables.proofs.Judging.{at_limits, by_limits, leaves, text_fits_after, ticket_is_new}
use Rattle.desk_tables.proofs.tables.Tables.plan_change.Goals as goal

pub refused_by_limits-requires-clause-new : goal.refused_by_limits-requires-clause-new
refused_by_limits-requires-clause-new c =
    let t = c.args.self.now.lists in
    ap (λ ticket. ticket_row t ticket.code) c.requires.ticket ∙ ticket_is_new t c.args.edit.now c.requires.new c.requires.unused

pub refused_by_limits-requires-clause-leaves : goal.refused_by_limits-requires-clause-leaves
refused_by_limits-requires-clause-leaves c =
    leaves c.args.self.now.lists c.args.edit.now c.args.change c.args.ticket c.requires.made c.requires.ticket

pub returns-in-Some-clause-fault : goal.returns-in-Some-clause-fault
unfolding IsRowsFault by_limits
returns-in-Some-clause-fault c =
    let t = c.args.self.now.lists in
    (c.requires.new, at_limits t c.args.edit.now c.requires.unused c.requires.names c.requires.values ∙ sym c.refused_by_limits.ensures ∙ c.in-Some.is)

-- the new edit's rows and ticket can be entered
can_enter : (c : goal.In_ok-room) → CanEnter c.args.self.now c.args.change c.args.ticket c.in_ok-room.room
unfolding by_limits
can_enter c =
    let t = c.args.self.now.lists in
    let edit = c.args.edit.now in
    let limits = sym c.refused_by_limits.ensures ∙ c.in_default.is in
    let after = leaves t edit c.args.change c.args.ticket c.requires.made c.requires.ticket in
    record {
      rows_ready = c.requires.ready;
      ticket_has_room = subst (λ desk. IsRoomFor 1 (rows_with_room desk.lists.tickets desk.rooms.tickets) c.in_ok-room.room) c.self.view_is c.in_ok-room.ensures;
      ticket_is_new = ap (λ ticket. ticket_row t ticket.code) c.requires.ticket ∙ ticket_is_new t edit c.requires.new c.requires.unused;
      text_fits = ap has_too_much_text after ∙ text_fits_after t edit limits;
    }

pub returns-clause-ready : goal.returns-clause-ready
unfolding CanCommit
returns-clause-ready c = can_enter c

pub returns-clause-plan : goal.returns-clause-plan
unfolding IsRowsPlan by_limits
returns-clause-plan c =
    let t = c.args.self.now.lists in
    let edit = c.args.edit.now in
    let limits = sym c.refused_by_limits.ensures ∙ c.in_default.is in
    let after = leaves t edit c.args.change c.args.ticket c.requires.made c.requires.ticket in
    record {
      new = c.requires.new;
      unrefused = at_limits t edit c.requires.unused c.requires.names c.requires.values ∙ limits;
      made = c.requires.made;
      leaves = after;
      sums = c.requires.sums;
      number = ap (λ ticket. ticket.number) c.requires.ticket;
      can_enter = can_enter c;
    }

pub returns-in_err-room-clause-memory : goal.returns-in_err-room-clause-memory
unfolding by_limits
returns-in_err-room-clause-memory c = λ _. at_limits c.args.self.now.lists c.args.edit.now c.requires.unused c.requires.names c.requires.values ∙ sym c.refused_by_limits.ensures ∙ c.in_default.is
