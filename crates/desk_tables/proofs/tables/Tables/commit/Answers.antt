use Rattle.std.proofs.Common.{◌∙◌, sym, ap}
use Rattle.desk_tables.specs.Plan.{tables_planned}
use Rattle.desk_tables.proofs.Commits.{can_enter, fits_after, new_after, planned_after, room_after}
use Rattle.desk_tables.proofs.tables.Tables.commit.Goals as goal

pub enter-requires-clause-room : goal.enter-requires-clause-room
enter-requires-clause-room c =
    room_after c.args.self.now c.make.new.self c.in-New.change c.make.ensures.lists c.make.ensures.tickets c.in-New.room
    (can_enter c.args.self.now c.args.plan c.in-New.change c.in-New.ticket c.in-New.room c.in-New.is c.requires).ticket_has_room

pub enter-requires-clause-new : goal.enter-requires-clause-new
enter-requires-clause-new c =
    new_after c.args.self.now c.make.new.self c.in-New.change c.make.ensures.lists c.make.ensures.tickets c.in-New.ticket
    (can_enter c.args.self.now c.args.plan c.in-New.change c.in-New.ticket c.in-New.room c.in-New.is c.requires).ticket_is_new

pub enter-requires-clause-fits : goal.enter-requires-clause-fits
enter-requires-clause-fits c =
    fits_after c.args.self.now c.make.new.self c.in-New.change c.make.ensures.lists c.make.ensures.tickets c.in-New.ticket
    (can_enter c.args.self.now c.args.plan c.in-New.change c.in-New.ticket c.in-New.room c.in-New.is c.requires).text_fits

pub returns-in-New-clause-lists : goal.returns-in-New-clause-lists
unfolding tables_planned
returns-in-New-clause-lists c =
    c.enter.ensures
    ∙ planned_after c.args.self.now c.make.new.self c.in-New.change c.make.ensures.lists c.make.ensures.tickets c.in-New.ticket
    ∙ sym (ap (tables_planned c.args.self.now.lists) c.in-New.is)
