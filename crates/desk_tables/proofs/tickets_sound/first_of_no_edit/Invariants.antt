-- The tickets so far are those of edits.
use Rattle.std.proofs.Common.{take}
use Rattle.std.specs.List.{All}
use Rattle.desk_history.specs.Sound.{IsTicketOfEdit}
use Rattle.desk_tables.proofs.tickets_sound.first_of_no_edit.Given as goal

abbrev pub invariant-loop-place : goal.invariant-loop-place
invariant-loop-place l = All IsTicketOfEdit (take l.place l.tickets)
