-- Where memory was wanting for the words, no command began; and the command that was followed is the one that the words are.
use Rattle.std.proofs.Common.{◌≡◌, Option, None, Some, Result, Ok, map, refl, sym, subst, ◌∙◌}
use Rattle.std.specs.Prelude.{string_bytes}
use Rattle.std.specs.Option.{ok_or}
use Rattle.desk_words.specs.Commands.{command_answer, command_of}
use Rattle.desk_words.specs.declared.command.Command.{Command}
use Rattle.desk_words.specs.declared.command.Command.TheVariants.{Check}
use Rattle.desk_words.specs.declared.command_fault.CommandFault.{CommandFault}
use Rattle.desk_words.specs.declared.command_fault.CommandFault.TheVariants.{NoCommand}
use Rattle.desk_edge.specs.Faults.{Rose}
use Rattle.desk_top.specs.Console.{console_step}
use Rattle.desk_top.specs.Serve.{doorway_step}
use Rattle.desk_top.proofs.Memory.{undone}
use Rattle.desk_top.proofs.program.run.Goals as goal

pub returns-in-Err-OutOfMemory-clause-command : goal.returns-in-Err-OutOfMemory-clause-command
returns-in-Err-OutOfMemory-clause-command g c command is =
    rw c.code-in-Err-OutOfMemory.ensures (rw c.answer_no_memory.ensures.status (undone
    (console_step g.L.Link.unread g.L.Link.written g.L.Link.faults c.args.console.now c.answer_no_memory.new.console)
    c.answer_no_memory.ensures.input_stays (rw c.answer_no_memory.ensures.status at c.answer_no_memory.ensures.answer)
    (g.S.Shelf.Tells c.args.shelf.now) (g.S.Shelf.content c.args.shelf.now) (g.S.Shelf.count c.args.shelf.now) (Rose (g.S.Shelf.faults c.args.shelf.now) (g.S.Shelf.faults c.args.shelf.now))
    (doorway_step g.D.Doors.faults g.D.Doors.taken g.D.Doors.is_closed c.args.doors.now c.args.doors.now)
    refl command))

followed : (a b : Command) (found : Option Command) → ◌≡◌ {A = Result Command CommandFault} (Ok a) (ok_or found NoCommand) → found ≡ Some b → a ≡ b
followed a b None e f = cc
followed a b (Some x) e f = cc

pub returns-in-Ok-clause-reading : goal.returns-in-Ok-clause-reading
returns-in-Ok-clause-reading g c check is ended =
    let read = c.in-Ok.ensures.command (λ h. cc) in
    let same = subst (λ l. ◌≡◌ {A = Result Command CommandFault} (Ok c.in-Ok.command) (command_answer (map string_bytes l))) c.as_slice.ensures.value read in
    c.follow.ensures.reading check (followed c.in-Ok.command (Check check) (command_of (map string_bytes c.args.words.now.items)) same is) (sym c.code.ensures ∙ ended)
