use Rattle.std.proofs.Common.{◌∙◌, ap, sym, map, string_bytes, subst}
use Rattle.clap.specs.Faults.{is_simple_and_free}
use Rattle.desk_words.specs.Forms.{command_line_of}
use Rattle.desk_words.specs.Parsed.{Parses}
use Rattle.desk_words.specs.Table.{forms}
use Rattle.desk_words.specs.declared.command_fault.CommandFault.{CommandFault}
use Rattle.std.proofs.Common.{Err}
use Rattle.desk_words.proofs.Lines.{desk_is_simple, parses_err, parses_ok}
use Rattle.desk_words.proofs.read.read_line.Goals as goal

pub returns-in-Ok : goal.returns-in-Ok
returns-in-Ok c = λ ok. parses_ok _ _ c.in-Ok.line c.in_ok-desk.ensures ok
    (c.in-Ok.ensures.kinds (ap is_simple_and_free c.in_ok-desk.ensures ∙ desk_is_simple)) c.in-Ok.ensures.matches

pub returns-in-Err : goal.returns-in-Err
returns-in-Err c = λ ok. subst (λ (told : CommandFault). Parses (command_line_of forms (map string_bytes c.args.words.now)) (Err told)) (sym c.fault_of.ensures)
    (parses_err _ _ c.in-Err.error c.in_ok-desk.ensures ok (c.in-Err.ensures.kinds (ap is_simple_and_free c.in_ok-desk.ensures ∙ desk_is_simple)))
