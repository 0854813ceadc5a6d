-- What the parser's matches and errors say of the words.
use Rattle.std.specs.Prelude.{◌≡◌, List, [], ◌∷◌, map, Option, None, Some, option_map, Result, Ok, Err}
use Rattle.clap.specs.Simple.{subcommand_rows_of}
use Rattle.clap.specs.Walk.{Row}
use Rattle.clap.specs.declared.builder.value_parser.Reading.TheVariants.{AsWritten}
use Rattle.clap.specs.declared.error.kind.ErrorKind.{ErrorKind}
use Rattle.clap.specs.declared.error.kind.ErrorKind.TheVariants as kind
use Rattle.clap.specs.declared.parser.matches.ArgMatches.{ArgMatches}
use Rattle.clap.specs.declared.parser.matches.ValueSource.TheVariants.{CommandLine}
use Rattle.desk_words.specs.Forms.{Given, Word}
use Rattle.desk_words.specs.declared.command_fault.CommandFault.{CommandFault}
use Rattle.desk_words.specs.declared.command_fault.CommandFault.TheVariants.{NoCommand, OutOfMemory}

-- a name and its value, as the parser keeps it
abbrev pub row_for : Word × Word → Row
row_for pair = record { id = pair.0; values = pair.1 ∷ []; count = None; source = Some CommandLine; reading = AsWritten }

abbrev pub rows_for : Given → List Row
rows_for given = map row_for given

abbrev pub line_rows : Word × Given → Word × List Row
line_rows line = (line.0, rows_for line.1)

-- what an error of this kind tells
abbrev pub fault_by : ErrorKind → CommandFault
fault_by kind.OutOfMemory = OutOfMemory
fault_by _ = NoCommand

-- the parser took a line with its values, or refused what is none
abbrev pub Parses : Option (Word × Given) → Result ArgMatches CommandFault → Type 0
Parses line (Ok matches) = subcommand_rows_of matches ≡ option_map line_rows line
Parses line (Err NoCommand) = line ≡ None
Parses line (Err OutOfMemory) = Unit {0}
