-- The command that is read of the parser's matches is ours.
use Rattle.std.proofs.Common.{◌≡◌, ◌∙◌, ◌≢◌, Bool, cond, true, refl, sym, ap, List, find, Option, None, Some, option_and_then, option_map, bytes_eq, slice_get, ok_or, Result, Ok, Err, Box, String, map, string_bytes, IsErrAnd}
use Rattle.std.specs.List.{list_any}
use Rattle.clap.specs.Matches.{first_value, subcommand_name_of}
use Rattle.clap.specs.Simple.{subcommand_rows, subcommand_rows_of}
use Rattle.clap.specs.Walk.{Row, first_of, rows_of}
use Rattle.clap.specs.declared.parser.matches.ArgMatches.{ArgMatches}
use Rattle.clap.specs.declared.parser.matches.ArgMatches.TheViews.{out-ArgMatches, out-SubCommand}
use Rattle.clap.specs.declared.parser.matches.Found.{Found}
use Rattle.clap.specs.declared.parser.matches.SubCommand.{SubCommand}
use Rattle.clap.proofs.WalkLemmas.{find-map, first_value-rows, list_any-map}
use Rattle.std.specs.Box.{box_value}
use Rattle.desk_words.specs.Commands.{command_answer, command_named, command_of}
use Rattle.desk_words.specs.Forms.{Given, Word, has_one_dash, command_line_of, value_in}
use Rattle.desk_words.specs.Parsed.{Parses, line_rows, row_for, rows_for}
use Rattle.desk_words.specs.Table.{forms}
use Rattle.desk_words.specs.declared.command.Command.{Command}
use Rattle.desk_words.specs.declared.command_fault.CommandFault.{CommandFault}
use Rattle.desk_words.specs.declared.command_fault.CommandFault.TheVariants.{NoCommand, OutOfMemory}
use Rattle.desk_words.proofs.Reading.{Undashed}

first_of_given : (id : Word) (given : Given) → first_of id (rows_for given) ≡ value_in given id
first_of_given id given =
    ap (option_and_then (λ (r : Row). slice_get r.values 0)) (sym (find-map (λ (r : Row). bytes_eq r.id id) row_for given)) ∙ go (find (λ pair. bytes_eq pair.0 id) given)
  where
    go : (o : Option (Word × Word)) → option_and_then (λ (r : Row). slice_get r.values 0) (option_map row_for o) ≡ option_map (λ pair. pair.1) o
    go None = refl
    go (Some pair) = refl

name_of_rows : (m : ArgMatches) → subcommand_name_of m ≡ option_map (λ line. line.0) (subcommand_rows_of m)
name_of_rows m = go (out-ArgMatches m).subcommand
  where
    go : {Z : Type 0} (o : Option (Box SubCommand Z)) → option_map (λ b. (out-SubCommand (box_value b)).name.now) o ≡ option_map (λ line. line.0) (subcommand_rows o)
    go None = refl
    go (Some b) = refl

same_word : (a b : Word) → ◌≡◌ {A = Option Word} (Some a) (Some b) → a ≡ b
same_word a b e = cc

same_rows : (a b : List Row) → ◌≡◌ {A = Option (List Row)} (Some a) (Some b) → a ≡ b
same_rows a b e = cc

-- the test of the words, over their texts
pub dashes_by : {Z : Type 0} (words : List (String Z)) (r b : Bool) → r ≡ list_any (λ word. has_one_dash (string_bytes word)) words → r ≡ b
    → list_any has_one_dash (map string_bytes words) ≡ b
dashes_by words r b is e = sym (list_any-map has_one_dash string_bytes words) ∙ sym is ∙ e

-- the command of a line
abbrev command_at : Option (Word × Given) → Option Command
command_at line = option_and_then (λ line. command_named line.0 (value_in line.1)) line

command_is : (words : List Word) → Undashed words → command_of words ≡ command_at (command_line_of forms words)
unfolding command_of
command_is words ok = ap (λ b. cond b None (command_at (command_line_of forms words))) ok

pub dashed_answer : (words : List Word) → list_any has_one_dash words ≡ true → ◌≡◌ {A = Result Command CommandFault} (Err NoCommand) (command_answer words)
unfolding command_of
dashed_answer words dashed = sym (ap (λ b. ok_or (cond b None (command_at (command_line_of forms words))) NoCommand) dashed)

pub no_answer : (words : List Word) (m : ArgMatches) → Undashed words → subcommand_rows_of m ≡ option_map line_rows (command_line_of forms words)
    → None ≡ subcommand_name_of m → ◌≡◌ {A = Result Command CommandFault} (Err NoCommand) (command_answer words)
no_answer words m ok rows none =
    go (command_line_of forms words) (none ∙ name_of_rows m ∙ ap (option_map (λ line. line.0)) rows) ∙ sym (ap (λ o. ok_or o NoCommand) (command_is words ok))
  where
    go : (o : Option (Word × Given)) → None ≡ option_map (λ line. line.0) (option_map line_rows o) → ◌≡◌ {A = Result Command CommandFault} (Err NoCommand) (ok_or (command_at o) NoCommand)
    go None e = refl
    go (Some line) e = absurd (cc)

pub an_answer : (words : List Word) (m : ArgMatches) (name : Word) (f : Found) → Undashed words
    → subcommand_rows_of m ≡ option_map line_rows (command_line_of forms words) → Some name ≡ subcommand_name_of m
    → Some (rows_of f) ≡ option_map (λ line. line.1) (subcommand_rows_of m) → ok_or (command_named name (first_value f)) NoCommand ≡ command_answer words
an_answer words m name f ok rows named found =
    go (command_line_of forms words) (named ∙ name_of_rows m ∙ ap (option_map (λ line. line.0)) rows) (found ∙ ap (option_map (λ line. line.1)) rows)
    ∙ sym (ap (λ o. ok_or o NoCommand) (command_is words ok))
  where
    go : (o : Option (Word × Given)) → Some name ≡ option_map (λ line. line.0) (option_map line_rows o)
        → Some (rows_of f) ≡ option_map (λ line. line.1) (option_map line_rows o) → ok_or (command_named name (first_value f)) NoCommand ≡ ok_or (command_at o) NoCommand
    go None e r = absurd (cc)
    go (Some line) e r =
        let is = same_word name line.0 e in
        let at : (id : Word) → first_value f id ≡ value_in line.1 id =
        λ id. first_value-rows f id ∙ ap (first_of id) (same_rows (rows_of f) (rows_for line.1) r) ∙ first_of_given id line.1 in
        λ i. ok_or (command_named (is i) (λ id. at id i)) NoCommand

pub failed_answer : (words : List Word) (told : CommandFault) (r : Result Command CommandFault) → Undashed words → Parses (command_line_of forms words) (Err told)
    → IsErrAnd r (λ e. e ≡ told) → r ≢ Err OutOfMemory → r ≡ command_answer words
failed_answer words told (Ok command) ok parsed is other = absurd is
failed_answer words NoCommand (Err e) ok none is other =
    let same : ◌≡◌ {A = Result Command CommandFault} (Err e) (Err NoCommand) = ap Err is in
    same ∙ sym (ap (λ o. ok_or (command_at o) NoCommand) none) ∙ sym (ap (λ o. ok_or o NoCommand) (command_is words ok))
failed_answer words OutOfMemory (Err e) ok parsed is other = absurd (other (ap Err is))
