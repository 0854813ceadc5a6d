-- Commands by whether they may wait: those that open a clerk, and the others.
use Rattle.desk_top.specs.declared.sorted.AtOnce.{AtOnce}
use Rattle.desk_top.specs.declared.sorted.AtOnce.TheVariants as at_once
use Rattle.desk_top.specs.declared.sorted.OverClerk.{OverClerk}
use Rattle.desk_top.specs.declared.sorted.OverClerk.TheVariants as over_clerk
use Rattle.desk_top.specs.declared.sorted.Sorted.{Sorted}
use Rattle.desk_top.specs.declared.sorted.Sorted.TheVariants as sorted
use Rattle.desk_words.specs.declared.command.Command.{Command}
use Rattle.desk_words.specs.declared.command.Command.TheVariants as asked

-- the command that waits for nobody, as one of all
abbrev pub command_at_once : AtOnce → Command
command_at_once (at_once.Check check) = asked.Check check
command_at_once (at_once.Export export) = asked.Export export
command_at_once (at_once.Import import) = asked.Import import
command_at_once (at_once.Audit audit) = asked.Audit audit
command_at_once (at_once.Sample sample) = asked.Sample sample

-- the command that may wait, as one of all
abbrev pub command_over_clerk : OverClerk → Command
command_over_clerk (over_clerk.Session session) = asked.Session session
command_over_clerk (over_clerk.Serve serve) = asked.Serve serve

-- the command itself
abbrev pub command_of_sorted : Sorted → Command
command_of_sorted (sorted.AtOnce command) = command_at_once command
command_of_sorted (sorted.OverClerk command) = command_over_clerk command
