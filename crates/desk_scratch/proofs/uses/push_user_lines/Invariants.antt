-- What was appended so far are the lines on the first users.
use Rattle.std.proofs.Common.{◌≡◌, ◌++◌, string_bytes, take}
use Rattle.std.specs.List.{flat_map}
use Rattle.desk_scratch.specs.Uses.{user_line}
use Rattle.desk_scratch.proofs.uses.push_user_lines.Given as goal

abbrev pub invariant-loop-line : goal.invariant-loop-line
invariant-loop-line l = string_bytes l.out ≡ string_bytes l.fn.out ++ flat_map user_line (take l.line-index l.lines)
