-- What was appended so far are the lines on the first loads.
use Rattle.std.proofs.Common.{◌≡◌, ◌++◌, string_bytes, take}
use Rattle.std.specs.List.{flat_map}
use Rattle.desk_scratch.specs.LookUps.{load_line}
use Rattle.desk_scratch.proofs.part.push_carried_lines.Given as goal

abbrev pub invariant-loop-load : goal.invariant-loop-load
invariant-loop-load l = string_bytes l.out ≡ string_bytes l.fn.out ++ flat_map load_line (take l.load-index l.loads)
