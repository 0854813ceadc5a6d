-- The word, and what was appended so far: the first codes, each after a space.
use Rattle.std.proofs.Common.{◌≡◌, ◌++◌, codes, string_bytes, take}
use Rattle.std.specs.List.{flat_map}
use Rattle.desk_scratch.proofs.shared_lines.push_chain_line.Given as goal

abbrev pub invariant-loop-code : goal.invariant-loop-code
invariant-loop-code l = string_bytes l.out ≡ string_bytes l.fn.out ++ (codes "chain" ++ flat_map (λ code. codes " " ++ code) (take l.code-index l.chain))
