-- How the faults of roll-ups are told.
use Rattle.std.specs.Prelude.{ℕ, List, codes}
use Rattle.desk_rollup.specs.declared.fault.RollFault.{RollFault}
use Rattle.desk_rollup.specs.declared.fault.RollFault.TheVariants.{WeightTooLarge, MarksFull, OutOfMemory}

-- the words for values that are refused
abbrev pub roll_fault_words : RollFault → List ℕ
roll_fault_words (WeightTooLarge node) = codes "a node would weigh 2^128 or more"
roll_fault_words MarksFull = codes "the nodes would have more than 4194304 marks"
roll_fault_words OutOfMemory = codes "out of memory"
