-- Short spellings for the examples' texts.
use Rattle.std.specs.Prelude.{ℕ, List, ◌++◌, Result, Ok, codes}
use Rattle.std.specs.List.{flat_map}
use Rattle.desk_scratch.specs.declared.ask_fault.AskFault.{AskFault}

-- the answer that has these lines
abbrev pub answers : List (List ℕ) → Result (List ℕ) AskFault
answers lines = Ok (flat_map (λ line. line ++ codes "\n") lines)
