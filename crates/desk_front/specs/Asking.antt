-- What becomes of a question that is asked at some tables.
use Rattle.std.specs.Prelude.{◌≡◌, ◌≢◌, List, ℕ, ◌++◌, Result, Ok, Err}
use Rattle.desk_model.specs.Lists.{Lists}
use Rattle.desk_scratch.specs.Eval.{eval}
use Rattle.desk_scratch.specs.declared.ask_fault.AskFault.{AskFault}
use Rattle.desk_scratch.specs.declared.ask_fault.AskFault.TheVariants.{OutOfMemory}
use Rattle.desk_scratch.specs.declared.question.Question.{Question}

-- the answer from scratch was appended to these bytes; or there is none, for this cause, or for want of memory, and they are as they were
abbrev pub IsAnswerTo : Lists → Question → List ℕ → Result (Unit {0}) AskFault → List ℕ → Type 0
IsAnswerTo t question old (Ok done) new = (text : List ℕ) × (eval t question ≡ Ok text) × (new ≡ old ++ text)
IsAnswerTo t question old (Err cause) new = (cause ≢ OutOfMemory → eval t question ≡ Err cause) × (new ≡ old)
