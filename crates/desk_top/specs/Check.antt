-- What `check` writes for the bytes of a declaration.
use Rattle.std.specs.Prelude.{◌≡◌, ℕ, if◌then◌else◌, nat_lt, List, length, Option, None, Some, Result, Ok, Err}
use Rattle.desk_model.specs.Declaration.{Declared}
use Rattle.desk_model.specs.declared.edit.Edit.TheVariants.{Declare}
use Rattle.desk_model.specs.declared.rule_fault.RuleFault.{RuleFault}
use Rattle.desk_model.specs.Effect.{with_edit_entered}
use Rattle.desk_model.specs.Start.{start}
use Rattle.desk_history.specs.Refused.{refused}
use Rattle.desk_declare.specs.Declaration.{declared_of}
use Rattle.desk_declare.specs.declared.declare_fault.DeclareFault.{DeclareFault}
use Rattle.desk_scratch.specs.CheckText.{check_text}
use Rattle.desk_top.specs.declared.check.CheckFault.{CheckFault}
use Rattle.desk_top.specs.declared.check.CheckFault.TheVariants.{Refused, Failed, OutOfMemory}
use Rattle.desk_law.specs.declared.kind_on_day.KindOnDay.{KindOnDay}
use Rattle.desk_top.specs.declared.refusal.Refusal.{Refusal}
use Rattle.desk_top.specs.declared.refusal.Refusal.TheVariants.{InputTooLong, BadDeclaration, Rule}

-- the greatest number of bytes in a declaration that is checked
abbrev pub input_limit : ℕ
input_limit = 65536

-- the text on a declaration, over the start tables with it entered, unless a rule refuses it there
abbrev pub text_unless : KindOnDay → Declared → Option RuleFault → Result (List ℕ) Refusal
text_unless check d (Some fault) = Err (Rule fault)
text_unless check d None = Ok (check_text (with_edit_entered start (Declare d)) check.kind check.day d)

-- what the start tables say of a declaration that was read, or the fault of bytes that are none
abbrev pub judged : KindOnDay → Result Declared DeclareFault → Result (List ℕ) Refusal
judged check (Err fault) = Err (BadDeclaration fault)
judged check (Ok d) = text_unless check d (refused start (Declare d))

-- the text for the bytes of an input, or why there is none
unfoldable pub check_outcome : KindOnDay → List ℕ → Result (List ℕ) Refusal
check_outcome check bytes = if nat_lt input_limit (length bytes) then Err InputTooLong else judged check (declared_of bytes)

-- a call's answer is the one that is meant, unless memory was wanting
abbrev pub Agrees : Result (List ℕ) CheckFault → Result (List ℕ) Refusal → Type 0
Agrees (Ok text) meant = meant ≡ Ok text
Agrees (Err (Refused refusal)) meant = meant ≡ Err refusal
Agrees (Err Failed) meant = ⊥
Agrees (Err OutOfMemory) meant = Unit {0}
