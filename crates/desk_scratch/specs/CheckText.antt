-- The whole answer to `check`.
use Rattle.std.specs.Prelude.{◌≡◌, Bool, not, List, ℕ, ◌++◌, codes}
use Rattle.std.specs.Fmt.{decimal}
use Rattle.std.specs.List.{flat_map, list_any}
use Rattle.desk_text.specs.Day.{Date, date_text}
use Rattle.desk_law.specs.declared.kind.Kind.{Kind}
use Rattle.desk_law.specs.Kind.{kind_code}
use Rattle.desk_model.specs.Declaration.{Declared}
use Rattle.desk_model.specs.Effect.{declared_row}
use Rattle.desk_model.specs.Lists.{Lists}
use Rattle.desk_scratch.specs.Judgement.{has_breach}
use Rattle.desk_scratch.specs.MaterialBlock.{material_block}
use Rattle.desk_scratch.specs.SharedLines.{compliance_line}

-- the first line: what was asked, and which declaration was judged
unfoldable pub check_line : Kind → Date → List ℕ → ℕ → List ℕ
check_line kind day supplier number =
    codes "check " ++ date_text day ++ codes " kind " ++ kind_code kind
    ++ codes " supplier " ++ supplier ++ codes " declaration " ++ decimal number ++ codes "\n"

-- some material of the declaration breaches some rule
abbrev pub some_breach : Lists → Kind → Date → Declared → Bool
some_breach t kind day d = list_any (λ m. has_breach t kind day (declared_row d m)) d.materials

-- the first line, the block of each material in order of code, the last line
unfoldable pub check_text : Lists → Kind → Date → Declared → List ℕ
check_text t kind day d =
    check_line kind day d.supplier d.number
    ++ flat_map (λ m. material_block t kind day (declared_row d m)) d.materials
    ++ compliance_line (not (some_breach t kind day d))

-- the first text ends with the second
abbrev pub EndsIn : List ℕ → List ℕ → Type 0
EndsIn text tail = (before : List ℕ) × (text ≡ before ++ tail)
