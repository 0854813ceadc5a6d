-- A declaration changes neither the members nor the exemption rows of the start tables, so no share and no verdict.
use Rattle.std.proofs.Common.{◌≡◌, refl, sym, ℕ, List, None, Ok}
use Rattle.desk_text.specs.Day.{Date}
use Rattle.desk_law.specs.declared.kind.Kind.{Kind}
use Rattle.desk_model.specs.Declaration.{Declared}
use Rattle.desk_model.specs.declared.edit.Edit.{Edit}
use Rattle.desk_model.specs.declared.edit.Edit.TheVariants.{Declare}
use Rattle.desk_model.specs.Effect.{with_edit_entered, with_edit_made}
use Rattle.desk_model.specs.Lists.{Lists}
use Rattle.desk_model.specs.Start.{start}
use Rattle.desk_findings.specs.Share.{share}
use Rattle.desk_findings.specs.Verdicts.{verdict_on}
use Rattle.desk_history.specs.Refused.{refused}
use Rattle.desk_scratch.specs.CheckText.{check_text}
use Rattle.desk_scratch.specs.MaterialBlock.{material_block, rule_line}
use Rattle.desk_top.specs.Check.{text_unless}
use Rattle.desk_law.specs.declared.kind_on_day.KindOnDay.{KindOnDay}

-- the text on a declaration is the same before it and after it
pub text_after : (t : Lists) (kind : Kind) (day : Date) (d : Declared) → check_text (with_edit_entered t (Declare d)) kind day d ≡ check_text t kind day d
unfolding with_edit_entered with_edit_made check_text material_block rule_line share verdict_on
text_after t kind day d = refl

-- so the text over the start tables is the one that is meant
pub text_told : (check : KindOnDay) (t : Lists) (d found : Declared) (edit : Edit) (text : List ℕ) → t ≡ start → edit ≡ Declare d → edit ≡ Declare found
    → None ≡ refused start (Declare d) → text ≡ check_text t check.kind check.day d → text_unless check found (refused start (Declare found)) ≡ Ok text
text_told check t d found edit text tables is also free e =
    let same : d ≡ found = cc in
    rw (← same, sym free, text_after start check.kind check.day d, e, tables) refl
