-- What reaches an affected code is affected.
use Rattle.std.proofs.Common.{◌≡◌, ℕ, true, List}
use Rattle.std.proofs.lemmas.Bool.{or_right}
use Rattle.desk_text.specs.Code.{same_code}
use Rattle.desk_model.specs.declared.edit.Edit.{Edit}
use Rattle.desk_model.specs.Effect.{with_edit_entered}
use Rattle.desk_model.specs.Lists.{Lists}
use Rattle.desk_model.proofs.Elements.{any_map, each}
use Rattle.desk_findings.specs.Reaches.{is_or_reaches, reaches}
use Rattle.desk_findings.proofs.Bill.{is_or_reaches_trans}
use Rattle.desk_history.specs.Affected.{is_affected, seeds}
use Rattle.desk_history.specs.Sound.{IsConsistent}
use Rattle.desk_history.proofs.SoundClauses.{parents_of}

pub rises : (t : Lists) (edit : Edit) → IsConsistent (with_edit_entered t edit) → (code target : List ℕ) → reaches (with_edit_entered t edit) code target ≡ true → is_affected t edit target ≡ true → is_affected t edit code ≡ true
unfolding is_affected
rises t edit r code target there affected =
    any_map (λ seed. is_or_reaches (with_edit_entered t edit) target seed) (λ seed. is_or_reaches (with_edit_entered t edit) code seed) (seeds t edit)
    (each (λ seed. is_or_reaches (with_edit_entered t edit) target seed ≡ true → is_or_reaches (with_edit_entered t edit) code seed ≡ true)
    (λ seed h. or_right (same_code code seed) (reaches (with_edit_entered t edit) code seed) (is_or_reaches_trans (with_edit_entered t edit) (parents_of (with_edit_entered t edit) r) code target seed there h)) (seeds t edit)) affected
