-- What an edit affects is listed, each code once.
use Rattle.std.proofs.Common.{◌≡◌, ℕ, ◌+◌, Bool, true, false, cond, ◌&&◌, ◌||◌, List, map, count_by, refl, ap, ◌∙◌, arith}
use Rattle.std.specs.Prelude.{if◌then◌else◌}
use Rattle.desk_text.specs.Code.{same_code}
use Rattle.desk_model.specs.declared.edit.Edit.{Edit}
use Rattle.desk_history.specs.Affected.{affected, is_affected}
use Rattle.desk_model.specs.Effect.{with_edit_entered}
use Rattle.desk_model.specs.Lists.{Lists, is_kept, is_material, is_part, nodes_of}
use Rattle.desk_history.specs.Sound.{IsConsistent}
use Rattle.desk_model.proofs.Times.{times, times_append, times_by_code, times_filter}
use Rattle.desk_findings.proofs.Children.{not_part}

one_of : (a b : Bool) → (a ≡ true → b ≡ false) → cond a 1 0 + cond b 1 0 ≡ cond (a || b) 1 0
one_of true b f = rw (f refl) refl
one_of false b f = omega arith

times_nodes : (t : Lists) → IsConsistent t → (code : List ℕ) → times code (nodes_of t) ≡ cond (is_kept t code) 1 0
times_nodes t s code =
    let materials = times_by_code (λ row. row.code) code t.materials s.ordered.materials in
    let parts = times_by_code (λ row. row.code) code t.parts s.ordered.parts in
    times_append code (map (λ row. row.code) t.materials) (map (λ row. row.code) t.parts)
    ∙ ap (λ n. n + times code (map (λ row. row.code) t.parts)) materials
    ∙ ap (λ n. cond (is_material t code) 1 0 + n) parts
    ∙ one_of (is_material t code) (is_part t code) (not_part t s.codes_apart code)

both : (a b : Bool) → ◌≡◌ {A = ℕ} (cond a (cond b 1 0) 0) (if a && b then 1 else 0)
both true b = refl
both false b = refl

pub times_affected : (t : Lists) (edit : Edit) → IsConsistent (with_edit_entered t edit) → (code : List ℕ) → count_by (λ listed. same_code listed code) (affected t edit) ≡ (if is_affected t edit code && is_kept (with_edit_entered t edit) code then 1 else 0)
times_affected t edit s code =
    times_filter (is_affected t edit) code (nodes_of (with_edit_entered t edit))
    ∙ ap (λ n. cond (is_affected t edit code) n 0) (times_nodes (with_edit_entered t edit) s code)
    ∙ both (is_affected t edit code) (is_kept (with_edit_entered t edit) code)
