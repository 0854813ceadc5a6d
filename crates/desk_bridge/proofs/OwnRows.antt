-- What a code has of its own, by its rows in the tables after the change.
use Rattle.std.proofs.Common.{◌≡◌, ℕ, ◌≤◌, ◌∷◌, [], true, List, length, Some, Ok, Err, Result, ap, IfOk, inl, inr, arith}
use Rattle.std.specs.Result.{OnOk}
use Rattle.std.proofs.lemmas.Bool.{cases_Bool}
use Rattle.desk_text.specs.Code.{same_code}
use Rattle.desk_model.specs.declared.limits.TheConstants.{CONTENT_LIMIT}
use Rattle.desk_model.specs.declared.rows.line.LineRow.{LineRow}
use Rattle.desk_model.specs.declared.rows.material.MaterialRow.{MaterialRow}
use Rattle.desk_model.specs.Forms.{is_material_row}
use Rattle.desk_model.specs.Lists.{Lists, material_row}
use Rattle.desk_model.proofs.Content.{content_parts, substance_parts}
use Rattle.desk_model.proofs.Elements.{each_from_all, each_map}
use Rattle.desk_model.proofs.Kept.{found_each}
use Rattle.desk_findings.specs.Reaches.{lines_of}
use Rattle.desk_history.specs.Sound.{IsConsistent}
use Rattle.desk_history.proofs.SoundClauses.{forms_of}
use Rattle.desk_tables.proofs.KeptForms.{content_of}

few_of : (code : List ℕ) (lines : List LineRow) → length (lines_of lines code) ≤ length lines
few_of code [] = omega arith
few_of code (line ∷ lines) =
    elim (cases_Bool (same_code line.parent code)) [
      | inl here ↦ rw here (omega (arith, few_of code lines))
      | inr away ↦ rw away (omega (arith, few_of code lines))
    ]

-- a part has no more lines than there are
pub few_lines : (t : Lists) (code : List ℕ) (lines : List LineRow) → lines ≡ lines_of t.lines code → length t.lines ≤ 131072 → length lines ≤ 131072
few_lines t code lines is few = omega (arith, ap length is, few_of code t.lines, few)

-- no material has more substances than a material may have
pub few_substances : (t : Lists) → IsConsistent t → (code : List ℕ) (row : MaterialRow) → material_row t code ≡ Some row → length row.substances ≤ CONTENT_LIMIT
few_substances t s code row e =
    (found_each (λ r. r.code) (λ r. length r.substances ≤ CONTENT_LIMIT) code t.materials row
    (each_map (λ r. is_material_row r ≡ true) (λ r. length r.substances ≤ CONTENT_LIMIT)
    (λ r form. (substance_parts r.substances (content_parts r.mass r.substances r.claims (content_of r form)).substances).fits) t.materials
    (each_from_all is_material_row t.materials (forms_of t s.in_form).materials)) e).0

-- what holds where a call is `Ok`
pub if_ok : {X E : Type 0} (P Q : X → Type 0) (r : Result X E) → IfOk r P → ((x : X) → P x → Q x) → IfOk r Q
if_ok P Q (Ok x) p f = f x p
if_ok P Q (Err e) p f = tt

pub when_ok : {X E P Q : Type 0} (r : Result X E) → OnOk r P → (P → Q) → OnOk r Q
when_ok (Ok x) p f = f p
when_ok (Err e) p f = tt
