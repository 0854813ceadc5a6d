-- A declaration of one material takes one more substance.
use Rattle.std.proofs.Common.{◌≡◌, ℕ, true, List, [], ◌∷◌, length, refl, ◌∙◌, None, Ok}
use Rattle.std.specs.Prelude.{nat_lt}
use Rattle.std.proofs.lemmas.Cmp.{tied_itself}
use Rattle.std.specs.Prelude.{codes}
use Rattle.desk_text.specs.Code.{code_cmp, code_of}
use Rattle.desk_rows.specs.Rows.{row_of, with_row}
use Rattle.desk_model.specs.Declaration.{Declared}
use Rattle.desk_model.specs.Declaring.{substance_added}
use Rattle.desk_model.specs.declared.substance_mass.SubstanceMass.{SubstanceMass}
use Rattle.desk_model.proofs.Kept.{code_cmp_total}
use Rattle.desk_sample.specs.Codes.{material_code}
use Rattle.desk_sample.specs.Sample.{cadmium, declaring, dehp, mass_held, lead, metals}

-- one that it doesn't hold yet, where there is room for it
pub added : (i : ℕ) (mass_held : List SubstanceMass) (new : SubstanceMass) → row_of (λ h. h.substance) code_cmp new.substance mass_held ≡ None → nat_lt (length mass_held) 64 ≡ true
    → substance_added (material_code i) new (declaring i mass_held) ≡ Ok (declaring i (with_row (λ h. h.substance) code_cmp new mass_held))
unfolding substance_added
added i mass_held new absent room = rw (tied_itself code_cmp_total (material_code i)) (rw absent (rw room (rw (tied_itself code_cmp_total (material_code i)) refl)))

-- lead is the first
pub lead_added : (i : ℕ) → substance_added (material_code i) (lead i) (declaring i []) ≡ Ok (declaring i (lead i ∷ []))
lead_added i = added i [] (lead i) refl refl

-- cadmium comes before it
pub cadmium_added : (i : ℕ) → substance_added (material_code i) (cadmium i) (declaring i (lead i ∷ [])) ≡ Ok (declaring i (metals i))
cadmium_added i = added i (lead i ∷ []) (cadmium i) refl refl

-- and DEHP between them
pub dehp_added : (i : ℕ) → substance_added (material_code i) (dehp i) (declaring i (metals i)) ≡ Ok (declaring i (cadmium i ∷ dehp i ∷ lead i ∷ []))
dehp_added i = added i (metals i) (dehp i) refl refl

-- the words of the substances are codes
pub lead_code : code_of (codes "lead") ≡ Ok (codes "lead")
unfolding code_of
lead_code = refl

pub cadmium_code : code_of (codes "cadmium") ≡ Ok (codes "cadmium")
unfolding code_of
cadmium_code = refl

pub dehp_code : code_of (codes "dehp") ≡ Ok (codes "dehp")
unfolding code_of
dehp_code = refl

-- a substance goes into a declaration where it goes into an equal one
pub same_fits : (code code' substance substance' : List ℕ) (mass : ℕ) (d d' made : Declared) → code ≡ code' → substance ≡ substance' → d ≡ d'
    → substance_added code' (mass_held substance' mass) d' ≡ Ok made → substance_added code (mass_held substance mass) d ≡ Ok made
same_fits code code' substance substance' mass d d' made e f g added = (λ i. substance_added (e i) (mass_held (f i) mass) (g i)) ∙ added
