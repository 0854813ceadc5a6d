-- Codes that an accepted edit doesn't affect stay as they were.
use Rattle.std.proofs.Common.{◌≡◌, ℕ, zero, suc, ◌+◌, ◌-◌, Bool, true, false, ◌||◌, List, [], ◌∷◌, Some, is_some, inl, inr, refl, sym, ap, ◌∙◌, subst}
use Rattle.std.specs.Prelude.{if◌then◌else◌}
use Rattle.std.specs.List.{list_any}
use Rattle.std.proofs.lemmas.Bool.{both_ways, cases_Bool, or_parts}
use Rattle.desk_text.specs.Code.{code_cmp, same_code}
use Rattle.desk_rows.specs.Rows.{row_of}
use Rattle.desk_rows.proofs.Lookups.{row_of-with_row, row_of-with_row_other}
use Rattle.desk_model.specs.declared.part_sort.PartSort.{PartSort}
use Rattle.desk_history.proofs.Untouched.{parts_of_member, parts_of_ship, parts_of_unship}
use Rattle.desk_model.specs.declared.edit.Edit.{Edit}
use Rattle.desk_model.specs.declared.edit.Edit.TheVariants.{Substance, Member, Declare, Part, Line, Unline, Product, Exemption, Unexempt, Candidate, Ship, Unship}
use Rattle.desk_findings.specs.Above.{is_candidate}
use Rattle.desk_history.specs.Affected.{is_affected, seeds_of_new}
use Rattle.desk_findings.specs.Carried.{carried, own_load}
use Rattle.desk_findings.specs.Chain.{chain}
use Rattle.desk_model.specs.Effect.{with_edit_entered, with_edit_made, units_of, with_units}
use Rattle.desk_findings.specs.Findings.{findings, own_findings}
use Rattle.desk_history.specs.History.{PassesRows}
use Rattle.desk_law.specs.declared.rule.Rule.{Rule}
use Rattle.desk_model.specs.declared.rows.material.MaterialRow.{MaterialRow}
use Rattle.desk_model.specs.Lists.{Lists, is_kept, is_material, is_part, material_row}
use Rattle.desk_findings.specs.Mass.{mass, own_mass}
use Rattle.desk_findings.specs.Reaches.{is_or_reaches, lines_of, reaches}
use Rattle.desk_findings.specs.Share.{share}
use Rattle.desk_history.specs.Laws.{Stays}
use Rattle.desk_history.specs.Sound.{IsConsistent}
use Rattle.desk_history.proofs.Affects.{IsFree, agrees-candidate, agrees-declare, agrees-line, agrees-member, agrees-part, agrees-unline, agrees_plain}
use Rattle.desk_history.proofs.SoundClauses.{bill_of, good_of}
use Rattle.desk_model.proofs.Kept.{code_cmp_total, found_each, same_code-from, same_code-true}
use Rattle.desk_findings.proofs.AgreeingTables.{Agrees, same_carried, same_chain, same_findings, same_load, same_mass, same_own_findings, same_own_mass, same_reached}
use Rattle.desk_history.proofs.MadeBill.{kind_kept}
use Rattle.desk_history.proofs.Rules.{unrefused}
use Rattle.desk_history.proofs.SoundSteps.{IsConsistent-entered}

-- shipments change nothing that rolls up
shipped : (t : Lists) (edit : Edit) (year : ℕ) (product : List ℕ) (units : ℕ) → IsConsistent (with_edit_entered t edit) → (with_edit_made t edit) ≡ with_units t year product units → Agrees t (with_edit_entered t edit) (IsFree (with_edit_entered t edit) [])
unfolding with_edit_entered
shipped t edit year product units r is =
    agrees_plain t (with_edit_entered t edit) r []
    (ap (λ v. v.lines) is ∙ lines units) (ap (λ v. v.parts) is ∙ parts units) (ap (λ v. v.materials) is ∙ materials units) (ap (λ v. v.members) is ∙ members units) (ap (λ v. v.candidates) is ∙ candidates units)
  where
    lines : (n : ℕ) → (with_units t year product n).lines ≡ t.lines
    lines zero = refl
    lines (suc n) = refl

    parts : (n : ℕ) → (with_units t year product n).parts ≡ t.parts
    parts zero = refl
    parts (suc n) = refl

    materials : (n : ℕ) → (with_units t year product n).materials ≡ t.materials
    materials zero = refl
    materials (suc n) = refl

    members : (n : ℕ) → (with_units t year product n).members ≡ t.members
    members zero = refl
    members (suc n) = refl

    candidates : (n : ℕ) → (with_units t year product n).candidates ≡ t.candidates
    candidates zero = refl
    candidates (suc n) = refl

made-ship : (t : Lists) (ticket product : List ℕ) (year units : ℕ) → with_edit_made t (Ship ticket product year units) ≡ with_units t year product (units_of t year product + units)
unfolding with_edit_made
made-ship t ticket product year units = refl

made-unship : (t : Lists) (ticket product : List ℕ) (year units : ℕ) → with_edit_made t (Unship ticket product year units) ≡ with_units t year product (units_of t year product - units)
unfolding with_edit_made
made-unship t ticket product year units = refl

-- the tables before and after an accepted edit agree on the codes that are free of its seeds
agrees : (t : Lists) (s : IsConsistent t) (edit : Edit) → PassesRows t edit → IsConsistent (with_edit_entered t edit) → Agrees t (with_edit_entered t edit) (IsFree (with_edit_entered t edit) (seeds_of_new t edit))
unfolding seeds_of_new with_edit_entered with_edit_made
agrees t s (Substance ticket code name cas) a r = agrees_plain t (with_edit_entered t (Substance ticket code name cas)) r [] refl refl refl refl refl
agrees t s (Member ticket substance rule factor) a r = agrees-member t ticket substance rule factor r
agrees t s (Declare declaration) a r = agrees-declare t declaration r
agrees t s (Part ticket code sort name) a r =
    agrees-part t s ticket code name sort r (kind_kept t (good_of t s) ticket code name sort (unrefused t (Part ticket code sort name) a).kind_changed) (is_part t code) refl
agrees t s (Line ticket parent child count) a r = agrees-line t ticket parent child count r
agrees t s (Unline ticket parent child) a r = agrees-unline t ticket parent child r
agrees t s (Product ticket part kind) a r = agrees_plain t (with_edit_entered t (Product ticket part kind)) r [] refl refl refl refl refl
agrees t s (Exemption ticket exemption) a r = agrees_plain t (with_edit_entered t (Exemption ticket exemption)) r [] refl refl refl refl refl
agrees t s (Unexempt ticket row) a r = agrees_plain t (with_edit_entered t (Unexempt ticket row)) r [] refl refl refl refl refl
agrees t s (Candidate ticket substance day) a r = agrees-candidate t s ticket substance day r (is_candidate t substance) refl
agrees t s (Ship ticket product year units) a r = shipped t (Ship ticket product year units) year product (units_of t year product + units) r (made-ship t ticket product year units)
agrees t s (Unship ticket product year units) a r = shipped t (Unship ticket product year units) year product (units_of t year product - units) r (made-unship t ticket product year units)

-- an unaffected code is free of the seeds
free_of : (t : Lists) (edit : Edit) → PassesRows t edit → (code : List ℕ) → is_affected t edit code ≡ false → IsFree (with_edit_entered t edit) (seeds_of_new t edit) code
unfolding is_affected
free_of t edit a code e =
    sym (ap (λ o. list_any (λ seed. is_or_reaches (with_edit_entered t edit) code seed) (if is_some o then [] else seeds_of_new t edit)) a.is_new) ∙ e

-- another part is kept as it was: a new one is a seed
part_other : (t : Lists) (ticket code name : List ℕ) (sort : PartSort) (other : List ℕ) → same_code code other ≡ false → is_part (with_edit_entered t (Part ticket code sort name)) other ≡ is_part t other
unfolding with_edit_entered with_edit_made
part_other t ticket code name sort other e = ap is_some (row_of-with_row_other (λ row. row.code) code_cmp code_cmp_total (record { code = code; sort = sort; name = name }) other t.parts e)

part_itself : (t : Lists) (ticket code name : List ℕ) (sort : PartSort) → is_part (with_edit_entered t (Part ticket code sort name)) code ≡ true
unfolding with_edit_entered with_edit_made
part_itself t ticket code name sort = ap is_some (row_of-with_row (λ row. row.code) code_cmp code_cmp_total (record { code = code; sort = sort; name = name }) t.parts)

part_free : (t : Lists) (ticket code name : List ℕ) (sort : PartSort) (other : List ℕ) (kept : Bool) → is_part t code ≡ kept → IsFree (with_edit_entered t (Part ticket code sort name)) (if kept then [] else code ∷ []) other → is_part (with_edit_entered t (Part ticket code sort name)) other ≡ is_part t other
part_free t ticket code name sort other kept e free =
    elim (cases_Bool (same_code code other)) [
      | inl same ↦
          let is = same_code-true code other same in
          subst (λ c. is_part (with_edit_entered t (Part ticket code sort name)) c ≡ is_part t c) is (part_itself t ticket code name sort ∙ sym (was kept e free is))
      | inr differs ↦ part_other t ticket code name sort other differs
    ]
  where
    was : (kept : Bool) → is_part t code ≡ kept → IsFree (with_edit_entered t (Part ticket code sort name)) (if kept then [] else code ∷ []) other → code ≡ other → is_part t code ≡ true
    was true e free is = e
    was false e free is =
        absurd (both_ways (same_code other code) (or_parts (same_code other code) (reaches (with_edit_entered t (Part ticket code sort name)) other code) (or_parts (is_or_reaches (with_edit_entered t (Part ticket code sort name)) other code) false free).0).0 (same_code-from other code (sym is)))

-- the parts that are free of the seeds
parts_free : (t : Lists) (edit : Edit) (code : List ℕ) → IsFree (with_edit_entered t edit) (seeds_of_new t edit) code → is_part (with_edit_entered t edit) code ≡ is_part t code
unfolding seeds_of_new with_edit_entered with_edit_made
parts_free t (Substance ticket substance name cas) code free = refl
parts_free t (Member ticket substance rule factor) code free = ap (λ rows. is_some (row_of (λ row. row.code) code_cmp code rows)) (parts_of_member t ticket substance rule factor)
parts_free t (Declare declaration) code free = refl
parts_free t (Part ticket part sort name) code free = part_free t ticket part name sort code (is_part t part) refl free
parts_free t (Line ticket parent child count) code free = refl
parts_free t (Unline ticket parent child) code free = refl
parts_free t (Product ticket part kind) code free = refl
parts_free t (Exemption ticket exemption) code free = refl
parts_free t (Unexempt ticket row) code free = refl
parts_free t (Candidate ticket substance day) code free = refl
parts_free t (Ship ticket product year units) code free = ap (λ rows. is_some (row_of (λ row. row.code) code_cmp code rows)) (parts_of_ship t ticket product year units)
parts_free t (Unship ticket product year units) code free = ap (λ rows. is_some (row_of (λ row. row.code) code_cmp code rows)) (parts_of_unship t ticket product year units)

module _ (t : Lists) (s : IsConsistent t) (edit : Edit) (a : PassesRows t edit) (code : List ℕ) (unaffected : is_affected t edit code ≡ false) where
  consistent_after : IsConsistent (with_edit_entered t edit)
  consistent_after = IsConsistent-entered t edit s a

  both_agree : Agrees t (with_edit_entered t edit) (IsFree (with_edit_entered t edit) (seeds_of_new t edit))
  both_agree = agrees t s edit a consistent_after

  pub mass_stays : mass (with_edit_entered t edit) code ≡ mass t code
  mass_stays = same_mass t (with_edit_entered t edit) (bill_of t s) (bill_of (with_edit_entered t edit) consistent_after) (IsFree (with_edit_entered t edit) (seeds_of_new t edit)) both_agree code (free_of t edit a code unaffected)

  pub reached_stays : (target : List ℕ) → reaches (with_edit_entered t edit) code target ≡ reaches t code target
  reached_stays target = same_reached t (with_edit_entered t edit) (bill_of t s) (bill_of (with_edit_entered t edit) consistent_after) (IsFree (with_edit_entered t edit) (seeds_of_new t edit)) both_agree target code (free_of t edit a code unaffected)

  pub chain_stays : (target : List ℕ) → chain (with_edit_entered t edit) code target ≡ chain t code target
  chain_stays target = same_chain t (with_edit_entered t edit) (bill_of t s) (bill_of (with_edit_entered t edit) consistent_after) (IsFree (with_edit_entered t edit) (seeds_of_new t edit)) both_agree target code (free_of t edit a code unaffected)

  pub carried_stays : (substance : List ℕ) → carried (with_edit_entered t edit) substance code ≡ carried t substance code
  carried_stays substance = same_carried t (with_edit_entered t edit) (bill_of t s) (bill_of (with_edit_entered t edit) consistent_after) (IsFree (with_edit_entered t edit) (seeds_of_new t edit)) both_agree substance code (free_of t edit a code unaffected)

  pub findings_stay : findings (with_edit_entered t edit) code ≡ findings t code
  findings_stay = same_findings t (with_edit_entered t edit) (bill_of t s) (bill_of (with_edit_entered t edit) consistent_after) (IsFree (with_edit_entered t edit) (seeds_of_new t edit)) both_agree code (free_of t edit a code unaffected)

  pub own_mass_stays : own_mass (with_edit_entered t edit) code ≡ own_mass t code
  own_mass_stays = same_own_mass t (with_edit_entered t edit) (bill_of t s) (bill_of (with_edit_entered t edit) consistent_after) (IsFree (with_edit_entered t edit) (seeds_of_new t edit)) both_agree code (free_of t edit a code unaffected)

  pub own_load_stays : (substance : List ℕ) → own_load (with_edit_entered t edit) substance code ≡ own_load t substance code
  own_load_stays substance = same_load t (with_edit_entered t edit) (bill_of t s) (bill_of (with_edit_entered t edit) consistent_after) (IsFree (with_edit_entered t edit) (seeds_of_new t edit)) both_agree substance code (free_of t edit a code unaffected)

  pub own_findings_stay : own_findings (with_edit_entered t edit) code ≡ own_findings t code
  own_findings_stay = same_own_findings t (with_edit_entered t edit) (bill_of t s) (bill_of (with_edit_entered t edit) consistent_after) (IsFree (with_edit_entered t edit) (seeds_of_new t edit)) both_agree code (free_of t edit a code unaffected)

  pub lines_stay : lines_of (with_edit_entered t edit).lines code ≡ lines_of t.lines code
  lines_stay = both_agree.lines code (free_of t edit a code unaffected)

  pub material_stays : material_row (with_edit_entered t edit) code ≡ material_row t code
  material_stays = both_agree.materials code (free_of t edit a code unaffected)

  pub kept_stays : is_kept (with_edit_entered t edit) code ≡ is_kept t code
  kept_stays =
      ap (λ o. is_some o || is_part (with_edit_entered t edit) code) material_stays
      ∙ ap (λ b. is_material t code || b) (parts_free t edit code (free_of t edit a code unaffected))

  pub share_stays : (material : MaterialRow) → material_row t code ≡ Some material → (rule : Rule) → share (with_edit_entered t edit) rule material ≡ share t rule material
  share_stays material found rule =
      let is =
      found_each (λ row. row.code)
      (λ row. IsFree (with_edit_entered t edit) (seeds_of_new t edit) row.code → (rule : Rule) → share (with_edit_entered t edit) rule row ≡ share t rule row)
      code t.materials material both_agree.shares found in
      is.0 (subst (λ c. IsFree (with_edit_entered t edit) (seeds_of_new t edit) c) (sym is.1) (free_of t edit a code unaffected)) rule

pub stays : (t : Lists) → IsConsistent t → (edit : Edit) → PassesRows t edit → (code : List ℕ) → is_affected t edit code ≡ false → Stays t edit code
stays t s edit a code unaffected = record {
  masses = mass_stays t s edit a code unaffected;
  reached = reached_stays t s edit a code unaffected;
  chains = chain_stays t s edit a code unaffected;
  loads = carried_stays t s edit a code unaffected;
  found = findings_stay t s edit a code unaffected;
  own_masses = own_mass_stays t s edit a code unaffected;
  own_loads = own_load_stays t s edit a code unaffected;
  own_found = own_findings_stay t s edit a code unaffected;
  lines = lines_stay t s edit a code unaffected;
  material = material_stays t s edit a code unaffected;
  kept = kept_stays t s edit a code unaffected;
  shares = share_stays t s edit a code unaffected;
}
