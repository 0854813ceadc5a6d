-- The tables that an edit doesn't touch.
use Rattle.std.proofs.Common.{◌≡◌, ℕ, zero, suc, ◌+◌, ◌-◌, false, List, refl}
use Rattle.std.proofs.lemmas.Bool.{true≢false}
use Rattle.desk_law.specs.declared.rule.Rule.{Rule}
use Rattle.desk_model.specs.declared.edit.Edit.{Edit}
use Rattle.desk_model.specs.declared.edit.Edit.TheVariants.{Substance, Member, Declare, Part, Line, Unline, Product, Exemption, Unexempt, Candidate, Ship, Unship}
use Rattle.desk_model.specs.Effect.{with_edit_entered, with_edit_made, units_of, with_factor, with_units}
use Rattle.desk_model.specs.Lists.{Lists}
use Rattle.desk_history.specs.Rising.{changes_shipments}

-- tables that have the same materials and lines
pub record SameBill (t u : Lists) : Type 0 where
  pub materials : u.materials ≡ t.materials
  pub lines : u.lines ≡ t.lines

module _ (t : Lists) where
  units_leave : (year : ℕ) (product : List ℕ) (units : ℕ) → SameBill t (with_units t year product units)
  units_leave year product zero = record { materials = refl; lines = refl }
  units_leave year product (suc fewer) = record { materials = refl; lines = refl }

  factor_leaves : (substance : List ℕ) (rule : Rule) (factor : ℕ) → SameBill t (with_factor t substance rule factor)
  factor_leaves substance rule zero = record { materials = refl; lines = refl }
  factor_leaves substance rule (suc fewer) = record { materials = refl; lines = refl }

  units_leave_parts : (year : ℕ) (product : List ℕ) (units : ℕ) → (with_units t year product units).parts ≡ t.parts
  units_leave_parts year product zero = refl
  units_leave_parts year product (suc fewer) = refl

  factor_leaves_parts : (substance : List ℕ) (rule : Rule) (factor : ℕ) → (with_factor t substance rule factor).parts ≡ t.parts
  factor_leaves_parts substance rule zero = refl
  factor_leaves_parts substance rule (suc fewer) = refl

  factor_leaves_shipments : (substance : List ℕ) (rule : Rule) (factor : ℕ) → (with_factor t substance rule factor).shipments ≡ t.shipments
  factor_leaves_shipments substance rule zero = refl
  factor_leaves_shipments substance rule (suc fewer) = refl

  of_made : (edit : Edit) → SameBill t (with_edit_made t edit) → SameBill t (with_edit_entered t edit)
  unfolding with_edit_entered
  of_made edit h = record { materials = h.materials; lines = h.lines }

  pub ship_leaves : (ticket product : List ℕ) (year units : ℕ) → SameBill t (with_edit_entered t (Ship ticket product year units))
  unfolding with_edit_made
  ship_leaves ticket product year units = of_made (Ship ticket product year units) (units_leave year product (units_of t year product + units))

  pub unship_leaves : (ticket product : List ℕ) (year units : ℕ) → SameBill t (with_edit_entered t (Unship ticket product year units))
  unfolding with_edit_made
  unship_leaves ticket product year units = of_made (Unship ticket product year units) (units_leave year product (units_of t year product - units))

  pub member_leaves : (ticket substance : List ℕ) (rule : Rule) (factor : ℕ) → SameBill t (with_edit_entered t (Member ticket substance rule factor))
  unfolding with_edit_made
  member_leaves ticket substance rule factor = of_made (Member ticket substance rule factor) (factor_leaves substance rule factor)

  pub parts_of_ship : (ticket product : List ℕ) (year units : ℕ) → (with_edit_entered t (Ship ticket product year units)).parts ≡ t.parts
  unfolding with_edit_entered with_edit_made
  parts_of_ship ticket product year units = units_leave_parts year product (units_of t year product + units)

  pub parts_of_unship : (ticket product : List ℕ) (year units : ℕ) → (with_edit_entered t (Unship ticket product year units)).parts ≡ t.parts
  unfolding with_edit_entered with_edit_made
  parts_of_unship ticket product year units = units_leave_parts year product (units_of t year product - units)

  pub parts_of_member : (ticket substance : List ℕ) (rule : Rule) (factor : ℕ) → (with_edit_entered t (Member ticket substance rule factor)).parts ≡ t.parts
  unfolding with_edit_entered with_edit_made
  parts_of_member ticket substance rule factor = factor_leaves_parts substance rule factor

  -- edits that ship nothing leave the shipments
  pub same_shipments : (edit : Edit) → changes_shipments edit ≡ false → (with_edit_entered t edit).shipments ≡ t.shipments
  unfolding with_edit_entered with_edit_made
  same_shipments (Substance ticket code name cas) e = refl
  same_shipments (Member ticket substance rule factor) e = factor_leaves_shipments substance rule factor
  same_shipments (Declare declaration) e = refl
  same_shipments (Part ticket code sort name) e = refl
  same_shipments (Line ticket parent child count) e = refl
  same_shipments (Unline ticket parent child) e = refl
  same_shipments (Product ticket part kind) e = refl
  same_shipments (Exemption ticket exemption) e = refl
  same_shipments (Unexempt ticket row) e = refl
  same_shipments (Candidate ticket substance day) e = refl
  same_shipments (Ship ticket product year units) e = absurd (true≢false e)
  same_shipments (Unship ticket product year units) e = absurd (true≢false e)
