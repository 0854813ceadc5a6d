-- What edits of shipments find and leave.
use Rattle.std.proofs.Common.{◌≡◌, ℕ, ◌+◌, ◌≤◌, true, false, ◌&&◌, List, refl, sym, subst, arith}
use Rattle.std.specs.Prelude.{nat_le, nat_lt}
use Rattle.std.proofs.lemmas.Bool.{and_parts, leb-true, ltb-false}
use Rattle.desk_model.specs.declared.edit.Edit.{Edit}
use Rattle.desk_model.specs.declared.edit.Edit.TheVariants.{Substance, Member, Declare, Part, Line, Unline, Product, Exemption, Unexempt, Candidate, Ship, Unship}
use Rattle.desk_model.specs.declared.limits.TheConstants.{UNITS_LIMIT}
use Rattle.desk_model.specs.Effect.{with_edit_entered}
use Rattle.desk_model.specs.Effect as effect
use Rattle.desk_model.specs.Forms.{are_units, is_edit_in_form, is_year}
use Rattle.desk_model.specs.Lists.{Lists, is_kept, is_product}
use Rattle.desk_model.specs.Values.{is_code}
use Rattle.desk_findings.specs.Mass.{mass}
use Rattle.desk_history.specs.History.{PassesRows}
use Rattle.desk_history.specs.Refused.{ship_below_zero, units_too_large, unknown_product}
use Rattle.desk_history.specs.Rising.{changes_shipments}
use Rattle.desk_history.specs.Sound.{Sound}
use Rattle.desk_history.proofs.MadeRows.{refuse_if-none, refuse_unless}
use Rattle.desk_history.proofs.Rules.{unrefused}
use Rattle.desk_tonnage.specs.declared.entry.Entry.{Entry}
use Rattle.desk_tonnage.specs.Edits.{HasMass, with_entry_units, without_entry_units}
use Rattle.desk_tonnage.specs.Entries.{entry_units}
use Rattle.desk_bridge.specs.Years.{entries_of}
use Rattle.desk_bridge.proofs.Years.{shipped, taken_off, units, weighs}
use Rattle.desk_engine.specs.declared.shipping.Shipping.TheVariants as shipping
use Rattle.desk_engine.specs.Years.{shipping_of}
use Rattle.desk_engine.proofs.Weights.{product_kept}

-- units of a product that is kept may be added, each of its mass, and then the entries of the shipments are those with them
pub record IsAdded (t : Lists) (edit : Edit) (year : ℕ) (product : List ℕ) (more : ℕ) (entries : List Entry) : Type 0 where
  pub some : 1 ≤ more
  pub fits : entry_units year product entries + more ≤ 1000000000000
  pub kept : is_kept t product ≡ true
  pub weighs : HasMass year product (mass t product) entries
  pub after : entries_of (with_edit_entered t edit) ≡ with_entry_units year product more (mass t product) entries

-- units may be taken off, and then the entries of the shipments are those without them
pub record IsTaken (t : Lists) (edit : Edit) (year : ℕ) (product : List ℕ) (fewer : ℕ) (entries : List Entry) : Type 0 where
  pub enough : fewer ≤ entry_units year product entries
  pub after : entries_of (with_edit_entered t edit) ≡ without_entry_units year product fewer entries

module _ (t : Lists) (s : Sound t) where
  shipped_form : (ticket product : List ℕ) (year more : ℕ) → is_edit_in_form (Ship ticket product year more) ≡ true → 1 ≤ more
  unfolding is_edit_in_form
  shipped_form ticket product year more form = leb-true 1 more (and_parts (nat_le 1 more) (nat_le more UNITS_LIMIT) (and_parts (is_code ticket && is_code product && is_year year) (are_units more) form).1).0

  shipped_fits : (ticket product : List ℕ) (year more : ℕ) → PassesRows t (Ship ticket product year more) → effect.units_of t year product + more ≤ 1000000000000
  unfolding units_too_large
  shipped_fits ticket product year more passes =
      ltb-false UNITS_LIMIT (effect.units_of t year product + more) (refuse_if-none (nat_lt UNITS_LIMIT (effect.units_of t year product + more)) _ (unrefused t (Ship ticket product year more) passes).units_too_large)

  shipped_kept : (ticket product : List ℕ) (year more : ℕ) → PassesRows t (Ship ticket product year more) → is_kept t product ≡ true
  unfolding unknown_product
  shipped_kept ticket product year more passes = product_kept t s.consistent product (refuse_unless (is_product t product) _ (unrefused t (Ship ticket product year more) passes).unknown_product)

  added : (ticket product : List ℕ) (year more : ℕ) → PassesRows t (Ship ticket product year more) → IsAdded t (Ship ticket product year more) year product more (entries_of t)
  added ticket product year more passes = record {
    some = shipped_form ticket product year more passes.in_form;
    fits = omega (arith, units t year product, shipped_fits ticket product year more passes);
    kept = shipped_kept ticket product year more passes;
    weighs = weighs t year product;
    after = shipped t s.consistent ticket product year more passes;
  }

  taken_enough : (ticket product : List ℕ) (year fewer : ℕ) → PassesRows t (Unship ticket product year fewer) → fewer ≤ effect.units_of t year product
  unfolding ship_below_zero
  taken_enough ticket product year fewer passes =
      ltb-false (effect.units_of t year product) fewer (refuse_if-none (nat_lt (effect.units_of t year product) fewer) _ (unrefused t (Unship ticket product year fewer) passes).ship_below_zero)

  taken : (ticket product : List ℕ) (year fewer : ℕ) → PassesRows t (Unship ticket product year fewer) → IsTaken t (Unship ticket product year fewer) year product fewer (entries_of t)
  taken ticket product year fewer passes = record {
    enough = omega (arith, units t year product, taken_enough ticket product year fewer passes);
    after = taken_off t s.consistent ticket product year fewer passes;
  }

  added_as : (edit : Edit) (y year : ℕ) (p product : List ℕ) (u more : ℕ) → shipping.Adds y p u ≡ shipping.Adds year product more → IsAdded t edit y p u (entries_of t) → IsAdded t edit year product more (entries_of t)
  added_as edit y year p product u more e is = subst (λ m. IsAdded t edit year product m (entries_of t)) (same_units e) (subst (λ c. IsAdded t edit year c u (entries_of t)) (same_product e) (subst (λ n. IsAdded t edit n p u (entries_of t)) (same_year e) is))
    where
      same_year : {a b : ℕ} {c d : List ℕ} {m n : ℕ} → shipping.Adds a c m ≡ shipping.Adds b d n → a ≡ b
      same_year h = cc

      same_product : {a b : ℕ} {c d : List ℕ} {m n : ℕ} → shipping.Adds a c m ≡ shipping.Adds b d n → c ≡ d
      same_product h = cc

      same_units : {a b : ℕ} {c d : List ℕ} {m n : ℕ} → shipping.Adds a c m ≡ shipping.Adds b d n → m ≡ n
      same_units h = cc

  taken_as : (edit : Edit) (y year : ℕ) (p product : List ℕ) (u fewer : ℕ) → shipping.Takes y p u ≡ shipping.Takes year product fewer → IsTaken t edit y p u (entries_of t) → IsTaken t edit year product fewer (entries_of t)
  taken_as edit y year p product u fewer e is = subst (λ m. IsTaken t edit year product m (entries_of t)) (same_units e) (subst (λ c. IsTaken t edit year c u (entries_of t)) (same_product e) (subst (λ n. IsTaken t edit n p u (entries_of t)) (same_year e) is))
    where
      same_year : {a b : ℕ} {c d : List ℕ} {m n : ℕ} → shipping.Takes a c m ≡ shipping.Takes b d n → a ≡ b
      same_year h = cc

      same_product : {a b : ℕ} {c d : List ℕ} {m n : ℕ} → shipping.Takes a c m ≡ shipping.Takes b d n → c ≡ d
      same_product h = cc

      same_units : {a b : ℕ} {c d : List ℕ} {m n : ℕ} → shipping.Takes a c m ≡ shipping.Takes b d n → m ≡ n
      same_units h = cc

  -- by what an edit does to the shipments
  adds_of : (edit : Edit) (year : ℕ) (product : List ℕ) (more : ℕ) → shipping_of edit ≡ shipping.Adds year product more → PassesRows t edit → IsAdded t edit year product more (entries_of t)
  unfolding shipping_of
  adds_of (Ship ticket p y u) year product more e passes = added_as (Ship ticket p y u) y year p product u more e (added ticket p y u passes)
  adds_of (Unship ticket p y u) year product more e passes = cc
  adds_of (Substance ticket code name cas) year product more e passes = cc
  adds_of (Member ticket code rule factor) year product more e passes = cc
  adds_of (Declare declaration) year product more e passes = cc
  adds_of (Part ticket code sort name) year product more e passes = cc
  adds_of (Line ticket parent child count) year product more e passes = cc
  adds_of (Unline ticket parent child) year product more e passes = cc
  adds_of (Product ticket part kind) year product more e passes = cc
  adds_of (Exemption ticket exemption) year product more e passes = cc
  adds_of (Unexempt ticket row) year product more e passes = cc
  adds_of (Candidate ticket substance day) year product more e passes = cc

  takes_of : (edit : Edit) (year : ℕ) (product : List ℕ) (fewer : ℕ) → shipping_of edit ≡ shipping.Takes year product fewer → PassesRows t edit → IsTaken t edit year product fewer (entries_of t)
  unfolding shipping_of
  takes_of (Unship ticket p y u) year product fewer e passes = taken_as (Unship ticket p y u) y year p product u fewer e (taken ticket p y u passes)
  takes_of (Ship ticket p y u) year product fewer e passes = cc
  takes_of (Substance ticket code name cas) year product fewer e passes = cc
  takes_of (Member ticket code rule factor) year product fewer e passes = cc
  takes_of (Declare declaration) year product fewer e passes = cc
  takes_of (Part ticket code sort name) year product fewer e passes = cc
  takes_of (Line ticket parent child count) year product fewer e passes = cc
  takes_of (Unline ticket parent child) year product fewer e passes = cc
  takes_of (Product ticket part kind) year product fewer e passes = cc
  takes_of (Exemption ticket exemption) year product fewer e passes = cc
  takes_of (Unexempt ticket row) year product fewer e passes = cc
  takes_of (Candidate ticket substance day) year product fewer e passes = cc

  pub adds_units : (edit : Edit) (year : ℕ) (product : List ℕ) (more : ℕ) → shipping_of edit ≡ shipping.Adds year product more → PassesRows t edit → (entries : List Entry) → entries ≡ entries_of t → IsAdded t edit year product more entries
  adds_units edit year product more e passes entries is = subst (IsAdded t edit year product more) (sym is) (adds_of edit year product more e passes)

  pub takes_units : (edit : Edit) (year : ℕ) (product : List ℕ) (fewer : ℕ) → shipping_of edit ≡ shipping.Takes year product fewer → PassesRows t edit → (entries : List Entry) → entries ≡ entries_of t → IsTaken t edit year product fewer entries
  takes_units edit year product fewer e passes entries is = subst (IsTaken t edit year product fewer) (sym is) (takes_of edit year product fewer e passes)

pub leaves_shipments : (edit : Edit) → shipping_of edit ≡ shipping.Leaves → changes_shipments edit ≡ false
unfolding shipping_of
leaves_shipments (Ship ticket product year more) e = cc
leaves_shipments (Unship ticket product year fewer) e = cc
leaves_shipments (Substance ticket code name cas) e = refl
leaves_shipments (Member ticket code rule factor) e = refl
leaves_shipments (Declare declaration) e = refl
leaves_shipments (Part ticket code sort name) e = refl
leaves_shipments (Line ticket parent child count) e = refl
leaves_shipments (Unline ticket parent child) e = refl
leaves_shipments (Product ticket part kind) e = refl
leaves_shipments (Exemption ticket exemption) e = refl
leaves_shipments (Unexempt ticket row) e = refl
leaves_shipments (Candidate ticket substance day) e = refl

pub adds_change : (edit : Edit) (year : ℕ) (product : List ℕ) (more : ℕ) → shipping_of edit ≡ shipping.Adds year product more → changes_shipments edit ≡ true
unfolding shipping_of
adds_change (Ship ticket p y u) year product more e = refl
adds_change (Unship ticket p y u) year product more e = refl
adds_change (Substance ticket code name cas) year product more e = cc
adds_change (Member ticket code rule factor) year product more e = cc
adds_change (Declare declaration) year product more e = cc
adds_change (Part ticket code sort name) year product more e = cc
adds_change (Line ticket parent child count) year product more e = cc
adds_change (Unline ticket parent child) year product more e = cc
adds_change (Product ticket part kind) year product more e = cc
adds_change (Exemption ticket exemption) year product more e = cc
adds_change (Unexempt ticket row) year product more e = cc
adds_change (Candidate ticket substance day) year product more e = cc
