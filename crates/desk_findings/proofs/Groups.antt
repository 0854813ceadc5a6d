-- The rows of a part, of a year and of a substance each stand together.
use Rattle.std.proofs.Common.{◌≡◌, ℕ, Bool, List, filter, refl, sym, ap, subst, Ordering, Less, Equal, Greater, is_eq, inl, inr, arith}
use Rattle.std.specs.Prelude.{◌==◌}
use Rattle.std.specs.Ordering.{nat_cmp, ordering_then}
use Rattle.std.specs.Cmp.{nat_cmp_is}
use Rattle.std.proofs.lemmas.Bool.{cases_order, eq-eqb, ne_eqb}
use Rattle.std.proofs.lemmas.Cmp.{nat_cmp_total}
use Rattle.desk_text.specs.Code.{code_cmp}
use Rattle.desk_rows.specs.Runs.{IsOneRun}
use Rattle.desk_rows.proofs.Runs.{filter_is_one_run}
use Rattle.desk_law.specs.Rule.{rule_number}
use Rattle.desk_model.specs.Lists.{IsOrdered, Lists, line_key, line_key_cmp, member_key, member_key_cmp, shipment_key, shipment_key_cmp}
use Rattle.desk_model.proofs.Kept.{code_cmp_total, line_key_cmp_total, member_key_cmp_total, shipment_key_cmp_total}
use Rattle.desk_findings.specs.Reaches.{lines_of}
use Rattle.desk_findings.specs.Share.{members_of}
use Rattle.desk_findings.specs.Tonnage.{shipments_in}

-- of two orders in turn, a greater first makes no lesser whole
first_decides : (first second : Ordering) → ordering_then first second ≡ Less → first ≡ Greater → ⊥
first_decides Less second e f = cc
first_decides Equal second e f = cc
first_decides Greater second e f = cc

pub lines_together : (t : Lists) → IsOrdered t → (part : List ℕ) → IsOneRun (λ line. line.parent) code_cmp part t.lines (lines_of t.lines part)
lines_together t o part =
    filter_is_one_run line_key line_key_cmp line_key_cmp_total (λ line. line.parent) code_cmp code_cmp_total
    (λ first later. first_decides (code_cmp first.parent later.parent) (code_cmp first.child later.child)) part t.lines o.lines

pub members_together : (t : Lists) → IsOrdered t → (substance : List ℕ) → IsOneRun (λ member. member.substance) code_cmp substance t.members (members_of t substance)
members_together t o substance =
    filter_is_one_run member_key member_key_cmp member_key_cmp_total (λ member. member.substance) code_cmp code_cmp_total
    (λ first later. first_decides (code_cmp first.substance later.substance) (nat_cmp (rule_number first.rule) (rule_number later.rule))) substance t.members o.members

pub same_number : (a b : ℕ) → is_eq (nat_cmp a b) ≡ (a == b)
same_number a b =
    elim (cases_order a b) [
      | inl same ↦ rw (sym (nat_cmp_is a b Equal same), eq-eqb a b same) refl
      | inr (inl less) ↦ rw (sym (nat_cmp_is a b Less less), ne_eqb a b (omega (arith, less))) refl
      | inr (inr more) ↦ rw (sym (nat_cmp_is a b Greater more), ne_eqb a b (omega (arith, more))) refl
    ]

filter_same : {X : Type 0} (p q : X → Bool) (xs : List X) → ((x : X) → p x ≡ q x) → filter p xs ≡ filter q xs
filter_same p q xs f = ap (λ test. filter test xs) (λ i x. f x i)

pub shipments_together : (t : Lists) → IsOrdered t → (year : ℕ) → IsOneRun (λ shipment. shipment.year) nat_cmp year t.shipments (shipments_in t year)
shipments_together t o year =
    subst (IsOneRun (λ shipment. shipment.year) nat_cmp year t.shipments)
    (filter_same (λ shipment. is_eq (nat_cmp shipment.year year)) (λ shipment. shipment.year == year) t.shipments (λ shipment. same_number shipment.year year))
    (filter_is_one_run shipment_key shipment_key_cmp shipment_key_cmp_total (λ shipment. shipment.year) nat_cmp nat_cmp_total
    (λ first later. first_decides (nat_cmp first.year later.year) (code_cmp first.product later.product)) year t.shipments o.shipments)
