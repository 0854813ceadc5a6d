-- What it says that an edit meets no refusal.
use Rattle.std.proofs.Common.{◌≡◌, Bool, true, false, List, [], ◌∷◌, ◌++◌, Option, Some, None, refl}
use Rattle.std.specs.Prelude.{option_map}
use Rattle.std.specs.List.{AllByRecursion}
use Rattle.desk_model.specs.declared.edit.Edit.{Edit}
use Rattle.desk_model.specs.Lists.{Lists}
use Rattle.desk_model.specs.declared.rule_fault.RuleFault.{RuleFault}
use Rattle.desk_model.specs.declared.rule_fault.RuleFault.TheVariants.{TotalTooLarge, FindingsFull, YearTooLarge}
use Rattle.desk_model.specs.Effect.{with_edit_entered}
use Rattle.desk_findings.specs.Totals.{has_too_many_findings, too_heavy_part, too_heavy_year}
use Rattle.desk_history.specs.History.{IsAccepted, PassesRows}
use Rattle.desk_history.specs.Refused.{first_some, refuse_if, refused, refused_by_rows, refusals_of_bill, refusals_of_rows, ticket_reused, unknown_substance, unknown_material, unknown_part, unknown_product, unknown_exemption, name_taken, kind_changed, wrong_child, no_such_line, foreign_material, stale_declaration, masses_exceed, exemption_span, outside_annex, ship_below_zero, units_too_large, table_full, text_full, closes_cycle, total_too_large, findings_full, year_too_large}
use Rattle.desk_history.specs.Sound.{KeepsSums}

some_none : {X : Type 0} (x : X) {G : Type 0} → Some x ≡ None → G
some_none x e = cc

pub first_some-none : {X : Type 0} (os : List (Option X)) → first_some os ≡ None → AllByRecursion (λ o. o ≡ None) os
first_some-none [] e = tt
first_some-none (None ∷ os) e = (refl, first_some-none os e)
first_some-none (Some x ∷ os) e = some_none x e

pub first_some-all : {X : Type 0} (os : List (Option X)) → AllByRecursion (λ o. o ≡ None) os → first_some os ≡ None
first_some-all [] a = refl
first_some-all (None ∷ os) a = first_some-all os a.1
first_some-all (Some x ∷ os) a = some_none x a.0

-- the edit meets none of the refusals 1 to 20
pub record IsUnrefused (t : Lists) (edit : Edit) : Type 0 where
  pub ticket_reused : ticket_reused t edit ≡ None
  pub unknown_substance : unknown_substance t edit ≡ None
  pub unknown_material : unknown_material t edit ≡ None
  pub unknown_part : unknown_part t edit ≡ None
  pub unknown_product : unknown_product t edit ≡ None
  pub unknown_exemption : unknown_exemption t edit ≡ None
  pub name_taken : name_taken t edit ≡ None
  pub kind_changed : kind_changed t edit ≡ None
  pub wrong_child : wrong_child t edit ≡ None
  pub no_such_line : no_such_line t edit ≡ None
  pub foreign_material : foreign_material t edit ≡ None
  pub stale_declaration : stale_declaration t edit ≡ None
  pub masses_exceed : masses_exceed t edit ≡ None
  pub exemption_span : exemption_span t edit ≡ None
  pub outside_annex : outside_annex t edit ≡ None
  pub ship_below_zero : ship_below_zero t edit ≡ None
  pub units_too_large : units_too_large t edit ≡ None
  pub table_full : table_full t edit ≡ None
  pub text_full : text_full t edit ≡ None
  pub closes_cycle : closes_cycle t edit ≡ None

pub unrefused : (t : Lists) (edit : Edit) → PassesRows t edit → IsUnrefused t edit
unfolding refused_by_rows
unrefused t edit passed =
    let r1 = first_some-none (refusals_of_rows t edit) passed.by_rows in
    let r2 = r1.1 in
    let r3 = r2.1 in
    let r4 = r3.1 in
    let r5 = r4.1 in
    let r6 = r5.1 in
    let r7 = r6.1 in
    let r8 = r7.1 in
    let r9 = r8.1 in
    let r10 = r9.1 in
    let r11 = r10.1 in
    let r12 = r11.1 in
    let r13 = r12.1 in
    let r14 = r13.1 in
    let r15 = r14.1 in
    let r16 = r15.1 in
    let r17 = r16.1 in
    let r18 = r17.1 in
    let r19 = r18.1 in
    record {
      ticket_reused = r1.0;
      unknown_substance = r2.0;
      unknown_material = r3.0;
      unknown_part = r4.0;
      unknown_product = r5.0;
      unknown_exemption = r6.0;
      name_taken = r7.0;
      kind_changed = r8.0;
      wrong_child = r9.0;
      no_such_line = r10.0;
      foreign_material = r11.0;
      stale_declaration = r12.0;
      masses_exceed = r13.0;
      exemption_span = r14.0;
      outside_annex = r15.0;
      ship_below_zero = r16.0;
      units_too_large = r17.0;
      table_full = r18.0;
      text_full = r19.0;
      closes_cycle = passed.by_cycle;
    }

-- an edit that meets no refusal, by the refusals of rows and those of the bill
all_none : (t : Lists) (edit : Edit) → refused t edit ≡ None → AllByRecursion (λ o. o ≡ None) (refusals_of_rows t edit ++ refusals_of_bill t edit)
unfolding refused
all_none t edit e = first_some-none (refusals_of_rows t edit ++ refusals_of_bill t edit) e

both_none : {X : Type 0} (some others : List (Option X)) → AllByRecursion (λ o. o ≡ None) (some ++ others) → AllByRecursion (λ o. o ≡ None) some × AllByRecursion (λ o. o ≡ None) others
both_none [] others a = (tt, a)
both_none (o ∷ some) others a =
    let rest = both_none some others a.1 in
    ((a.0, rest.0), rest.1)

join_none : {X : Type 0} (some others : List (Option X)) → AllByRecursion (λ o. o ≡ None) some → AllByRecursion (λ o. o ≡ None) others → AllByRecursion (λ o. o ≡ None) (some ++ others)
join_none [] others a b = b
join_none (o ∷ some) others a b = (a.0, join_none some others a.1 b)

pub unreused : (t : Lists) (edit : Edit) → refused t edit ≡ None → ticket_reused t edit ≡ None
unreused t edit e = (all_none t edit e).0

pub passes : (t : Lists) (edit : Edit) → IsAccepted t edit → PassesRows t edit
unfolding refused_by_rows
passes t edit a =
    let split = both_none (refusals_of_rows t edit) (refusals_of_bill t edit) (all_none t edit a.is_unrefused) in
    record {
      in_form = a.in_form;
      is_new = a.is_new;
      by_rows = first_some-all (refusals_of_rows t edit) split.0;
      by_cycle = split.1.0;
    }

unmapped : {X : Type 0} (fault : X → RuleFault) (o : Option X) → option_map fault o ≡ None → o ≡ None
unmapped fault None e = refl
unmapped fault (Some x) e = some_none (fault x) e

unless_true : (test : Bool) (fault : RuleFault) → refuse_if test fault ≡ None → test ≡ false
unless_true true fault e = some_none fault e
unless_true false fault e = refl

-- the tables that an accepted edit leaves keep their sums
pub sums_of : (t : Lists) (edit : Edit) → IsAccepted t edit → KeepsSums (with_edit_entered t edit)
unfolding total_too_large findings_full year_too_large
sums_of t edit a =
    let bill = (both_none (refusals_of_rows t edit) (refusals_of_bill t edit) (all_none t edit a.is_unrefused)).1 in
    record {
      parts_fit = unmapped TotalTooLarge (too_heavy_part (with_edit_entered t edit)) bill.1.0;
      findings_fit = unless_true (has_too_many_findings (with_edit_entered t edit)) FindingsFull bill.1.1.0;
      years_fit = unmapped YearTooLarge (too_heavy_year (with_edit_entered t edit)) bill.1.1.1.0;
    }

-- and an edit that passes the rules of rows and cycles and leaves such tables is accepted
pub accepted_by_sums : (t : Lists) (edit : Edit) → PassesRows t edit → KeepsSums (with_edit_entered t edit) → IsAccepted t edit
unfolding refused refused_by_rows total_too_large findings_full year_too_large
accepted_by_sums t edit passed sums =
    let rows = first_some-none (refusals_of_rows t edit) passed.by_rows in
    record {
      in_form = passed.in_form;
      is_new = passed.is_new;
      is_unrefused =
          first_some-all (refusals_of_rows t edit ++ refusals_of_bill t edit)
          (join_none (refusals_of_rows t edit) (refusals_of_bill t edit) rows
          (passed.by_cycle, (rw sums.parts_fit refl, (rw sums.findings_fit refl, (rw sums.years_fit refl, tt)))));
    }
