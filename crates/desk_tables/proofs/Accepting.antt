-- From the rules on the bill to the whole judgement of an edit.
use Rattle.std.proofs.Common.{◌≡◌, true, false, ◌||◌, [], ◌∷◌, Option, Some, None, Result, Ok, Err, IfOk, IfSome, ℕ, refl, sym, ap, ◌∙◌, subst}
use Rattle.std.specs.Prelude.{IfErr}
use Rattle.std.specs.List.{AllByRecursion}
use Rattle.std.proofs.lemmas.Bool.{or_parts}
use Rattle.desk_text.specs.Code.{code_cmp}
use Rattle.desk_text.specs.declared.OutOfMemory.{OutOfMemory}
use Rattle.desk_rows.specs.Rows.{IsByKey}
use Rattle.desk_model.specs.declared.edit.Edit.{Edit}
use Rattle.desk_model.specs.declared.rows.ticket.TicketRow.{TicketRow}
use Rattle.desk_model.specs.declared.rule_fault.RuleFault.{RuleFault}
use Rattle.desk_model.specs.Effect.{with_edit_entered, with_edit_made, next_number}
use Rattle.desk_model.specs.Lists.{Lists}
use Rattle.desk_findings.specs.Above.{content, is_above}
use Rattle.desk_findings.specs.Share.{share}
use Rattle.desk_findings.specs.Findings.{finding_count, findings}
use Rattle.desk_findings.specs.Totals.{has_too_many_findings, too_heavy_part, too_heavy_year}
use Rattle.desk_history.specs.History.{PassesRows}
use Rattle.desk_history.specs.Refused.{closes_cycle, findings_full, first_some, refused, refused_by_bill, refused_by_rows, refusals_of_bill, refusals_of_rows, total_too_large, year_too_large}
use Rattle.desk_history.specs.Rising.{may_add_findings, may_raise_masses, may_raise_years}
use Rattle.desk_history.specs.Sound.{IsConsistent, IsTicketOfEdit, Sound, are_names_kept, are_numbers, are_rows_in_form}
use Rattle.desk_history.specs.Step.{kept_number, step}
use Rattle.desk_history.proofs.FindingSums.{findings_fit}
use Rattle.desk_history.proofs.Masses.{masses_fit}
use Rattle.desk_history.proofs.SoundSteps.{IsConsistent-entered}
use Rattle.desk_history.proofs.Years.{years_fit}
use Rattle.desk_tables.specs.Change.{with_change_made}
use Rattle.desk_tables.specs.Desk.{Desk}
use Rattle.desk_tables.specs.Judged.{IsRefusal, IsRowsFault, IsRowsPlan, PassesLimits, answer_by}
use Rattle.desk_tables.specs.declared.edit_fault.EditFault.{EditFault}
use Rattle.desk_tables.specs.declared.edit_fault.EditFault.TheVariants as edit_fault
use Rattle.desk_tables.specs.Plan.{CanCommit, IsPlan, plan_number, tables_planned}
use Rattle.desk_tables.specs.Sums.{may_raise_sums, refusals_of_sums}
use Rattle.desk_tables.specs.declared.plan.TablesPlan.{TablesPlan}
use Rattle.desk_tables.specs.declared.plan.TablesPlan.TheVariants as plan
use Rattle.desk_tables.specs.declared.row_change.RowChange.{RowChange}
use Rattle.desk_tables.proofs.Tickets.{tickets_stay}
use Rattle.desk_tables.proofs.Judging.{first_behind, first_in_front}

-- an edit that isn't kept and meets none of the refusals 1 to 19 is refused by the others alone
module _ (t : Lists) (edit : Edit) (new : kept_number t edit ≡ None) (rows : refused_by_rows t edit ≡ None) where
  by_bill : refused t edit ≡ refused_by_bill t edit
  unfolding refused refused_by_rows refused_by_bill
  by_bill = first_behind (refusals_of_rows t edit) (refusals_of_bill t edit) rows

  pub bill_refuses : (fault : RuleFault) → refused_by_bill t edit ≡ Some fault → (step t edit).0 ≡ Err fault
  unfolding step
  bill_refuses fault e = rw (new, by_bill ∙ e) refl

  pub bill_lets_pass : refused_by_bill t edit ≡ None → step t edit ≡ (Ok (next_number t), with_edit_entered t edit)
  unfolding step
  bill_lets_pass e = rw (new, by_bill ∙ e) refl

pub rows_refuse : (t : Lists) (edit : Edit) (fault : RuleFault) → kept_number t edit ≡ None → refused_by_rows t edit ≡ Some fault → (step t edit).0 ≡ Err fault
unfolding step refused refused_by_rows
rows_refuse t edit fault new e =
    let all = first_in_front (refusals_of_rows t edit) (refusals_of_bill t edit) fault e in
    rw (new, all) refl

pub kept_step : (t : Lists) (edit : Edit) (number : ℕ) → kept_number t edit ≡ Some number → step t edit ≡ (Ok number, t)
unfolding step
kept_step t edit number e = rw e refl

-- the plan of an edit that is kept is its plan
pub kept_plan : (desk : Desk) (edit : Edit) (all : TablesPlan) (number : ℕ) → all ≡ plan.Kept number → IsRowsPlan desk edit all → IsPlan desk edit all
unfolding IsRowsPlan plan_number tables_planned CanCommit
kept_plan desk edit all number e h = subst (IsPlan desk edit) (sym e) (kept_step desk.lists edit number (subst (IsRowsPlan desk edit) e h), tt)

pub limits_of : (desk : Desk) (edit : Edit) (all : TablesPlan) (change : RowChange) (ticket : TicketRow) (room : Option ℕ) → all ≡ plan.New change ticket room → IsRowsPlan desk edit all → PassesLimits desk edit change ticket room
unfolding IsRowsPlan
limits_of desk edit all change ticket room e h = subst (IsRowsPlan desk edit) e h

-- the plan of a new edit that no rule on the bill refuses is its plan
pub new_plan : (desk : Desk) (edit : Edit) (all : TablesPlan) (change : RowChange) (ticket : TicketRow) (room : Option ℕ) → all ≡ plan.New change ticket room → IsRowsPlan desk edit all → refused_by_bill desk.lists edit ≡ None → IsPlan desk edit all
unfolding plan_number tables_planned CanCommit
new_plan desk edit all change ticket room e h passed =
    let limits = limits_of desk edit all change ticket room e h in
    subst (IsPlan desk edit) (sym e) (
      bill_lets_pass desk.lists edit limits.new limits.unrefused passed
          ∙ ap (λ number. (Ok number, with_edit_entered desk.lists edit)) (sym limits.number)
          ∙ ap (λ lists. (Ok ticket.number, lists)) (sym limits.leaves),
      limits.can_enter,
    )

-- where an edit closes no cycle, the rules on sums decide
pub bill_by_sums : (t : Lists) (edit : Edit) → closes_cycle t edit ≡ None → refused_by_bill t edit ≡ first_some (total_too_large t edit ∷ findings_full t edit ∷ year_too_large t edit ∷ [])
unfolding refused_by_bill
bill_by_sums t edit none = ap (λ fault. first_some (fault ∷ total_too_large t edit ∷ findings_full t edit ∷ year_too_large t edit ∷ [])) none

-- the tables with the rows of an edit that passes the refusals 1 to 20, before its ticket is entered
module _ (t : Lists) (edit : Edit) (s : Sound t) (passed : PassesRows t edit) where
  pub consistent_made : (after : Lists) → after ≡ with_edit_made t edit → after.tickets ≡ t.tickets → IsConsistent after
  unfolding with_edit_entered are_rows_in_form are_names_kept
  consistent_made after e same =
      let whole = IsConsistent-entered t edit s.consistent passed in
      let tickets : (with_edit_made t edit).tickets ≡ t.tickets = ap (λ lists. lists.tickets) (sym e) ∙ same in
      subst IsConsistent (sym e)
      (record {
        ordered = record {
          substances = whole.ordered.substances;
          members = whole.ordered.members;
          materials = whole.ordered.materials;
          parts = whole.ordered.parts;
          lines = whole.ordered.lines;
          products = whole.ordered.products;
          exemptions = whole.ordered.exemptions;
          candidates = whole.ordered.candidates;
          shipments = whole.ordered.shipments;
          tickets = subst (IsByKey (λ row. row.code) code_cmp) (sym tickets) s.consistent.ordered.tickets;
        };
        in_form = whole.in_form;
        names_kept = whole.names_kept;
        codes_apart = whole.codes_apart;
        contents_fit = whole.contents_fit;
        exemptions_fit = whole.exemptions_fit;
        acyclic = whole.acyclic;
        numbered = subst (λ rows. are_numbers rows ≡ true) (sym tickets) s.consistent.numbered;
        tickets_of_edits = subst (AllByRecursion IsTicketOfEdit) (sym tickets) s.consistent.tickets_of_edits;
      })

  pub sums_made : (after : Lists) → after ≡ with_edit_made t edit → refusals_of_sums after ≡ total_too_large t edit ∷ findings_full t edit ∷ year_too_large t edit ∷ []
  unfolding total_too_large findings_full year_too_large with_edit_entered too_heavy_part has_too_many_findings too_heavy_year finding_count findings share content is_above
  sums_made after e = ap refusals_of_sums e

  pub consistent_before_ticket : (change : RowChange) → with_change_made t change ≡ with_edit_made t edit → IsConsistent (with_change_made t change)
  consistent_before_ticket change e = consistent_made (with_change_made t change) e (tickets_stay t change)

  pub sums_after : (change : RowChange) → with_change_made t change ≡ with_edit_made t edit → refusals_of_sums (with_change_made t change) ≡ total_too_large t edit ∷ findings_full t edit ∷ year_too_large t edit ∷ []
  sums_after change e = sums_made (with_change_made t change) e

  pub none_rise : may_raise_sums edit ≡ false → first_some (total_too_large t edit ∷ findings_full t edit ∷ year_too_large t edit ∷ []) ≡ None
  none_rise e =
      let outer = or_parts (may_raise_masses edit || may_add_findings edit) (may_raise_years edit) e in
      let inner = or_parts (may_raise_masses edit) (may_add_findings edit) outer.0 in
      rw (masses_fit t s.consistent s.sums.parts_fit edit passed inner.0) (rw (findings_fit t s.consistent s.sums.findings_fit edit passed inner.1) (rw (years_fit t s.consistent s.sums.years_fit edit passed outer.1) refl))

-- what the judge of the bill answers, where memory isn't wanting
pub fault_of : (t : Lists) (edit : Edit) → kept_number t edit ≡ None → refused_by_rows t edit ≡ None → (answer : Result (Option RuleFault) OutOfMemory) → IfOk answer (λ fault. fault ≡ refused_by_bill t edit) → IfOk answer (λ fault. IfSome fault (λ fault. (step t edit).0 ≡ Err fault))
fault_of t edit new rows (Err memory) h = tt
fault_of t edit new rows (Ok None) h = tt
fault_of t edit new rows (Ok (Some fault)) h = bill_refuses t edit new rows fault (sym h)

pub plan_of : (desk : Desk) (edit : Edit) (all : TablesPlan) (change : RowChange) (ticket : TicketRow) (room : Option ℕ) → all ≡ plan.New change ticket room → IsRowsPlan desk edit all → (answer : Result (Option RuleFault) OutOfMemory) → IfOk answer (λ fault. fault ≡ refused_by_bill desk.lists edit) → IfOk answer (λ fault. fault ≡ None → IsPlan desk edit all)
plan_of desk edit all change ticket room e h (Err memory) answer = tt
plan_of desk edit all change ticket room e h (Ok fault) answer = λ none. new_plan desk edit all change ticket room e h (sym answer ∙ none)

-- a refusal among 1 to 19 is the first of all
pub refusal_of : (t : Lists) (edit : Edit) (fault : EditFault) → IsRowsFault t edit fault → IsRefusal t edit fault
unfolding IsRowsFault IsRefusal
refusal_of t edit (edit_fault.Rule fault) h = rows_refuse t edit fault h.0 h.1
refusal_of t edit edit_fault.OutOfMemory h = tt

-- what is answered to an edit whose plan passes the rules on the bill, or doesn't
pub planned_so : (desk : Desk) (edit : Edit) (all : TablesPlan) (fault : Option RuleFault) (r : Result TablesPlan EditFault) → r ≡ answer_by all fault → (fault ≡ None → IsPlan desk edit all) → IfOk r (λ given. IsPlan desk edit given)
planned_so desk edit all None r e is = subst (λ answer. IfOk answer (λ given. IsPlan desk edit given)) (sym e) (is refl)
planned_so desk edit all (Some fault) r e is = subst (λ answer. IfOk answer (λ given. IsPlan desk edit given)) (sym e) tt

pub refused_so : (t : Lists) (edit : Edit) (all : TablesPlan) (fault : Option RuleFault) (r : Result TablesPlan EditFault) → r ≡ answer_by all fault → IfSome fault (λ f. (step t edit).0 ≡ Err f) → IfErr r (λ told. IsRefusal t edit told)
unfolding IsRefusal
refused_so t edit all None r e is = subst (λ answer. IfErr answer (λ told. IsRefusal t edit told)) (sym e) tt
refused_so t edit all (Some fault) r e is = subst (λ answer. IfErr answer (λ told. IsRefusal t edit told)) (sym e) is
