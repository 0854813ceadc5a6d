-- An accepted edit keeps tables sound, and the start tables are sound.
use Rattle.std.proofs.Common.{◌≡◌, ℕ, true, false, List, [], ◌∷◌, Option, Some, None, refl}
use Rattle.std.specs.Prelude.{option_map}
use Rattle.std.specs.List.Sorted.{IsStrictlySortedBy}
use Rattle.desk_text.specs.Code.{code_cmp}
use Rattle.desk_law.specs.Rule.{rule_code, rule_number}
use Rattle.desk_rows.proofs.Edits.{IsByKey-with_row}
use Rattle.desk_rows.proofs.Lookups.{each_with_row}
use Rattle.desk_model.specs.declared.edit.Edit.{Edit}
use Rattle.desk_model.specs.declared.edit.Edit.TheVariants.{Substance, Member, Declare, Part, Line, Unline, Product, Exemption, Unexempt, Candidate, Ship, Unship}
use Rattle.desk_model.specs.declared.rule_fault.RuleFault.{RuleFault}
use Rattle.desk_model.specs.declared.rule_fault.RuleFault.TheVariants.{TableFull}
use Rattle.desk_model.specs.Effect.{with_edit_entered, with_edit_made}
use Rattle.desk_findings.specs.Findings.{finding_count}
use Rattle.desk_model.specs.Forms.{is_edit_in_form}
use Rattle.desk_history.specs.History.{AreAccepted, IsAccepted, PassesRows, tables_after}
use Rattle.desk_model.specs.Lists.{Lists}
use Rattle.desk_findings.specs.Reaches.{reaches_within}
use Rattle.desk_history.specs.Refused.{first_of, refused, table_full, text_full}
use Rattle.desk_history.specs.Sound.{IsConsistent, IsTicketOfEdit, KeepsLimits, Sound, are_names_kept}
use Rattle.desk_model.specs.Start.{start}
use Rattle.desk_history.specs.Step.{kept_number, step}
use Rattle.desk_findings.specs.Totals.{has_too_many_findings, too_heavy_part, too_heavy_year}
use Rattle.desk_history.specs.Limits.{has_too_much_text, tables_over}
use Rattle.desk_history.proofs.SoundClauses.{IsGood, forms_from, good_of, names_from}
use Rattle.desk_model.proofs.Kept.{code_cmp_total}
use Rattle.desk_history.proofs.MadeRows.{good-candidate, good-exemption, good-member, good-product, good-ship, good-substance, good-unexempt, good-unship, refuse_if-none}
use Rattle.desk_history.proofs.MadeBill.{good-line, good-part, good-unline}
use Rattle.desk_history.proofs.MadeDeclared.{good-declare}
use Rattle.desk_history.proofs.Rules.{IsUnrefused, passes, sums_of, unrefused}
use Rattle.desk_history.proofs.StartForms.{start_in_form}
use Rattle.desk_history.proofs.Steps.{are_numbers-entered, step-accepted, step-kept, step-refused, ticket_of, tickets_entered}

-- each of the twelve edits, made, keeps the clauses on rows, names, codes and cycles
good-made : (t : Lists) → IsGood t → (edit : Edit) → is_edit_in_form edit ≡ true → IsUnrefused t edit → IsGood (with_edit_made t edit)
good-made t g (Substance ticket code name cas) form u = good-substance t g ticket code name cas form
good-made t g (Member ticket substance rule factor) form u = good-member t g ticket substance rule factor form u
good-made t g (Declare declaration) form u = good-declare t g declaration form u
good-made t g (Part ticket code sort name) form u = good-part t g ticket code name sort form u
good-made t g (Line ticket parent child count) form u = good-line t g ticket parent child count form u
good-made t g (Unline ticket parent child) form u = good-unline t g ticket parent child
good-made t g (Product ticket part kind) form u = good-product t g ticket part kind form u
good-made t g (Exemption ticket exemption) form u = good-exemption t g ticket exemption form u
good-made t g (Unexempt ticket row) form u = good-unexempt t g ticket row
good-made t g (Candidate ticket substance day) form u = good-candidate t g ticket substance day form u
good-made t g (Ship ticket product year units) form u = good-ship t g ticket product year units form u
good-made t g (Unship ticket product year units) form u = good-unship t g ticket product year units form u

none_first : (tables : List ℕ) → option_map TableFull (first_of tables) ≡ None → tables ≡ []
none_first [] e = refl
none_first (table ∷ tables) e = some_none (TableFull table) e
  where
    some_none : (x : RuleFault) {G : Type 0} → Some x ≡ None → G
    some_none x h = cc

-- the clauses that refusals 18, 19 and 21 to 23 look after
tables_fit : (t : Lists) (edit : Edit) → table_full t edit ≡ None → tables_over (with_edit_entered t edit) ≡ []
unfolding table_full
tables_fit t edit e = none_first (tables_over (with_edit_entered t edit)) e

texts_fit : (t : Lists) (edit : Edit) → text_full t edit ≡ None → has_too_much_text (with_edit_entered t edit) ≡ false
unfolding text_full
texts_fit t edit e = refuse_if-none (has_too_much_text (with_edit_entered t edit)) _ e

good-entered : (t : Lists) (edit : Edit) → IsGood (with_edit_made t edit) → IsGood (with_edit_entered t edit)
unfolding with_edit_entered
good-entered t edit g = record {
  ordered = record {
    substances = g.ordered.substances;
    members = g.ordered.members;
    materials = g.ordered.materials;
    parts = g.ordered.parts;
    lines = g.ordered.lines;
    products = g.ordered.products;
    exemptions = g.ordered.exemptions;
    candidates = g.ordered.candidates;
    shipments = g.ordered.shipments;
  };
  forms = record {
    substances = g.forms.substances;
    members = g.forms.members;
    materials = g.forms.materials;
    parts = g.forms.parts;
    lines = g.forms.lines;
    products = g.forms.products;
    exemptions = g.forms.exemptions;
    candidates = g.forms.candidates;
    shipments = g.forms.shipments;
  };
  names = record {
    members = g.names.members;
    materials = g.names.materials;
    lines = g.names.lines;
    products = g.names.products;
    candidates = g.names.candidates;
    shipments = g.names.shipments;
  };
  apart = g.apart;
  masses = g.masses;
  exemptions = g.exemptions;
  acyclic = g.acyclic;
}

-- an edit that passes the refusals 1 to 20 leaves tables that hold together and keep their limits
pub IsConsistent-entered : (t : Lists) (edit : Edit) → IsConsistent t → PassesRows t edit → IsConsistent (with_edit_entered t edit)
IsConsistent-entered t edit s passed =
    let u = unrefused t edit passed in
    let g = good-entered t edit (good-made t (good_of t s) edit passed.in_form u) in
    record {
      ordered = record {
        substances = g.ordered.substances;
        members = g.ordered.members;
        materials = g.ordered.materials;
        parts = g.ordered.parts;
        lines = g.ordered.lines;
        products = g.ordered.products;
        exemptions = g.ordered.exemptions;
        candidates = g.ordered.candidates;
        shipments = g.ordered.shipments;
        tickets = rw (tickets_entered t edit) (IsByKey-with_row (λ row. row.code) code_cmp code_cmp_total (ticket_of t edit) t.tickets s.ordered.tickets);
      };
      in_form = forms_from (with_edit_entered t edit) g.forms;
      names_kept = names_from (with_edit_entered t edit) g.names;
      codes_apart = g.apart;
      contents_fit = g.masses;
      exemptions_fit = g.exemptions;
      acyclic = g.acyclic;
      numbered = are_numbers-entered t edit passed.is_new u.ticket_reused s.numbered;
      tickets_of_edits = rw (tickets_entered t edit) (each_with_row (λ row. row.code) code_cmp IsTicketOfEdit (ticket_of t edit) t.tickets (edit, passed.in_form, refl, refl) s.tickets_of_edits);
    }

pub KeepsLimits-entered : (t : Lists) (edit : Edit) → PassesRows t edit → KeepsLimits (with_edit_entered t edit)
KeepsLimits-entered t edit passed =
    let u = unrefused t edit passed in
    record { tables_fit = tables_fit t edit u.table_full; texts_fit = texts_fit t edit u.text_full }

-- an accepted edit keeps tables sound
pub Sound-entered : (t : Lists) (edit : Edit) → Sound t → IsAccepted t edit → Sound (with_edit_entered t edit)
Sound-entered t edit s a =
    let passed = passes t edit a in
    record { consistent = IsConsistent-entered t edit s.consistent passed; limits = KeepsLimits-entered t edit passed; sums = sums_of t edit a }

step_sound : (t : Lists) (edit : Edit) (has : Option ℕ) (rule : Option RuleFault) → kept_number t edit ≡ has → refused t edit ≡ rule → Sound t → is_edit_in_form edit ≡ true → Sound (step t edit).1
step_sound t edit (Some number) rule e f s form = rw (step-kept t edit number e) s
step_sound t edit None (Some fault) e f s form = rw (step-refused t edit fault e f) s
step_sound t edit None None e f s form = rw (step-accepted t edit e f) (Sound-entered t edit s (record { in_form = form; is_new = e; is_unrefused = f }))

-- a step keeps tables sound
pub Sound-step : (t : Lists) (edit : Edit) → Sound t → is_edit_in_form edit ≡ true → Sound (step t edit).1
Sound-step t edit s form = step_sound t edit (kept_number t edit) (refused t edit) refl refl s form

-- the start tables hold together, and are sound
pub IsConsistent-start : IsConsistent start
unfolding IsStrictlySortedBy rule_code rule_number are_names_kept reaches_within start
IsConsistent-start = record {
  ordered = record {
    substances = search;
    members = search;
    materials = tt;
    parts = tt;
    lines = tt;
    products = tt;
    exemptions = tt;
    candidates = tt;
    shipments = tt;
    tickets = tt;
  };
  in_form = start_in_form;
  names_kept = refl;
  codes_apart = refl;
  contents_fit = refl;
  exemptions_fit = refl;
  acyclic = refl;
  numbered = refl;
  tickets_of_edits = tt;
}

pub Sound-start : Sound start
unfolding finding_count start has_too_many_findings has_too_much_text tables_over too_heavy_part too_heavy_year
Sound-start = record {
  consistent = IsConsistent-start;
  limits = record { tables_fit = refl; texts_fit = refl };
  sums = record { parts_fit = refl; findings_fit = refl; years_fit = refl };
}

-- and so does each history
pub Sound-tables_after : (t : Lists) (edits : List Edit) → Sound t → AreAccepted t edits → Sound (tables_after t edits)
Sound-tables_after t [] s accepted = s
Sound-tables_after t (edit ∷ edits) s accepted = Sound-tables_after (step t edit).1 edits (Sound-step t edit s accepted.0.in_form) accepted.1
