-- Tables whose rows fit, which have few rows and good tickets, and whose bill is acyclic hold together and keep their limits.
use Rattle.std.proofs.Common.{◌≡◌, ◌≢◌, ℕ, true, false, List, Result, Ok, Err, refl, subst}
use Rattle.std.specs.Prelude.{IfErr, OnOk}
use Rattle.desk_model.specs.declared.table_name.TableName.{TableName}
use Rattle.desk_model.specs.declared.table_name.TableName.TheVariants.{Substances, Members, Materials, Parts, Lines, Products, Exemptions, Candidates, Shipments, Tickets}
use Rattle.desk_model.specs.Lists.{IsOrdered, Lists}
use Rattle.desk_model.proofs.Elements.{each_from_all}
use Rattle.desk_findings.specs.Bill.{is_acyclic}
use Rattle.desk_history.specs.Breaches.{is_number_once}
use Rattle.desk_history.specs.Fits.{DoRowsFit}
use Rattle.desk_history.specs.Limits.{is_overfull}
use Rattle.desk_history.specs.Sound.{IsConsistent, KeepsLimits, KeepsSums, Sound}
use Rattle.desk_history.proofs.FitRows.{consistent_if, lines_fit}
use Rattle.desk_history.proofs.Numbers.{are_numbers-once}
use Rattle.desk_history.proofs.TableLimits.{all_within}
use Rattle.desk_history.proofs.Unsound.{told}
use Rattle.desk_tables.specs.declared.sound_fault.SoundFault.{SoundFault}
use Rattle.desk_tables.specs.declared.sound_fault.SoundFault.TheVariants.{Unsound}
use Rattle.desk_tables.specs.Soundness.{AreTicketsGood, NamesBreach}

module _ (t : Lists) (fit : DoRowsFit t) (few : (table : TableName) → table ≢ Tickets → is_overfull t table ≡ false) (tickets : AreTicketsGood t) where
  none_overfull : (table : TableName) → is_overfull t table ≡ false
  none_overfull Substances = few Substances (λ e. cc)
  none_overfull Members = few Members (λ e. cc)
  none_overfull Materials = few Materials (λ e. cc)
  none_overfull Parts = few Parts (λ e. cc)
  none_overfull Lines = few Lines (λ e. cc)
  none_overfull Products = few Products (λ e. cc)
  none_overfull Exemptions = few Exemptions (λ e. cc)
  none_overfull Candidates = few Candidates (λ e. cc)
  none_overfull Shipments = few Shipments (λ e. cc)
  none_overfull Tickets = tickets.few

  limits : KeepsLimits t
  limits = record { tables_fit = all_within t none_overfull (lines_fit t fit); texts_fit = tickets.texts }

  pub consistent : IsOrdered t → is_acyclic t ≡ true → IsConsistent t
  consistent ordered acyclic =
      consistent_if t fit ordered acyclic (are_numbers-once t.tickets (each_from_all (λ ticket. is_number_once t.tickets ticket.number) t.tickets tickets.numbers)) tickets.edits

  -- with sums that are kept they are sound
  pub sound_if : {E : Type 0} → IsOrdered t → is_acyclic t ≡ true → (result : Result (Unit {0}) E) → OnOk result (KeepsSums t) → OnOk result (Sound t)
  sound_if ordered acyclic (Ok done) kept = record { consistent = consistent ordered acyclic; limits = limits; sums = kept }
  sound_if ordered acyclic (Err e) kept = tt

-- tables of which a row is told aren't sound
pub unsound_if : (t : Lists) (result : Result (Unit {0}) SoundFault) → IfErr result (NamesBreach t) → (table : ℕ) (key : List ℕ) → result ≡ Err (Unsound table key) → Sound t → ⊥
unsound_if t result is_told table key e sound = told t table key (subst (λ r. IfErr r (NamesBreach t)) e is_told) sound
