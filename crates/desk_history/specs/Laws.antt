-- Laws of the definitions. Each is the contract of a function without a body in `src/laws.rt`, so that the check proves it.
use Rattle.std.specs.Prelude.{◌≡◌, ℕ, ◌+◌, ◌*◌, ◌≤◌, true, false, not, ◌&&◌, ◌==◌, ◌⊎◌, List, ◌∷◌, ◌++◌, Some, None, Ok, Err, count_by, if◌then◌else◌}
use Rattle.std.specs.List.{AllByRecursion, list_all}
use Rattle.desk_text.specs.Code.{same_code}
use Rattle.desk_law.specs.declared.rule.Rule.{Rule}
use Rattle.desk_model.specs.declared.edit.Edit.{Edit}
use Rattle.desk_model.specs.declared.edit.Edit.TheVariants.{Ship, Unship}
use Rattle.desk_model.specs.declared.rows.material.MaterialRow.{MaterialRow}
use Rattle.desk_model.specs.declared.rule_fault.RuleFault.{RuleFault}
use Rattle.desk_model.specs.EditText.{ticket_code}
use Rattle.desk_model.specs.Effect.{with_edit_entered, next_number}
use Rattle.desk_model.specs.Forms.{is_edit_in_form}
use Rattle.desk_model.specs.Lists.{IsOrdered, Lists, is_kept, material_row, number_at, ticket_row}
use Rattle.desk_model.specs.Start.{start}
use Rattle.desk_findings.specs.Carried.{carried, own_load}
use Rattle.desk_findings.specs.Chain.{chain}
use Rattle.desk_findings.specs.Findings.{findings, own_findings}
use Rattle.desk_findings.specs.Mass.{mass, own_mass}
use Rattle.desk_findings.specs.Reaches.{lines_of, reaches}
use Rattle.desk_findings.specs.Share.{share}
use Rattle.desk_findings.specs.Tonnage.{shipments_in}
use Rattle.desk_findings.specs.Totals.{year_mass}
use Rattle.desk_history.specs.Affected.{affected, is_affected}
use Rattle.desk_history.specs.Breaches.{IsBrokenAt, IsDecided}
use Rattle.desk_history.specs.History.{Begins, History, IsAccepted, IsHistory, PassesRows, after, number_of, tables_after, up_to}
use Rattle.desk_history.specs.Refused.{findings_full, refused, total_too_large, year_too_large}
use Rattle.desk_history.specs.Rising.{changes_shipments, may_add_findings, may_raise_masses, may_raise_years}
use Rattle.desk_history.specs.Sound.{IsConsistent, KeepsLimits, KeepsSums, Sound, are_numbers}
use Rattle.desk_history.specs.Step.{kept_number, step}

-- a refused edit changes nothing; neither does one that is kept, which gets its number
pub record OnlyNewEditsChange : Type 0 where
  pub refused : (t : Lists) (edit : Edit) (fault : RuleFault) → (step t edit).0 ≡ Err fault → (step t edit).1 ≡ t
  pub kept : (t : Lists) (edit : Edit) (number : ℕ) → kept_number t edit ≡ Some number → step t edit ≡ (Ok number, t)

-- an edit that isn't kept is refused by the first refusal that it meets, with that refusal's values, and by nothing else
pub record RefusalsAreTold : Type 0 where
  pub told : (t : Lists) (edit : Edit) (fault : RuleFault) → kept_number t edit ≡ None → refused t edit ≡ Some fault → step t edit ≡ (Err fault, t)
  pub is_new : (t : Lists) (edit : Edit) (fault : RuleFault) → (step t edit).0 ≡ Err fault → kept_number t edit ≡ None
  pub cause : (t : Lists) (edit : Edit) (fault : RuleFault) → (step t edit).0 ≡ Err fault → refused t edit ≡ Some fault

-- an accepted edit gets the next number, is kept with it from then on, and adds one ticket
pub record AcceptedEditsAreKept : Type 0 where
  pub answer : (t : Lists) (edit : Edit) → IsAccepted t edit → step t edit ≡ (Ok (next_number t), with_edit_entered t edit)
  pub kept : (t : Lists) (edit : Edit) → kept_number (with_edit_entered t edit) edit ≡ Some (next_number t)
  pub one_ticket : (t : Lists) (edit : Edit) → IsAccepted t edit → number_at (with_edit_entered t edit) ≡ number_at t + 1
  pub stays : (t : Lists) (kept other : Edit) (number : ℕ) → kept_number t kept ≡ Some number → kept_number (step t other).1 kept ≡ Some number

-- each edit of a history is entered once: the tables that the edits before it leave have no ticket of its code, and those at the end keep
-- it with the number that it got
pub record EditsAreEnteredOnce : Type 0 where
  pub fresh : (history : History) (before rest : List Edit) (edit : Edit) → IsHistory history → history.edits ≡ before ++ edit ∷ rest
      → ticket_row (tables_after history.opening before) (ticket_code edit) ≡ None
  pub kept : (history : History) (before rest : List Edit) (edit : Edit) → IsHistory history → history.edits ≡ before ++ edit ∷ rest
      → kept_number (after history) edit ≡ Some (next_number (tables_after history.opening before))

-- ticket numbers stay 1 to n, each once
abbrev pub NumbersStayWhole : Type 0
NumbersStayWhole = (t : Lists) (edit : Edit) → are_numbers t.tickets ≡ true → are_numbers (step t edit).1.tickets ≡ true

-- each number of a history, from that of its opening tables on, names one beginning of it and no other, which is a history of
-- that number
pub record NumbersNamePrefixes : Type 0 where
  pub number : (history : History) (n : ℕ) → IsHistory history → number_at history.opening ≤ n → n ≤ number_of history → number_of (up_to history n) ≡ n
  pub history : (history : History) (n : ℕ) → IsHistory history → IsHistory (up_to history n)
  pub begins : (history : History) (n : ℕ) → Begins (up_to history n) history
  pub only : (history part : History) → IsHistory part → Begins part history → part.edits ≡ (up_to history (number_of part)).edits

-- histories are ordered by which begins which, and their numbers with them: a beginning has no greater number, of two numbers the smaller
-- names a beginning of what the other names, and a number names the same beginning of every longer history
pub record BeginningsAreNumbered : Type 0 where
  pub itself : (history : History) → Begins history history
  pub onward : (first second third : History) → Begins first second → Begins second third → Begins first third
  pub opening : (history : History) → IsHistory history → number_at history.opening ≤ number_of history
  pub number : (part history : History) → IsHistory part → IsHistory history → Begins part history → number_of part ≤ number_of history
  pub all : (history : History) → IsHistory history → up_to history (number_of history) ≡ history
  pub smaller : (history : History) (m n : ℕ) → m ≤ n → Begins (up_to history m) (up_to history n)
  pub longer : (part history : History) (n : ℕ) → IsHistory part → IsHistory history → Begins part history → number_at part.opening ≤ n → n ≤ number_of part
      → up_to history n ≡ up_to part n

-- the start tables hold together, and an edit that passes the refusals 1 to 20 leaves tables that do: what is left to be seen is
-- whether they keep their sums. An accepted edit passes these rules
pub record TablesStayConsistent : Type 0 where
  pub start : IsConsistent start
  pub passed : (t : Lists) (edit : Edit) → IsConsistent t → PassesRows t edit → IsConsistent (with_edit_entered t edit)
  pub limits : (t : Lists) (edit : Edit) → PassesRows t edit → KeepsLimits (with_edit_entered t edit)
  pub accepted : (t : Lists) (edit : Edit) → IsAccepted t edit → PassesRows t edit

-- an edit that passes the refusals 1 to 20 is accepted exactly where the tables that it leaves keep their sums
pub record SumsDecideTheRest : Type 0 where
  pub kept : (t : Lists) (edit : Edit) → PassesRows t edit → KeepsSums (with_edit_entered t edit) → IsAccepted t edit
  pub accepted : (t : Lists) (edit : Edit) → IsAccepted t edit → KeepsSums (with_edit_entered t edit)

-- at tables that keep their sums an edit that can't raise a sum meets no refusal on it: a line and a declaration may meet each of the
-- refusals 21 to 23; a member, a candidate and a line that is taken out refusal 22 alone; a shipment refusal 23 alone; any other edit none
pub record OnlySomeSumsRise : Type 0 where
  pub masses : (t : Lists) → IsConsistent t → KeepsSums t → (edit : Edit) → PassesRows t edit → may_raise_masses edit ≡ false → total_too_large t edit ≡ None
  pub findings : (t : Lists) → IsConsistent t → KeepsSums t → (edit : Edit) → PassesRows t edit → may_add_findings edit ≡ false → findings_full t edit ≡ None
  pub years : (t : Lists) → IsConsistent t → KeepsSums t → (edit : Edit) → PassesRows t edit → may_raise_years edit ≡ false → year_too_large t edit ≡ None

-- what an edit makes of the masses of years: units that are shipped or taken off change their year by what they weigh and no other year;
-- any other edit leaves a year whose products it doesn't affect
pub record YearsChangeByTheirOwn : Type 0 where
  pub shipped : (t : Lists) → IsConsistent t → (ticket product : List ℕ) (year units : ℕ) → PassesRows t (Ship ticket product year units) → (other : ℕ) →
      year_mass (with_edit_entered t (Ship ticket product year units)) other ≡ year_mass t other + (if year == other then units * mass t product else 0)
  pub taken_off : (t : Lists) → IsConsistent t → (ticket product : List ℕ) (year units : ℕ) → PassesRows t (Unship ticket product year units) → (other : ℕ) →
      year_mass (with_edit_entered t (Unship ticket product year units)) other + (if year == other then units * mass t product else 0) ≡ year_mass t other
  pub stays : (t : Lists) → IsConsistent t → (edit : Edit) → PassesRows t edit → changes_shipments edit ≡ false → (year : ℕ) →
      list_all (λ shipment. not (is_affected t edit shipment.product)) (shipments_in t year) ≡ true → year_mass (with_edit_entered t edit) year ≡ year_mass t year

-- the start tables are sound, a step keeps tables sound, and so a history leaves sound tables
pub record TablesStaySound : Type 0 where
  pub start : Sound start
  pub step : (t : Lists) (edit : Edit) → Sound t → is_edit_in_form edit ≡ true → Sound (step t edit).1
  pub history : (history : History) → IsHistory history → Sound (after history)

-- tables in order are unsound exactly where a key of some table breaks a clause, which is to be told then
pub record UnsoundIsTold : Type 0 where
  pub told : (t : Lists) (table : ℕ) (code : List ℕ) → IsBrokenAt t table code → Sound t → ⊥
  pub found : (t : Lists) → IsOrdered t → AllByRecursion IsDecided t.tickets → Sound t ⊎ ((table : ℕ) × (code : List ℕ) × IsBrokenAt t table code)

-- a code that an edit doesn't affect weighs, reaches, carries and is found to have what it did, and by the same chains; so does what it
-- has of its own; it is kept or not as it was, a part has its lines, and a material is the same, with the same share for each rule
pub record Stays (t : Lists) (edit : Edit) (code : List ℕ) : Type 0 where
  pub masses : mass (with_edit_entered t edit) code ≡ mass t code
  pub reached : (target : List ℕ) → reaches (with_edit_entered t edit) code target ≡ reaches t code target
  pub chains : (target : List ℕ) → chain (with_edit_entered t edit) code target ≡ chain t code target
  pub loads : (substance : List ℕ) → carried (with_edit_entered t edit) substance code ≡ carried t substance code
  pub found : findings (with_edit_entered t edit) code ≡ findings t code
  pub own_masses : own_mass (with_edit_entered t edit) code ≡ own_mass t code
  pub own_loads : (substance : List ℕ) → own_load (with_edit_entered t edit) substance code ≡ own_load t substance code
  pub own_found : own_findings (with_edit_entered t edit) code ≡ own_findings t code
  pub lines : lines_of (with_edit_entered t edit).lines code ≡ lines_of t.lines code
  pub material : material_row (with_edit_entered t edit) code ≡ material_row t code
  pub kept : is_kept (with_edit_entered t edit) code ≡ is_kept t code
  pub shares : (material : MaterialRow) → material_row t code ≡ Some material → (rule : Rule) → share (with_edit_entered t edit) rule material ≡ share t rule material

-- what an edit that passes the refusals 1 to 20 doesn't affect stays as it was
abbrev pub OthersStay : Type 0
OthersStay = (t : Lists) → IsConsistent t → (edit : Edit) → PassesRows t edit → (code : List ℕ) → is_affected t edit code ≡ false → Stays t edit code

-- what reaches an affected code once the edit is entered is affected
abbrev pub AffectedRise : Type 0
AffectedRise = (t : Lists) (edit : Edit) → IsConsistent (with_edit_entered t edit) → (code target : List ℕ) →
    reaches (with_edit_entered t edit) code target ≡ true → is_affected t edit target ≡ true → is_affected t edit code ≡ true

-- each kept material and part that an edit affects, where it passes the refusals 1 to 20, is listed once, and nothing else
-- is
abbrev pub AffectedAreListed : Type 0
AffectedAreListed = (t : Lists) → IsConsistent t → (edit : Edit) → PassesRows t edit → (code : List ℕ) →
    count_by (λ listed. same_code listed code) (affected t edit) ≡ (if is_affected t edit code && is_kept (with_edit_entered t edit) code then 1 else 0)
