-- By which rows tables are tested, and by which row those that aren't sound are told.
use Rattle.std.specs.Prelude.{◌≡◌, ℕ, ◌<◌, true, false, List, length, slice_index_or}
use Rattle.std.specs.List.{AllByRecursion, Any, list_all}
use Rattle.desk_model.specs.declared.row.Row.{Row}
use Rattle.desk_model.specs.declared.row.Row.TheVariants.{Ticket}
use Rattle.desk_model.specs.declared.rows.ticket.TicketRow.{TicketRow}
use Rattle.desk_model.specs.declared.table_name.TableName.TheVariants.{Tickets}
use Rattle.desk_model.specs.Lists.{Lists}
use Rattle.desk_model.specs.Rows.{record_code, table_number}
use Rattle.desk_history.specs.Breaches.{Breaks, IsBrokenAt, is_number_once}
use Rattle.desk_history.specs.Limits.{has_too_much_text, is_overfull}
use Rattle.desk_history.specs.Sound.{IsTicketOfEdit}
use Rattle.desk_tables.specs.declared.sound_fault.SoundFault.{SoundFault}
use Rattle.desk_tables.specs.declared.sound_fault.SoundFault.TheVariants.{Unsound, OutOfMemory}

-- one of these rows breaks a clause of soundness, and the fault names it, unless memory was wanting
abbrev pub NamesBreachIn : Lists → List Row → SoundFault → Type 0
NamesBreachIn t rows (Unsound table key) = Any (λ row. (table_number row ≡ table) × (record_code row ≡ key) × Breaks t row) rows
NamesBreachIn t rows OutOfMemory = Unit {0}

-- a row breaks a clause of soundness, and the fault names it, unless memory was wanting
abbrev pub NamesBreach : Lists → SoundFault → Type 0
NamesBreach t (Unsound table key) = IsBrokenAt t table key
NamesBreach t OutOfMemory = Unit {0}

-- the fault names this row, unless memory was wanting
abbrev pub IsNaming : ℕ → List ℕ → SoundFault → Type 0
IsNaming table key (Unsound named code) = (named ≡ table) × (code ≡ key)
IsNaming table key OutOfMemory = Unit {0}

-- the tickets aren't too many, nor their texts too long together, their numbers stand once, and each is that of an edit
pub record AreTicketsGood (t : Lists) : Type 0 where
  pub few : is_overfull t Tickets ≡ false
  pub texts : has_too_much_text t ≡ false
  pub numbers : list_all (λ ticket. is_number_once t.tickets ticket.number) t.tickets ≡ true
  pub edits : AllByRecursion IsTicketOfEdit t.tickets

-- the ticket at the place breaks a clause of soundness
abbrev pub IsTicketBroken : Lists → ℕ → Type 0
IsTicketBroken t place = (place < length t.tickets) × ((d : TicketRow) → Breaks t (Ticket (slice_index_or t.tickets place d)))
