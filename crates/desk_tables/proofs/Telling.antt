-- How a row that breaks a clause is told of the tables that hold it.
use Rattle.std.proofs.Common.{◌≡◌, ℕ, zero, suc, ◌<◌, true, ◌&&◌, ◌∙◌, List, [], ◌∷◌, length, map, sym, subst, arith, Option, Some, None, get_or, MatchOption}
use Rattle.std.specs.List.{Any, list_any}
use Rattle.std.proofs.lemmas.Bool.{and_parts}
use Rattle.desk_text.specs.Code.{same_code}
use Rattle.desk_model.proofs.Kept.{same_code-true}
use Rattle.std.specs.Prelude.{IfSome}
use Rattle.desk_model.specs.declared.row.Row.{Row}
use Rattle.desk_model.specs.declared.row.Row.TheVariants.{Substance, Member, Material, Part, Line, Product, Exemption, Candidate, Shipment, Ticket}
use Rattle.desk_model.specs.Lists.{Lists}
use Rattle.desk_model.specs.declared.rows.substance.SubstanceRow.{SubstanceRow}
use Rattle.desk_model.specs.declared.rows.member.MemberRow.{MemberRow}
use Rattle.desk_model.specs.declared.rows.material.MaterialRow.{MaterialRow}
use Rattle.desk_model.specs.declared.rows.part.PartRow.{PartRow}
use Rattle.desk_model.specs.declared.rows.line.LineRow.{LineRow}
use Rattle.desk_model.specs.declared.rows.product.ProductRow.{ProductRow}
use Rattle.desk_model.specs.declared.rows.exemption.ExemptionRow.{ExemptionRow}
use Rattle.desk_model.specs.declared.rows.candidate.CandidateRow.{CandidateRow}
use Rattle.desk_model.specs.declared.rows.shipment.ShipmentRow.{ShipmentRow}
use Rattle.desk_model.specs.declared.rows.ticket.TicketRow.{TicketRow}
use Rattle.desk_model.specs.Rows.{record_code, table_number}
use Rattle.desk_history.specs.Breaches.{Breaks, breaks_part}
use Rattle.desk_history.proofs.Unsound.{any_here, any_later, any_passing, in_substances, in_members, in_materials, in_parts, in_lines, in_products, in_exemptions, in_candidates, in_shipments, in_tickets}
use Rattle.desk_tables.specs.Soundness.{IsNaming, NamesBreach, NamesBreachIn}
use Rattle.desk_tables.specs.declared.sound_fault.SoundFault.{SoundFault}
use Rattle.desk_tables.specs.declared.sound_fault.SoundFault.TheVariants.{Unsound, OutOfMemory}

-- a row that stands at a place is one of the rows
any_at : {R : Type 0} (P : Row → Type 0) (as_row : R → Row) (rows : List R) (place : ℕ) (d : R) → place < length rows → P (as_row (get_or rows place d)) → Any P (map as_row rows)
any_at P as_row [] place d l p = absurd (omega (arith, l))
any_at P as_row (row ∷ rows) zero d l p = any_here P (as_row row) (map as_row rows) p
any_at P as_row (row ∷ rows) (suc place) d l p = any_later P (as_row row) (map as_row rows) (any_at P as_row rows place d (omega (arith, l)) p)

-- a fault that names a row which breaks a clause tells it
pub told_at : {R : Type 0} (t : Lists) (as_row : R → Row) (rows : List R) (place : ℕ) (d : R) (fault : SoundFault) → place < length rows → Breaks t (as_row (get_or rows place d))
    → IsNaming (table_number (as_row (get_or rows place d))) (record_code (as_row (get_or rows place d))) fault → NamesBreachIn t (map as_row rows) fault
told_at t as_row rows place d (Unsound named key) l broken naming =
    any_at (λ row. (table_number row ≡ named) × (record_code row ≡ key) × Breaks t row) as_row rows place d l (sym naming.0, sym naming.1, broken)
told_at t as_row rows place d OutOfMemory l broken naming = tt

told_if : (t : Lists) (rows : List Row) (good : Type 0) → ((fault : SoundFault) → NamesBreachIn t rows fault → NamesBreach t fault) → (found : Option SoundFault) → MatchOption found good (NamesBreachIn t rows) → IfSome found (NamesBreach t)
told_if t rows good f None m = tt
told_if t rows good f (Some fault) m = f fault m

module _ (t : Lists) where
  substance_told : (fault : SoundFault) → NamesBreachIn t (map Substance t.substances) fault → NamesBreach t fault
  substance_told (Unsound table key) a = in_substances t (λ row. (table_number row ≡ table) × (record_code row ≡ key) × Breaks t row) a
  substance_told OutOfMemory a = tt

  pub from_substances : (good : Type 0) (rows : List SubstanceRow) → rows ≡ t.substances → (found : Option SoundFault) → MatchOption found good (NamesBreachIn t (map Substance rows)) → IfSome found (NamesBreach t)
  from_substances good rows e found m = told_if t (map Substance t.substances) good substance_told found (subst (λ all. MatchOption found good (NamesBreachIn t (map Substance all))) e m)

  member_told : (fault : SoundFault) → NamesBreachIn t (map Member t.members) fault → NamesBreach t fault
  member_told (Unsound table key) a = in_members t (λ row. (table_number row ≡ table) × (record_code row ≡ key) × Breaks t row) a
  member_told OutOfMemory a = tt

  pub from_members : (good : Type 0) (rows : List MemberRow) → rows ≡ t.members → (found : Option SoundFault) → MatchOption found good (NamesBreachIn t (map Member rows)) → IfSome found (NamesBreach t)
  from_members good rows e found m = told_if t (map Member t.members) good member_told found (subst (λ all. MatchOption found good (NamesBreachIn t (map Member all))) e m)

  material_told : (fault : SoundFault) → NamesBreachIn t (map Material t.materials) fault → NamesBreach t fault
  material_told (Unsound table key) a = in_materials t (λ row. (table_number row ≡ table) × (record_code row ≡ key) × Breaks t row) a
  material_told OutOfMemory a = tt

  pub from_materials : (good : Type 0) (rows : List MaterialRow) → rows ≡ t.materials → (found : Option SoundFault) → MatchOption found good (NamesBreachIn t (map Material rows)) → IfSome found (NamesBreach t)
  from_materials good rows e found m = told_if t (map Material t.materials) good material_told found (subst (λ all. MatchOption found good (NamesBreachIn t (map Material all))) e m)

  part_told : (fault : SoundFault) → NamesBreachIn t (map Part t.parts) fault → NamesBreach t fault
  part_told (Unsound table key) a = in_parts t (λ row. (table_number row ≡ table) × (record_code row ≡ key) × Breaks t row) a
  part_told OutOfMemory a = tt

  pub from_parts : (good : Type 0) (rows : List PartRow) → rows ≡ t.parts → (found : Option SoundFault) → MatchOption found good (NamesBreachIn t (map Part rows)) → IfSome found (NamesBreach t)
  from_parts good rows e found m = told_if t (map Part t.parts) good part_told found (subst (λ all. MatchOption found good (NamesBreachIn t (map Part all))) e m)

  line_told : (fault : SoundFault) → NamesBreachIn t (map Line t.lines) fault → NamesBreach t fault
  line_told (Unsound table key) a = in_lines t (λ row. (table_number row ≡ table) × (record_code row ≡ key) × Breaks t row) a
  line_told OutOfMemory a = tt

  pub from_lines : (good : Type 0) (rows : List LineRow) → rows ≡ t.lines → (found : Option SoundFault) → MatchOption found good (NamesBreachIn t (map Line rows)) → IfSome found (NamesBreach t)
  from_lines good rows e found m = told_if t (map Line t.lines) good line_told found (subst (λ all. MatchOption found good (NamesBreachIn t (map Line all))) e m)

  product_told : (fault : SoundFault) → NamesBreachIn t (map Product t.products) fault → NamesBreach t fault
  product_told (Unsound table key) a = in_products t (λ row. (table_number row ≡ table) × (record_code row ≡ key) × Breaks t row) a
  product_told OutOfMemory a = tt

  pub from_products : (good : Type 0) (rows : List ProductRow) → rows ≡ t.products → (found : Option SoundFault) → MatchOption found good (NamesBreachIn t (map Product rows)) → IfSome found (NamesBreach t)
  from_products good rows e found m = told_if t (map Product t.products) good product_told found (subst (λ all. MatchOption found good (NamesBreachIn t (map Product all))) e m)

  exemption_told : (fault : SoundFault) → NamesBreachIn t (map Exemption t.exemptions) fault → NamesBreach t fault
  exemption_told (Unsound table key) a = in_exemptions t (λ row. (table_number row ≡ table) × (record_code row ≡ key) × Breaks t row) a
  exemption_told OutOfMemory a = tt

  pub from_exemptions : (good : Type 0) (rows : List ExemptionRow) → rows ≡ t.exemptions → (found : Option SoundFault) → MatchOption found good (NamesBreachIn t (map Exemption rows)) → IfSome found (NamesBreach t)
  from_exemptions good rows e found m = told_if t (map Exemption t.exemptions) good exemption_told found (subst (λ all. MatchOption found good (NamesBreachIn t (map Exemption all))) e m)

  candidate_told : (fault : SoundFault) → NamesBreachIn t (map Candidate t.candidates) fault → NamesBreach t fault
  candidate_told (Unsound table key) a = in_candidates t (λ row. (table_number row ≡ table) × (record_code row ≡ key) × Breaks t row) a
  candidate_told OutOfMemory a = tt

  pub from_candidates : (good : Type 0) (rows : List CandidateRow) → rows ≡ t.candidates → (found : Option SoundFault) → MatchOption found good (NamesBreachIn t (map Candidate rows)) → IfSome found (NamesBreach t)
  from_candidates good rows e found m = told_if t (map Candidate t.candidates) good candidate_told found (subst (λ all. MatchOption found good (NamesBreachIn t (map Candidate all))) e m)

  shipment_told : (fault : SoundFault) → NamesBreachIn t (map Shipment t.shipments) fault → NamesBreach t fault
  shipment_told (Unsound table key) a = in_shipments t (λ row. (table_number row ≡ table) × (record_code row ≡ key) × Breaks t row) a
  shipment_told OutOfMemory a = tt

  pub from_shipments : (good : Type 0) (rows : List ShipmentRow) → rows ≡ t.shipments → (found : Option SoundFault) → MatchOption found good (NamesBreachIn t (map Shipment rows)) → IfSome found (NamesBreach t)
  from_shipments good rows e found m = told_if t (map Shipment t.shipments) good shipment_told found (subst (λ all. MatchOption found good (NamesBreachIn t (map Shipment all))) e m)

  ticket_told : (fault : SoundFault) → NamesBreachIn t (map Ticket t.tickets) fault → NamesBreach t fault
  ticket_told (Unsound table key) a = in_tickets t (λ row. (table_number row ≡ table) × (record_code row ≡ key) × Breaks t row) a
  ticket_told OutOfMemory a = tt

-- a fault that names a row of a place tells it, where the row breaks a clause
pub line_named : (t : Lists) (lines : List LineRow) (place : ℕ) (row : LineRow) (fault : SoundFault) → lines ≡ t.lines → place < length lines → row ≡ get_or lines place row → Breaks t (Line row) → IsNaming (table_number (Line row)) (record_code (Line row)) fault → NamesBreach t fault
line_named t lines place row fault same l is broken naming =
    line_told t fault
    (subst (λ all. NamesBreachIn t (map Line all) fault) same (told_at t Line lines place row fault l (subst (λ r. Breaks t (Line r)) is broken) (subst (λ r. IsNaming (table_number (Line r)) (record_code (Line r)) fault) is naming)))

pub shipment_named : (t : Lists) (shipments : List ShipmentRow) (place : ℕ) (row : ShipmentRow) (fault : SoundFault) → shipments ≡ t.shipments → place < length shipments → row ≡ get_or shipments place row → Breaks t (Shipment row) → IsNaming (table_number (Shipment row)) (record_code (Shipment row)) fault → NamesBreach t fault
shipment_named t shipments place row fault same l is broken naming =
    shipment_told t fault
    (subst (λ all. NamesBreachIn t (map Shipment all) fault) same (told_at t Shipment shipments place row fault l (subst (λ r. Breaks t (Shipment r)) is broken) (subst (λ r. IsNaming (table_number (Shipment r)) (record_code (Shipment r)) fault) is naming)))

pub ticket_named : (t : Lists) (tickets : List TicketRow) (place : ℕ) (row : TicketRow) (fault : SoundFault) → tickets ≡ t.tickets → place < length tickets → row ≡ get_or tickets place row → Breaks t (Ticket row) → IsNaming (table_number (Ticket row)) (record_code (Ticket row)) fault → NamesBreach t fault
ticket_named t tickets place row fault same l is broken naming =
    ticket_told t fault
    (subst (λ all. NamesBreachIn t (map Ticket all) fault) same (told_at t Ticket tickets place row fault l (subst (λ r. Breaks t (Ticket r)) is broken) (subst (λ r. IsNaming (table_number (Ticket r)) (record_code (Ticket r)) fault) is naming)))

-- and so does one that names a part by its code
pub part_named : (t : Lists) (code : List ℕ) (fault : SoundFault) → list_any (λ row. same_code row.code code && breaks_part t row) t.parts ≡ true → IsNaming 4 code fault → NamesBreach t fault
unfolding table_number record_code
part_named t code (Unsound table key) e naming =
    in_parts t (λ row. (table_number row ≡ table) × (record_code row ≡ key) × Breaks t row)
    (any_passing (λ row. (table_number row ≡ table) × (record_code row ≡ key) × Breaks t row) Part (λ row. same_code row.code code && breaks_part t row) t.parts
    (λ row h.
    let both = and_parts (same_code row.code code) (breaks_part t row) h in
    (sym naming.0, same_code-true row.code code both.0 ∙ sym naming.1, both.1)) e)
part_named t code OutOfMemory e naming = tt
