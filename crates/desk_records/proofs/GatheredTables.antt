-- The tables of records: they keep the records, and no other tables that are sound do.
use Rattle.std.proofs.Common.{List, [], ◌∷◌, ◌++◌, map, sym, subst, ◌∙◌}
use Rattle.std.specs.List.{AllByRecursion}
use Rattle.desk_edge.specs.Content.{IsSame, key_cmp, key_of}
use Rattle.desk_edge.specs.declared.record.Record.{Record}
use Rattle.desk_rows.specs.Rows.{IsByKey}
use Rattle.desk_model.specs.declared.row.Row.{Row}
use Rattle.desk_model.specs.declared.row.Row.TheVariants.{Substance, Member, Material, Part, Line, Product, Exemption, Candidate, Shipment, Ticket}
use Rattle.desk_model.specs.Lists.{IsOrdered, Lists}
use Rattle.desk_model.specs.Rows.{rows_of}
use Rattle.desk_model.proofs.Elements.{each_in_map, each_of_map, each_split}
use Rattle.desk_fields.specs.RowTexts.{IsRowInForm}
use Rattle.desk_history.specs.Sound.{Sound}
use Rattle.desk_tables.specs.Gathered.{tables_of_rows}
use Rattle.desk_records.specs.Damage.{AreTablesOf}
use Rattle.desk_records.specs.Records.{content_in, tables_content}
use Rattle.desk_records.proofs.InForm.{all_in_form}
use Rattle.desk_records.proofs.OneDesk.{one_desk}
use Rattle.desk_records.proofs.PutIn.{AreInForm, gathered_content, gathered_form}

pub form_of : (t : Lists) → AllByRecursion IsRowInForm (rows_of t) → AreInForm t
unfolding rows_of
form_of t all =
    let a10 = each_split IsRowInForm _ (map Ticket t.tickets) all in
    let a9 = each_split IsRowInForm _ (map Shipment t.shipments) a10.0 in
    let a8 = each_split IsRowInForm _ (map Candidate t.candidates) a9.0 in
    let a7 = each_split IsRowInForm _ (map Exemption t.exemptions) a8.0 in
    let a6 = each_split IsRowInForm _ (map Product t.products) a7.0 in
    let a5 = each_split IsRowInForm _ (map Line t.lines) a6.0 in
    let a4 = each_split IsRowInForm _ (map Part t.parts) a5.0 in
    let a3 = each_split IsRowInForm _ (map Material t.materials) a4.0 in
    let a2 = each_split IsRowInForm (map Substance t.substances) (map Member t.members) a3.0 in
    record {
      substances = each_in_map IsRowInForm Substance t.substances a2.0;
      members = each_in_map IsRowInForm Member t.members a2.1;
      materials = each_in_map IsRowInForm Material t.materials a3.1;
      parts = each_in_map IsRowInForm Part t.parts a4.1;
      lines = each_in_map IsRowInForm Line t.lines a5.1;
      products = each_in_map IsRowInForm Product t.products a6.1;
      exemptions = each_in_map IsRowInForm Exemption t.exemptions a7.1;
      candidates = each_in_map IsRowInForm Candidate t.candidates a8.1;
      shipments = each_in_map IsRowInForm Shipment t.shipments a9.1;
      tickets = each_in_map IsRowInForm Ticket t.tickets a10.1;
    }

all_behind : (front more : List Row) → AllByRecursion IsRowInForm front → AllByRecursion IsRowInForm more → AllByRecursion IsRowInForm (front ++ more)
all_behind [] more a b = b
all_behind (row ∷ front) more a b = (a.0, all_behind front more a.1 b)

all_rows : (t : Lists) → AreInForm t → AllByRecursion IsRowInForm (rows_of t)
unfolding rows_of
all_rows t forms =
    all_behind _ (map Ticket t.tickets)
    (all_behind _ (map Shipment t.shipments)
    (all_behind _ (map Candidate t.candidates)
    (all_behind _ (map Exemption t.exemptions)
    (all_behind _ (map Product t.products)
    (all_behind _ (map Line t.lines)
    (all_behind _ (map Part t.parts)
    (all_behind _ (map Material t.materials)
    (all_behind (map Substance t.substances) (map Member t.members)
    (each_of_map IsRowInForm Substance t.substances forms.substances)
    (each_of_map IsRowInForm Member t.members forms.members))
    (each_of_map IsRowInForm Material t.materials forms.materials))
    (each_of_map IsRowInForm Part t.parts forms.parts))
    (each_of_map IsRowInForm Line t.lines forms.lines))
    (each_of_map IsRowInForm Product t.products forms.products))
    (each_of_map IsRowInForm Exemption t.exemptions forms.exemptions))
    (each_of_map IsRowInForm Candidate t.candidates forms.candidates))
    (each_of_map IsRowInForm Shipment t.shipments forms.shipments))
    (each_of_map IsRowInForm Ticket t.tickets forms.tickets)

-- the rows of the tables are in form
pub gathered_rows : (records : List Record) (lists : Lists) → AreTablesOf records lists → AllByRecursion IsRowInForm (rows_of lists)
gathered_rows records lists are = subst (λ t. AllByRecursion IsRowInForm (rows_of t)) (sym are.are_gathered) (all_rows (tables_of_rows are.rows) (gathered_form are.rows are.forms))

-- the tables keep these records and no others
pub gathered_same : (records : List Record) (lists : Lists) → IsByKey key_of key_cmp records → AreTablesOf records lists → IsSame (content_in records) (tables_content lists)
gathered_same records lists by_key are = subst (λ t. IsSame (content_in records) (tables_content t)) (sym are.are_gathered) (gathered_content records are.rows by_key are.are_written are.forms)

-- and where sound tables keep just these, they are the same
pub gathered_sound : (records : List Record) (lists : Lists) → IsByKey key_of key_cmp records → AreTablesOf records lists → IsOrdered lists → (t : Lists) → Sound t
    → IsSame (content_in records) (tables_content t) → Sound lists
gathered_sound records lists by_key are ordered t sound same =
    let alike = gathered_same records lists by_key are in
    subst Sound
    (one_desk t lists sound.consistent.ordered ordered (form_of t (all_in_form t sound)) (subst AreInForm (sym are.are_gathered) (gathered_form are.rows are.forms)) (λ k. alike k ∙ sym (same k)))
    sound
