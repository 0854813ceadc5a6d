-- Rows that are put in one after the other: the tables keep their records, and their forms.
use Rattle.std.proofs.Common.{◌≡◌, true, cond, List, [], ◌∷◌, map, refl, sym, ap, ◌∙◌, is_eq, Option, Some, None, ℕ, inl, inr}
use Rattle.std.proofs.lemmas.Bool.{cases_Bool}
use Rattle.std.specs.Prelude.{option_map}
use Rattle.std.specs.List.{AllByRecursion}
use Rattle.desk_text.specs.Code.{code_cmp}
use Rattle.desk_edge.specs.Content.{IsSame, body_after, body_after_all, key_cmp, key_of, same_key}
use Rattle.desk_edge.specs.declared.change.Change.TheVariants.{Put}
use Rattle.desk_edge.specs.declared.key.Key.{Key}
use Rattle.desk_edge.specs.declared.record.Record.{Record}
use Rattle.desk_edge.proofs.Keys.{key_order}
use Rattle.desk_rows.specs.Rows.{IsByKey, row_of}
use Rattle.desk_rows.proofs.Lookups.{each_with_row}
use Rattle.desk_rows.proofs.Order.{AllAbove, first_above, greater_back, rest_by_key}
use Rattle.desk_model.specs.declared.row.Row.{Row}
use Rattle.desk_model.specs.declared.row.Row.TheVariants.{Substance, Member, Material, Part, Line, Product, Exemption, Candidate, Shipment, Ticket}
use Rattle.desk_model.specs.Lists.{Lists, line_key, line_key_cmp, member_key, member_key_cmp, shipment_key, shipment_key_cmp}
use Rattle.desk_model.specs.Rows.{rows_of}
use Rattle.desk_fields.specs.RowTexts.{IsRowInForm}
use Rattle.desk_model.specs.PutRows.{put_in}
use Rattle.desk_tables.specs.Gathered.{tables_of_rows, no_rows, with_all}
use Rattle.desk_records.specs.Records.{content_in, record_of, tables_content}
use Rattle.desk_records.proofs.Distinct.{Apart}
use Rattle.desk_records.proofs.Moves.{AllNot, same_left}
use Rattle.desk_records.proofs.Planned.{put_candidates, put_exemptions, put_lines, put_materials, put_members, put_parts, put_products, put_shipments, put_substances, put_tickets}

-- each row of the tables is in form
pub record AreInForm (t : Lists) : Type 0 where
  pub substances : AllByRecursion (λ r. IsRowInForm (Substance r)) t.substances
  pub members : AllByRecursion (λ r. IsRowInForm (Member r)) t.members
  pub materials : AllByRecursion (λ r. IsRowInForm (Material r)) t.materials
  pub parts : AllByRecursion (λ r. IsRowInForm (Part r)) t.parts
  pub lines : AllByRecursion (λ r. IsRowInForm (Line r)) t.lines
  pub products : AllByRecursion (λ r. IsRowInForm (Product r)) t.products
  pub exemptions : AllByRecursion (λ r. IsRowInForm (Exemption r)) t.exemptions
  pub candidates : AllByRecursion (λ r. IsRowInForm (Candidate r)) t.candidates
  pub shipments : AllByRecursion (λ r. IsRowInForm (Shipment r)) t.shipments
  pub tickets : AllByRecursion (λ r. IsRowInForm (Ticket r)) t.tickets

-- tables with one more row in form
in_form_with : (row : Row) (t : Lists) → IsRowInForm row → AreInForm t → AreInForm (put_in row t)
in_form_with (Substance r) t form a = record {
  substances = each_with_row (λ row. row.code) code_cmp (λ r. IsRowInForm (Substance r)) r t.substances form a.substances;
  members = a.members;
  materials = a.materials;
  parts = a.parts;
  lines = a.lines;
  products = a.products;
  exemptions = a.exemptions;
  candidates = a.candidates;
  shipments = a.shipments;
  tickets = a.tickets;
}
in_form_with (Member r) t form a = record {
  substances = a.substances;
  members = each_with_row member_key member_key_cmp (λ r. IsRowInForm (Member r)) r t.members form a.members;
  materials = a.materials;
  parts = a.parts;
  lines = a.lines;
  products = a.products;
  exemptions = a.exemptions;
  candidates = a.candidates;
  shipments = a.shipments;
  tickets = a.tickets;
}
in_form_with (Material r) t form a = record {
  substances = a.substances;
  members = a.members;
  materials = each_with_row (λ row. row.code) code_cmp (λ r. IsRowInForm (Material r)) r t.materials form a.materials;
  parts = a.parts;
  lines = a.lines;
  products = a.products;
  exemptions = a.exemptions;
  candidates = a.candidates;
  shipments = a.shipments;
  tickets = a.tickets;
}
in_form_with (Part r) t form a = record {
  substances = a.substances;
  members = a.members;
  materials = a.materials;
  parts = each_with_row (λ row. row.code) code_cmp (λ r. IsRowInForm (Part r)) r t.parts form a.parts;
  lines = a.lines;
  products = a.products;
  exemptions = a.exemptions;
  candidates = a.candidates;
  shipments = a.shipments;
  tickets = a.tickets;
}
in_form_with (Line r) t form a = record {
  substances = a.substances;
  members = a.members;
  materials = a.materials;
  parts = a.parts;
  lines = each_with_row line_key line_key_cmp (λ r. IsRowInForm (Line r)) r t.lines form a.lines;
  products = a.products;
  exemptions = a.exemptions;
  candidates = a.candidates;
  shipments = a.shipments;
  tickets = a.tickets;
}
in_form_with (Product r) t form a = record {
  substances = a.substances;
  members = a.members;
  materials = a.materials;
  parts = a.parts;
  lines = a.lines;
  products = each_with_row (λ row. row.part) code_cmp (λ r. IsRowInForm (Product r)) r t.products form a.products;
  exemptions = a.exemptions;
  candidates = a.candidates;
  shipments = a.shipments;
  tickets = a.tickets;
}
in_form_with (Exemption r) t form a = record {
  substances = a.substances;
  members = a.members;
  materials = a.materials;
  parts = a.parts;
  lines = a.lines;
  products = a.products;
  exemptions = each_with_row (λ row. row.terms.row) code_cmp (λ r. IsRowInForm (Exemption r)) r t.exemptions form a.exemptions;
  candidates = a.candidates;
  shipments = a.shipments;
  tickets = a.tickets;
}
in_form_with (Candidate r) t form a = record {
  substances = a.substances;
  members = a.members;
  materials = a.materials;
  parts = a.parts;
  lines = a.lines;
  products = a.products;
  exemptions = a.exemptions;
  candidates = each_with_row (λ row. row.substance) code_cmp (λ r. IsRowInForm (Candidate r)) r t.candidates form a.candidates;
  shipments = a.shipments;
  tickets = a.tickets;
}
in_form_with (Shipment r) t form a = record {
  substances = a.substances;
  members = a.members;
  materials = a.materials;
  parts = a.parts;
  lines = a.lines;
  products = a.products;
  exemptions = a.exemptions;
  candidates = a.candidates;
  shipments = each_with_row shipment_key shipment_key_cmp (λ r. IsRowInForm (Shipment r)) r t.shipments form a.shipments;
  tickets = a.tickets;
}
in_form_with (Ticket r) t form a = record {
  substances = a.substances;
  members = a.members;
  materials = a.materials;
  parts = a.parts;
  lines = a.lines;
  products = a.products;
  exemptions = a.exemptions;
  candidates = a.candidates;
  shipments = a.shipments;
  tickets = each_with_row (λ row. row.code) code_cmp (λ r. IsRowInForm (Ticket r)) r t.tickets form a.tickets;
}

-- a row that is put in is put among the records
moves_with : (row : Row) (t : Lists) (k : Key) → IsRowInForm row → AreInForm t → tables_content (put_in row t) k ≡ body_after (Put (record_of row)) k (tables_content t k)
unfolding IsRowInForm
moves_with (Substance r) t k form a = put_substances t r k
moves_with (Member r) t k form a = put_members t r k a.members form
moves_with (Material r) t k form a = put_materials t r k
moves_with (Part r) t k form a = put_parts t r k
moves_with (Line r) t k form a = put_lines t r k a.lines form
moves_with (Product r) t k form a = put_products t r k
moves_with (Exemption r) t k form a = put_exemptions t r k
moves_with (Candidate r) t k form a = put_candidates t r k
moves_with (Shipment r) t k form a = put_shipments t r k a.shipments form
moves_with (Ticket r) t k form a = put_tickets t r k

-- rows that are put in one after the other
pub all_in_form : (rows : List Row) (t : Lists) → AllByRecursion IsRowInForm rows → AreInForm t → AreInForm (with_all rows t)
all_in_form [] t forms a = a
all_in_form (row ∷ rows) t forms a = all_in_form rows (put_in row t) forms.1 (in_form_with row t forms.0 a)

all_move : (rows : List Row) (t : Lists) (k : Key) → AllByRecursion IsRowInForm rows → AreInForm t
    → tables_content (with_all rows t) k ≡ body_after_all (map (λ kept. Put kept) (map record_of rows)) k (tables_content t k)
all_move [] t k forms a = refl
all_move (row ∷ rows) t k forms a =
    all_move rows (put_in row t) k forms.1 (in_form_with row t forms.0 a)
    ∙ ap (body_after_all (map (λ kept. Put kept) (map record_of rows)) k) (moves_with row t k forms.0 a)

-- the key of none of them: what was kept stays
stays : (j k : Key) (records : List Record) (body : Option (List ℕ)) → same_key j k ≡ true → AllNot j records → body_after_all (map (λ kept. Put kept) records) k body ≡ body
stays j k [] body same none = refl
stays j k (kept ∷ records) body same none =
    ap (λ b. body_after_all (map (λ kept. Put kept) records) k (cond b (Some kept.body) body)) (sym (same_left j k (key_of kept) same) ∙ none.0)
    ∙ stays j k records body same none.1

-- records of different keys that are put where nothing was kept are what is kept then
pub puts : (records : List Record) (k : Key) → Apart records → body_after_all (map (λ kept. Put kept) records) k None ≡ content_in records k
puts [] k apart = refl
puts (kept ∷ records) k apart =
    elim (cases_Bool (same_key (key_of kept) k)) [
      | inl same ↦
          ap (λ b. body_after_all (map (λ kept. Put kept) records) k (cond b (Some kept.body) None)) same
          ∙ stays (key_of kept) k records (Some kept.body) same apart.0
          ∙ sym (ap (λ b. option_map (λ kept. kept.body) (cond b (Some kept) (row_of key_of key_cmp k records))) same)
      | inr other ↦
          ap (λ b. body_after_all (map (λ kept. Put kept) records) k (cond b (Some kept.body) None)) other
          ∙ puts records k apart.1
          ∙ sym (ap (λ b. option_map (λ kept. kept.body) (cond b (Some kept) (row_of key_of key_cmp k records))) other)
    ]

-- records in order have different keys
pub not_above : (j : Key) (records : List Record) → AllAbove key_of key_cmp key_order j records → AllNot j records
not_above j [] above = tt
not_above j (kept ∷ records) above = (ap is_eq (greater_back key_of key_cmp key_order j (key_of kept) above.0), not_above j records above.1)

pub apart_by_key : (records : List Record) → IsByKey key_of key_cmp records → Apart records
apart_by_key [] h = tt
apart_by_key (kept ∷ records) h = (
  not_above (key_of kept) records (first_above key_of key_cmp key_order kept records h),
  apart_by_key records (rest_by_key key_of key_cmp key_order kept records h),
)

none_in_form : AreInForm no_rows
none_in_form = record {
  substances = tt;
  members = tt;
  materials = tt;
  parts = tt;
  lines = tt;
  products = tt;
  exemptions = tt;
  candidates = tt;
  shipments = tt;
  tickets = tt;
}

nothing : (k : Key) → tables_content no_rows k ≡ None
unfolding rows_of
nothing k = refl

-- the tables of rows in form that have these records keep them and no others
pub gathered_content : (records : List Record) (rows : List Row) → IsByKey key_of key_cmp records → records ≡ map record_of rows → AllByRecursion IsRowInForm rows
    → IsSame (content_in records) (tables_content (tables_of_rows rows))
gathered_content records rows by_key is forms k =
    all_move rows no_rows k forms none_in_form
    ∙ ap (body_after_all (map (λ kept. Put kept) (map record_of rows)) k) (nothing k)
    ∙ ap (λ records. body_after_all (map (λ kept. Put kept) records) k None) (sym is)
    ∙ puts records k (apart_by_key records by_key)

pub gathered_form : (rows : List Row) → AllByRecursion IsRowInForm rows → AreInForm (tables_of_rows rows)
gathered_form rows forms = all_in_form rows no_rows forms none_in_form
