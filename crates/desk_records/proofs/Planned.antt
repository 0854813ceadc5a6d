-- What a plan does to the tables it does to their records.
use Rattle.std.proofs.Common.{◌≡◌, ℕ, ◌<◌, ◌^◌, true, false, cond, List, [], ◌∷◌, ◌++◌, decimal, map, refl, sym, ap, subst, ◌∙◌, Ordering, Less, Equal, Greater, is_eq, Option, Some, None, nat_le, ◌≤◌, arith}
use Rattle.std.specs.Ordering.{match_ordering}
use Rattle.std.proofs.lemmas.Bool.{and_parts, leb-true}
use Rattle.std.specs.List.{AllByRecursion}
use Rattle.std.specs.Prelude.{IfOk, Result, Ok, Err, option_map}
use Rattle.desk_text.specs.Code.{code_cmp}
use Rattle.desk_text.proofs.Fields.{Lacks, lacks_in_code}
use Rattle.desk_edge.specs.Content.{IsChanged, body_after as changed_at, body_after_all, key_of, same_key}
use Rattle.desk_edge.specs.declared.change.Change.{Change}
use Rattle.desk_edge.specs.declared.change.Change.TheVariants.{Put, Drop}
use Rattle.desk_edge.specs.declared.key.Key.{Key}
use Rattle.desk_edge.specs.declared.record.Record.{Record}
use Rattle.desk_law.specs.declared.rule.Rule.{Rule}
use Rattle.desk_law.specs.Rule.{rule_code, rule_number}
use Rattle.desk_rows.specs.Rows.{with_row, with_rows, without_row}
use Rattle.desk_model.specs.declared.edit.Edit.{Edit}
use Rattle.desk_model.specs.declared.row.Row.TheVariants.{Substance, Member, Material, Part, Line, Product, Exemption, Candidate, Shipment, Ticket}
use Rattle.desk_model.specs.declared.rows.substance.SubstanceRow.{SubstanceRow}
use Rattle.desk_model.specs.declared.rows.member.MemberRow.{MemberRow}
use Rattle.desk_model.specs.declared.rows.material.MaterialRow.{MaterialRow}
use Rattle.desk_model.specs.declared.rows.part.PartRow.{PartRow}
use Rattle.desk_model.specs.declared.rows.line.LineRow.{LineRow}
use Rattle.desk_model.specs.declared.rows.product.ProductRow.{ProductRow}
use Rattle.desk_model.specs.declared.rows.exemption.ExemptionRow.{ExemptionRow}
use Rattle.desk_model.specs.declared.rows.candidate.CandidateRow.{CandidateRow}
use Rattle.desk_model.specs.declared.rows.shipment.ShipmentRow.{ShipmentRow}
use Rattle.desk_model.specs.declared.rows.ticket.TicketRow.{TicketRow}
use Rattle.desk_model.specs.Forms.{are_units, is_edit_in_form, is_line_row, is_member_row, is_shipment_row, is_year}
use Rattle.desk_model.proofs.EditTold.{three_parts}
use Rattle.desk_model.specs.declared.limits.TheConstants.{FIRST_SHIPMENT_YEAR, LAST_SHIPMENT_YEAR}
use Rattle.desk_model.specs.Values.{is_code}
use Rattle.desk_model.specs.Lists.{IsOrdered, Lists, line_key, line_key_cmp, member_key, member_key_cmp, shipment_key, shipment_key_cmp}
use Rattle.desk_model.specs.Rows.{pair_code, record_code, table_number}
use Rattle.desk_model.proofs.Elements.{each_from_all, each_map}
use Rattle.desk_model.proofs.Kept.{code_cmp_total, line_key_cmp_total, member_key_cmp_total, shipment_key_cmp_total}
use Rattle.desk_fields.proofs.RowFields.{number_lacks}
use Rattle.desk_fields.proofs.RowsRead.{member_lacks, parent_lacks, year_lacks}
use Rattle.desk_history.specs.Sound.{Sound}
use Rattle.desk_history.specs.Step.{step}
use Rattle.desk_history.proofs.SoundClauses.{FormsKept, forms_of}
use Rattle.desk_history.proofs.SoundSteps.{Sound-step}
use Rattle.desk_tables.specs.Change.{with_change_made}
use Rattle.desk_tables.specs.Desk.{Desk}
use Rattle.desk_tables.specs.Plan.{IsPlan, with_change_entered, tables_planned}
use Rattle.desk_tables.specs.declared.plan.TablesPlan.TheVariants as plan
use Rattle.desk_tables.specs.declared.row_change.RowChange.{RowChange}
use Rattle.desk_tables.specs.declared.row_change.RowChange.TheVariants as change
use Rattle.desk_records.specs.Changes.{AreDropsInForm, row_changes}
use Rattle.desk_records.specs.Records.{record_of, records_of, tables_content}
use Rattle.desk_records.proofs.Codes.{lines_agree, members_agree, shipments_agree}
use Rattle.desk_records.proofs.Moves.{look, put_in, taken_out}
use Rattle.desk_records.proofs.Tabled.{look_candidates, look_exemptions, look_lines, look_materials, look_members, look_parts, look_products, look_shipments, look_substances, look_tickets}

pub all_of : {X : Type 0} (P : X → Type 0) → ((x : X) → P x) → (xs : List X) → AllByRecursion P xs
all_of P f [] = tt
all_of P f (x ∷ xs) = (f x, all_of P f xs)

-- what holds of each row with the new one holds of the new one
of_new : {R K : Type 0} (key : R → K) (cmp : K → K → Ordering) (P : R → Type 0) (new : R) (rows : List R) → AllByRecursion P (with_row key cmp new rows) → P new
of_new key cmp P new [] a = a.0
of_new key cmp P new (row ∷ rows) a =
    elim (cmp (key row) (key new)) as (λ o. AllByRecursion P (match_ordering o (row ∷ with_row key cmp new rows) (new ∷ rows) (new ∷ row ∷ rows)) → P new) [
      | Less ↦ λ b. of_new key cmp P new rows b.1
      | Equal ↦ λ b. b.0
      | Greater ↦ λ b. b.0
    ] a

-- from the records to what is kept under a key
put_kept : (t u : Lists) (kept : Record) (k : Key) → look (records_of u) k ≡ cond (same_key (key_of kept) k) (Some kept) (look (records_of t) k) → tables_content u k ≡ changed_at (Put kept) k (tables_content t k)
put_kept t u kept k e =
    ap (option_map (λ one. one.body)) e
    ∙ elim (same_key (key_of kept) k) as (λ b. option_map (λ one. one.body) (cond b (Some kept) (look (records_of t) k)) ≡ cond b (Some kept.body) (tables_content t k)) [ true ↦ refl | false ↦ refl ]

drop_kept : (t u : Lists) (dropped k : Key) → look (records_of u) k ≡ cond (same_key dropped k) None (look (records_of t) k) → tables_content u k ≡ changed_at (Drop dropped) k (tables_content t k)
drop_kept t u dropped k e =
    ap (option_map (λ one. one.body)) e
    ∙ elim (same_key dropped k) as (λ b. option_map (λ one. one.body) (cond b None (look (records_of t) k)) ≡ cond b None (tables_content t k)) [ true ↦ refl | false ↦ refl ]

all_appended : (some more : List Change) (k : Key) (body : Option (List ℕ)) → body_after_all (some ++ more) k body ≡ body_after_all more k (body_after_all some k body)
all_appended [] more k body = refl
all_appended (change ∷ some) more k body = all_appended some more k (changed_at change k body)

pub put_substances : (t : Lists) (row : SubstanceRow) (k : Key) → tables_content (record t { substances = with_row (λ row. row.code) code_cmp row t.substances }) k ≡ changed_at (Put (record_of (Substance row))) k (tables_content t k)
unfolding table_number record_code
put_substances t row k =
    put_kept t (record t { substances = with_row (λ row. row.code) code_cmp row t.substances }) (record_of (Substance row)) k
    (look_substances t (with_row (λ row. row.code) code_cmp row t.substances) row.code (Some (record_of (Substance row))) k
    (put_in (λ row. row.code) code_cmp code_cmp_total Substance row t.substances (all_of _ (λ row. refl) t.substances) k))

pub put_materials : (t : Lists) (row : MaterialRow) (k : Key) → tables_content (record t { materials = with_row (λ row. row.code) code_cmp row t.materials }) k ≡ changed_at (Put (record_of (Material row))) k (tables_content t k)
unfolding table_number record_code
put_materials t row k =
    put_kept t (record t { materials = with_row (λ row. row.code) code_cmp row t.materials }) (record_of (Material row)) k
    (look_materials t (with_row (λ row. row.code) code_cmp row t.materials) row.code (Some (record_of (Material row))) k
    (put_in (λ row. row.code) code_cmp code_cmp_total Material row t.materials (all_of _ (λ row. refl) t.materials) k))

pub put_parts : (t : Lists) (row : PartRow) (k : Key) → tables_content (record t { parts = with_row (λ row. row.code) code_cmp row t.parts }) k ≡ changed_at (Put (record_of (Part row))) k (tables_content t k)
unfolding table_number record_code
put_parts t row k =
    put_kept t (record t { parts = with_row (λ row. row.code) code_cmp row t.parts }) (record_of (Part row)) k
    (look_parts t (with_row (λ row. row.code) code_cmp row t.parts) row.code (Some (record_of (Part row))) k
    (put_in (λ row. row.code) code_cmp code_cmp_total Part row t.parts (all_of _ (λ row. refl) t.parts) k))

pub put_products : (t : Lists) (row : ProductRow) (k : Key) → tables_content (record t { products = with_row (λ row. row.part) code_cmp row t.products }) k ≡ changed_at (Put (record_of (Product row))) k (tables_content t k)
unfolding table_number record_code
put_products t row k =
    put_kept t (record t { products = with_row (λ row. row.part) code_cmp row t.products }) (record_of (Product row)) k
    (look_products t (with_row (λ row. row.part) code_cmp row t.products) row.part (Some (record_of (Product row))) k
    (put_in (λ row. row.part) code_cmp code_cmp_total Product row t.products (all_of _ (λ row. refl) t.products) k))

pub put_exemptions : (t : Lists) (row : ExemptionRow) (k : Key) → tables_content (record t { exemptions = with_row (λ row. row.terms.row) code_cmp row t.exemptions }) k ≡ changed_at (Put (record_of (Exemption row))) k (tables_content t k)
unfolding table_number record_code
put_exemptions t row k =
    put_kept t (record t { exemptions = with_row (λ row. row.terms.row) code_cmp row t.exemptions }) (record_of (Exemption row)) k
    (look_exemptions t (with_row (λ row. row.terms.row) code_cmp row t.exemptions) row.terms.row (Some (record_of (Exemption row))) k
    (put_in (λ row. row.terms.row) code_cmp code_cmp_total Exemption row t.exemptions (all_of _ (λ row. refl) t.exemptions) k))

pub put_candidates : (t : Lists) (row : CandidateRow) (k : Key) → tables_content (record t { candidates = with_row (λ row. row.substance) code_cmp row t.candidates }) k ≡ changed_at (Put (record_of (Candidate row))) k (tables_content t k)
unfolding table_number record_code
put_candidates t row k =
    put_kept t (record t { candidates = with_row (λ row. row.substance) code_cmp row t.candidates }) (record_of (Candidate row)) k
    (look_candidates t (with_row (λ row. row.substance) code_cmp row t.candidates) row.substance (Some (record_of (Candidate row))) k
    (put_in (λ row. row.substance) code_cmp code_cmp_total Candidate row t.candidates (all_of _ (λ row. refl) t.candidates) k))

pub put_tickets : (t : Lists) (row : TicketRow) (k : Key) → tables_content (record t { tickets = with_row (λ row. row.code) code_cmp row t.tickets }) k ≡ changed_at (Put (record_of (Ticket row))) k (tables_content t k)
unfolding table_number record_code
put_tickets t row k =
    put_kept t (record t { tickets = with_row (λ row. row.code) code_cmp row t.tickets }) (record_of (Ticket row)) k
    (look_tickets t (with_row (λ row. row.code) code_cmp row t.tickets) row.code (Some (record_of (Ticket row))) k
    (put_in (λ row. row.code) code_cmp code_cmp_total Ticket row t.tickets (all_of _ (λ row. refl) t.tickets) k))

pub put_members : (t : Lists) (row : MemberRow) (k : Key) → AllByRecursion (λ r. is_member_row r ≡ true) t.members → is_member_row row ≡ true
    → tables_content (record t { members = with_row member_key member_key_cmp row t.members }) k ≡ changed_at (Put (record_of (Member row))) k (tables_content t k)
unfolding table_number record_code
put_members t row k forms new =
    put_kept t (record t { members = with_row member_key member_key_cmp row t.members }) (record_of (Member row)) k
    (look_members t (with_row member_key member_key_cmp row t.members) (pair_code row.substance (rule_code row.rule)) (Some (record_of (Member row))) k
    (put_in member_key member_key_cmp member_key_cmp_total Member row t.members
    (each_map (λ r. is_member_row r ≡ true) (λ r. same_key (key_of (record_of (Member r))) (key_of (record_of (Member row))) ≡ is_eq (member_key_cmp (member_key r) (member_key row)))
    (λ r f. members_agree r.substance r.rule row.substance row.rule (member_lacks r f) (member_lacks row new)) t.members forms) k))

drop_members : (t : Lists) (substance : List ℕ) (rule : Rule) (k : Key) → AllByRecursion (λ r. is_member_row r ≡ true) t.members → IsOrdered t → Lacks 47 substance
    → tables_content (record t { members = without_row member_key member_key_cmp (substance, rule_number rule) t.members }) k ≡ changed_at (Drop (record { kind = 2; code = pair_code substance (rule_code rule) })) k (tables_content t k)
unfolding table_number record_code
drop_members t substance rule k forms ordered lack =
    drop_kept t (record t { members = without_row member_key member_key_cmp (substance, rule_number rule) t.members }) (record { kind = 2; code = pair_code substance (rule_code rule) }) k
    (look_members t (without_row member_key member_key_cmp (substance, rule_number rule) t.members) (pair_code substance (rule_code rule)) None k
    (taken_out member_key member_key_cmp member_key_cmp_total Member (substance, rule_number rule) (record { kind = 2; code = pair_code substance (rule_code rule) }) t.members ordered.members
    (each_map (λ r. is_member_row r ≡ true) (λ r. same_key (key_of (record_of (Member r))) (record { kind = 2; code = pair_code substance (rule_code rule) }) ≡ is_eq (member_key_cmp (member_key r) (substance, rule_number rule)))
    (λ r f. members_agree r.substance r.rule substance rule (member_lacks r f) lack) t.members forms) k))

pub put_lines : (t : Lists) (row : LineRow) (k : Key) → AllByRecursion (λ r. is_line_row r ≡ true) t.lines → is_line_row row ≡ true
    → tables_content (record t { lines = with_row line_key line_key_cmp row t.lines }) k ≡ changed_at (Put (record_of (Line row))) k (tables_content t k)
unfolding table_number record_code
put_lines t row k forms new =
    put_kept t (record t { lines = with_row line_key line_key_cmp row t.lines }) (record_of (Line row)) k
    (look_lines t (with_row line_key line_key_cmp row t.lines) (pair_code row.parent row.child) (Some (record_of (Line row))) k
    (put_in line_key line_key_cmp line_key_cmp_total Line row t.lines
    (each_map (λ r. is_line_row r ≡ true) (λ r. same_key (key_of (record_of (Line r))) (key_of (record_of (Line row))) ≡ is_eq (line_key_cmp (line_key r) (line_key row)))
    (λ r f. lines_agree r.parent r.child row.parent row.child (parent_lacks r f) (parent_lacks row new)) t.lines forms) k))

drop_lines : (t : Lists) (parent child : List ℕ) (k : Key) → AllByRecursion (λ r. is_line_row r ≡ true) t.lines → IsOrdered t → Lacks 47 parent
    → tables_content (record t { lines = without_row line_key line_key_cmp (parent, child) t.lines }) k ≡ changed_at (Drop (record { kind = 5; code = pair_code parent child })) k (tables_content t k)
unfolding table_number record_code
drop_lines t parent child k forms ordered lack =
    drop_kept t (record t { lines = without_row line_key line_key_cmp (parent, child) t.lines }) (record { kind = 5; code = pair_code parent child }) k
    (look_lines t (without_row line_key line_key_cmp (parent, child) t.lines) (pair_code parent child) None k
    (taken_out line_key line_key_cmp line_key_cmp_total Line (parent, child) (record { kind = 5; code = pair_code parent child }) t.lines ordered.lines
    (each_map (λ r. is_line_row r ≡ true) (λ r. same_key (key_of (record_of (Line r))) (record { kind = 5; code = pair_code parent child }) ≡ is_eq (line_key_cmp (line_key r) (parent, child)))
    (λ r f. lines_agree r.parent r.child parent child (parent_lacks r f) lack) t.lines forms) k))

pub year_small : (r : ShipmentRow) → is_shipment_row r ≡ true → r.year < 2 ^ 64
year_small r is =
    let year = (three_parts (is_year r.year) (is_code r.product) (are_units r.units) is).0 in
    let below : r.year ≤ LAST_SHIPMENT_YEAR = leb-true r.year LAST_SHIPMENT_YEAR (and_parts (nat_le FIRST_SHIPMENT_YEAR r.year) (nat_le r.year LAST_SHIPMENT_YEAR) year).1 in
    omega (arith, below)

pub put_shipments : (t : Lists) (row : ShipmentRow) (k : Key) → AllByRecursion (λ r. is_shipment_row r ≡ true) t.shipments → is_shipment_row row ≡ true
    → tables_content (record t { shipments = with_row shipment_key shipment_key_cmp row t.shipments }) k ≡ changed_at (Put (record_of (Shipment row))) k (tables_content t k)
unfolding table_number record_code
put_shipments t row k forms new =
    put_kept t (record t { shipments = with_row shipment_key shipment_key_cmp row t.shipments }) (record_of (Shipment row)) k
    (look_shipments t (with_row shipment_key shipment_key_cmp row t.shipments) (pair_code (decimal row.year) row.product) (Some (record_of (Shipment row))) k
    (put_in shipment_key shipment_key_cmp shipment_key_cmp_total Shipment row t.shipments
    (each_map (λ r. is_shipment_row r ≡ true) (λ r. same_key (key_of (record_of (Shipment r))) (key_of (record_of (Shipment row))) ≡ is_eq (shipment_key_cmp (shipment_key r) (shipment_key row)))
    (λ r f. shipments_agree r.year r.product row.year row.product (year_small r f) (year_small row new) (year_lacks r f) (year_lacks row new)) t.shipments forms) k))

drop_shipments : (t : Lists) (year : ℕ) (product : List ℕ) (k : Key) → AllByRecursion (λ r. is_shipment_row r ≡ true) t.shipments → IsOrdered t → year < 2 ^ 64
    → tables_content (record t { shipments = without_row shipment_key shipment_key_cmp (year, product) t.shipments }) k ≡ changed_at (Drop (record { kind = 9; code = pair_code (decimal year) product })) k (tables_content t k)
unfolding table_number record_code
drop_shipments t year product k forms ordered lack =
    drop_kept t (record t { shipments = without_row shipment_key shipment_key_cmp (year, product) t.shipments }) (record { kind = 9; code = pair_code (decimal year) product }) k
    (look_shipments t (without_row shipment_key shipment_key_cmp (year, product) t.shipments) (pair_code (decimal year) product) None k
    (taken_out shipment_key shipment_key_cmp shipment_key_cmp_total Shipment (year, product) (record { kind = 9; code = pair_code (decimal year) product }) t.shipments ordered.shipments
    (each_map (λ r. is_shipment_row r ≡ true) (λ r. same_key (key_of (record_of (Shipment r))) (record { kind = 9; code = pair_code (decimal year) product }) ≡ is_eq (shipment_key_cmp (shipment_key r) (year, product)))
    (λ r f. shipments_agree r.year r.product year product (year_small r f) lack (year_lacks r f) (number_lacks 47 refl year lack)) t.shipments forms) k))

drop_exemptions : (t : Lists) (code : List ℕ) (k : Key) → IsOrdered t
    → tables_content (record t { exemptions = without_row (λ row. row.terms.row) code_cmp code t.exemptions }) k ≡ changed_at (Drop (record { kind = 7; code = code })) k (tables_content t k)
unfolding table_number record_code
drop_exemptions t code k ordered =
    drop_kept t (record t { exemptions = without_row (λ row. row.terms.row) code_cmp code t.exemptions }) (record { kind = 7; code = code }) k
    (look_exemptions t (without_row (λ row. row.terms.row) code_cmp code t.exemptions) code None k
    (taken_out (λ row. row.terms.row) code_cmp code_cmp_total Exemption code (record { kind = 7; code = code }) t.exemptions ordered.exemptions (all_of _ (λ row. refl) t.exemptions) k))

put_all_materials : (t : Lists) (rows : List MaterialRow) (k : Key)
    → tables_content (record t { materials = with_rows (λ row. row.code) code_cmp rows t.materials }) k ≡ body_after_all (map (λ row. Put (record_of (Material row))) rows) k (tables_content t k)
put_all_materials t [] k = refl
put_all_materials t (row ∷ rows) k =
    put_all_materials (record t { materials = with_row (λ row. row.code) code_cmp row t.materials }) rows k
    ∙ ap (body_after_all (map (λ row. Put (record_of (Material row))) rows) k) (put_materials t row k)

module _ (t : Lists) (ticket : TicketRow) (ordered : IsOrdered t) (forms : FormsKept t) where
  members : AllByRecursion (λ r. is_member_row r ≡ true) t.members
  members = each_from_all is_member_row t.members forms.members

  lines : AllByRecursion (λ r. is_line_row r ≡ true) t.lines
  lines = each_from_all is_line_row t.lines forms.lines

  shipments : AllByRecursion (λ r. is_shipment_row r ≡ true) t.shipments
  shipments = each_from_all is_shipment_row t.shipments forms.shipments

  rows_move : (change : RowChange) → FormsKept (with_change_entered t change ticket) → AreDropsInForm change → (k : Key) → tables_content (with_change_made t change) k ≡ body_after_all (row_changes change) k (tables_content t k)
  unfolding with_change_made row_changes AreDropsInForm
  rows_move (change.PutSubstance row room) new drops k = put_substances t row k
  rows_move (change.PutMember row room) new drops k =
      put_members t row k members
      (of_new member_key member_key_cmp (λ r. is_member_row r ≡ true) row t.members (each_from_all is_member_row (with_row member_key member_key_cmp row t.members) new.members))
  rows_move (change.DropMember substance rule) new drops k = drop_members t substance rule k members ordered (lacks_in_code 47 refl substance drops)
  rows_move (change.PutMaterials rows room) new drops k = put_all_materials t rows k
  rows_move (change.PutPart row room) new drops k = put_parts t row k
  rows_move (change.PutLine row room) new drops k =
      put_lines t row k lines (of_new line_key line_key_cmp (λ r. is_line_row r ≡ true) row t.lines (each_from_all is_line_row (with_row line_key line_key_cmp row t.lines) new.lines))
  rows_move (change.DropLine parent child) new drops k = drop_lines t parent child k lines ordered (lacks_in_code 47 refl parent drops)
  rows_move (change.PutProduct row room) new drops k = put_products t row k
  rows_move (change.PutExemption row room) new drops k = put_exemptions t row k
  rows_move (change.DropExemption row) new drops k = drop_exemptions t row k ordered
  rows_move (change.PutCandidate row room) new drops k = put_candidates t row k
  rows_move (change.PutShipment row room) new drops k =
      put_shipments t row k shipments
      (of_new shipment_key shipment_key_cmp (λ r. is_shipment_row r ≡ true) row t.shipments (each_from_all is_shipment_row (with_row shipment_key shipment_key_cmp row t.shipments) new.shipments))
  rows_move (change.DropShipment year product) new drops k = drop_shipments t year product k shipments ordered drops

same_tickets : (t : Lists) (change : RowChange) → (with_change_made t change).tickets ≡ t.tickets
unfolding with_change_made
same_tickets t (change.PutSubstance row room) = refl
same_tickets t (change.PutMember row room) = refl
same_tickets t (change.DropMember substance rule) = refl
same_tickets t (change.PutMaterials rows room) = refl
same_tickets t (change.PutPart row room) = refl
same_tickets t (change.PutLine row room) = refl
same_tickets t (change.DropLine parent child) = refl
same_tickets t (change.PutProduct row room) = refl
same_tickets t (change.PutExemption row room) = refl
same_tickets t (change.DropExemption row) = refl
same_tickets t (change.PutCandidate row room) = refl
same_tickets t (change.PutShipment row room) = refl
same_tickets t (change.DropShipment year product) = refl

enters : (t : Lists) (change : RowChange) (ticket : TicketRow) → Sound t → Sound (with_change_entered t change ticket) → AreDropsInForm change → (k : Key)
    → tables_content (with_change_entered t change ticket) k ≡ body_after_all (row_changes change ++ Put (record_of (Ticket ticket)) ∷ []) k (tables_content t k)
enters t change ticket old new drops k =
    ap (λ tickets. tables_content (record (with_change_made t change) { tickets = with_row (λ row. row.code) code_cmp ticket tickets }) k) (sym (same_tickets t change))
    ∙ put_tickets (with_change_made t change) ticket k
    ∙ ap (changed_at (Put (record_of (Ticket ticket))) k)
    (rows_move t ticket old.consistent.ordered (forms_of t old.consistent.in_form) change (forms_of (with_change_entered t change ticket) new.consistent.in_form) drops k)
    ∙ sym (all_appended (row_changes change) (Put (record_of (Ticket ticket)) ∷ []) k (tables_content t k))

pub kept_moves : (desk : Desk) (edit : Edit) (number : ℕ) → IsPlan desk edit (plan.Kept number) → IsChanged [] (tables_content desk.lists) (tables_content (step desk.lists edit).1)
unfolding tables_planned
kept_moves desk edit number is = λ k. ap (λ done. tables_content done.1 k) is.0

pub new_moves : (desk : Desk) (edit : Edit) (change : RowChange) (ticket : TicketRow) (room : Option ℕ) → Sound desk.lists → is_edit_in_form edit ≡ true → IsPlan desk edit (plan.New change ticket room) → AreDropsInForm change
    → IsChanged (row_changes change ++ Put (record_of (Ticket ticket)) ∷ []) (tables_content desk.lists) (tables_content (step desk.lists edit).1)
unfolding tables_planned
new_moves desk edit change ticket room sound form is drops =
    let new = subst (λ done. Sound done.1) is.0 (Sound-step desk.lists edit sound form) in
    λ k. ap (λ done. tables_content done.1 k) is.0 ∙ enters desk.lists change ticket sound new drops k

pub if_ok : {T E : Type 0} {P Q S : T → Type 0} (r : Result T E) → ((x : T) → P x → Q x → S x) → IfOk r P → IfOk r Q → IfOk r S
if_ok (Ok x) f p q = f x p q
if_ok (Err e) f p q = tt
