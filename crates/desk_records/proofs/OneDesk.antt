-- Tables in order and in form that keep the same records are the same tables.
use Rattle.std.proofs.Common.{◌≡◌, ℕ, true, false, cond, List, [], ◌∷◌, refl, sym, ap, subst, ◌∙◌, Ordering, Less, Equal, Greater, is_eq, Option, Some, None, inl, inr}
use Rattle.std.specs.Cmp.{IsTotalOrder}
use Rattle.std.specs.List.{AllByRecursion}
use Rattle.std.specs.Prelude.{option_map}
use Rattle.std.proofs.lemmas.Bool.{cases_Bool}
use Rattle.std.proofs.lemmas.Cmp.{tied_itself}
use Rattle.desk_text.specs.Code.{code_cmp}
use Rattle.desk_edge.specs.Content.{IsSame, key_of, same_key}
use Rattle.desk_edge.specs.declared.key.Key.{Key}
use Rattle.desk_edge.specs.declared.record.Record.{Record}
use Rattle.desk_edge.proofs.Keys.{key_order}
use Rattle.desk_rows.specs.Rows.{IsByKey}
use Rattle.desk_rows.proofs.Order.{AllAbove, AllAbove-down, first_above, less_back, rest_by_key}
use Rattle.desk_model.specs.declared.row.Row.{Row}
use Rattle.desk_model.specs.declared.row.Row.TheVariants.{Substance, Member, Material, Part, Line, Product, Exemption, Candidate, Shipment, Ticket}
use Rattle.desk_model.specs.declared.rows.substance.SubstanceRow.{SubstanceRow}
use Rattle.desk_model.specs.declared.rows.member.MemberRow.{MemberRow}
use Rattle.desk_model.specs.declared.rows.material.MaterialRow.{MaterialRow}
use Rattle.desk_model.specs.declared.rows.part.PartRow.{PartRow}
use Rattle.desk_model.specs.declared.rows.line.LineRow.{LineRow}
use Rattle.desk_model.specs.declared.rows.product.ProductRow.{ProductRow}
use Rattle.desk_model.specs.declared.rows.exemption.ExemptionRow.{ExemptionRow}
use Rattle.desk_model.specs.declared.rows.candidate.CandidateRow.{CandidateRow}
use Rattle.desk_model.specs.declared.rows.shipment.ShipmentRow.{ShipmentRow}
use Rattle.desk_model.specs.declared.rows.ticket.TicketRow.{TicketRow}
use Rattle.desk_model.specs.Lists.{IsOrdered, Lists, line_key, line_key_cmp, member_key, member_key_cmp, shipment_key, shipment_key_cmp}
use Rattle.desk_model.specs.Rows.{record_code, table_number}
use Rattle.desk_model.proofs.Elements.{each_map}
use Rattle.desk_model.proofs.Kept.{code_cmp_total, line_key_cmp_total, member_key_cmp_total, shipment_key_cmp_total}
use Rattle.desk_fields.specs.RowTexts.{IsRowInForm}
use Rattle.desk_fields.proofs.RowsRead.{member_lacks, parent_lacks, year_lacks}
use Rattle.desk_records.specs.Records.{record_of, records_of, tables_content}
use Rattle.desk_records.proofs.Codes.{lines_agree, members_agree, shipments_agree}
use Rattle.desk_records.proofs.FirstRecords.{one_key}
use Rattle.desk_records.proofs.Moves.{AllNot, look, none_above, none_at}
use Rattle.desk_records.proofs.Planned.{year_small}
use Rattle.desk_records.proofs.PutIn.{AreInForm}
use Rattle.desk_records.proofs.RowsRecords.{one_row}
use Rattle.desk_records.proofs.Tabled.{in_table, look_candidates, look_exemptions, look_lines, look_materials, look_members, look_parts, look_products, look_shipments, look_substances, look_tickets}

-- the rows of one table
module _ {R K : Type 0} (key : R → K) (cmp : K → K → Ordering) (o : IsTotalOrder cmp) (as_row : R → Row) (P : R → Type 0)
    (agree : (a b : R) → P a → P b → same_key (key_of (record_of (as_row a))) (key_of (record_of (as_row b))) ≡ is_eq (cmp (key a) (key b)))
    (one : (a b : R) → P a → P b → record_of (as_row a) ≡ record_of (as_row b) → a ≡ b) where
  own_key : R → Key
  own_key row = key_of (record_of (as_row row))

  -- what is kept of the rows under a key
  kept : List R → Key → Option (List ℕ)
  kept rows k = option_map (λ r. r.body) (look (in_table as_row rows) k)

  first_kept : (row : R) (rows : List R) → kept (row ∷ rows) (own_key row) ≡ Some (record_of (as_row row)).body
  unfolding kept own_key
  first_kept row rows = rw (tied_itself key_order (key_of (record_of (as_row row)))) refl

  not_in : (row : R) (rows : List R) → AllAbove key cmp o (key row) rows → P row → AllByRecursion P rows → AllNot (own_key row) (in_table as_row rows)
  unfolding own_key
  not_in row rows above p ps =
      none_above key cmp o as_row (key row) (key_of (record_of (as_row row))) row rows (tied_itself o (key row)) above
      (each_map P (λ r. same_key (key_of (record_of (as_row r))) (key_of (record_of (as_row row))) ≡ is_eq (cmp (key r) (key row))) (λ r q. agree r row q p) rows ps)

  none_kept : (row : R) (rows : List R) (k : Key) → same_key (own_key row) k ≡ true → AllAbove key cmp o (key row) rows → P row → AllByRecursion P rows → kept rows k ≡ None
  unfolding kept own_key
  none_kept row rows k same above p ps = ap (option_map (λ r. r.body)) (none_at (key_of (record_of (as_row row))) k (in_table as_row rows) same (not_in row rows above p ps))

  itself : (row : R) → same_key (own_key row) (own_key row) ≡ true
  itself row = ap is_eq (tied_itself key_order (own_key row))

  other_kept : (row : R) (rows : List R) (k : Key) → same_key (own_key row) k ≡ false → kept (row ∷ rows) k ≡ kept rows k
  unfolding kept own_key
  other_kept row rows k other = rw other refl

  none_some : {X : Type 0} {x : X} {G : Type 0} → None ≡ Some x → G
  none_some e = cc

  same_body : (a b : List ℕ) → Some a ≡ Some b → a ≡ b
  same_body a b e = cc

  module _ (n : ℕ) (of_table : (row : R) → table_number (as_row row) ≡ n) where
    at_own : (xs ys : List R) → ((code : List ℕ) → kept xs (record { kind = n; code = code }) ≡ kept ys (record { kind = n; code = code })) → (row : R) → kept xs (own_key row) ≡ kept ys (own_key row)
    unfolding own_key
    at_own xs ys h row = subst (λ m. kept xs (record { kind = m; code = record_code (as_row row) }) ≡ kept ys (record { kind = m; code = record_code (as_row row) })) (sym (of_table row)) (h (record_code (as_row row)))

    none_of_none : (row : R) → kept [] (own_key row) ≡ None
    unfolding kept
    none_of_none row = refl

    -- what is kept behind two first rows of one key is the same where all is
    behind : (x y : R) (xs ys : List R) → IsByKey key cmp (x ∷ xs) → IsByKey key cmp (y ∷ ys) → AllByRecursion P (x ∷ xs) → AllByRecursion P (y ∷ ys)
        → own_key x ≡ own_key y → (k : Key) → kept (x ∷ xs) k ≡ kept (y ∷ ys) k → kept xs k ≡ kept ys k
    behind x y xs ys hx hy px py keys k all =
        elim (cases_Bool (same_key (own_key x) k)) [
          | inl same ↦
              none_kept x xs k same (first_above key cmp o x xs hx) px.0 px.1
              ∙ sym (none_kept y ys k (subst (λ j. same_key j k ≡ true) keys same) (first_above key cmp o y ys hy) py.0 py.1)
          | inr other ↦ sym (other_kept x xs k other) ∙ all ∙ other_kept y ys k (subst (λ j. same_key j k ≡ false) keys other)
        ]

    same_record : (a b : Record) → key_of a ≡ key_of b → a.body ≡ b.body → a ≡ b
    same_record a b k e = λ i. record { kind = (k i).kind; code = (k i).code; body = e i }

    same_first : (x y : R) → P x → P y → own_key x ≡ own_key y → Some (record_of (as_row x)).body ≡ Some (record_of (as_row y)).body → x ≡ y
    unfolding own_key
    same_first x y p q keys bodies =
        one x y p q (same_record (record_of (as_row x)) (record_of (as_row y)) keys (same_body (record_of (as_row x)).body (record_of (as_row y)).body bodies))

    agree_own : (x y : R) → P x → P y → same_key (own_key x) (own_key y) ≡ is_eq (cmp (key x) (key y))
    unfolding own_key
    agree_own = agree

    AreAlike : List R → List R → Type 0
    AreAlike xs ys = (code : List ℕ) → kept xs (record { kind = n; code = code }) ≡ kept ys (record { kind = n; code = code })

    step : (x y : R) (xs ys : List R) → IsByKey key cmp (x ∷ xs) → IsByKey key cmp (y ∷ ys) → AllByRecursion P (x ∷ xs) → AllByRecursion P (y ∷ ys)
        → AreAlike (x ∷ xs) (y ∷ ys) → (AreAlike xs ys → xs ≡ ys) → (a : Ordering) → cmp (key x) (key y) ≡ a → x ∷ xs ≡ y ∷ ys
    unfolding AreAlike
    step x y xs ys hx hy px py h ih Less e =
        let above = AllAbove-down key cmp o (key x) (key y) ys e (first_above key cmp o y ys hy) in
        none_some (sym (none_kept x (y ∷ ys) (own_key x) (itself x) (e, above) px.0 py) ∙ sym (at_own (x ∷ xs) (y ∷ ys) h x) ∙ first_kept x xs)
    step x y xs ys hx hy px py h ih Greater e =
        let less = less_back key cmp o (key x) (key y) e in
        let above = AllAbove-down key cmp o (key y) (key x) xs less (first_above key cmp o x xs hx) in
        none_some (sym (none_kept y (x ∷ xs) (own_key y) (itself y) (less, above) py.0 px) ∙ at_own (x ∷ xs) (y ∷ ys) h y ∙ first_kept y ys)
    step x y xs ys hx hy px py h ih Equal e =
        let keys : own_key x ≡ own_key y = one_key (own_key x) (own_key y) (agree_own x y px.0 py.0 ∙ ap is_eq e) in
        let first : x ≡ y = same_first x y px.0 py.0 keys (sym (first_kept x xs) ∙ at_own (x ∷ xs) (y ∷ ys) h x ∙ ap (kept (y ∷ ys)) keys ∙ first_kept y ys) in
        let later : xs ≡ ys = ih (λ code. behind x y xs ys hx hy px py keys (record { kind = n; code = code }) (h code)) in
        λ i. first i ∷ later i

    same_rows : (xs ys : List R) → IsByKey key cmp xs → IsByKey key cmp ys → AllByRecursion P xs → AllByRecursion P ys
        → ((code : List ℕ) → kept xs (record { kind = n; code = code }) ≡ kept ys (record { kind = n; code = code })) → xs ≡ ys
    unfolding AreAlike
    same_rows [] [] hx hy px py h = refl
    same_rows [] (y ∷ ys) hx hy px py h = none_some (sym (none_of_none y) ∙ at_own [] (y ∷ ys) h y ∙ first_kept y ys)
    same_rows (x ∷ xs) [] hx hy px py h = none_some (sym (none_of_none x) ∙ sym (at_own (x ∷ xs) [] h x) ∙ first_kept x xs)
    same_rows (x ∷ xs) (y ∷ ys) hx hy px py h =
        step x y xs ys hx hy px py h (same_rows xs ys (rest_by_key key cmp o x xs hx) (rest_by_key key cmp o y ys hy) px.1 py.1) (cmp (key x) (key y)) refl

-- a look-up under a key of one table is one among its rows
in_its_table : (k : Key) (o found rest : Option Record) → found ≡ cond (same_key k k) o rest → found ≡ o
in_its_table k o found rest e = e ∙ ap (λ b. cond b o rest) (ap is_eq (tied_itself key_order k))

of_its_table : (k : Key) (o : Option Record) → o ≡ cond (same_key k k) o None
of_its_table k o = sym (ap (λ b. cond b o None) (ap is_eq (tied_itself key_order k)))

same_written : (a b : Row) → IsRowInForm a → IsRowInForm b → record_of a ≡ record_of b → a ≡ b
same_written a b f g e = one_row (record_of a) a b (record { form = f; is_written = refl }) (record { form = g; is_written = e })

same_substance : (a b : SubstanceRow) → Substance a ≡ Substance b → a ≡ b
same_substance a b e = cc

in_substances : (t : Lists) (code : List ℕ) → look (records_of t) (record { kind = 1; code = code }) ≡ look (in_table Substance t.substances) (record { kind = 1; code = code })
in_substances t code =
    let k : Key = record { kind = 1; code = code } in
    let o = look (in_table Substance t.substances) k in
    in_its_table k o (look (records_of t) k) (look (records_of (record t { substances = [] })) k) (look_substances (record t { substances = [] }) t.substances code o k (of_its_table k o))

substances_same : (t u : Lists) → IsOrdered t → IsOrdered u → AreInForm t → AreInForm u → IsSame (tables_content t) (tables_content u) → t.substances ≡ u.substances
unfolding table_number record_code IsRowInForm kept
substances_same t u to uo tf uf same =
    same_rows (λ row. row.code) code_cmp code_cmp_total Substance (λ r. IsRowInForm (Substance r)) (λ a b f g. refl)
    (λ a b f g e. same_substance a b (same_written (Substance a) (Substance b) f g e)) 1 (λ _. refl)
    t.substances u.substances to.substances uo.substances tf.substances uf.substances
    (λ code.
    ap (option_map (λ r. r.body)) (sym (in_substances t code)) ∙ sym (same (record { kind = 1; code = code })) ∙ ap (option_map (λ r. r.body)) (in_substances u code))

same_member : (a b : MemberRow) → Member a ≡ Member b → a ≡ b
same_member a b e = cc

in_members : (t : Lists) (code : List ℕ) → look (records_of t) (record { kind = 2; code = code }) ≡ look (in_table Member t.members) (record { kind = 2; code = code })
in_members t code =
    let k : Key = record { kind = 2; code = code } in
    let o = look (in_table Member t.members) k in
    in_its_table k o (look (records_of t) k) (look (records_of (record t { members = [] })) k) (look_members (record t { members = [] }) t.members code o k (of_its_table k o))

members_same : (t u : Lists) → IsOrdered t → IsOrdered u → AreInForm t → AreInForm u → IsSame (tables_content t) (tables_content u) → t.members ≡ u.members
unfolding table_number record_code IsRowInForm kept
members_same t u to uo tf uf same =
    same_rows member_key member_key_cmp member_key_cmp_total Member (λ r. IsRowInForm (Member r)) (λ a b f g. members_agree a.substance a.rule b.substance b.rule (member_lacks a f) (member_lacks b g))
    (λ a b f g e. same_member a b (same_written (Member a) (Member b) f g e)) 2 (λ _. refl)
    t.members u.members to.members uo.members tf.members uf.members
    (λ code.
    ap (option_map (λ r. r.body)) (sym (in_members t code)) ∙ sym (same (record { kind = 2; code = code })) ∙ ap (option_map (λ r. r.body)) (in_members u code))

same_material : (a b : MaterialRow) → Material a ≡ Material b → a ≡ b
same_material a b e = cc

in_materials : (t : Lists) (code : List ℕ) → look (records_of t) (record { kind = 3; code = code }) ≡ look (in_table Material t.materials) (record { kind = 3; code = code })
in_materials t code =
    let k : Key = record { kind = 3; code = code } in
    let o = look (in_table Material t.materials) k in
    in_its_table k o (look (records_of t) k) (look (records_of (record t { materials = [] })) k) (look_materials (record t { materials = [] }) t.materials code o k (of_its_table k o))

materials_same : (t u : Lists) → IsOrdered t → IsOrdered u → AreInForm t → AreInForm u → IsSame (tables_content t) (tables_content u) → t.materials ≡ u.materials
unfolding table_number record_code IsRowInForm kept
materials_same t u to uo tf uf same =
    same_rows (λ row. row.code) code_cmp code_cmp_total Material (λ r. IsRowInForm (Material r)) (λ a b f g. refl)
    (λ a b f g e. same_material a b (same_written (Material a) (Material b) f g e)) 3 (λ _. refl)
    t.materials u.materials to.materials uo.materials tf.materials uf.materials
    (λ code.
    ap (option_map (λ r. r.body)) (sym (in_materials t code)) ∙ sym (same (record { kind = 3; code = code })) ∙ ap (option_map (λ r. r.body)) (in_materials u code))

same_part : (a b : PartRow) → Part a ≡ Part b → a ≡ b
same_part a b e = cc

in_parts : (t : Lists) (code : List ℕ) → look (records_of t) (record { kind = 4; code = code }) ≡ look (in_table Part t.parts) (record { kind = 4; code = code })
in_parts t code =
    let k : Key = record { kind = 4; code = code } in
    let o = look (in_table Part t.parts) k in
    in_its_table k o (look (records_of t) k) (look (records_of (record t { parts = [] })) k) (look_parts (record t { parts = [] }) t.parts code o k (of_its_table k o))

parts_same : (t u : Lists) → IsOrdered t → IsOrdered u → AreInForm t → AreInForm u → IsSame (tables_content t) (tables_content u) → t.parts ≡ u.parts
unfolding table_number record_code IsRowInForm kept
parts_same t u to uo tf uf same =
    same_rows (λ row. row.code) code_cmp code_cmp_total Part (λ r. IsRowInForm (Part r)) (λ a b f g. refl)
    (λ a b f g e. same_part a b (same_written (Part a) (Part b) f g e)) 4 (λ _. refl)
    t.parts u.parts to.parts uo.parts tf.parts uf.parts
    (λ code.
    ap (option_map (λ r. r.body)) (sym (in_parts t code)) ∙ sym (same (record { kind = 4; code = code })) ∙ ap (option_map (λ r. r.body)) (in_parts u code))

same_line : (a b : LineRow) → Line a ≡ Line b → a ≡ b
same_line a b e = cc

in_lines : (t : Lists) (code : List ℕ) → look (records_of t) (record { kind = 5; code = code }) ≡ look (in_table Line t.lines) (record { kind = 5; code = code })
in_lines t code =
    let k : Key = record { kind = 5; code = code } in
    let o = look (in_table Line t.lines) k in
    in_its_table k o (look (records_of t) k) (look (records_of (record t { lines = [] })) k) (look_lines (record t { lines = [] }) t.lines code o k (of_its_table k o))

lines_same : (t u : Lists) → IsOrdered t → IsOrdered u → AreInForm t → AreInForm u → IsSame (tables_content t) (tables_content u) → t.lines ≡ u.lines
unfolding table_number record_code IsRowInForm kept
lines_same t u to uo tf uf same =
    same_rows line_key line_key_cmp line_key_cmp_total Line (λ r. IsRowInForm (Line r)) (λ a b f g. lines_agree a.parent a.child b.parent b.child (parent_lacks a f) (parent_lacks b g))
    (λ a b f g e. same_line a b (same_written (Line a) (Line b) f g e)) 5 (λ _. refl)
    t.lines u.lines to.lines uo.lines tf.lines uf.lines
    (λ code.
    ap (option_map (λ r. r.body)) (sym (in_lines t code)) ∙ sym (same (record { kind = 5; code = code })) ∙ ap (option_map (λ r. r.body)) (in_lines u code))

same_product : (a b : ProductRow) → Product a ≡ Product b → a ≡ b
same_product a b e = cc

in_products : (t : Lists) (code : List ℕ) → look (records_of t) (record { kind = 6; code = code }) ≡ look (in_table Product t.products) (record { kind = 6; code = code })
in_products t code =
    let k : Key = record { kind = 6; code = code } in
    let o = look (in_table Product t.products) k in
    in_its_table k o (look (records_of t) k) (look (records_of (record t { products = [] })) k) (look_products (record t { products = [] }) t.products code o k (of_its_table k o))

products_same : (t u : Lists) → IsOrdered t → IsOrdered u → AreInForm t → AreInForm u → IsSame (tables_content t) (tables_content u) → t.products ≡ u.products
unfolding table_number record_code IsRowInForm kept
products_same t u to uo tf uf same =
    same_rows (λ row. row.part) code_cmp code_cmp_total Product (λ r. IsRowInForm (Product r)) (λ a b f g. refl)
    (λ a b f g e. same_product a b (same_written (Product a) (Product b) f g e)) 6 (λ _. refl)
    t.products u.products to.products uo.products tf.products uf.products
    (λ code.
    ap (option_map (λ r. r.body)) (sym (in_products t code)) ∙ sym (same (record { kind = 6; code = code })) ∙ ap (option_map (λ r. r.body)) (in_products u code))

same_exemption : (a b : ExemptionRow) → Exemption a ≡ Exemption b → a ≡ b
same_exemption a b e = cc

in_exemptions : (t : Lists) (code : List ℕ) → look (records_of t) (record { kind = 7; code = code }) ≡ look (in_table Exemption t.exemptions) (record { kind = 7; code = code })
in_exemptions t code =
    let k : Key = record { kind = 7; code = code } in
    let o = look (in_table Exemption t.exemptions) k in
    in_its_table k o (look (records_of t) k) (look (records_of (record t { exemptions = [] })) k) (look_exemptions (record t { exemptions = [] }) t.exemptions code o k (of_its_table k o))

exemptions_same : (t u : Lists) → IsOrdered t → IsOrdered u → AreInForm t → AreInForm u → IsSame (tables_content t) (tables_content u) → t.exemptions ≡ u.exemptions
unfolding table_number record_code IsRowInForm kept
exemptions_same t u to uo tf uf same =
    same_rows (λ row. row.terms.row) code_cmp code_cmp_total Exemption (λ r. IsRowInForm (Exemption r)) (λ a b f g. refl)
    (λ a b f g e. same_exemption a b (same_written (Exemption a) (Exemption b) f g e)) 7 (λ _. refl)
    t.exemptions u.exemptions to.exemptions uo.exemptions tf.exemptions uf.exemptions
    (λ code.
    ap (option_map (λ r. r.body)) (sym (in_exemptions t code)) ∙ sym (same (record { kind = 7; code = code })) ∙ ap (option_map (λ r. r.body)) (in_exemptions u code))

same_candidate : (a b : CandidateRow) → Candidate a ≡ Candidate b → a ≡ b
same_candidate a b e = cc

in_candidates : (t : Lists) (code : List ℕ) → look (records_of t) (record { kind = 8; code = code }) ≡ look (in_table Candidate t.candidates) (record { kind = 8; code = code })
in_candidates t code =
    let k : Key = record { kind = 8; code = code } in
    let o = look (in_table Candidate t.candidates) k in
    in_its_table k o (look (records_of t) k) (look (records_of (record t { candidates = [] })) k) (look_candidates (record t { candidates = [] }) t.candidates code o k (of_its_table k o))

candidates_same : (t u : Lists) → IsOrdered t → IsOrdered u → AreInForm t → AreInForm u → IsSame (tables_content t) (tables_content u) → t.candidates ≡ u.candidates
unfolding table_number record_code IsRowInForm kept
candidates_same t u to uo tf uf same =
    same_rows (λ row. row.substance) code_cmp code_cmp_total Candidate (λ r. IsRowInForm (Candidate r)) (λ a b f g. refl)
    (λ a b f g e. same_candidate a b (same_written (Candidate a) (Candidate b) f g e)) 8 (λ _. refl)
    t.candidates u.candidates to.candidates uo.candidates tf.candidates uf.candidates
    (λ code.
    ap (option_map (λ r. r.body)) (sym (in_candidates t code)) ∙ sym (same (record { kind = 8; code = code })) ∙ ap (option_map (λ r. r.body)) (in_candidates u code))

same_shipment : (a b : ShipmentRow) → Shipment a ≡ Shipment b → a ≡ b
same_shipment a b e = cc

in_shipments : (t : Lists) (code : List ℕ) → look (records_of t) (record { kind = 9; code = code }) ≡ look (in_table Shipment t.shipments) (record { kind = 9; code = code })
in_shipments t code =
    let k : Key = record { kind = 9; code = code } in
    let o = look (in_table Shipment t.shipments) k in
    in_its_table k o (look (records_of t) k) (look (records_of (record t { shipments = [] })) k) (look_shipments (record t { shipments = [] }) t.shipments code o k (of_its_table k o))

shipments_same : (t u : Lists) → IsOrdered t → IsOrdered u → AreInForm t → AreInForm u → IsSame (tables_content t) (tables_content u) → t.shipments ≡ u.shipments
unfolding table_number record_code IsRowInForm kept
shipments_same t u to uo tf uf same =
    same_rows shipment_key shipment_key_cmp shipment_key_cmp_total Shipment (λ r. IsRowInForm (Shipment r)) (λ a b f g. shipments_agree a.year a.product b.year b.product (year_small a f) (year_small b g) (year_lacks a f) (year_lacks b g))
    (λ a b f g e. same_shipment a b (same_written (Shipment a) (Shipment b) f g e)) 9 (λ _. refl)
    t.shipments u.shipments to.shipments uo.shipments tf.shipments uf.shipments
    (λ code.
    ap (option_map (λ r. r.body)) (sym (in_shipments t code)) ∙ sym (same (record { kind = 9; code = code })) ∙ ap (option_map (λ r. r.body)) (in_shipments u code))

same_ticket : (a b : TicketRow) → Ticket a ≡ Ticket b → a ≡ b
same_ticket a b e = cc

in_tickets : (t : Lists) (code : List ℕ) → look (records_of t) (record { kind = 10; code = code }) ≡ look (in_table Ticket t.tickets) (record { kind = 10; code = code })
in_tickets t code =
    let k : Key = record { kind = 10; code = code } in
    let o = look (in_table Ticket t.tickets) k in
    in_its_table k o (look (records_of t) k) (look (records_of (record t { tickets = [] })) k) (look_tickets (record t { tickets = [] }) t.tickets code o k (of_its_table k o))

tickets_same : (t u : Lists) → IsOrdered t → IsOrdered u → AreInForm t → AreInForm u → IsSame (tables_content t) (tables_content u) → t.tickets ≡ u.tickets
unfolding table_number record_code IsRowInForm kept
tickets_same t u to uo tf uf same =
    same_rows (λ row. row.code) code_cmp code_cmp_total Ticket (λ r. IsRowInForm (Ticket r)) (λ a b f g. refl)
    (λ a b f g e. same_ticket a b (same_written (Ticket a) (Ticket b) f g e)) 10 (λ _. refl)
    t.tickets u.tickets to.tickets uo.tickets tf.tickets uf.tickets
    (λ code.
    ap (option_map (λ r. r.body)) (sym (in_tickets t code)) ∙ sym (same (record { kind = 10; code = code })) ∙ ap (option_map (λ r. r.body)) (in_tickets u code))

-- tables in order and in form are told by their records
pub one_desk : (t u : Lists) → IsOrdered t → IsOrdered u → AreInForm t → AreInForm u → IsSame (tables_content t) (tables_content u) → t ≡ u
one_desk t u to uo tf uf same = λ i. record {
  substances = substances_same t u to uo tf uf same i;
  members = members_same t u to uo tf uf same i;
  materials = materials_same t u to uo tf uf same i;
  parts = parts_same t u to uo tf uf same i;
  lines = lines_same t u to uo tf uf same i;
  products = products_same t u to uo tf uf same i;
  exemptions = exemptions_same t u to uo tf uf same i;
  candidates = candidates_same t u to uo tf uf same i;
  shipments = shipments_same t u to uo tf uf same i;
  tickets = tickets_same t u to uo tf uf same i;
}
