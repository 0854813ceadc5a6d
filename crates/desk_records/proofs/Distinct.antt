-- Rows of tables in order and in form have records of different keys.
use Rattle.std.proofs.Common.{◌≡◌, ℕ, suc, ◌+◌, ◌<◌, ◌≤◌, Bool, true, false, cond, List, [], ◌∷◌, ◌++◌, map, refl, sym, ap, ◌∙◌, Ordering, Less, Equal, Greater, is_eq, arith}
use Rattle.std.specs.Cmp.{IsTotalOrder}
use Rattle.std.specs.List.{AllByRecursion}
use Rattle.std.specs.Ordering.{nat_cmp, ordering_then}
use Rattle.std.specs.Prelude.{count_by}
use Rattle.std.proofs.lemmas.Cmp.{ranked, tied_itself}
use Rattle.std.proofs.lemmas.List.{map-append}
use Rattle.desk_text.specs.Code.{code_cmp}
use Rattle.desk_edge.specs.Content.{HaveDistinctKeys, key_of, same_key}
use Rattle.desk_edge.specs.declared.key.Key.{Key}
use Rattle.desk_edge.specs.declared.record.Record.{Record}
use Rattle.desk_rows.specs.Rows.{IsByKey}
use Rattle.desk_rows.proofs.Order.{first_above, rest_by_key}
use Rattle.desk_model.specs.declared.row.Row.{Row}
use Rattle.desk_model.specs.declared.row.Row.TheVariants.{Substance, Member, Material, Part, Line, Product, Exemption, Candidate, Shipment, Ticket}
use Rattle.desk_model.specs.Forms.{is_line_row, is_member_row, is_shipment_row}
use Rattle.desk_model.specs.Lists.{Lists, line_key, line_key_cmp, member_key, member_key_cmp, shipment_key, shipment_key_cmp}
use Rattle.desk_model.specs.Rows.{record_code, rows_of, table_number}
use Rattle.desk_model.proofs.Elements.{count_by-cons, each_from_all, each_map}
use Rattle.desk_model.proofs.Kept.{code_cmp_total, line_key_cmp_total, member_key_cmp_total, shipment_key_cmp_total}
use Rattle.desk_fields.proofs.RowsRead.{member_lacks, parent_lacks, year_lacks}
use Rattle.desk_history.specs.Sound.{Sound}
use Rattle.desk_history.proofs.SoundClauses.{forms_of}
use Rattle.desk_records.specs.Records.{record_of, records_of}
use Rattle.desk_records.proofs.Codes.{lines_agree, members_agree, shipments_agree}
use Rattle.desk_records.proofs.Moves.{AllNot, none_above, same_left}
use Rattle.desk_records.proofs.Planned.{all_of, year_small}

-- no record has the key of one before it
abbrev pub Apart : List Record → Type 0
Apart [] = Unit {0}
Apart (kept ∷ records) = AllNot (key_of kept) records × Apart records

no_more : (j key : Key) (records : List Record) → same_key j key ≡ true → AllNot j records → count_by (λ kept. same_key (key_of kept) key) records ≡ 0
no_more j key [] e a = refl
no_more j key (kept ∷ records) e a =
    count_by-cons (λ kept. same_key (key_of kept) key) kept records
    ∙ (λ i. cond ((sym (same_left j key (key_of kept) e) ∙ a.0) i) 1 0 + no_more j key records e a.1 i)

at_most : (records : List Record) → Apart records → HaveDistinctKeys records
at_most [] a key = omega arith
at_most (kept ∷ records) a key = by (same_key (key_of kept) key) refl (at_most records a.1 key)
  where
    counted : (b : Bool) → same_key (key_of kept) key ≡ b
        → count_by (λ kept. same_key (key_of kept) key) (kept ∷ records) ≡ cond b 1 0 + count_by (λ kept. same_key (key_of kept) key) records
    counted b e = count_by-cons (λ kept. same_key (key_of kept) key) kept records ∙ ap (λ b. cond b 1 0 + count_by (λ kept. same_key (key_of kept) key) records) e

    by : (b : Bool) → same_key (key_of kept) key ≡ b → count_by (λ kept. same_key (key_of kept) key) records ≤ 1 → count_by (λ kept. same_key (key_of kept) key) (kept ∷ records) ≤ 1
    by true e later = omega (arith, counted true e, no_more (key_of kept) key records e a.0)
    by false e later = omega (arith, counted false e, later)

-- the records of one table
module _ {R K : Type 0} (key : R → K) (cmp : K → K → Ordering) (o : IsTotalOrder cmp) (as_row : R → Row) (P : R → Type 0)
    (agree : (a b : R) → P a → P b → same_key (key_of (record_of (as_row a))) (key_of (record_of (as_row b))) ≡ is_eq (cmp (key a) (key b))) where
  table_apart : (rows : List R) → IsByKey key cmp rows → AllByRecursion P rows → Apart (map record_of (map as_row rows))
  table_apart [] h p = tt
  table_apart (row ∷ rows) h p = (
    none_above key cmp o as_row (key row) (key_of (record_of (as_row row))) row rows (tied_itself o (key row)) (first_above key cmp o row rows h)
        (each_map P (λ r. same_key (key_of (record_of (as_row r))) (key_of (record_of (as_row row))) ≡ is_eq (cmp (key r) (key row))) (λ r good. agree r row good p.0) rows p.1),
    table_apart rows (rest_by_key key cmp o row rows h) p.1,
  )

-- the kinds of records are less than this
abbrev AreBelow : ℕ → List Record → Type 0
AreBelow n records = AllByRecursion (λ kept. kept.kind < n) records

kind_differs : (a b : Key) → a.kind < b.kind → same_key b a ≡ false
kind_differs a b less = by (nat_cmp b.kind a.kind) refl
  where
    by : (c : Ordering) → c ≡ nat_cmp b.kind a.kind → is_eq (ordering_then (nat_cmp b.kind a.kind) (code_cmp b.code a.code)) ≡ false
    by Less e = absurd (omega (arith, less, ranked b.kind a.kind Less e))
    by Equal e = absurd (omega (arith, less, ranked b.kind a.kind Equal e))
    by Greater e = ap (λ c. is_eq (ordering_then c (code_cmp b.code a.code))) (sym e)

module _ (n : ℕ) {R : Type 0} (as_row : R → Row) (of_table : (row : R) → table_number (as_row row) ≡ n) where
  differs : (kept : Record) → kept.kind < n → (rows : List R) → AllNot (key_of kept) (map record_of (map as_row rows))
  differs kept less [] = tt
  differs kept less (row ∷ rows) = (kind_differs (key_of kept) (key_of (record_of (as_row row))) (omega (arith, less, of_table row)), differs kept less rows)

  all_not_behind : (j : Key) (some more : List Record) → AllNot j some → AllNot j more → AllNot j (some ++ more)
  all_not_behind j [] more a b = b
  all_not_behind j (kept ∷ some) more a b = (a.0, all_not_behind j some more a.1 b)

  apart_behind : (some : List Record) (rows : List R) → AreBelow n some → Apart some → Apart (map record_of (map as_row rows)) → Apart (some ++ map record_of (map as_row rows))
  apart_behind [] rows below a b = b
  apart_behind (kept ∷ some) rows below a b =
      (all_not_behind (key_of kept) some (map record_of (map as_row rows)) a.0 (differs kept below.0 rows), apart_behind some rows below.1 a.1 b)

  below_behind : (some : List Record) (rows : List R) → AreBelow n some → AreBelow (suc n) (some ++ map record_of (map as_row rows))
  below_behind [] [] below = tt
  below_behind [] (row ∷ rows) below = (omega (arith, of_table row), below_behind [] rows below)
  below_behind (kept ∷ some) rows below = (omega (arith, below.0), below_behind some rows below.1)

  -- the records of the tables so far, and those of one table more
  behind : (front : List Row) (rows : List R) → AreBelow n (map record_of front) × Apart (map record_of front) → Apart (map record_of (map as_row rows))
      → AreBelow (suc n) (map record_of (front ++ map as_row rows)) × Apart (map record_of (front ++ map as_row rows))
  behind front rows so b = rw (map-append record_of front (map as_row rows)) (below_behind (map record_of front) rows so.0, apart_behind (map record_of front) rows so.0 so.1 b)

simple : {R : Type 0} (key : R → List ℕ) (as_row : R → Row)
    → ((a b : R) → same_key (key_of (record_of (as_row a))) (key_of (record_of (as_row b))) ≡ is_eq (code_cmp (key a) (key b)))
    → (rows : List R) → IsByKey key code_cmp rows → Apart (map record_of (map as_row rows))
simple key as_row agree rows h = table_apart key code_cmp code_cmp_total as_row (λ _. Unit {0}) (λ a b _ _. agree a b) rows h (all_of (λ _. Unit {0}) (λ _. tt) rows)

-- no two records of sound tables have one key
pub apart : (t : Lists) → Sound t → Apart (records_of t)
unfolding rows_of table_number record_code
apart t sound =
    let ordered = sound.consistent.ordered in
    let forms = forms_of t sound.consistent.in_form in
    (behind 10 Ticket (λ _. refl) _ t.tickets
    (behind 9 Shipment (λ _. refl) _ t.shipments
    (behind 8 Candidate (λ _. refl) _ t.candidates
    (behind 7 Exemption (λ _. refl) _ t.exemptions
    (behind 6 Product (λ _. refl) _ t.products
    (behind 5 Line (λ _. refl) _ t.lines
    (behind 4 Part (λ _. refl) _ t.parts
    (behind 3 Material (λ _. refl) _ t.materials
    (behind 2 Member (λ _. refl) _ t.members
    (behind 1 Substance (λ _. refl) [] t.substances (tt, tt) (simple (λ row. row.code) Substance (λ _ _. refl) t.substances ordered.substances))
    (table_apart member_key member_key_cmp member_key_cmp_total Member (λ r. is_member_row r ≡ true) (λ a b f g. members_agree a.substance a.rule b.substance b.rule (member_lacks a f) (member_lacks b g))
    t.members ordered.members (each_from_all is_member_row t.members forms.members)))
    (simple (λ row. row.code) Material (λ _ _. refl) t.materials ordered.materials))
    (simple (λ row. row.code) Part (λ _ _. refl) t.parts ordered.parts))
    (table_apart line_key line_key_cmp line_key_cmp_total Line (λ r. is_line_row r ≡ true) (λ a b f g. lines_agree a.parent a.child b.parent b.child (parent_lacks a f) (parent_lacks b g))
    t.lines ordered.lines (each_from_all is_line_row t.lines forms.lines)))
    (simple (λ row. row.part) Product (λ _ _. refl) t.products ordered.products))
    (simple (λ row. row.terms.row) Exemption (λ _ _. refl) t.exemptions ordered.exemptions))
    (simple (λ row. row.substance) Candidate (λ _ _. refl) t.candidates ordered.candidates))
    (table_apart shipment_key shipment_key_cmp shipment_key_cmp_total Shipment (λ r. is_shipment_row r ≡ true)
    (λ a b f g. shipments_agree a.year a.product b.year b.product (year_small a f) (year_small b g) (year_lacks a f) (year_lacks b g))
    t.shipments ordered.shipments (each_from_all is_shipment_row t.shipments forms.shipments)))
    (simple (λ row. row.code) Ticket (λ _ _. refl) t.tickets ordered.tickets)).1

pub distinct : (t : Lists) → Sound t → HaveDistinctKeys (records_of t)
distinct t sound = at_most (records_of t) (apart t sound)
