-- Sound tables have no more records than their limits allow, and each is that of a row in form.
use Rattle.std.proofs.Common.{◌≡◌, ℕ, zero, suc, ◌+◌, ◌<◌, ◌≤◌, Bool, true, false, List, [], ◌∷◌, ◌++◌, map, length, nat_lt, refl, sym, ap, subst, ◌∙◌, Less, is_some, Some, None, inl, inr, arith, length-append}
use Rattle.std.specs.List.{AllByRecursion}
use Rattle.std.specs.Prelude.{if◌then◌else◌, option_map, slice_index_or}
use Rattle.std.proofs.lemmas.Bool.{cases_Bool, false≢true}
use Rattle.std.proofs.lemmas.Cmp.{tied_itself}
use Rattle.std.proofs.lemmas.List.{length-map}
use Rattle.desk_edge.specs.Content.{IsSame, key_cmp, key_of, same_key}
use Rattle.desk_edge.specs.declared.key.Key.{Key}
use Rattle.desk_edge.specs.declared.record.Record.{Record}
use Rattle.desk_edge.proofs.Keys.{key_order}
use Rattle.desk_rows.specs.Rows.{IsByKey, row_of, without_row}
use Rattle.desk_rows.proofs.Lookups.{row_of-without_row_other}
use Rattle.desk_rows.proofs.Order.{AllAbove, first_above, rest_by_key}
use Rattle.desk_model.specs.declared.limits.TheConstants.{SUBSTANCE_LIMIT, MEMBER_LIMIT, MATERIAL_LIMIT, PART_LIMIT, LINE_LIMIT}
use Rattle.desk_model.specs.declared.limits.TheConstants.{PRODUCT_LIMIT, EXEMPTION_LIMIT, CANDIDATE_LIMIT, SHIPMENT_LIMIT, TICKET_LIMIT}
use Rattle.desk_model.specs.declared.row.Row.{Row}
use Rattle.desk_model.specs.declared.table_name.TableName.TheVariants.{Substances, Members, Materials, Parts, Lines, Products, Exemptions, Candidates, Shipments, Tickets}
use Rattle.desk_model.specs.Lists.{Lists}
use Rattle.desk_model.specs.Rows.{rows_of}
use Rattle.desk_fields.specs.RowTexts.{IsRowInForm}
use Rattle.desk_history.specs.Limits.{tables_over}
use Rattle.desk_history.specs.Sound.{Sound}
use Rattle.desk_history.proofs.TableLimits.{within_limit}
use Rattle.desk_records.specs.Damage.{HasAt, record_limit}
use Rattle.desk_records.specs.Records.{IsOfNoRow, content_in, record_of, records_of, tables_content}
use Rattle.desk_records.proofs.FirstRecords.{one_key}
use Rattle.desk_records.proofs.InForm.{all_in_form}
use Rattle.desk_records.proofs.Moves.{none_at}
use Rattle.desk_records.proofs.PutIn.{not_above}

length-without : (k : Key) (ys : List Record) → is_some (row_of key_of key_cmp k ys) ≡ true → length ys ≡ suc (length (without_row key_of key_cmp k ys))
length-without k [] e = absurd (false≢true e)
length-without k (y ∷ ys) e =
    elim (cases_Bool (same_key (key_of y) k)) [
      | inl same ↦ rw same refl
      | inr other ↦ rw other (ap (λ n. suc n) (length-without k ys (rw other at e)))
    ]

-- records in order are no more than others among which each of their keys is found
pub no_more : (xs ys : List Record) → IsByKey key_of key_cmp xs
    → ((k : Key) → is_some (row_of key_of key_cmp k xs) ≡ true → is_some (row_of key_of key_cmp k ys) ≡ true) → length xs ≤ length ys
no_more [] ys h all = omega arith
no_more (x ∷ xs) ys h all = omega (arith, length-without (key_of x) ys found, no_more xs (without_row key_of key_cmp (key_of x) ys) (rest_by_key key_of key_cmp key_order x xs h) still)
  where
    found : is_some (row_of key_of key_cmp (key_of x) ys) ≡ true
    found = all (key_of x) (rw (tied_itself key_order (key_of x)) refl)

    still : (k : Key) → is_some (row_of key_of key_cmp k xs) ≡ true → is_some (row_of key_of key_cmp k (without_row key_of key_cmp (key_of x) ys)) ≡ true
    still k f =
        elim (cases_Bool (same_key (key_of x) k)) [
          | inl same ↦ absurd (false≢true (sym (ap is_some (none_at (key_of x) k xs same (not_above (key_of x) xs (first_above key_of key_cmp key_order x xs h)))) ∙ f))
          | inr other ↦ ap is_some (row_of-without_row_other key_of key_cmp key_order (key_of x) k ys other) ∙ all k (rw other f)
        ]

-- what the limits of tables say of each
sums : (a b c d e f g h i j : ℕ) → a ≤ SUBSTANCE_LIMIT → b ≤ MEMBER_LIMIT → c ≤ MATERIAL_LIMIT → d ≤ PART_LIMIT → e ≤ LINE_LIMIT → f ≤ PRODUCT_LIMIT → g ≤ EXEMPTION_LIMIT
    → h ≤ CANDIDATE_LIMIT → i ≤ SHIPMENT_LIMIT → j ≤ TICKET_LIMIT → a + b + c + d + e + f + g + h + i + j ≤ record_limit
sums a b c d e f g h i j pa pb pc pd pe pf pg ph pi pj = omega (arith, pa, pb, pc, pd, pe, pf, pg, ph, pi, pj)

rows_fit : (t : Lists) → tables_over t ≡ [] → length (rows_of t) ≤ record_limit
unfolding rows_of
rows_fit t e =
    simp (length-append, length-map)
    (sums (length t.substances) (length t.members) (length t.materials) (length t.parts) (length t.lines) (length t.products) (length t.exemptions) (length t.candidates) (length t.shipments) (length t.tickets)
    (within_limit t e Substances)
    (within_limit t e Members)
    (within_limit t e Materials)
    (within_limit t e Parts)
    (within_limit t e Lines)
    (within_limit t e Products)
    (within_limit t e Exemptions)
    (within_limit t e Candidates)
    (within_limit t e Shipments)
    (within_limit t e Tickets))

-- sound tables have no more records than their limits allow
pub records_fit : (t : Lists) → Sound t → length (records_of t) ≤ record_limit
records_fit t sound = simp length-map (rows_fit t sound.limits.tables_fit)

found_kept : (records : List Record) (k : Key) → is_some (row_of key_of key_cmp k records) ≡ is_some (content_in records k)
found_kept records k = elim (row_of key_of key_cmp k records) as (λ found. is_some found ≡ is_some (option_map (λ kept. kept.body) found)) [ Some kept ↦ refl | None ↦ refl ]

-- records in order whose keys are kept by sound tables are no more than those have
pub few_of_sound : (records : List Record) (t : Lists) → Sound t → IsByKey key_of key_cmp records
    → ((k : Key) → is_some (row_of key_of key_cmp k records) ≡ true → tables_content t k ≡ content_in records k) → length records ≤ record_limit
few_of_sound records t sound by_key kept =
    let few = no_more records (records_of t) by_key (λ k found. found_kept (records_of t) k ∙ ap is_some (kept k found) ∙ sym (found_kept records k) ∙ found) in
    omega (arith, few, records_fit t sound)

none_some : {X : Type 0} {x : X} {G : Type 0} → None ≡ Some x → G
none_some e = cc

some_body : (a b : List ℕ) → Some a ≡ Some b → a ≡ b
some_body a b e = cc

-- what is kept of rows in form is the record of one
found_row : (rows : List Row) (kept : Record) → content_in (map record_of rows) (key_of kept) ≡ Some kept.body → AllByRecursion IsRowInForm rows → (row : Row) × IsRowInForm row × (kept ≡ record_of row)
found_row [] kept e forms = none_some e
found_row (row ∷ rows) kept e forms =
    elim (cases_Bool (same_key (key_of (record_of row)) (key_of kept))) [
      | inl same ↦ (row, forms.0, same_record kept (record_of row) (sym (one_key (key_of (record_of row)) (key_of kept) same)) (sym (some_body (record_of row).body kept.body (rw same at e))))
      | inr other ↦ found_row rows kept (rw other at e) forms.1
    ]
  where
    same_record : (a b : Record) → key_of a ≡ key_of b → a.body ≡ b.body → a ≡ b
    same_record a b k e = λ i. record { kind = (k i).kind; code = (k i).code; body = e i }

above_at : (k : Key) (records : List Record) (place : ℕ) (d : Record) → AllAbove key_of key_cmp key_order k records → place < length records → key_cmp k (key_of (slice_index_or records place d)) ≡ Less
above_at k [] place d above within = absurd (omega (arith, within))
above_at k (kept ∷ records) zero d above within = above.0
above_at k (kept ∷ records) (suc place) d above within = above_at k records place d above.1 (omega (arith, within))

-- each record in order is found under its key
found_at : (records : List Record) (place : ℕ) (d : Record) → IsByKey key_of key_cmp records → place < length records
    → content_in records (key_of (slice_index_or records place d)) ≡ Some (slice_index_or records place d).body
found_at [] place d h within = absurd (omega (arith, within))
found_at (kept ∷ records) zero d h within = rw (tied_itself key_order (key_of kept)) refl
found_at (kept ∷ records) (suc place) d h within =
    rw (above_at (key_of kept) records place d (first_above key_of key_cmp key_order kept records h) (omega (arith, within)))
    (found_at records place d (rest_by_key key_of key_cmp key_order kept records h) (omega (arith, within)))

-- sound tables keep no record that no row has
pub each_has_a_row : (Holds : Record → Type 0) → ((kept : Record) → Holds kept → IsOfNoRow kept) → (records : List Record) (t : Lists) (kind : ℕ) (code : List ℕ) → Sound t
    → IsByKey key_of key_cmp records → IsSame (content_in records) (tables_content t) → HasAt Holds records kind code → ⊥
each_has_a_row Holds none records t kind code sound by_key same lone =
    let kept = lone.1 in
    let found : content_in records (key_of kept) ≡ Some kept.body = subst (λ r. content_in records (key_of r) ≡ Some r.body) lone.3 (found_at records lone.0 kept by_key lone.2) in
    let row = found_row (rows_of t) kept (same (key_of kept) ∙ found) (all_in_form t sound) in
    none kept lone.4.2 row.0 (record { form = row.1; is_written = row.2 })
