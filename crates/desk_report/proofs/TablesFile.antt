-- The export file of sound tables: the lines of each table in turn, sorted by itself.
use Rattle.std.proofs.Common.{◌≡◌, ℕ, zero, suc, ◌+◌, ◌≤◌, ◌<◌, List, [], ◌∷◌, ◌++◌, map, length, take, drop, get_or, refl, sym, ap, subst, ◌∙◌, arith, Less, append-nil, append_assoc, length-append}
use Rattle.std.specs.Cmp.{nat_cmp_is}
use Rattle.std.specs.Cmp.Lexicographic.{slice_cmp}
use Rattle.std.specs.List.{AllByRecursion, flat_map}
use Rattle.std.specs.Ordering.{nat_cmp, ordering_then}
use Rattle.std.specs.Prelude.{count_by}
use Rattle.std.proofs.Math.Seq.{take-suc}
use Rattle.std.proofs.lemmas.List.{map-append}
use Rattle.std.proofs.lemmas.List.Concat.{flat_map-append}
use Rattle.std.proofs.lemmas.List.Folds.{length-flat_map-take}
use Rattle.std.proofs.lemmas.List.Sums.{sum_by-append}
use Rattle.desk_edge.specs.Content.{HaveDistinctKeys, IsSame, key_cmp, key_of, same_key}
use Rattle.desk_edge.specs.Stores.{records_with_all}
use Rattle.desk_edge.specs.declared.change.Change.TheVariants.{Put}
use Rattle.desk_edge.specs.declared.key.Key.{Key}
use Rattle.desk_edge.specs.declared.record.Record.{Record}
use Rattle.desk_edge.proofs.Contents.{are_changed}
use Rattle.desk_edge.proofs.Keys.{key_order}
use Rattle.desk_rows.specs.Rows.{IsByKey, with_row, with_rows}
use Rattle.desk_rows.proofs.Lookups.{each_with_rows}
use Rattle.desk_rows.proofs.Order.{none_by_key}
use Rattle.desk_history.specs.Sound.{Sound}
use Rattle.desk_model.specs.Lists.{Lists}
use Rattle.desk_model.specs.Rows.{rows_of, table_number}
use Rattle.desk_model.specs.declared.row.Row.{Row}
use Rattle.desk_model.specs.declared.row.Row.TheVariants.{Substance, Member, Material, Part, Line, Product, Exemption, Candidate, Shipment, Ticket}
use Rattle.desk_records.specs.Damage.{record_limit}
use Rattle.desk_records.specs.Records.{content_in, record_of, records_of, tables_content}
use Rattle.desk_records.proofs.Distinct.{Apart, apart, distinct}
use Rattle.desk_records.proofs.Few.{few_of_sound}
use Rattle.desk_records.proofs.PutIn.{puts}
use Rattle.desk_report.specs.File.{AreAllOf, in_table, table_at, tables_in}
use Rattle.desk_report.specs.Lines.{line_of, record_lines, sorted}
use Rattle.desk_report.proofs.Parts.{parts_at}
use Rattle.desk_report.proofs.Sorting.{sorted_by_key}

-- ---- lists behind one another

-- the records of all the lists
abbrev pub all_in : List (List Record) → List Record
all_in [] = []
all_in (records ∷ lists) = records ++ all_in lists

-- rows behind one another
abbrev joined : List Row → List (List Row) → List Row
joined first [] = first
joined first (rows ∷ more) = joined (first ++ rows) more

all_joined : (first : List Row) (more : List (List Row)) → map record_of (joined first more) ≡ map record_of first ++ all_in (map (map record_of) more)
all_joined first [] = sym (append-nil (map record_of first))
all_joined first (rows ∷ more) =
    all_joined (first ++ rows) more
    ∙ ap (λ l. l ++ all_in (map (map record_of) more)) (map-append record_of first rows)
    ∙ append_assoc (map record_of first) (map record_of rows) (all_in (map (map record_of) more))

tables_joined : (t : Lists) → records_of t ≡ all_in (tables_in t)
unfolding rows_of
tables_joined t =
    all_joined (map Substance t.substances)
    (map Member t.members ∷ map Material t.materials ∷ map Part t.parts ∷ map Line t.lines ∷ map Product t.products ∷ map Exemption t.exemptions ∷ map Candidate t.candidates ∷ map Shipment t.shipments ∷ map Ticket t.tickets ∷ [])

count_append : (key : Key) (some more : List Record)
    → count_by (λ kept. same_key (key_of kept) key) (some ++ more) ≡ count_by (λ kept. same_key (key_of kept) key) some + count_by (λ kept. same_key (key_of kept) key) more
count_append key some more = sum_by-append _ some more

-- records of which no two have one key are so in each list
distinct_each : (lists : List (List Record)) → HaveDistinctKeys (all_in lists) → AllByRecursion HaveDistinctKeys lists
distinct_each [] all = tt
distinct_each (records ∷ lists) all = (
  λ key. omega (arith, all key, count_append key records (all_in lists)),
  distinct_each lists (λ key. omega (arith, all key, count_append key records (all_in lists))),
)

at_place : (P : List Record → Type 0) (lists : List (List Record)) (i : ℕ) (d : List Record) → i < length lists → AllByRecursion P lists → P (get_or lists i d)
at_place P [] i d l all = absurd (omega (arith, l))
at_place P (records ∷ lists) zero d l all = all.0
at_place P (records ∷ lists) (suc i) d l all = at_place P lists i d (omega (arith, l)) all.1

pub distinct_at : (t : Lists) (place : ℕ) → Sound t → place < 10 → HaveDistinctKeys (table_at t place)
distinct_at t place sound l = at_place HaveDistinctKeys (tables_in t) place [] l (distinct_each (tables_in t) (subst HaveDistinctKeys (tables_joined t) (distinct t sound)))

-- ---- sorted one list after the other

abbrev AllOf : ℕ → List Record → Type 0
AllOf n records = AllByRecursion (λ kept. kept.kind ≡ n) records

-- the lists are of one kind each, from this one on
abbrev KindsFrom : ℕ → List (List Record) → Type 0
KindsFrom n [] = Unit {0}
KindsFrom n (records ∷ lists) = AllOf n records × KindsFrom (suc n) lists

past_behind : (n : ℕ) (records more : List Record) → AllByRecursion (λ kept. n < kept.kind) records → AllByRecursion (λ kept. n < kept.kind) more
    → AllByRecursion (λ kept. n < kept.kind) (records ++ more)
past_behind n [] more all rest = rest
past_behind n (kept ∷ records) more all rest = (all.0, past_behind n records more all.1 rest)

past_kind : (n m : ℕ) (records : List Record) → n < m → AllOf m records → AllByRecursion (λ kept. n < kept.kind) records
past_kind n m [] l all = tt
past_kind n m (kept ∷ records) l all = (omega (arith, l, all.0), past_kind n m records l all.1)

past_kinds : (n m : ℕ) (lists : List (List Record)) → n < m → KindsFrom m lists → AllByRecursion (λ kept. n < kept.kind) (all_in lists)
past_kinds n m [] l kinds = tt
past_kinds n m (records ∷ lists) l kinds =
    past_behind n records (all_in lists) (past_kind n m records l kinds.0) (past_kinds n (suc m) lists (omega (arith, l)) kinds.1)

less_kind : (a b : Record) → a.kind < b.kind → key_cmp (key_of a) (key_of b) ≡ Less
less_kind a b l = ap (λ o. ordering_then o (slice_cmp nat_cmp a.code b.code)) (sym (nat_cmp_is a.kind b.kind Less l))

-- a record of a later kind goes in behind
with_behind : (n : ℕ) (front : List Record) (new : Record) (records : List Record) → AllOf n front → n < new.kind
    → with_row key_of key_cmp new (front ++ records) ≡ front ++ with_row key_of key_cmp new records
with_behind n [] new records all l = refl
with_behind n (kept ∷ front) new records all l =
    rw (less_kind kept new (omega (arith, l, all.0))) (ap (λ t. kept ∷ t) (with_behind n front new records all.1 l))

with_all_behind : (n : ℕ) (front more records : List Record) → AllOf n front → AllByRecursion (λ kept. n < kept.kind) more
    → with_rows key_of key_cmp more (front ++ records) ≡ front ++ with_rows key_of key_cmp more records
with_all_behind n front [] records all past = refl
with_all_behind n front (new ∷ more) records all past =
    ap (with_rows key_of key_cmp more) (with_behind n front new records all past.0)
    ∙ with_all_behind n front more (with_row key_of key_cmp new records) all past.1

with_both : (some more records : List Record) → with_rows key_of key_cmp (some ++ more) records ≡ with_rows key_of key_cmp more (with_rows key_of key_cmp some records)
with_both [] more records = refl
with_both (new ∷ some) more records = with_both some more (with_row key_of key_cmp new records)

sorted_each : (n : ℕ) (lists : List (List Record)) → KindsFrom n lists → sorted (all_in lists) ≡ flat_map sorted lists
sorted_each n [] kinds = refl
sorted_each n (records ∷ lists) kinds =
    with_both records (all_in lists) []
    ∙ ap (with_rows key_of key_cmp (all_in lists)) (sym (append-nil (sorted records)))
    ∙ with_all_behind n (sorted records) (all_in lists) [] (each_with_rows key_of key_cmp (λ kept. kept.kind ≡ n) records [] kinds.0 tt) (past_kinds n (suc n) lists (omega arith) kinds.1)
    ∙ ap (λ l. sorted records ++ l) (sorted_each (suc n) lists kinds.1)

of_kind : {R : Type 0} (n : ℕ) (as_row : R → Row) → ((row : R) → table_number (as_row row) ≡ n) → (rows : List R) → AllOf n (in_table as_row rows)
of_kind n as_row is [] = tt
of_kind n as_row is (row ∷ rows) = (is row, of_kind n as_row is rows)

kinds_of : (t : Lists) → KindsFrom 1 (tables_in t)
unfolding table_number
kinds_of t = (
  of_kind 1 Substance (λ _. refl) t.substances,
  (
    of_kind 2 Member (λ _. refl) t.members,
    (
      of_kind 3 Material (λ _. refl) t.materials,
      (
        of_kind 4 Part (λ _. refl) t.parts,
        (
          of_kind 5 Line (λ _. refl) t.lines,
          (
            of_kind 6 Product (λ _. refl) t.products,
            (of_kind 7 Exemption (λ _. refl) t.exemptions, (of_kind 8 Candidate (λ _. refl) t.candidates, (of_kind 9 Shipment (λ _. refl) t.shipments, (of_kind 10 Ticket (λ _. refl) t.tickets, tt)))),
          ),
        ),
      ),
    ),
  ),
)

-- ---- the file

-- the records of the tables, table after table and each sorted by itself
abbrev pub written : Lists → List Record
written t = flat_map sorted (tables_in t)

sorted_tables : (t : Lists) → sorted (records_of t) ≡ written t
sorted_tables t = ap sorted (tables_joined t) ∙ sorted_each 1 (tables_in t) (kinds_of t)

put_all : (records kept : List Record) → records_with_all (map (λ r. Put r) records) kept ≡ with_rows key_of key_cmp records kept
put_all [] kept = refl
put_all (new ∷ records) kept = put_all records (with_row key_of key_cmp new kept)

-- records of different keys are found where they are sorted as they were
same_sorted : (records : List Record) (key : Key) → Apart records → content_in records key ≡ content_in (sorted records) key
same_sorted records key apart =
    sym (puts records key apart)
    ∙ sym (are_changed (map (λ r. Put r) records) [] (none_by_key key_of key_cmp key_order) key)
    ∙ ap (λ l. content_in l key) (put_all records [])

written_by_key : (t : Lists) → IsByKey key_of key_cmp (written t)
written_by_key t = subst (IsByKey key_of key_cmp) (sorted_tables t) (sorted_by_key (records_of t))

written_same : (t : Lists) → Sound t → IsSame (content_in (written t)) (tables_content t)
written_same t sound key = same_sorted (records_of t) key (apart t sound) ∙ ap (λ l. content_in l key) (sorted_tables t)

pub all_written : (t : Lists) → Sound t → AreAllOf (tables_content t) (written t)
all_written t sound = record { by_key = written_by_key t; same = written_same t sound }

-- a count of them has room in 64 bits
pub few_written : (t : Lists) (place : ℕ) → Sound t → place < 10 → length (flat_map sorted (take place (tables_in t))) + length (sorted (table_at t place)) ≤ record_limit
few_written t place sound l =
    omega (arith, length-flat_map-take sorted (tables_in t) place [] l, few_of_sound (written t) t sound (written_by_key t) (λ key found. written_same t sound key))

-- ---- so far

-- with one table more
one_more : (t : Lists) (place : ℕ) → place < 10 → flat_map sorted (take (place + 1) (tables_in t)) ≡ flat_map sorted (take place (tables_in t)) ++ sorted (table_at t place)
one_more t place l =
    let next : place + 1 ≡ suc place = omega arith in
    ap (λ n. flat_map sorted (take n (tables_in t))) next
    ∙ ap (flat_map sorted) (take-suc (tables_in t) place [] l)
    ∙ flat_map-append sorted (take place (tables_in t)) (table_at t place ∷ [])
    ∙ ap (λ records. flat_map sorted (take place (tables_in t)) ++ records) (append-nil (sorted (table_at t place)))

pub lines_more : (t : Lists) (place : ℕ) → place < 10
    → record_lines (flat_map sorted (take (place + 1) (tables_in t))) ≡ record_lines (flat_map sorted (take place (tables_in t))) ++ record_lines (sorted (table_at t place))
lines_more t place l = ap record_lines (one_more t place l) ∙ flat_map-append line_of (flat_map sorted (take place (tables_in t))) (sorted (table_at t place))

pub number_more : (t : Lists) (place : ℕ) → place < 10
    → length (flat_map sorted (take (place + 1) (tables_in t))) ≡ length (flat_map sorted (take place (tables_in t))) + length (sorted (table_at t place))
number_more t place l = ap (λ l. length l) (one_more t place l) ∙ length-append (flat_map sorted (take place (tables_in t))) (sorted (table_at t place))

-- the lines before a table, its own, and those behind
pub lines_at : (t : Lists) (place : ℕ) → place < 10
    → record_lines (written t) ≡ record_lines (flat_map sorted (take place (tables_in t))) ++ record_lines (sorted (table_at t place)) ++ record_lines (flat_map sorted (drop (suc place) (tables_in t)))
lines_at t place l =
    let front = flat_map sorted (take place (tables_in t)) in
    let piece = sorted (table_at t place) in
    let behind = flat_map sorted (drop (suc place) (tables_in t)) in
    ap record_lines (parts_at sorted (tables_in t) place [] l)
    ∙ flat_map-append line_of (front ++ piece) behind
    ∙ ap (λ l. l ++ record_lines behind) (flat_map-append line_of front piece)
