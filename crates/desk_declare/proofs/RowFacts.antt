-- The rows of a text, one at a time.
use Rattle.std.proofs.Common.{◌≡◌, ◌∙◌, sym, ap, refl, ℕ, suc, zero, ◌+◌, ◌<◌, ◌≤◌, ◌==◌, ◌||◌, Bool, true, false, cond, List, [], ◌∷◌, ◌++◌, length, Option, None, Some, is_some, Bor, inl, add-one, arith}
use Rattle.std.proofs.lemmas.Bool.{false≢true}
use Rattle.csv.specs.Machine.{Read, ends_at_end, fields_after, field_after, in_field, is_end, next_record, start_field, start_record, step}
use Rattle.csv.specs.Reading.{NextIs, ReadRecord, ReadsNext, Ready, default_config, is_bom, is_flexible, pending_of, reader_state, reader_trim, records_from, records_next, strip_bom, took_first}
use Rattle.csv.specs.declared.reader.Reader.{Reader}
use Rattle.csv.specs.declared.reader.Trim.TheVariants as trim
use Rattle.csv.specs.declared.parser.Action.{Action}
use Rattle.csv.specs.declared.parser.Action.TheVariants as act
use Rattle.csv.specs.declared.parser.State.{State}
use Rattle.csv.specs.declared.parser.State.TheVariants as st
use Rattle.desk_declare.specs.Rows.{IsPlain, Row, bytes_left, rows_from, rows_left, csv_rows_of}

-- a step that ends a row leaves the machine between two rows
abbrev EndsBetween : State × Action → Type 0
EndsBetween a = is_end a.1 ≡ true → ends_at_end a.0 ≡ false

goes-on : (s : State) (a : Action) → is_end a ≡ false → EndsBetween (s, a)
goes-on s a f e = absurd (false≢true (sym f ∙ e))

cond-between : (b : Bool) (x y : State × Action) → EndsBetween x → EndsBetween y → EndsBetween (cond b x y)
cond-between true x y p q = p
cond-between false x y p q = q

ended-between : (r : Bool) → EndsBetween (cond r st.AfterCr st.StartRecord, act.EndRecord)
ended-between true e = refl
ended-between false e = refl

in_field-between : (c : ℕ) → EndsBetween (in_field default_config c)
in_field-between c =
    cond-between (c == 44) (st.StartField, act.EndField) (cond ((c == 13) || (c == 10)) (cond (c == 13) st.AfterCr st.StartRecord, act.EndRecord) (st.InField, act.Copy))
    (goes-on st.StartField act.EndField refl)
    (cond-between ((c == 13) || (c == 10)) (cond (c == 13) st.AfterCr st.StartRecord, act.EndRecord) (st.InField, act.Copy)
    (ended-between (c == 13)) (goes-on st.InField act.Copy refl))

start_field-between : (c : ℕ) → EndsBetween (start_field default_config c)
start_field-between c =
    cond-between (c == 34) (st.InQuoted, act.Skip) (in_field default_config c) (goes-on st.InQuoted act.Skip refl) (in_field-between c)

start_record-between : (c : ℕ) → EndsBetween (start_record default_config c)
start_record-between c =
    cond-between ((c == 13) || (c == 10)) (st.StartRecord, act.Skip) (start_field default_config c) (goes-on st.StartRecord act.Skip refl) (start_field-between c)

step-between : (s : State) (c : ℕ) → EndsBetween (step default_config s c)
step-between st.StartRecord c = start_record-between c
step-between st.StartField c = start_field-between c
step-between st.InField c = in_field-between c
step-between st.InQuoted c =
    cond-between (c == 34) (st.AfterQuote, act.Skip) (st.InQuoted, act.Copy) (goes-on st.AfterQuote act.Skip refl) (goes-on st.InQuoted act.Copy refl)
step-between st.InEscape c = goes-on st.InQuoted act.Copy refl
step-between st.AfterQuote c =
    cond-between (c == 34) (st.InQuoted, act.Copy) (in_field default_config c) (goes-on st.InQuoted act.Copy refl) (in_field-between c)
step-between st.InComment c =
    cond-between (c == 10) (st.StartRecord, act.Skip) (st.InComment, act.Skip) (goes-on st.StartRecord act.Skip refl) (goes-on st.InComment act.Skip refl)
step-between st.AfterCr c =
    cond-between (c == 10) (st.StartRecord, act.Skip) (start_record default_config c) (goes-on st.StartRecord act.Skip refl) (start_record-between c)

-- a row that was read leaves the machine between rows, and takes a byte at least where there is one
record Reads (xs : List ℕ) (p : Read) : Type 0 where
  between : ends_at_end p.1 ≡ false
  within : length p.2 ≤ length xs
  shorter : 0 < length xs → length p.2 < length xs

some-same : (a b : Read) → Some a ≡ Some b → a ≡ b
some-same a b e = cc

none-some : (P : Type 0) (b : Read) → None ≡ Some b → P
none-some P b e = cc

next-reads : (s : State) (fields : Row) (field xs : List ℕ) (p : Read) → next_record default_config s fields field xs ≡ Some p → Reads xs p
unfolding next_record
next-reads s fields field [] p e = go (ends_at_end s) e
  where
    go : (b : Bool) → cond b (Some (fields ++ (field ∷ []), st.StartRecord, [])) None ≡ Some p → Reads [] p
    go true t = rw (← some-same _ p t) record { between = refl; within = omega arith; shorter = λ h. absurd (omega arith) }
    go false t = none-some _ p t
next-reads s fields field (c ∷ rest) p e =
    go (is_end (step default_config s c).1) refl e
    (next-reads (step default_config s c).0 (fields_after (step default_config s c).1 fields field) (field_after (step default_config s c).1 c field) rest p)
  where
    go : (b : Bool) → is_end (step default_config s c).1 ≡ b
        → cond b (Some (fields_after (step default_config s c).1 fields field, (step default_config s c).0, rest))
        (next_record default_config (step default_config s c).0 (fields_after (step default_config s c).1 fields field) (field_after (step default_config s c).1 c field) rest) ≡ Some p
        → (next_record default_config (step default_config s c).0 (fields_after (step default_config s c).1 fields field) (field_after (step default_config s c).1 c field) rest ≡ Some p → Reads rest p)
        → Reads (c ∷ rest) p
    go true t e more = rw (← some-same _ p e) record { between = step-between s c t; within = omega arith; shorter = λ h. omega arith }
    go false t e more =
        let r = more e in
        record { between = r.between; within = omega arith; shorter = λ h. omega arith }

-- between two rows there is no row without a byte
next-some : (s : State) (xs : List ℕ) (p : Read) → ends_at_end s ≡ false → next_record default_config s [] [] xs ≡ Some p → 0 < length xs
unfolding next_record
next-some s [] p b e = none-some _ p (rw b at e)
next-some s (c ∷ rest) p b e = omega arith

-- as many turns as there are bytes, and one more, give all rows
records-enough : (n m : ℕ) (s : State) (xs : List ℕ) → ends_at_end s ≡ false → length xs < n → length xs < m
    → records_from default_config n s xs ≡ records_from default_config m s xs
unfolding records_from
records-enough zero m s xs b h k = absurd (omega arith)
records-enough (suc n) zero s xs b h k = absurd (omega arith)
records-enough (suc n) (suc m) s xs b h k = by (next_record default_config s [] [] xs) refl (records-enough n m)
  where
    by : (o : Option Read) → next_record default_config s [] [] xs ≡ o
        → ((s2 : State) (ys : List ℕ) → ends_at_end s2 ≡ false → length ys < n → length ys < m → records_from default_config n s2 ys ≡ records_from default_config m s2 ys)
        → records_next (records_from default_config n) o ≡ records_next (records_from default_config m) o
    by None e more = refl
    by (Some p) e more =
        let r = next-reads s [] [] xs p e in
        let some = next-some s xs p b e in
        let shorter = r.shorter some in
        ap (λ (t : List Row). p.0 ∷ t) (more p.1 p.2 r.between (omega arith) (omega arith))

rows-more : (s : State) (xs : List ℕ) (p : Read) → ends_at_end s ≡ false → next_record default_config s [] [] xs ≡ Some p
    → rows_from s (Some xs) ≡ p.0 ∷ rows_from p.1 (Some p.2)
unfolding records_from
rows-more s xs p b e =
    let r = next-reads s [] [] xs p e in
    let some = next-some s xs p b e in
    let shorter = r.shorter some in
    rw (add-one, e) (ap (λ (t : List Row). p.0 ∷ t) (records-enough (length xs) (length p.2 + 1) p.1 p.2 r.between shorter (omega arith)))

rows-end : (s : State) (xs : List ℕ) → next_record default_config s [] [] xs ≡ None → rows_from s (Some xs) ≡ []
unfolding records_from
rows-end s xs e = rw (add-one, e) refl

-- what a read that found a row shows
record Row-read (s s2 : State) (xs : List ℕ) (after : Option (List ℕ)) (fields : Row) : Type 0 where
  rows : rows_from s (Some xs) ≡ fields ∷ rows_from s2 after
  known : is_some after ≡ true
  between : ends_at_end s2 ≡ false

row-there : (s s2 : State) (xs : List ℕ) (after : Option (List ℕ)) (fields : Row) → ends_at_end s ≡ false
    → ReadsNext default_config s (Some xs) after true fields s2 → Row-read s s2 xs after fields
row-there s s2 xs None fields b r = absurd r
row-there s s2 xs (Some ys) fields b r = by (next_record default_config s [] [] xs) refl r
  where
    by : (o : Option Read) → next_record default_config s [] [] xs ≡ o → NextIs o true fields s2 ys → Row-read s s2 xs (Some ys) fields
    by None e n = absurd (false≢true (sym n))
    by (Some p) e n =
        let r = next-reads s [] [] xs p e in
        rw (n.1, n.2, n.3) record { rows = rows-more s xs p b e; known = refl; between = r.between }

row-absent : (s s2 : State) (xs : List ℕ) (after : Option (List ℕ)) (fields : Row)
    → ReadsNext default_config s (Some xs) after false fields s2 → rows_from s (Some xs) ≡ []
row-absent s s2 xs None fields r = absurd r
row-absent s s2 xs (Some ys) fields r = by (next_record default_config s [] [] xs) refl r
  where
    by : (o : Option Read) → next_record default_config s [] [] xs ≡ o → NextIs o false fields s2 ys → rows_from s (Some xs) ≡ []
    by None e n = rows-end s xs e
    by (Some p) e n = absurd (false≢true n.0)

-- a reader over a slice, as reads see it
abbrev Source : Type 0
Source = Reader (Bor (List ℕ))

abbrev ReadsRow : Source → Source → Bool → Row → Type 0
ReadsRow a b found fields = ReadRecord (λ s. Some s.now) a b found fields

-- what a reader has left, once its start was looked at for a mark
left-later : (b : Source) → b.bom_checked ≡ true → pending_of (Some b.rdr.now) b ≡ bytes_left b
left-later b e = rw e refl

-- a plain reader that found no row had none left
pub none-left : (a b : Source) (fields : Row) → IsPlain a → (reader_trim a ≡ trim.None → Ready a → ReadsRow a b false fields) → rows_left a ≡ []
unfolding rows_left
none-left a b fields plain reads = by (bytes_left a) refl plain.known (rw plain.config at (reads plain.trim plain.ready).0)
  where
    by : (o : Option (List ℕ)) → bytes_left a ≡ o → is_some o ≡ true → ReadsNext default_config a.state (bytes_left a) (pending_of (Some b.rdr.now) b) false fields b.state
        → rows_from a.state (bytes_left a) ≡ []
    by None e known r = absurd (false≢true known)
    by (Some xs) e known r = rw e (row-absent a.state b.state xs _ fields (rw e at r))

-- one that found a row gives the rest afterwards, and is plain again
pub one-taken : (a b : Source) (fields : Row) → IsPlain a → (reader_trim a ≡ trim.None → Ready a → ReadsRow a b true fields) → is_flexible b ≡ is_flexible a → took_first b ≡ true
    → (rows_left a ≡ fields ∷ rows_left b) × IsPlain b
unfolding rows_left
one-taken a b fields plain reads flexible first =
    let r = reads plain.trim plain.ready in
    by r (bytes_left a) refl plain.known (rw (plain.config, left-later b r.1) at r.0)
  where
    by : ReadsRow a b true fields → (o : Option (List ℕ)) → bytes_left a ≡ o → is_some o ≡ true → ReadsNext default_config a.state (bytes_left a) (bytes_left b) true fields b.state
        → (rows_from a.state (bytes_left a) ≡ fields ∷ rows_from b.state (bytes_left b)) × IsPlain b
    by r None e known n = absurd (false≢true known)
    by r (Some xs) e known n =
        let t = row-there a.state b.state xs (bytes_left b) fields plain.between (rw e at n) in (
          rw e t.rows,
          record {
            config = r.2 ∙ plain.config;
            trim = r.3 ∙ plain.trim;
            flexible = flexible ∙ plain.flexible;
            ready = inl first;
            known = t.known;
            between = t.between;
          },
        )

-- a new reader has all rows of its text left
pub start-rows : (a : Source) (text : List ℕ) → reader_state a ≡ st.StartRecord → bytes_left a ≡ Some (strip_bom text) → rows_left a ≡ csv_rows_of text
unfolding rows_left
start-rows a text e f = rw (e, f) refl

-- there are at most as many rows as bytes
from-room : (n : ℕ) (s : State) (xs : List ℕ) → ends_at_end s ≡ false → length (records_from default_config n s xs) ≤ length xs
unfolding records_from
from-room zero s xs b = omega arith
from-room (suc n) s xs b = by (next_record default_config s [] [] xs) refl (from-room n)
  where
    by : (o : Option Read) → next_record default_config s [] [] xs ≡ o
        → ((s2 : State) (ys : List ℕ) → ends_at_end s2 ≡ false → length (records_from default_config n s2 ys) ≤ length ys)
        → length (records_next (records_from default_config n) o) ≤ length xs
    by None e more = omega arith
    by (Some p) e more =
        let r = next-reads s [] [] xs p e in
        let some = next-some s xs p b e in
        let shorter = r.shorter some in
        let rest = more p.1 p.2 r.between in
        omega arith

-- the byte-order mark that is taken off is no longer than the text
strip-room : (text : List ℕ) → length (strip_bom text) ≤ length text
unfolding strip_bom
strip-room [] = omega arith
strip-room (a ∷ []) = omega arith
strip-room (a ∷ b ∷ []) = omega arith
strip-room (a ∷ b ∷ c ∷ rest) = by (is_bom a b c)
  where
    by : (mark : Bool) → length (cond mark rest (a ∷ b ∷ c ∷ rest)) ≤ length (a ∷ b ∷ c ∷ rest)
    by true = omega arith
    by false = omega arith

pub rows-room : (text : List ℕ) → length (csv_rows_of text) ≤ length text
rows-room text =
    let rows = from-room (length (strip_bom text) + 1) st.StartRecord (strip_bom text) refl in
    let strip = strip-room text in
    omega arith
