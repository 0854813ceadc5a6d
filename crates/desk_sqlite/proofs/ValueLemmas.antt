-- How SQL's comparisons read where the values are numbers and bytes.
use Rattle.std.proofs.Common.{◌≡◌, ◌&&◌, ℕ, ℤ, pos, negsuc, ◌<ℤ◌, ◌==◌, nat_lt, cond, arith, List, Bool, true, false, Some, refl, sym, ap, ◌∙◌, true≢false}
use Rattle.std.proofs.lemmas.Bool.{eqb-true, eqb-false, eq-eqb, ltb-true, ltb-false}
use Rattle.std.proofs.lemmas.Cmp.{tied_itself}
use Rattle.std.proofs.lemmas.Slice.Eq.{bytes_eq-Decides}
use Rattle.std.proofs.lemmas.Map.Text.{is_eq-slice_cmp}
use Rattle.std.specs.Cmp.Lexicographic.{slice_cmp}
use Rattle.std.specs.Ordering.{nat_cmp, int_cmp, is_eq, is_gt, MatchOrdering}
use Rattle.std.specs.declared.cmp.Ordering.{Ordering}
use Rattle.std.specs.declared.cmp.Ordering.TheVariants.{Less, Equal, Greater}
use Rattle.std.specs.Cmp.{int_ranks}
use Rattle.sqlite_value.specs.declared.value.Value.{Value}
use Rattle.sqlite_value.specs.declared.value.Value.TheVariants.{Null, Int, Real, Text, Blob}
use Rattle.sqlite_value.specs.declared.keys.Collation.TheVariants.{Binary}
use Rattle.sqlite_value.specs.Order.{Row, column, value_cmp}
use Rattle.sqlite_value.proofs.OrderLemmas.{value_cmp_total, value_cmp-Int, value_cmp-Blob}
use Rattle.sqlite_sql.specs.declared.ops.BinaryOp.TheVariants.{Compare}
use Rattle.sqlite_sql.specs.declared.ops.CompareOp.TheVariants.{Eq, Gt}
use Rattle.sqlite_sql.specs.Ops.{binary, is_true, from_truth}
use Rattle.desk_sqlite.specs.Rows.{is_number, is_blob, is_of}

truth_some : (b : Bool) → is_true (from_truth (Some b)) ≡ b
truth_some true = refl
truth_some false = refl

-- ---- numbers

int_same : (o : Ordering) (x y : ℤ) → MatchOrdering o (x <ℤ y) (x ≡ y) (y <ℤ x) → is_eq o ≡ true → x ≡ y
int_same Less x y h e = absurd (true≢false (sym e))
int_same Equal x y h e = h
int_same Greater x y h e = absurd (true≢false (sym e))

pub same_int : (x y : ℤ) → is_eq (value_cmp (Int x) (Int y)) ≡ true → x ≡ y
same_int x y e = int_same (int_cmp x y) x y (int_ranks x y) (sym (ap is_eq (value_cmp-Int x y)) ∙ e)

pub int_is_itself : (x : ℤ) → is_eq (value_cmp (Int x) (Int x)) ≡ true
int_is_itself x = ap is_eq (tied_itself value_cmp_total (Int x))

pub int_nat : (m n : ℕ) → int_cmp (pos m) (pos n) ≡ nat_cmp m n
int_nat m n = go (nat_lt m n) (nat_lt n m) (m == n) refl refl refl
  where
    go : (a b c : Bool) → nat_lt m n ≡ a → nat_lt n m ≡ b → (m == n) ≡ c → cond a Less (cond b Greater Equal) ≡ cond a Less (cond c Equal Greater)
    go true b c low high same = refl
    go false true true low high same = absurd (omega (arith, ltb-true n m high, eqb-true m n same))
    go false true false low high same = refl
    go false false true low high same = refl
    go false false false low high same = absurd (omega (arith, ltb-false m n low, ltb-false n m high, eqb-false m n same))

pub number_cmp : (m n : ℕ) → value_cmp (Int (pos m)) (Int (pos n)) ≡ nat_cmp m n
number_cmp m n = value_cmp-Int (pos m) (pos n) ∙ int_nat m n

pub number_eq : (m n : ℕ) → is_true (binary (Compare Eq Binary) (Int (pos m)) (Int (pos n))) ≡ is_eq (nat_cmp m n)
unfolding binary
number_eq m n = truth_some _ ∙ ap is_eq (number_cmp m n)

pub number_gt : (m n : ℕ) → is_true (binary (Compare Gt Binary) (Int (pos m)) (Int (pos n))) ≡ is_gt (nat_cmp m n)
unfolding binary
number_gt m n = truth_some _ ∙ ap is_gt (number_cmp m n)

pub blob_eq : (a b : List ℕ) → is_true (binary (Compare Eq Binary) (Blob a) (Blob b)) ≡ is_eq (slice_cmp nat_cmp a b)
unfolding binary
blob_eq a b = truth_some _ ∙ ap is_eq (value_cmp-Blob a b)

pub blob_gt : (a b : List ℕ) → is_true (binary (Compare Gt Binary) (Blob a) (Blob b)) ≡ is_gt (slice_cmp nat_cmp a b)
unfolding binary
blob_gt a b = truth_some _ ∙ ap is_gt (value_cmp-Blob a b)

-- ---- the row of a key

pub same_bytes : (a b : List ℕ) → is_eq (slice_cmp nat_cmp a b) ≡ true → a ≡ b
same_bytes a b e = (bytes_eq-Decides a b).0 (sym (is_eq-slice_cmp a b) ∙ e)

pub bytes_itself : (a : List ℕ) → is_eq (slice_cmp nat_cmp a a) ≡ true
bytes_itself a = is_eq-slice_cmp a a ∙ (bytes_eq-Decides a a).1 refl

number_is : (n : ℕ) (v : Value) → is_number n v ≡ true → v ≡ Int (pos n)
number_is n Null e = absurd (true≢false (sym e))
number_is n (Int (pos m)) e = ap (λ k. Int (pos k)) (eqb-true m n e)
number_is n (Int (negsuc m)) e = absurd (true≢false (sym e))
number_is n (Real x) e = absurd (true≢false (sym e))
number_is n (Text t) e = absurd (true≢false (sym e))
number_is n (Blob b) e = absurd (true≢false (sym e))

blob_is : (code : List ℕ) (v : Value) → is_blob code v ≡ true → v ≡ Blob code
blob_is code Null e = absurd (true≢false (sym e))
blob_is code (Int n) e = absurd (true≢false (sym e))
blob_is code (Real x) e = absurd (true≢false (sym e))
blob_is code (Text t) e = absurd (true≢false (sym e))
blob_is code (Blob b) e = ap Blob (same_bytes b code e)

both : (a b : Bool) → (a && b) ≡ true → (a ≡ true) × (b ≡ true)
both true b e = (refl, e)
both false b e = absurd (true≢false (sym e))

pub columns_of : (kind : ℕ) (code : List ℕ) (row : Row) → is_of kind code row ≡ true → (column row 1 ≡ Int (pos kind)) × (column row 2 ≡ Blob code)
columns_of kind code row e = let h = both _ _ e in (number_is kind (column row 1) h.0, blob_is code (column row 2) h.1)

pub of_columns : (kind : ℕ) (code : List ℕ) (row : Row) → column row 1 ≡ Int (pos kind) → column row 2 ≡ Blob code → is_of kind code row ≡ true
of_columns kind code row k c = rw (k, c, eq-eqb kind kind refl, bytes_itself code) refl
