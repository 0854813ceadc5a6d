-- What a drop, an insert and a look mean for the bodies that the rows keep.
use Rattle.std.proofs.Common.{◌≡◌, ◌⊎◌, ◌&&◌, inl, inr, ℕ, ℤ, pos, List, [], ◌∷◌, find, Bool, true, false, Option, option_map, Some, None, if◌then◌else◌, refl, sym, ap, subst, ◌∙◌, true≢false}
use Rattle.std.specs.Cmp.Lexicographic.{slice_cmp}
use Rattle.std.specs.declared.cmp.Ordering.{Ordering}
use Rattle.std.specs.declared.cmp.Ordering.TheVariants.{Less, Equal, Greater}
use Rattle.std.specs.Ordering.{nat_cmp, is_eq, ordering_then}
use Rattle.sqlite_value.specs.declared.value.Value.TheVariants.{Int, Blob}
use Rattle.sqlite_value.specs.declared.keys.Collation.TheVariants.{Binary}
use Rattle.sqlite_value.specs.Order.{Row, column, bytes, value_cmp}
use Rattle.sqlite_trees.specs.Tree.{rowid, has_rowid, put_row}
use Rattle.sqlite_sql.specs.declared.ops.BinaryOp.TheVariants.{Compare}
use Rattle.sqlite_sql.specs.declared.ops.CompareOp.TheVariants.{Eq}
use Rattle.sqlite_sql.specs.Ops.{binary, is_true}
use Rattle.sqlite_rules.specs.Lists.{Has}
use Rattle.sqlite_rules.specs.Edit.{without_all, is_taken, id_in}
use Rattle.sqlite_rules.specs.Calls.{ids_of}
use Rattle.sqlite_rules.proofs.ProbeLemmas.{has_mapped, mapped_has}
use Rattle.desk_sqlite.specs.Rows.{is_of, body_kept, same_kind_and_code, AreRowsNumbered}
use Rattle.desk_sqlite.proofs.ListLemmas.{find_none, none_found, find_only, find_without, left_has, find_put_other, put_has, has_put, taken_not, none_some}
use Rattle.desk_sqlite.proofs.ValueLemmas.{same_int, int_is_itself, number_cmp, number_eq, blob_eq, same_bytes, bytes_itself, columns_of, of_columns}
use Rattle.desk_sqlite.proofs.MeaningLemmas.{drop_tests, row_of}
use Rattle.desk_sqlite.proofs.ReadLemmas.{passes}

pub both_true : (a b : Bool) → (a && b) ≡ true → (a ≡ true) × (b ≡ true)
both_true true b e = (refl, e)
both_true false b e = absurd (true≢false (sym e))

pub same_number : (m n : ℕ) → is_eq (nat_cmp m n) ≡ true → m ≡ n
same_number m n e = let it = same_int (pos m) (pos n) (ap is_eq (number_cmp m n) ∙ e) in cc

pub number_itself : (n : ℕ) → is_eq (nat_cmp n n) ≡ true
number_itself n = sym (ap is_eq (number_cmp n n)) ∙ int_is_itself (pos n)

then_eq : (o p : Ordering) → is_eq (ordering_then o p) ≡ true → (is_eq o ≡ true) × (is_eq p ≡ true)
then_eq Less p e = absurd (true≢false (sym e))
then_eq Equal p e = (refl, e)
then_eq Greater p e = absurd (true≢false (sym e))

eq_then : (o p : Ordering) → is_eq o ≡ true → is_eq p ≡ true → is_eq (ordering_then o p) ≡ true
eq_then Less p a b = absurd (true≢false (sym a))
eq_then Equal p a b = b
eq_then Greater p a b = absurd (true≢false (sym a))

pub key_is : (kind : ℕ) (code : List ℕ) (k : ℕ) (c : List ℕ) → same_kind_and_code kind code k c ≡ true → (kind ≡ k) × (code ≡ c)
key_is kind code k c e = let h = then_eq (nat_cmp kind k) (slice_cmp nat_cmp code c) e in (same_number kind k h.0, same_bytes code c h.1)

pub is_key : (kind : ℕ) (code : List ℕ) (k : ℕ) (c : List ℕ) → kind ≡ k → code ≡ c → same_kind_and_code kind code k c ≡ true
is_key kind code k c a b = rw (← a, ← b) (eq_then (nat_cmp kind kind) (slice_cmp nat_cmp code code) (number_itself kind) (bytes_itself code))

-- a row of a key passes the tests of a drop exactly where the keys are one
pub drop_passes : (kind : ℕ) (code : List ℕ) (k : ℕ) (c : List ℕ) (r : Row) → is_of k c r ≡ true
    → passes drop_tests (Int (pos kind) ∷ Blob code ∷ []) r ≡ (is_eq (nat_cmp k kind) && (is_eq (slice_cmp nat_cmp c code) && true))
drop_passes kind code k c r own =
    let cols = columns_of k c r own in
    ap (λ v. is_true (binary (Compare Eq Binary) v (Int (pos kind))) && (is_true (binary (Compare Eq Binary) (column r 2) (Blob code)) && true)) cols.0
    ∙ ap (λ v. is_true (binary (Compare Eq Binary) (Int (pos k)) (Int (pos kind))) && (is_true (binary (Compare Eq Binary) v (Blob code)) && true)) cols.1
    ∙ ap (λ b. b && (is_true (binary (Compare Eq Binary) (Blob c) (Blob code)) && true)) (number_eq k kind)
    ∙ ap (λ b. is_eq (nat_cmp k kind) && (b && true)) (blob_eq c code)

pub map_none : {X Y : Type 0} (f : X → Y) (o : Option X) → option_map f o ≡ None → o ≡ None
map_none f None e = refl
map_none f (Some x) e = absurd (none_some (sym e))

module _ (rows : List Row) (numbered : AreRowsNumbered rows) (kind : ℕ) (code : List ℕ) where
  module _ (found : List Row) (sound : (x : Row) → Has found x → (r : Row) × Has rows r × (passes drop_tests (Int (pos kind) ∷ Blob code ∷ []) r ≡ true) × (x ≡ rowid r ∷ []))
      (complete : (r : Row) → Has rows r → passes drop_tests (Int (pos kind) ∷ Blob code ∷ []) r ≡ true → Has found (rowid r ∷ [])) where
    pub drop_numbered : AreRowsNumbered (without_all rows (ids_of found))
    drop_numbered = record {
      number = λ x h. numbered.number x (left_has (ids_of found) rows x h).0;
      apart = λ a b ha hb. numbered.apart a b (left_has (ids_of found) rows a ha).0 (left_has (ids_of found) rows b hb).0;
    }

    -- a row of the key is among those that go
    goes : (x : Row) → Has (without_all rows (ids_of found)) x → is_of kind code x ≡ true → ⊥
    goes x h own =
        let left = left_has (ids_of found) rows x h in
        let n = numbered.number x left.0 in
        let pass = drop_passes kind code kind code x own ∙ rw (number_itself kind, bytes_itself code) refl in
        let id = mapped_has (λ r. id_in (rowid r)) found (rowid x ∷ []) (complete x left.0 pass) in
        let here : Has (ids_of found) n.0 = subst (λ v. Has (ids_of found) (id_in v)) n.1 id in
        let stays : is_eq (value_cmp (Int n.0) (Int n.0)) ≡ false = subst (λ v. is_eq (value_cmp v (Int n.0)) ≡ false) n.1 (left.1 n.0 here) in
        true≢false (sym (int_is_itself n.0) ∙ stays)

    -- a row of another key stays
    stays : (k : ℕ) (c : List ℕ) → same_kind_and_code kind code k c ≡ false → (id : ℤ) → Has (ids_of found) id → (r : Row) → Has rows r → is_of k c r ≡ true → has_rowid id r ≡ false
    stays k c other id there r here own = go (has_rowid id r) refl
      where
        go : (b : Bool) → has_rowid id r ≡ b → b ≡ false
        go false is = refl
        go true is =
            let x = has_mapped (λ y. id_in (rowid y)) found id there in
            let from = sound x.0 x.1 in
            let m = numbered.number from.0 from.1 in
            let n = numbered.number r here in
            let its : id ≡ m.0 = x.2 ∙ ap (λ y. id_in (rowid y)) from.3 ∙ ap id_in m.1 in
            let same : n.0 ≡ id = same_int n.0 id (subst (λ v. is_eq (value_cmp v (Int id)) ≡ true) n.1 is) in
            let one : r ≡ from.0 = numbered.apart r from.0 here from.1 (n.1 ∙ ap Int (same ∙ its) ∙ sym m.1) in
            let pass = both_true _ _ (sym (drop_passes kind code k c r own) ∙ subst (λ y. passes drop_tests (Int (pos kind) ∷ Blob code ∷ []) y ≡ true) (sym one) from.2) in
            let key = is_key kind code k c (sym (same_number k kind pass.0)) (sym (same_bytes c code (both_true _ _ pass.1).0)) in
            absurd (true≢false (sym key ∙ other))

    pub drop_bodies : (k : ℕ) (c : List ℕ) → body_kept (without_all rows (ids_of found)) k c ≡ (if same_kind_and_code kind code k c then None else body_kept rows k c)
    drop_bodies k c = go (same_kind_and_code kind code k c) refl
      where
        falls : (k′ : ℕ) (c′ : List ℕ) → kind ≡ k′ → code ≡ c′ → (x : Row) → Has (without_all rows (ids_of found)) x → is_of k′ c′ x ≡ false
        falls k′ c′ a b x h = at (is_of k′ c′ x) refl
          where
            at : (t : Bool) → is_of k′ c′ x ≡ t → t ≡ false
            at false is = refl
            at true is = absurd (goes x h (rw (a, b) is))

        go : (b : Bool) → same_kind_and_code kind code k c ≡ b → body_kept (without_all rows (ids_of found)) k c ≡ (if b then None else body_kept rows k c)
        go true is = let it = key_is kind code k c is in ap (option_map (λ row. bytes (column row 3))) (none_found (is_of k c) (without_all rows (ids_of found)) (falls k c it.0 it.1))
        go false is = ap (option_map (λ row. bytes (column row 3))) (find_without (is_of k c) (ids_of found) rows (stays k c is))

  module _ (n : ℤ) (body : List ℕ) (free : is_taken rows (row_of n kind code body) ≡ false) where
    pub insert_numbered : AreRowsNumbered (put_row (row_of n kind code body) rows)
    insert_numbered = record {
      number = λ x h. number_at x (put_has (row_of n kind code body) rows x h);
      apart = λ a b ha hb same. apart_at a b (put_has (row_of n kind code body) rows a ha) (put_has (row_of n kind code body) rows b hb) same;
    }
      where
        number_at : (x : Row) → (x ≡ row_of n kind code body) ⊎ Has rows x → (m : ℤ) × (rowid x ≡ Int m)
        number_at x (inl is) = (n, ap rowid is)
        number_at x (inr there) = numbered.number x there

        taken : (x y : Row) → x ≡ row_of n kind code body → Has rows y → rowid y ≡ rowid x → ⊥
        taken x y is there same =
            let e : rowid y ≡ Int n = same ∙ ap rowid is in
            true≢false (sym (int_is_itself n) ∙ subst (λ v. is_eq (value_cmp v (Int n)) ≡ false) e (taken_not rows (row_of n kind code body) y free there))

        apart_at : (a b : Row) → (a ≡ row_of n kind code body) ⊎ Has rows a → (b ≡ row_of n kind code body) ⊎ Has rows b → rowid a ≡ rowid b → a ≡ b
        apart_at a b (inl x) (inl y) same = x ∙ sym y
        apart_at a b (inl x) (inr y) same = absurd (taken a b x y (sym same))
        apart_at a b (inr x) (inl y) same = absurd (taken b a y x same)
        apart_at a b (inr x) (inr y) same = numbered.apart a b x y same

    pub insert_bodies : body_kept rows kind code ≡ None → (k : ℕ) (c : List ℕ) → body_kept (put_row (row_of n kind code body) rows) k c ≡ (if same_kind_and_code kind code k c then Some body else body_kept rows k c)
    insert_bodies none k c = go (same_kind_and_code kind code k c) refl
      where
        absent : (x : Row) → Has rows x → is_of kind code x ≡ false
        absent x there = find_none (is_of kind code) rows (map_none (λ row. bytes (column row 3)) (find (is_of kind code) rows) none) x there

        only : (k′ : ℕ) (c′ : List ℕ) → kind ≡ k′ → code ≡ c′ → (y : Row) → Has (put_row (row_of n kind code body) rows) y → is_of k′ c′ y ≡ true → y ≡ row_of n kind code body
        only k′ c′ a b y h own = at (put_has (row_of n kind code body) rows y h)
          where
            at : (y ≡ row_of n kind code body) ⊎ Has rows y → y ≡ row_of n kind code body
            at (inl is) = is
            at (inr there) = absurd (true≢false (sym own ∙ rw (← a, ← b) (absent y there)))

        differs : same_kind_and_code kind code k c ≡ false → is_of k c (row_of n kind code body) ≡ false
        differs other = at (is_of k c (row_of n kind code body)) refl
          where
            at : (t : Bool) → is_of k c (row_of n kind code body) ≡ t → t ≡ false
            at false is = refl
            at true is =
                let cols = columns_of k c (row_of n kind code body) is in
                let one : kind ≡ k = let e : Int (pos kind) ≡ Int (pos k) = cols.0 in cc in
                let two : code ≡ c = let e : Blob code ≡ Blob c = cols.1 in cc in
                absurd (true≢false (sym (is_key kind code k c one two) ∙ other))

        go : (b : Bool) → same_kind_and_code kind code k c ≡ b → body_kept (put_row (row_of n kind code body) rows) k c ≡ (if b then Some body else body_kept rows k c)
        go true is =
            let it = key_is kind code k c is in
            ap (option_map (λ row. bytes (column row 3))) (find_only (is_of k c) (put_row (row_of n kind code body) rows) (row_of n kind code body) (has_put (row_of n kind code body) rows)
            (of_columns k c (row_of n kind code body) (ap (λ m. Int (pos m)) it.0) (ap Blob it.1)) (only k c it.0 it.1))
        go false is = ap (option_map (λ row. bytes (column row 3))) (find_put_other (is_of k c) (row_of n kind code body) rows free (differs is))
