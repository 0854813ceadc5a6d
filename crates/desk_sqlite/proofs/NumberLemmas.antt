-- Rows whose numbers are shown rising have numbers of their own.
use Rattle.std.proofs.Common.{◌≡◌, ◌⊎◌, ◌++◌, inl, inr, ℕ, ℤ, Ok, List, [], ◌∷◌, map, flat_map, Bool, true, false, cond, Option, Some, None, IfSome, IsSomeAnd, int_lt, refl, sym, ap, subst, ◌∙◌, true≢false}
use Rattle.std.specs.List.{AllByRecursion, IsDistinct}
use Rattle.std.specs.Ordering.{is_eq, int_cmp, ordering_reverse}
use Rattle.std.specs.declared.cmp.Ordering.{Ordering}
use Rattle.std.specs.declared.cmp.Ordering.TheVariants.{Less, Equal, Greater}
use Rattle.std.proofs.lemmas.List.Sorted.{IsPermutation-sym}
use Rattle.std.proofs.lemmas.Map.Keys.{IsDistinct-IsPermutation}
use Rattle.std.proofs.lemmas.Cmp.{int_cmp_total}
use Rattle.sqlite_value.specs.declared.value.Value.TheVariants.{Int}
use Rattle.sqlite_value.specs.Order.{Row, column, value_cmp}
use Rattle.sqlite_value.proofs.OrderLemmas.{value_cmp_total, value_cmp-Int}
use Rattle.sqlite_trees.specs.Tree.{Trees, rowid, IsAscending}
use Rattle.sqlite_rules.specs.Edit.{id_in}
use Rattle.sqlite_rules.specs.Lists.{Has}
use Rattle.sqlite_rules.proofs.ListLemmas.{all_has}
use Rattle.sqlite_rules.proofs.ProbeLemmas.{mapped_has}
use Rattle.sqlite_sql.specs.Term.{Env}
use Rattle.sqlite.specs.Effect.{Database}
use Rattle.sqlite.specs.Listing.{IsSourceOf, reads_listing, understood}
use Rattle.sqlite.specs.State.{State, Begins, IsStatement}
use Rattle.sqlite_sql.specs.Query.{IsAnswer, Output, output}
use Rattle.desk_sqlite.specs.Numbers.{AreRising, row_number}
use Rattle.desk_sqlite.specs.Rows.{AreRowsNumbered}
use Rattle.desk_sqlite.proofs.ListLemmas.{has_permuted, matched_has}
use Rattle.desk_sqlite.proofs.TextLemmas.{numbers_query}
use Rattle.desk_sqlite.proofs.ValueLemmas.{int_is_itself}

eq_eq : (o : Ordering) → is_eq (ordering_reverse o) ≡ is_eq o
eq_eq Less = refl
eq_eq Equal = refl
eq_eq Greater = refl

-- the two rows begin with one value
abbrev same_first : Row → Row → Bool
same_first a b = is_eq (value_cmp (column a 0) (column b 0))

abbrev same_shown : Output → Output → Bool
same_shown a b = same_first a.1 b.1

flips : (a b : Output) → same_shown a b ≡ same_shown b a
flips a b = ap is_eq (value_cmp_total.antisymm (column a.1 0) (column b.1 0)) ∙ eq_eq (value_cmp (column b.1 0) (column a.1 0))

less_not : (m n : ℤ) → int_cmp m n ≡ Less → is_eq (value_cmp (Int m) (Int n)) ≡ false
less_not m n low = ap is_eq (value_cmp-Int m n ∙ low)

first_apart : (x : Row) (xs : List Row) → column x 0 ≡ Int (row_number x) → ((y : Row) → Has xs y → column y 0 ≡ Int (row_number y)) → AllByRecursion (λ y. int_cmp (row_number x) (row_number y) ≡ Less) xs
    → AllByRecursion (λ y. same_first x y ≡ false) xs
first_apart x [] own numbers low = tt
first_apart x (y ∷ ys) own numbers low = (
  ap (λ v. is_eq (value_cmp v (column y 0))) own ∙ ap (λ v. is_eq (value_cmp (Int (row_number x)) v)) (numbers y (inl refl)) ∙ less_not (row_number x) (row_number y) low.0,
  first_apart x ys own (λ z there. numbers z (inr there)) low.1,
)

rising_distinct : (rows : List Row) → ((y : Row) → Has rows y → column y 0 ≡ Int (row_number y)) → IsAscending (λ a b. int_cmp (row_number a) (row_number b) ≡ Less) rows → IsDistinct same_first rows
unfolding IsDistinct
rising_distinct [] numbers rise = tt
rising_distinct (x ∷ xs) numbers rise =
    (first_apart x xs (numbers x (inl refl)) (λ y there. numbers y (inr there)) rise.0, rising_distinct xs (λ y there. numbers y (inr there)) rise.1)

all_unmapped : {A B : Type 0} (P : B → Type 0) (f : A → B) (xs : List A) → AllByRecursion P (map f xs) → AllByRecursion (λ a. P (f a)) xs
all_unmapped P f [] h = tt
all_unmapped P f (x ∷ xs) h = (h.0, all_unmapped P f xs h.1)

unmapped : {A B : Type 0} (e : B → B → Bool) (f : A → B) (xs : List A) → IsDistinct e (map f xs) → IsDistinct (λ a b. e (f a) (f b)) xs
unfolding IsDistinct
unmapped e f [] h = tt
unmapped e f (x ∷ xs) h = (all_unmapped (λ y. e (f x) y ≡ false) f xs h.0, unmapped e f xs h.1)

all_unflat : {A B : Type 0} (P : B → Type 0) (f : A → B) (xs : List A) → AllByRecursion P (flat_map (λ x. f x ∷ []) xs) → AllByRecursion (λ a. P (f a)) xs
all_unflat P f [] h = tt
all_unflat P f (x ∷ xs) h = (h.0, all_unflat P f xs h.1)

unflat : {A B : Type 0} (e : B → B → Bool) (f : A → B) (xs : List A) → IsDistinct e (flat_map (λ x. f x ∷ []) xs) → IsDistinct (λ a b. e (f a) (f b)) xs
unfolding IsDistinct
unflat e f [] h = tt
unflat e f (x ∷ xs) h = (all_unflat (λ y. e (f x) y ≡ false) f xs h.0, unflat e f xs h.1)

clash : (x y : Row) (n : ℤ) → rowid y ≡ Int n → rowid x ≡ rowid y → same_first x y ≡ false → ⊥
clash x y n is same apart = true≢false (sym (int_is_itself n) ∙ ap (λ v. is_eq (value_cmp v (Int n))) (sym (same ∙ is)) ∙ ap (λ v. is_eq (value_cmp (column x 0) v)) (sym is) ∙ apart)

apart_rows : (rows : List Row) → ((r : Row) → Has rows r → (n : ℤ) × (rowid r ≡ Int n)) → IsDistinct same_first rows → (a b : Row) → Has rows a → Has rows b → rowid a ≡ rowid b → a ≡ b
unfolding IsDistinct
apart_rows [] number distinct a b ha hb same = absurd ha
apart_rows (x ∷ xs) number distinct a b (inl p) (inl q) same = p ∙ sym q
apart_rows (x ∷ xs) number distinct a b (inl p) (inr q) same =
    let n = number b (inr q) in absurd (clash x b n.0 n.1 (sym (ap rowid p) ∙ same) (all_has (λ y. same_first x y ≡ false) xs b distinct.0 q))
apart_rows (x ∷ xs) number distinct a b (inr p) (inl q) same =
    let n = number a (inr p) in absurd (clash x a n.0 n.1 (sym (ap rowid q) ∙ sym same) (all_has (λ y. same_first x y ≡ false) xs a distinct.0 p))
apart_rows (x ∷ xs) number distinct a b (inr p) (inr q) same = apart_rows xs (λ r there. number r (inr there)) distinct.1 a b p q same

-- ---- the rows of the table

module _ (db : Trees) (shown : List Row) (a : IsAnswer numbers_query db [] shown) (rising : AreRising shown) where
  env_at : Row → Env
  env_at r = [] ∷ r ∷ []

  kept_is : a.kept ≡ map (output numbers_query) (flat_map (λ r. ([] ∷ r ∷ []) ∷ []) (db 0))
  kept_is = a.distinct ∙ ap (map (output numbers_query)) a.grouped

  shown_is : shown ≡ map (λ (o : Output). o.1) a.ordered
  shown_is = a.shown

  all_distinct : IsDistinct same_first (db 0)
  all_distinct =
      let listed : IsDistinct same_shown a.ordered = unmapped same_first (λ (o : Output). o.1) a.ordered (subst (IsDistinct same_first) shown_is (rising_distinct shown rising.numbers rising.rise)) in
      let kept = IsDistinct-IsPermutation same_shown flips a.ordered a.kept (IsPermutation-sym _ _ a.same) listed in
      unflat (λ x y. same_shown (output numbers_query x) (output numbers_query y)) (λ r. [] ∷ r ∷ []) (db 0)
      (unmapped same_shown (output numbers_query) (flat_map (λ r. ([] ∷ r ∷ []) ∷ []) (db 0)) (subst (IsDistinct same_shown) kept_is kept))

  number_at : (r : Row) → Has (db 0) r → (n : ℤ) × (rowid r ≡ Int n)
  number_at r there =
      let o = output numbers_query ([] ∷ r ∷ []) in
      let mine = mapped_has (output numbers_query) (flat_map (λ z. ([] ∷ z ∷ []) ∷ []) (db 0)) ([] ∷ r ∷ []) (matched_has (λ z. true) (λ z. [] ∷ z ∷ []) (db 0) r there refl) in
      let ordered = has_permuted a.kept a.ordered o a.same (subst (λ l. Has l o) (sym kept_is) mine) in
      let listed = subst (λ l. Has l (rowid r ∷ [])) (sym shown_is) (mapped_has (λ (k : Output). k.1) a.ordered o ordered) in
      (row_number (rowid r ∷ []), rising.numbers (rowid r ∷ []) listed)

  pub are_numbered : AreRowsNumbered (db 0)
  are_numbered = record { number = number_at; apart = apart_rows (db 0) number_at all_distinct }

-- ---- one more

all_push : {X : Type 0} (P : X → Type 0) (xs : List X) (y : X) → AllByRecursion P xs → P y → AllByRecursion P (xs ++ y ∷ [])
all_push P [] y h p = (p, tt)
all_push P (x ∷ xs) y h p = (h.0, all_push P xs y h.1 p)

ascending_push : {X : Type 0} (R : X → X → Type 0) (xs : List X) (y : X) → IsAscending R xs → AllByRecursion (λ x. R x y) xs → IsAscending R (xs ++ y ∷ [])
ascending_push R [] y h low = (tt, tt)
ascending_push R (x ∷ xs) y h low = (all_push (R x) xs y h.0 low.0, ascending_push R xs y h.1 low.1)

has_pushed : {X : Type 0} (xs : List X) (y x : X) → Has (xs ++ y ∷ []) x → Has xs x ⊎ (x ≡ y)
has_pushed [] y x (inl same) = inr same
has_pushed [] y x (inr none) = absurd none
has_pushed (z ∷ xs) y x (inl same) = inl (inl same)
has_pushed (z ∷ xs) y x (inr later) = more (has_pushed xs y x later)
  where
    more : Has xs x ⊎ (x ≡ y) → Has (z ∷ xs) x ⊎ (x ≡ y)
    more (inl there) = inl (inr there)
    more (inr same) = inr same

-- each number of the rows is this one or less, or there is no row
abbrev pub IsUpTo : List Row → Option ℤ → Type 0
IsUpTo rows None = rows ≡ []
IsUpTo rows (Some m) = AllByRecursion (λ r. (int_cmp (row_number r) m ≡ Less) ⊎ (row_number r ≡ m)) rows

all_less : (m n : ℤ) (rows : List Row) → int_cmp m n ≡ Less → IsUpTo rows (Some m) → AllByRecursion (λ r. int_cmp (row_number r) n ≡ Less) rows
all_less m n [] low h = tt
all_less m n (r ∷ rows) low h = (one h.0, all_less m n rows low h.1)
  where
    one : (int_cmp (row_number r) m ≡ Less) ⊎ (row_number r ≡ m) → int_cmp (row_number r) n ≡ Less
    one (inl less) = int_cmp_total.trans (row_number r) m n less low
    one (inr same) = subst (λ k. int_cmp k n ≡ Less) (sym same) low

weaker : (n : ℤ) (rows : List Row) → AllByRecursion (λ r. int_cmp (row_number r) n ≡ Less) rows → AllByRecursion (λ r. (int_cmp (row_number r) n ≡ Less) ⊎ (row_number r ≡ n)) rows
weaker n [] h = tt
weaker n (r ∷ rows) h = (inl h.0, weaker n rows h.1)

low_is : (m n : ℤ) → int_lt m n ≡ true → int_cmp m n ≡ Less
low_is m n low = ap (λ b. cond b Less (cond (int_lt n m) Greater Equal)) low

no_less : (n : ℤ) (last : Option ℤ) (rows : List Row) → IfSome last (λ m. int_lt m n ≡ true) → IsUpTo rows last → AllByRecursion (λ r. int_cmp (row_number r) n ≡ Less) rows
no_less n None rows low up = subst (AllByRecursion (λ r. int_cmp (row_number r) n ≡ Less)) (sym up) tt
no_less n (Some m) rows low up = all_less m n rows (low_is m n low) up

-- one more row, whose number is greater than the last
pub rising_push : (rows : List Row) (row : Row) (n : ℤ) (last : Option ℤ) → AreRising rows → IsUpTo rows last → column row 0 ≡ Int n → IfSome last (λ m. int_lt m n ≡ true)
    → AreRising (rows ++ row ∷ []) × IsUpTo (rows ++ row ∷ []) (Some n)
rising_push rows row n last rising up is low =
    let own : row_number row ≡ n = ap id_in is in
    let all = no_less n last rows low up in (
      record {
        numbers = λ x there. number_for x (has_pushed rows row x there);
        rise = ascending_push (λ a b. int_cmp (row_number a) (row_number b) ≡ Less) rows row rising.rise (subst (λ k. AllByRecursion (λ r. int_cmp (row_number r) k ≡ Less) rows) (sym own) all);
      },
      all_push (λ r. (int_cmp (row_number r) n ≡ Less) ⊎ (row_number r ≡ n)) rows row (weaker n rows all) (inr own),
    )
  where
    number_for : (x : Row) → Has rows x ⊎ (x ≡ row) → column x 0 ≡ Int (row_number x)
    number_for x (inl there) = rising.numbers x there
    number_for x (inr same) = subst (λ r. column r 0 ≡ Int (row_number r)) (sym same) (is ∙ ap Int (sym (ap id_in is)))

pub none_rise : AreRising []
none_rise = record { numbers = λ row there. absurd there; rise = tt }

-- ---- not rising

-- the number is that of one of the rows, where there is one
abbrev pub IsReached : List Row → Option ℤ → Type 0
IsReached rows None = Unit {0}
IsReached rows (Some m) = (r : Row) × Has rows r × (row_number r ≡ m)

has_last : (rows : List Row) (row : Row) → Has (rows ++ row ∷ []) row
has_last [] row = inl refl
has_last (r ∷ rows) row = inr (has_last rows row)

pub reached_push : (rows : List Row) (row : Row) (n : ℤ) → column row 0 ≡ Int n → IsReached (rows ++ row ∷ []) (Some n)
reached_push rows row n is = (row, has_last rows row, ap id_in is)

below_last : (rows : List Row) (row r : Row) → IsAscending (λ a b. int_cmp (row_number a) (row_number b) ≡ Less) (rows ++ row ∷ []) → Has rows r → int_cmp (row_number r) (row_number row) ≡ Less
below_last [] row r rise there = absurd there
below_last (first ∷ rows) row r rise (inl same) =
    subst (λ x. int_cmp (row_number x) (row_number row) ≡ Less) (sym same) (all_has (λ y. int_cmp (row_number first) (row_number y) ≡ Less) (rows ++ row ∷ []) row rise.0 (has_last rows row))
below_last (first ∷ rows) row r rise (inr later) = below_last rows row r rise.1 later

less_is : (a b : Bool) → cond a Less (cond b Greater Equal) ≡ Less → a ≡ true
less_is true b e = refl
less_is false true e = absurd (let bad = e in cc)
less_is false false e = absurd (let bad = e in cc)

-- a row whose number isn't greater than one before it ends no rows that rise
pub no_rise : (rows : List Row) (row : Row) (n : ℤ) (last : Option ℤ) → IsReached rows last → column row 0 ≡ Int n → IsSomeAnd last (λ m. int_lt m n ≡ false) → AreRising (rows ++ row ∷ []) → ⊥
no_rise rows row n None reached is low rising = absurd low
no_rise rows row n (Some m) (r, there, number) is low rising =
    let own : row_number row ≡ n = ap id_in is in
    let less : int_cmp m n ≡ Less = subst (λ k. int_cmp k n ≡ Less) number (subst (λ k. int_cmp (row_number r) k ≡ Less) own (below_last rows row r rising.rise there)) in
    true≢false (sym (less_is (int_lt m n) (int_lt n m) less) ∙ low)

-- what a database shows it shows where it is the same
pub begins_before : (a b : State) (sql : List ℕ) (params : Row) (rows : List Row) → b.now ≡ a.now → Begins sql params b rows → Begins sql params a rows
unfolding Begins
begins_before a b sql params rows same h = (
  h.0,
  record {
    is = subst (λ (d : Database). understood d.schema sql ≡ Ok h.0) same h.1.is;
    whole = h.1.whole;
    given = h.1.given;
    now = h.1.now;
  },
  h.2,
  h.3,
  subst (λ (d : Database). IsSourceOf (reads_listing d.schema sql) d h.3) same h.4,
  h.5,
)
