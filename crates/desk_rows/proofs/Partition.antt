-- Where a partition point falls in a list of two pieces, of which one passes a test and the other fails it.
use Rattle.std.proofs.Common.{◌≡◌, ℕ, zero, suc, ◌≤◌, ◌<◌, Bool, true, false, not, List, [], ◌∷◌, ◌++◌, length, refl, ap, get_or, arith, sym, ◌∙◌, ◌-◌, take, drop, subst, Some, None, cond, nat_lt, ◌+◌, Ordering, Less, Equal, Greater, is_eq, rules}
use Rattle.std.specs.Ordering.{is_lt}
use Rattle.std.proofs.Math.Seq.{drop-append_seam, take-append_seam, take-length}
use Rattle.std.proofs.lemmas.List.{append_assoc, length-append}
use Rattle.desk_rows.specs.Runs.{IsOneRun}
use Rattle.std.specs.List.{AllByRecursion, position_or_len, position}
use Rattle.std.specs.List.Sorted.{IsPartitionPoint, IsPartitionedBy}
use Rattle.std.proofs.lemmas.Bool.{false≢true}

module _ {X : Type 0} (test : X → Bool) where
  pub Passes : List X → Type 0
  Passes = AllByRecursion (λ x. test x ≡ true)

  pub Fails : List X → Type 0
  Fails = AllByRecursion (λ x. test x ≡ false)

  fails_at : (xs : List X) → Fails xs → (k : ℕ) (d : X) → k < length xs → test (get_or xs k d) ≡ false
  unfolding Fails
  fails_at [] h k d l = absurd (omega (arith, l))
  fails_at (x ∷ xs) h zero d l = h.0
  fails_at (x ∷ xs) h (suc k) d l = fails_at xs h.1 k d (omega (arith, l))

  -- no element of the first piece comes after one of the second
  pub in_two : (front back : List X) → Passes front → Fails back → IsPartitionedBy test (front ++ back)
  unfolding Passes
  in_two [] back p f i j d l m passed = absurd (false≢true (sym (fails_at back f j d m) ∙ passed))
  in_two (x ∷ front) back p f zero j d l m passed = p.0
  in_two (x ∷ front) back p f (suc i) zero d l m passed = absurd (omega (arith, l))
  in_two (x ∷ front) back p f (suc i) (suc j) d l m passed = in_two front back p.1 f i j d (omega (arith, l)) (omega (arith, m)) passed

  -- the point is the end of the first piece
  pub point_at : (front back : List X) → Passes front → Fails back → (i : ℕ) → i ≤ length (front ++ back) → IsPartitionPoint (λ x. test x ≡ true) (λ x. test x ≡ false) (front ++ back) i → i ≡ length front
  unfolding Passes Fails
  point_at [] [] p f i b h = omega (arith, b)
  point_at [] (y ∷ back) p f zero b h = refl
  point_at [] (y ∷ back) p f (suc i) b h = absurd (false≢true (sym f.0 ∙ h.0 0 y (omega arith) (omega arith)))
  point_at (x ∷ front) back p f zero b h = absurd (false≢true (sym (h.1 0 x (omega arith) (omega arith)) ∙ p.0))
  point_at (x ∷ front) back p f (suc i) b h =
      ap suc (point_at front back p.1 f i (omega (arith, b)) ((λ k d l m. h.0 (suc k) d (omega arith) (omega (arith, m))), (λ k d l m. h.1 (suc k) d (omega (arith, l)) (omega (arith, m)))))

module _ {X : Type 0} (test : X → Bool) where
  one_more : (passes : Bool) (a b n : ℕ) → (a < n → b ≡ a) → cond (not passes) (1 + a) 0 < suc n → cond (not passes) (1 + b) 0 ≡ cond (not passes) (1 + a) 0
  one_more true a b n more h = refl
  one_more false a b n more h = ap (λ n. 1 + n) (more (omega (arith, h)))

  first_in_take : (count : ℕ) (xs : List X) → position_or_len test (take count xs) < length (take count xs) → position_or_len test xs ≡ position_or_len test (take count xs)
  first_in_take zero xs h = absurd (omega (arith, h))
  first_in_take (suc count) [] h = refl
  first_in_take (suc count) (x ∷ xs) h = one_more (test x) _ _ (length (take count xs)) (first_in_take count xs) h

  placed : (len at n : ℕ) → Some len ≡ cond (nat_lt at n) (Some at) None → (at < n) × (at ≡ len)
  placed len at n e = search rules

  -- the first of some elements from the front on that passes is the first of all
  pub first_of : (count : ℕ) (xs : List X) (len : ℕ) → Some len ≡ position test (take count xs) → position_or_len test xs ≡ len
  first_of count xs len e =
      let found = placed len (position_or_len test (take count xs)) (length (take count xs)) e in
      first_in_take count xs found.0 ∙ found.1

-- what holds of each element implies another thing of each
all_then : {X : Type 0} (P Q : X → Type 0) → ((x : X) → P x → Q x) → (xs : List X) → AllByRecursion P xs → AllByRecursion Q xs
all_then P Q f [] h = tt
all_then P Q f (x ∷ xs) h = (f x h.0, all_then P Q f xs h.1)

module _ {R G : Type 0} (group : R → G) (cmp : G → G → Ordering) (g : G) where
  unfoldable pub is_before : R → Bool
  is_before row = is_lt (cmp (group row) g)

  unfoldable pub is_within : R → Bool
  is_within row = is_eq (cmp (group row) g)

  unfoldable pub Point : (R → Bool) → List R → ℕ → Type 0
  Point test rows i = IsPartitionedBy test rows → IsPartitionPoint (λ row. test row ≡ true) (λ row. test row ≡ false) rows i

  lesser_before : (rows : List R) → AllByRecursion (λ row. cmp (group row) g ≡ Less) rows → Passes is_before rows
  unfolding Passes is_before
  lesser_before rows h = all_then (λ row. cmp (group row) g ≡ Less) _ (λ row e. ap is_lt e) rows h

  equal_not_before : (rows : List R) → AllByRecursion (λ row. cmp (group row) g ≡ Equal) rows → Fails is_before rows
  unfolding Fails is_before
  equal_not_before rows h = all_then (λ row. cmp (group row) g ≡ Equal) _ (λ row e. ap is_lt e) rows h

  greater_not_before : (rows : List R) → AllByRecursion (λ row. cmp (group row) g ≡ Greater) rows → Fails is_before rows
  unfolding Fails is_before
  greater_not_before rows h = all_then (λ row. cmp (group row) g ≡ Greater) _ (λ row e. ap is_lt e) rows h

  equal_within : (rows : List R) → AllByRecursion (λ row. cmp (group row) g ≡ Equal) rows → Passes is_within rows
  unfolding Passes is_within
  equal_within rows h = all_then (λ row. cmp (group row) g ≡ Equal) _ (λ row e. ap is_eq e) rows h

  greater_not_within : (rows : List R) → AllByRecursion (λ row. cmp (group row) g ≡ Greater) rows → Fails is_within rows
  unfolding Fails is_within
  greater_not_within rows h = all_then (λ row. cmp (group row) g ≡ Greater) _ (λ row e. ap is_eq e) rows h

  fails_append : (test : R → Bool) (xs ys : List R) → Fails test xs → Fails test ys → Fails test (xs ++ ys)
  unfolding Fails
  fails_append test [] ys h k = k
  fails_append test (x ∷ xs) ys h k = (h.0, fails_append test xs ys h.1 k)

  -- the run ends where the rows stop to be of the group
  ends_at : (run behind : List R) → AllByRecursion (λ row. cmp (group row) g ≡ Equal) run → AllByRecursion (λ row. cmp (group row) g ≡ Greater) behind → (len : ℕ) → len ≤ length (run ++ behind) → Point is_within (run ++ behind) len → take len (run ++ behind) ≡ run
  unfolding Point
  ends_at run behind equal greater len bound point =
      let passes = equal_within run equal in
      let fails = greater_not_within behind greater in
      let at = point_at is_within run behind passes fails len bound (point (in_two is_within run behind passes fails)) in
      ap (λ i. take i (run ++ behind)) at ∙ take-append_seam run behind

  -- what is left from the place where the rows stop to be of lesser groups
  unfoldable pub rest_from : List R → ℕ → List R
  rest_from rows first = take (length rows - first) (drop first rows)

  begins_at : (before rest : List R) → Passes is_before before → Fails is_before rest → (first : ℕ) → first ≤ length (before ++ rest) → Point is_before (before ++ rest) first → rest_from (before ++ rest) first ≡ rest
  unfolding Point rest_from
  begins_at before rest passes fails first bound point =
      let at = point_at is_before before rest passes fails first bound (point (in_two is_before before rest passes fails)) in
      let count : length (before ++ rest) - length before ≡ length rest = omega (arith, length-append before rest) in
      rw at (rw (drop-append_seam before rest) (rw count (take-length rest)))

  -- the first row of another group stands behind the run
  other_at : (run behind : List R) → AllByRecursion (λ row. cmp (group row) g ≡ Equal) run → AllByRecursion (λ row. cmp (group row) g ≡ Greater) behind → position_or_len (λ row. not (is_eq (cmp (group row) g))) (run ++ behind) ≡ length run
  other_at [] [] e f = refl
  other_at [] (y ∷ behind) e f = rw f.0 refl
  other_at (x ∷ run) behind e f = rw e.0 (ap (λ n. 1 + n) (other_at run behind e.1 f) ∙ omega arith)

  -- the rows from the first place on are the run and what stands behind it
  pub rest_of : (rows run : List R) (one : IsOneRun group cmp g rows run) (first : ℕ) → first ≤ length rows → Point is_before rows first → rest_from rows first ≡ run ++ one.behind
  rest_of rows run one first bound point =
      let parts = one.parts ∙ append_assoc one.before run one.behind in
      let fails = fails_append is_before run one.behind (equal_not_before run one.equal) (greater_not_before one.behind one.greater) in
      let rest = begins_at one.before (run ++ one.behind) (lesser_before one.before one.lesser) fails first
      (subst (λ all. first ≤ length all) parts bound) (subst (λ all. Point is_before all first) parts point) in
      ap (λ all. rest_from all first) parts ∙ rest

  -- where the rows stop to be of the group, the run ends
  pub run_between : (rows run : List R) (one : IsOneRun group cmp g rows run) (first len : ℕ) → rest_from rows first ≡ run ++ one.behind → len ≤ length (rest_from rows first) → Point is_within (rest_from rows first) len → take len (rest_from rows first) ≡ run
  run_between rows run one first len same bound point =
      ap (take len) same ∙ ends_at run one.behind one.equal one.greater len (subst (λ all. len ≤ length all) same bound) (subst (λ all. Point is_within all len) same point)

  -- and where a row of another group is the first among the nearest, it is the first of all
  pub run_near : (rows run : List R) (one : IsOneRun group cmp g rows run) (first count len : ℕ) → rest_from rows first ≡ run ++ one.behind → Some len ≡ position (λ row. not (is_eq (cmp (group row) g))) (take count (rest_from rows first)) → take len (rest_from rows first) ≡ run
  run_near rows run one first count len same found =
      let other : R → Bool = λ row. not (is_eq (cmp (group row) g)) in
      let all = run ++ one.behind in
      let at = first_of other count all len (subst (λ rest. Some len ≡ position other (take count rest)) same found) in
      ap (take len) same ∙ ap (λ n. take n all) (sym at ∙ other_at run one.behind one.equal one.greater) ∙ take-append_seam run one.behind
