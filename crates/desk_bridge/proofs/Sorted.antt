-- Lists that rise strictly.
use Rattle.std.proofs.Common.{◌≡◌, Bool, true, false, ◌||◌, List, [], ◌∷◌, ◌++◌, map, refl, sym, ap, ◌∙◌, subst, inl, inr, Ordering, Less, Equal, Greater}
use Rattle.std.specs.Ordering.{ordering_reverse}
use Rattle.std.specs.Cmp.{IsTotalOrder}
use Rattle.std.specs.List.{AllByRecursion, flat_map, list_any}
use Rattle.std.specs.List.Sorted.{IsStrictlySortedBy}
use Rattle.std.proofs.lemmas.Bool.{cases_Bool, or_cases, or_left, true≢false}
use Rattle.std.proofs.lemmas.Cmp.{tied_itself}
use Rattle.desk_model.proofs.Elements.{each_in_map, each_map, each_of_map}

less_equal : {G : Type 0} → Less ≡ Equal → G
less_equal e = cc

less_greater : {G : Type 0} → Less ≡ Greater → G
less_greater e = cc

-- what holds of all of two lists holds of all of the whole
pub all_both : {X : Type 0} (P : X → Type 0) (xs ys : List X) → AllByRecursion P xs → AllByRecursion P ys → AllByRecursion P (xs ++ ys)
all_both P [] ys a b = b
all_both P (x ∷ xs) ys a b = (a.0, all_both P xs ys a.1 b)

module _ {X : Type 0} (cmp : X → X → Ordering) where
  -- of two lists that rise, with all of the one below all of the other, the whole rises
  pub sorted_both : (xs ys : List X) → IsStrictlySortedBy cmp xs → IsStrictlySortedBy cmp ys → AllByRecursion (λ x. AllByRecursion (λ y. cmp x y ≡ Less) ys) xs → IsStrictlySortedBy cmp (xs ++ ys)
  unfolding IsStrictlySortedBy
  sorted_both [] ys first second below = second
  sorted_both (x ∷ xs) ys first second below = (all_both (λ y. cmp x y ≡ Less) xs ys first.0 below.0, sorted_both xs ys first.1 second below.1)

  module _ {Y : Type 0} (of : Y → Y → Ordering) (f : Y → X) (rises : (a b : Y) → of a b ≡ Less → cmp (f a) (f b) ≡ Less) where
    -- what keeps the order keeps a list that rises
    pub sorted_map : (ys : List Y) → IsStrictlySortedBy of ys → IsStrictlySortedBy cmp (map f ys)
    unfolding IsStrictlySortedBy
    sorted_map [] h = tt
    sorted_map (y ∷ ys) h = (each_of_map (λ x. cmp (f y) x ≡ Less) f ys (each_map (λ b. of y b ≡ Less) (λ b. cmp (f y) (f b) ≡ Less) (λ b e. rises y b e) ys h.0), sorted_map ys h.1)

  -- rows by the keys of which a list rises
  pub sorted_rows : {R : Type 0} (key : R → X) (rows : List R) → IsStrictlySortedBy cmp (map key rows) → IsStrictlySortedBy (λ a b. cmp (key a) (key b)) rows
  unfolding IsStrictlySortedBy
  sorted_rows key [] h = tt
  sorted_rows key (row ∷ rows) h = (each_in_map (λ k. cmp (key row) k ≡ Less) key rows h.0, sorted_rows key rows h.1)

  -- a list for each of some rows that rise, where what is of a row is below what is of a later one
  module _ {R : Type 0} (of : R → R → Ordering) (Has : R → X → Type 0) (below : (a b : R) (x y : X) → of a b ≡ Less → Has a x → Has b y → cmp x y ≡ Less) (f : R → List X) (has : (row : R) → AllByRecursion (Has row) (f row)) (each_sorted : (row : R) → IsStrictlySortedBy cmp (f row)) where
    all_behind : (row : R) (x : X) (rows : List R) → Has row x → AllByRecursion (λ b. of row b ≡ Less) rows → AllByRecursion (λ y. cmp x y ≡ Less) (flat_map f rows)
    all_behind row x [] here h = tt
    all_behind row x (next ∷ rows) here h = all_both (λ y. cmp x y ≡ Less) (f next) (flat_map f rows) (each_map (Has next) (λ y. cmp x y ≡ Less) (λ y e. below row next x y h.0 here e) (f next) (has next)) (all_behind row x rows here h.1)

    pub sorted_flat : (rows : List R) → IsStrictlySortedBy of rows → IsStrictlySortedBy cmp (flat_map f rows)
    unfolding IsStrictlySortedBy
    sorted_flat [] h = tt
    sorted_flat (row ∷ rows) h =
        sorted_both (f row) (flat_map f rows) (each_sorted row) (sorted_flat rows h.1)
        (each_map (Has row) (λ x. AllByRecursion (λ y. cmp x y ≡ Less) (flat_map f rows)) (λ x here. all_behind row x rows here h.0) (f row) (has row))

  module _ (o : IsTotalOrder cmp) (same : X → X → Bool) (itself : (x : X) → same x x ≡ true) (is : (x y : X) → same x y ≡ true → x ≡ y) where
    -- what holds of all holds of each
    of_one : (P : X → Type 0) (x : X) (xs : List X) → AllByRecursion P xs → list_any (same x) xs ≡ true → P x
    of_one P x [] all e = absurd (true≢false (sym e))
    of_one P x (y ∷ ys) all e =
        elim (or_cases (same x y) (list_any (same x) ys) e) [
          | inl here ↦ subst P (sym (is x y here)) all.0
          | inr later ↦ of_one P x ys all.1 later
        ]

    not_below_itself : {G : Type 0} (x : X) → cmp x x ≡ Less → G
    not_below_itself x e = less_equal (sym e ∙ tied_itself o x)

    not_both : {G : Type 0} (x y : X) → cmp x y ≡ Less → cmp y x ≡ Less → G
    not_both x y e h = less_greater (sym e ∙ o.antisymm x y ∙ ap ordering_reverse h)

    firsts : (x y : X) (xs ys : List X) → AllByRecursion (λ z. cmp x z ≡ Less) xs → AllByRecursion (λ z. cmp y z ≡ Less) ys → ((z : X) → list_any (same z) (x ∷ xs) ≡ list_any (same z) (y ∷ ys)) → x ≡ y
    firsts x y xs ys above_x above_y alike =
        let x_there = sym (alike x) ∙ or_left (same x x) (list_any (same x) xs) (itself x) in
        let y_there = alike y ∙ or_left (same y y) (list_any (same y) ys) (itself y) in
        elim (or_cases (same x y) (list_any (same x) ys) x_there) [
          | inl here ↦ is x y here
          | inr behind ↦
              elim (or_cases (same y x) (list_any (same y) xs) y_there) [
                | inl here ↦ sym (is y x here)
                | inr later ↦ not_both x y (of_one (λ z. cmp x z ≡ Less) y xs above_x later) (of_one (λ z. cmp y z ≡ Less) x ys above_y behind)
              ]
        ]

    absent : (x : X) (xs : List X) → AllByRecursion (λ z. cmp x z ≡ Less) xs → list_any (same x) xs ≡ false
    absent x xs above =
        elim (cases_Bool (list_any (same x) xs)) [
          | inl there ↦ not_below_itself x (of_one (λ z. cmp x z ≡ Less) x xs above there)
          | inr none ↦ none
        ]

    rests : (x : X) (xs ys : List X) → AllByRecursion (λ z. cmp x z ≡ Less) xs → AllByRecursion (λ z. cmp x z ≡ Less) ys → ((z : X) → list_any (same z) (x ∷ xs) ≡ list_any (same z) (x ∷ ys)) → (z : X) → list_any (same z) xs ≡ list_any (same z) ys
    rests x xs ys above_xs above_ys alike z =
        elim (cases_Bool (same z x)) [
          | inl here ↦
              let one = is z x here in
              subst (λ w. list_any (same w) xs ≡ list_any (same w) ys) (sym one) (absent x xs above_xs ∙ sym (absent x ys above_ys))
          | inr other ↦
              let P : Bool → Type 0 = λ b. (b || list_any (same z) xs) ≡ (b || list_any (same z) ys) in
              subst P other (alike z)
        ]

    -- two lists that rise and have the same elements are one
    pub sorted_alike : (xs ys : List X) → IsStrictlySortedBy cmp xs → IsStrictlySortedBy cmp ys → ((z : X) → list_any (same z) xs ≡ list_any (same z) ys) → xs ≡ ys
    unfolding IsStrictlySortedBy
    sorted_alike [] [] a b alike = refl
    sorted_alike [] (y ∷ ys) a b alike = absurd (true≢false (sym (or_left (same y y) (list_any (same y) ys) (itself y)) ∙ sym (alike y)))
    sorted_alike (x ∷ xs) [] a b alike = absurd (true≢false (sym (or_left (same x x) (list_any (same x) xs) (itself x)) ∙ alike x))
    sorted_alike (x ∷ xs) (y ∷ ys) a b alike =
        let one = firsts x y xs ys a.0 b.0 alike in
        let above : AllByRecursion (λ z. cmp x z ≡ Less) ys = subst (λ w. AllByRecursion (λ z. cmp w z ≡ Less) ys) (sym one) b.0 in
        let alike_here : (z : X) → list_any (same z) (x ∷ xs) ≡ list_any (same z) (x ∷ ys) = subst (λ w. (z : X) → list_any (same z) (x ∷ xs) ≡ list_any (same z) (w ∷ ys)) (sym one) alike in
        ap (λ w. w ∷ xs) one ∙ ap (λ rest. y ∷ rest) (sorted_alike xs ys a.1 b.1 (rests x xs ys a.0 above alike_here))
