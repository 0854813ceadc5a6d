-- The first element that passes a test, of a list in order of its keys, has the least key of all that pass.
use Rattle.std.proofs.Common.{◌≡◌, ℕ, ◌^◌, Bool, true, false, not, ◌||◌, List, [], ◌∷◌, map, find, Option, Some, None, refl, sym, ap, ◌∙◌, subst, Ordering, Less, Equal, Greater, is_lt, inl, inr}
use Rattle.std.specs.Prelude.{nat_le, option_map, ⊤}
use Rattle.std.specs.List.{AllByRecursion, list_all}
use Rattle.std.specs.Ordering.{nat_cmp, ordering_reverse, ordering_then}
use Rattle.std.proofs.lemmas.Bool.{and_from, cases_Bool, or_left, or_right}
use Rattle.std.proofs.lemmas.Cmp.{nat_cmp_total, tied_itself}
use Rattle.desk_text.specs.Code.{code_cmp, same_code}
use Rattle.desk_rows.specs.Rows.{IsByKey}
use Rattle.desk_rows.proofs.Order.{first_above, greater_back, rest_by_key}
use Rattle.desk_model.specs.declared.rows.line.LineRow.{LineRow}
use Rattle.desk_model.specs.declared.rows.shipment.ShipmentRow.{ShipmentRow}
use Rattle.desk_findings.specs.Chain.{next_to}
use Rattle.desk_model.specs.Lists.{IsOrdered, Lists, line_key, line_key_cmp, shipment_key, shipment_key_cmp}
use Rattle.desk_findings.specs.Mass.{mass}
use Rattle.desk_findings.specs.Reaches.{is_or_reaches, lines_of}
use Rattle.desk_findings.specs.Totals.{too_heavy_part, too_heavy_year, year_mass}
use Rattle.desk_model.proofs.Elements.{all_from_each, each_filter, each_map}
use Rattle.desk_model.proofs.Kept.{code_cmp_total, line_key_cmp_total, same_code-true, shipment_key_cmp_total}

-- no element is less than one before it
abbrev Rises : {X : Type 0} → (X → X → Bool) → List X → Type 0
Rises less [] = ⊤
Rises less (x ∷ xs) = AllByRecursion (λ y. less y x ≡ false) xs × Rises less xs

some_some : {X : Type 0} {x y : X} → Some x ≡ Some y → x ≡ y
some_some {X} {x} {y} e = cc

none_some : {X : Type 0} (x : X) {G : Type 0} → None ≡ Some x → G
none_some x e = cc

first_is_least : {X : Type 0} (p : X → Bool) (less : X → X → Bool) → ((x : X) → less x x ≡ false) → (xs : List X) (found : X) → Rises less xs → find p xs ≡ Some found → list_all (λ x. not (p x) || not (less x found)) xs ≡ true
first_is_least p less self [] found r e = refl
first_is_least p less self (x ∷ xs) found r e =
    elim (cases_Bool (p x)) [
      | inl here ↦
          subst (λ y. list_all (λ z. not (p z) || not (less z y)) (x ∷ xs) ≡ true) (some_some (rw here at e))
          (and_from (not (p x) || not (less x x)) (list_all (λ z. not (p z) || not (less z x)) xs)
          (or_right (not (p x)) (not (less x x)) (ap not (self x)))
          (all_from_each (λ z. not (p z) || not (less z x)) xs (each_map (λ z. less z x ≡ false) (λ z. (not (p z) || not (less z x)) ≡ true) (λ z f. or_right (not (p z)) (not (less z x)) (ap not f)) xs r.0)))
      | inr other ↦
          and_from (not (p x) || not (less x found)) (list_all (λ z. not (p z) || not (less z found)) xs)
          (or_left (not (p x)) (not (less x found)) (ap not other))
          (first_is_least p less self xs found r.1 (rw other at e))
    ]

found_of : {X Y : Type 0} (f : X → Y) (o : Option X) (y : Y) → option_map f o ≡ Some y → (x : X) × (o ≡ Some x) × (f x ≡ y)
found_of f None y e = none_some y e
found_of f (Some x) y e = (x, refl, some_some e)

each_unmapped : {X Y : Type 0} (P : Y → Type 0) (f : X → Y) (xs : List X) → AllByRecursion P (map f xs) → AllByRecursion (λ x. P (f x)) xs
each_unmapped P f [] a = tt
each_unmapped P f (x ∷ xs) a = (a.0, each_unmapped P f xs a.1)

not_less_itself : (code : List ℕ) → is_lt (code_cmp code code) ≡ false
not_less_itself code = ap is_lt (tied_itself code_cmp_total code)

-- the rows of a list by code
module _ {R : Type 0} (key : R → List ℕ) where
  by_code : (rows : List R) → IsByKey key code_cmp rows → Rises (λ y x. is_lt (code_cmp (key y) (key x))) rows
  by_code [] h = tt
  by_code (row ∷ rows) h = (
    each_map (λ y. code_cmp (key row) (key y) ≡ Less) (λ y. is_lt (code_cmp (key y) (key row)) ≡ false)
        (λ y e. ap is_lt (greater_back key code_cmp code_cmp_total (key row) (key y) e)) rows
        (each_unmapped (λ k. code_cmp (key row) k ≡ Less) key rows (first_above key code_cmp code_cmp_total row rows h)),
    by_code rows (rest_by_key key code_cmp code_cmp_total row rows h),
  )

-- the lines of one part, by child
child_after : (part : List ℕ) (x y : LineRow) → same_code x.parent part ≡ true → same_code y.parent part ≡ true → line_key_cmp (line_key x) (line_key y) ≡ Less → is_lt (code_cmp y.child x.child) ≡ false
child_after part x y mine its e =
    let same : code_cmp x.parent y.parent ≡ Equal =
    rw (same_code-true x.parent part mine, same_code-true y.parent part its) (tied_itself code_cmp_total part) in
    let less : code_cmp x.child y.child ≡ Less = sym (ap (λ o. ordering_then o (code_cmp x.child y.child)) same) ∙ e in
    ap is_lt (code_cmp_total.antisymm y.child x.child ∙ ap ordering_reverse less)

by_child : (part : List ℕ) (lines : List LineRow) → IsByKey line_key line_key_cmp lines → Rises (λ y x. is_lt (code_cmp y.child x.child)) (lines_of lines part)
by_child part [] h = tt
by_child part (line ∷ lines) h =
    let rest = by_child part lines (rest_by_key line_key line_key_cmp line_key_cmp_total line lines h) in
    elim (cases_Bool (same_code line.parent part)) [
      | inl mine ↦
          let above = each_unmapped (λ k. line_key_cmp (line_key line) k ≡ Less) line_key lines (first_above line_key line_key_cmp line_key_cmp_total line lines h) in
          let later = each_map (λ y. (line_key_cmp (line_key line) (line_key y) ≡ Less) × (same_code y.parent part ≡ true)) (λ y. is_lt (code_cmp y.child line.child) ≡ false)
          (λ y e. child_after part line y mine e.1 e.0) (lines_of lines part)
          (each_filter (λ y. line_key_cmp (line_key line) (line_key y) ≡ Less) (λ y. same_code y.parent part) lines above) in
          rw mine (later, rest)
      | inr other ↦ rw other rest
    ]

-- the shipments by year
year_after : (first second : Ordering) (a b : ℕ) → nat_cmp a b ≡ first → ordering_then first second ≡ Less → is_lt (nat_cmp b a) ≡ false
year_after Less second a b e f = ap is_lt (nat_cmp_total.antisymm b a ∙ ap ordering_reverse e)
year_after Equal second a b e f = ap is_lt (nat_cmp_total.antisymm b a ∙ ap ordering_reverse e)
year_after Greater second a b e f = ap is_lt (nat_cmp_total.antisymm b a ∙ ap ordering_reverse e) ∙ sym (ap is_lt f)

by_year : (shipments : List ShipmentRow) → IsByKey shipment_key shipment_key_cmp shipments → Rises (λ y x. is_lt (nat_cmp y.year x.year)) shipments
by_year [] h = tt
by_year (shipment ∷ shipments) h = (
  each_map (λ y. shipment_key_cmp (shipment_key shipment) (shipment_key y) ≡ Less) (λ y. is_lt (nat_cmp y.year shipment.year) ≡ false)
      (λ y e. year_after (nat_cmp shipment.year y.year) (code_cmp shipment.product y.product) shipment.year y.year refl e) shipments
      (each_unmapped (λ k. shipment_key_cmp (shipment_key shipment) k ≡ Less) shipment_key shipments (first_above shipment_key shipment_key_cmp shipment_key_cmp_total shipment shipments h)),
  by_year shipments (rest_by_key shipment_key shipment_key_cmp shipment_key_cmp_total shipment shipments h),
)

pub next-least : (t : Lists) → IsOrdered t → (part target child : List ℕ) → next_to t part target ≡ Some child → list_all (λ line. not (is_or_reaches t line.child target) || not (is_lt (code_cmp line.child child))) (lines_of t.lines part) ≡ true
next-least t o part target child e =
    let found = found_of (λ line. line.child) (find (λ line. is_or_reaches t line.child target) (lines_of t.lines part)) child e in
    subst (λ c. list_all (λ line. not (is_or_reaches t line.child target) || not (is_lt (code_cmp line.child c))) (lines_of t.lines part) ≡ true) found.2
    (first_is_least (λ line. is_or_reaches t line.child target) (λ y x. is_lt (code_cmp y.child x.child)) (λ x. not_less_itself x.child) (lines_of t.lines part) found.0 (by_child part t.lines o.lines) found.1)

pub heavy-least : (t : Lists) → IsOrdered t → (code : List ℕ) → too_heavy_part t ≡ Some code → list_all (λ part. not (nat_le (2 ^ 128) (mass t part.code)) || not (is_lt (code_cmp part.code code))) t.parts ≡ true
unfolding too_heavy_part
heavy-least t o code e =
    let found = found_of (λ part. part.code) (find (λ part. nat_le (2 ^ 128) (mass t part.code)) t.parts) code e in
    subst (λ c. list_all (λ part. not (nat_le (2 ^ 128) (mass t part.code)) || not (is_lt (code_cmp part.code c))) t.parts ≡ true) found.2
    (first_is_least (λ part. nat_le (2 ^ 128) (mass t part.code)) (λ y x. is_lt (code_cmp y.code x.code)) (λ x. not_less_itself x.code) t.parts found.0 (by_code (λ row. row.code) t.parts o.parts) found.1)

pub year-least : (t : Lists) → IsOrdered t → (year : ℕ) → too_heavy_year t ≡ Some year → list_all (λ shipment. not (nat_le (2 ^ 128) (year_mass t shipment.year)) || not (is_lt (nat_cmp shipment.year year))) t.shipments ≡ true
unfolding too_heavy_year
year-least t o year e =
    let found = found_of (λ shipment. shipment.year) (find (λ shipment. nat_le (2 ^ 128) (year_mass t shipment.year)) t.shipments) year e in
    subst (λ y. list_all (λ shipment. not (nat_le (2 ^ 128) (year_mass t shipment.year)) || not (is_lt (nat_cmp shipment.year y))) t.shipments ≡ true) found.2
    (first_is_least (λ shipment. nat_le (2 ^ 128) (year_mass t shipment.year)) (λ y x. is_lt (nat_cmp y.year x.year)) (λ x. ap is_lt (tied_itself nat_cmp_total x.year)) t.shipments found.0 (by_year t.shipments o.shipments) found.1)
