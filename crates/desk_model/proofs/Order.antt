-- That keys rise along a list, as a test and as a fact.
use Rattle.std.proofs.Common.{◌≡◌, true, List, [], ◌∷◌, refl, ap, Ordering, Less, Equal, Greater, is_lt}
use Rattle.std.specs.List.{AllByRecursion, list_all}
use Rattle.std.specs.List.Sorted.{IsStrictlySortedBy}
use Rattle.std.proofs.lemmas.Bool.{and_from, and_parts, false≢true}
use Rattle.desk_model.specs.Content.{rises}

less_from_test : (a : Ordering) → is_lt a ≡ true → a ≡ Less
less_from_test Less e = refl
less_from_test Equal e = absurd (false≢true e)
less_from_test Greater e = absurd (false≢true e)

module _ {K : Type 0} (cmp : K → K → Ordering) where
  above : (k : K) (ks : List K) → list_all (λ later. is_lt (cmp k later)) ks ≡ true → AllByRecursion (λ later. cmp k later ≡ Less) ks
  above k [] e = tt
  above k (j ∷ ks) e =
      let parts = and_parts (is_lt (cmp k j)) (list_all (λ later. is_lt (cmp k later)) ks) e in
      (less_from_test (cmp k j) parts.0, above k ks parts.1)

  test_above : (k : K) (ks : List K) → AllByRecursion (λ later. cmp k later ≡ Less) ks → list_all (λ later. is_lt (cmp k later)) ks ≡ true
  test_above k [] a = refl
  test_above k (j ∷ ks) a = and_from (is_lt (cmp k j)) (list_all (λ later. is_lt (cmp k later)) ks) (ap is_lt a.0) (test_above k ks a.1)

  pub sorted_from_rises : (ks : List K) → rises cmp ks ≡ true → IsStrictlySortedBy cmp ks
  unfolding IsStrictlySortedBy
  sorted_from_rises [] e = tt
  sorted_from_rises (k ∷ ks) e =
      let parts = and_parts (list_all (λ later. is_lt (cmp k later)) ks) (rises cmp ks) e in
      (above k ks parts.0, sorted_from_rises ks parts.1)

  pub rises_from_sorted : (ks : List K) → IsStrictlySortedBy cmp ks → rises cmp ks ≡ true
  unfolding IsStrictlySortedBy
  rises_from_sorted [] h = refl
  rises_from_sorted (k ∷ ks) h = and_from (list_all (λ later. is_lt (cmp k later)) ks) (rises cmp ks) (test_above k ks h.0) (rises_from_sorted ks h.1)
