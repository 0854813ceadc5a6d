-- A set of kinds stands in the order of Annex I.
use Rattle.std.proofs.Common.{◌≡◌, ◌↔◌, Bool, true, false, not, cond, IsTrue, List, [], ◌∷◌, length, refl, sym, ap, ◌∙◌, arith}
use Rattle.std.specs.Prelude.{filter, nat_lt}
use Rattle.std.specs.List.{list_all}
use Rattle.std.specs.Ordering.{is_lt, nat_cmp, on}
use Rattle.std.specs.declared.cmp.Ordering.{Ordering}
use Rattle.std.proofs.lemmas.Bool.{and_from, and_parts, false≢true}
use Rattle.std.proofs.lemmas.Bool.Decides.{nat_tests}
use Rattle.desk_law.specs.declared.kind.Kind.{Kind}
use Rattle.desk_law.specs.Kind.{all_kinds, kind_place}
use Rattle.desk_law.specs.KindSet.{has_kind, set_of}
use Rattle.desk_model.specs.Content.{rises}
use Rattle.desk_model.specs.Terms.{are_kinds}

module _ {K : Type 0} (cmp : K → K → Ordering) (test : K → Bool) where
  list_all-filter : (passes : K → Bool) (ks : List K) → list_all passes ks ≡ true → list_all passes (filter test ks) ≡ true
  list_all-filter passes [] all = refl
  list_all-filter passes (k ∷ ks) all =
      let parts = and_parts (passes k) (list_all passes ks) all in
      elim (test k) as (λ b. list_all passes (cond b (k ∷ filter test ks) (filter test ks)) ≡ true) [
        | true ↦ and_from (passes k) (list_all passes (filter test ks)) parts.0 (list_all-filter passes ks parts.1)
        | false ↦ list_all-filter passes ks parts.1
      ]

  -- what is kept of a list that rises rises
  pub rises-filter : (ks : List K) → rises cmp ks ≡ true → rises cmp (filter test ks) ≡ true
  rises-filter [] up = refl
  rises-filter (k ∷ ks) up =
      let below : K → Bool = λ later. is_lt (cmp k later) in
      let parts = and_parts (list_all below ks) (rises cmp ks) up in
      elim (test k) as (λ b. rises cmp (cond b (k ∷ filter test ks) (filter test ks)) ≡ true) [
        | true ↦ and_from (list_all below (filter test ks)) (rises cmp (filter test ks)) (list_all-filter below ks parts.0) (rises-filter ks parts.1)
        | false ↦ rises-filter ks parts.1
      ]

all_kinds_rise : rises (on kind_place nat_cmp) all_kinds ≡ true
unfolding kind_place
all_kinds_rise = refl

set_rises : (kinds : List Kind) → kinds ≡ set_of kinds → rises (on kind_place nat_cmp) kinds ≡ true
unfolding set_of
set_rises kinds form = ap (rises (on kind_place nat_cmp)) form ∙ rises-filter (on kind_place nat_cmp) (has_kind kinds) all_kinds all_kinds_rise

-- so that it is one of at least one kind exactly where it isn't empty
pub not_empty-are_kinds : (kinds : List Kind) (none : Bool) → IsTrue none ↔ (kinds ≡ []) → kinds ≡ set_of kinds → not none ≡ are_kinds kinds
not_empty-are_kinds [] true empty form = refl
not_empty-are_kinds [] false empty form = absurd (false≢true (empty.1 refl))
not_empty-are_kinds (k ∷ ks) true empty form = let e : k ∷ ks ≡ [] = empty.0 refl in cc
not_empty-are_kinds (k ∷ ks) false empty form =
    let some : nat_lt 0 (length (k ∷ ks)) ≡ true = grind (arith, nat_tests) in
    sym (and_from (nat_lt 0 (length (k ∷ ks))) (rises (on kind_place nat_cmp) (k ∷ ks)) some (set_rises (k ∷ ks) form))
