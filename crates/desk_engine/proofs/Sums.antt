-- Sums that loads are added to.
use Rattle.std.proofs.Common.{◌≡◌, ℕ, ◌+◌, ◌*◌, ◌<◌, ◌≤◌, false, ◌==◌, List, [], ◌∷◌, ◌++◌, drop, length, take, refl, ap, ◌∙◌, inl, inr, arith, mul-le-mul_left}
use Rattle.std.specs.Prelude.{if◌then◌else◌}
use Rattle.std.proofs.lemmas.Bool.{cases_Bool, eqb-true, ne_eqb}
use Rattle.std.proofs.lemmas.List.{append-nil, drop_all, take_all}
use Rattle.std.proofs.lemmas.List.Sums.{sum_by-cons}
use Rattle.desk_rollup.specs.declared.load.Load.{Load}
use Rattle.desk_rollup.specs.Numbers.{Rises, RisesFrom, has, load_numbers}
use Rattle.desk_rollup.specs.Values.{amount_of, carried_by_node}
use Rattle.desk_rollup.proofs.Lists.{amount_none}

none_has : (low n : ℕ) (ns : List ℕ) → n < low → RisesFrom low ns → has ns n ≡ false
none_has low n [] h up = refl
none_has low n (first ∷ ns) h up = rw (ne_eqb first n (λ e. omega (arith, e, up.0, h))) (none_has (first + 1) n ns (omega (arith, up.0, h)) up.1)

-- where each substance stands once, its load is all there is of it
once_carried : (low n : ℕ) (loads : List Load) → RisesFrom low (load_numbers loads) → amount_of loads n ≡ carried_by_node loads n
once_carried low n [] up = refl
once_carried low n (load ∷ loads) up =
    let sum = sum_by-cons (λ (one : Load). if one.what == n then one.amount else 0) load loads in
    elim (cases_Bool (load.what == n)) [
      | inl here ↦
          let same = eqb-true load.what n here in
          let rest = amount_none loads n (none_has (load.what + 1) n (load_numbers loads) (omega (arith, same)) up.1) in
          sum ∙ rw here (omega (arith, rest))
      | inr away ↦ sum ∙ rw away (omega (arith, once_carried (load.what + 1) n loads up.1))
    ]

pub all_carried : (loads : List Load) → Rises (load_numbers loads) → (n : ℕ) → amount_of loads n ≡ carried_by_node loads n
all_carried loads up n = once_carried 0 n loads up

twice : (units a b : ℕ) → units * (a + b) ≡ units * a + units * b
twice units a b = grind arith

-- what is added stays below what all of it comes to
pub room_for : (units before here total sum old bound : ℕ) → sum ≡ old + units * before → before + here ≤ total → old + units * total < bound → sum + units * here < bound
room_for units before here total sum old bound is within low = omega (arith, is, low, twice units before here, mul-le-mul_left units within)

pub added : (units before here after sum old new : ℕ) → sum ≡ old + units * before → before + here ≡ after → new ≡ sum + units * here → new ≡ old + units * after
added units before here after sum old new is all put = omega (arith, is, put, twice units before here, ap (λ n. units * n) all)

-- what is written through a slice is what the list holds
pub written : {X : Type 0} (new items : List X) (len : ℕ) → len ≡ length items → length new ≡ length items → take len (new ++ drop (length new) items) ≡ new
written new items len size same =
    ap (λ rest. take len (new ++ rest)) (drop_all (length new) items (omega (arith, same)))
    ∙ ap (take len) (append-nil new)
    ∙ take_all len new (omega (arith, size, same))
