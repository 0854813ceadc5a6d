-- A list that goes on makes no smaller count.
use Rattle.std.proofs.Common.{ℕ, ◌+◌, ◌≤◌, List, [], ◌∷◌, le_refl, le_trans, arith}
use Rattle.std.proofs.lemmas.List.Sums.{fold-append}
use mathlib.Core.List.{IsPrefix}
use Rattle.desk_publish_tests.specs.Counts.{count_after}

rises : (opening : ℕ) (list : List ℕ) → opening ≤ count_after opening list
rises opening [] = le_refl opening
rises opening (entry ∷ list) = let one : opening ≤ opening + 1 = omega arith in le_trans one (rises (opening + 1) list)

pub count_rises : (opening : ℕ) (list later : List ℕ) → IsPrefix list later → count_after opening list ≤ count_after opening later
count_rises opening list later begins =
    rw (← begins.1, fold-append (λ (count entry : ℕ). count + 1) opening list begins.0) (rises (count_after opening list) begins.0)
