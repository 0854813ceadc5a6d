-- The findings of marks, sorted, are those of the part in the order of answers.
use Rattle.std.proofs.Common.{◌≡◌, ℕ, suc, ◌+◌, ◌<◌, ◌≤◌, Bool, true, false, cond, ◌==◌, List, [], ◌∷◌, count_by, is_lt, length, map, sum_by, refl, sym, ap, ◌∙◌, subst, inl, inr, arith, tests, Ordering, Less, Equal, Greater}
use Rattle.std.specs.Prelude.{slice_index_or}
use Rattle.std.specs.Cmp.{IsTotalOrder}
use Rattle.std.specs.Ordering.{nat_cmp, ordering_reverse, ordering_then}
use Rattle.std.specs.List.{AllByRecursion}
use Rattle.std.specs.List.Sorted.{IsPermutation, IsSortedByKey, IsStrictlySortedBy}
use Rattle.std.proofs.lemmas.Bool.{cases_Bool, eq-eqb, eqb-true, false_from_ne_true, false≢true, ne_eqb, or_left, or_right, both_ways}
use Rattle.std.proofs.lemmas.Cmp.{nat_cmp_total, on_total, then_total}
use Rattle.std.proofs.lemmas.List.Sorted.{list_any-IsPermutation, sum_by-IsPermutation}
use Rattle.std.proofs.lemmas.List.Sums.{sum_by-cons}
use Rattle.desk_text.specs.Code.{code_cmp}
use Rattle.desk_law.specs.Rule.{rule_number}
use Rattle.desk_law.proofs.Rules.{same_rule-true}
use Rattle.desk_rollup.specs.declared.hop.Hop.{Hop}
use Rattle.desk_rollup.specs.Numbers.{Rises, RisesFrom, has, hop_numbers, mark_number}
use Rattle.desk_model.specs.Lists.{IsOrdered, Lists, is_part}
use Rattle.desk_model.proofs.Elements.{any-map, any_gives, any_same, each_map}
use Rattle.desk_model.proofs.Kept.{code_cmp_total, same_code-true}
use Rattle.desk_findings.specs.Findings.{Finding, above, findings, findings_at, is_in, over, same_finding}
use Rattle.desk_findings.specs.Bill.{IsBill, are_codes_apart}
use Rattle.desk_findings.specs.Holders.{holder}
use Rattle.desk_findings.specs.Numbering.{AreNumbered, has_numbered, is_found}
use Rattle.desk_findings.proofs.FindingsOnce.{of_part, same_finding-true}
use Rattle.desk_findings.proofs.Numbering.{each_found, same_itself}
use Rattle.desk_scratch.specs.declared.finding.Finding.{Finding as Told}
use Rattle.desk_scratch.specs.LookUps.{finding_of}
use Rattle.desk_bridge.specs.Numbers.{finding_number}
use Rattle.desk_bridge.specs.Order.{finding_candidate, finding_cmp, finding_kind, finding_rule}
use Rattle.desk_bridge.proofs.InOrder.{in_order}
use Rattle.desk_bridge.proofs.RolledAlike.{sum_by-map}
use Rattle.desk_engine.specs.Answers.{AreTold, IsNumber}

pub finding_total : IsTotalOrder finding_cmp
finding_total = then_total (on_total finding_kind nat_cmp_total) (then_total (on_total holder code_cmp_total) (then_total (on_total finding_rule nat_cmp_total) (on_total finding_candidate code_cmp_total)))

abbrev one_if : Bool → ℕ
one_if b = cond b 1 0

less_equal : {G : Type 0} → Less ≡ Equal → G
less_equal e = cc

both_equal : (a b : Ordering) → ordering_then a b ≡ Equal → (a ≡ Equal) × (b ≡ Equal)
both_equal Less b e = less_equal e
both_equal Equal b e = (refl, e)
both_equal Greater b e = cc

is_eq_of : (a b : List ℕ) → code_cmp a b ≡ Equal → a ≡ b
is_eq_of a b e = same_code-true a b (ap Rattle.std.proofs.Common.is_eq e)

nat_equal : (a b : ℕ) → nat_cmp a b ≡ Equal → a ≡ b
nat_equal a b e = grind (arith, tests)

-- findings that stand at one place are one
pub tied : (a b : Finding) → finding_cmp a b ≡ Equal → a ≡ b
tied (over m r) (over n q) e =
    let parts = both_equal (code_cmp m n) _ e in
    let rest = both_equal (nat_cmp (rule_number r) (rule_number q)) _ parts.1 in
    ap (λ c. over c r) (is_eq_of m n parts.0) ∙ ap (over n) (same_rule-true r q (eq-eqb (rule_number r) (rule_number q) (nat_equal (rule_number r) (rule_number q) rest.0)))
tied (over m r) (above b v) e = less_equal e
tied (above a u) (over n q) e = cc
tied (above a u) (above b v) e =
    let parts = both_equal (code_cmp a b) _ e in
    ap (λ c. above c u) (is_eq_of a b parts.0) ∙ ap (above b) (is_eq_of u v parts.1)

-- what is sorted, with no two that have one number, rises
module _ {X K : Type 0} (key : X → K) (cmp : K → K → Ordering) (o : IsTotalOrder cmp) (num : X → ℕ) (agree : (x y : X) → cmp (key x) (key y) ≡ Equal → num x ≡ num y) where
  abbrev often : ℕ → List X → ℕ
  often n xs = count_by (λ x. num x == n) xs

  often-cons : (n : ℕ) (x : X) (xs : List X) → often n (x ∷ xs) ≡ cond (num x == n) 1 0 + often n xs
  often-cons n x xs = sum_by-cons (λ y. cond (num y == n) 1 0) x xs

  pair_rises : (x y : X) (rest : List X) (answer : Ordering) → cmp (key x) (key y) ≡ answer → is_lt (cmp (key y) (key x)) ≡ false → often (num y) (x ∷ y ∷ rest) ≤ 1 → cmp (key x) (key y) ≡ Less
  pair_rises x y rest Less e low few = e
  pair_rises x y rest Equal e low few =
      let one = ap one_if (eq-eqb (num x) (num y) (agree x y e)) in
      let two = ap one_if (eq-eqb (num y) (num y) refl) in
      absurd (omega (arith, few, often-cons (num y) x (y ∷ rest), often-cons (num y) y rest, one, two))
  pair_rises x y rest Greater e low few = absurd (false≢true (sym low ∙ ap is_lt (o.antisymm (key y) (key x) ∙ ap ordering_reverse e)))

  pub rises : (xs : List X) → IsSortedByKey key cmp xs → ((n : ℕ) → often n xs ≤ 1) → IsStrictlySortedBy cmp (map key xs)
  unfolding IsStrictlySortedBy
  rises [] sorted few = tt
  rises (x ∷ []) sorted few = (tt, tt)
  rises (x ∷ y ∷ rest) sorted few =
      let step : (k : ℕ) → suc k + 1 ≡ suc (k + 1) = λ k. omega arith in
      let later = rises (y ∷ rest) (λ k d a b. subst (λ m. is_lt (cmp (key (slice_index_or (x ∷ y ∷ rest) m d)) (key (slice_index_or (y ∷ rest) k d))) ≡ false) (step k) (sorted (suc k) d (omega arith) (omega (arith, b)))) (λ n. omega (arith, few n, often-cons n x (y ∷ rest))) in
      let first = pair_rises x y rest (cmp (key x) (key y)) refl (sorted 0 x (omega arith) (omega arith)) (few (num y)) in
      ((first, each_map (λ k. cmp (key y) k ≡ Less) (λ k. cmp (key x) k ≡ Less) (λ k below. o.trans (key x) (key y) k first below) (map key rest) later.0), later)

-- numbers that rise stand there once
none_rising : (low n : ℕ) (ns : List ℕ) → n < low → RisesFrom low ns → count_by (λ m. m == n) ns ≡ 0
none_rising low n [] h up = refl
none_rising low n (first ∷ ns) h up =
    let away = ap one_if (ne_eqb first n (λ e. omega (arith, up.0))) in
    omega (arith, sum_by-cons (λ m. cond (m == n) 1 0) first ns, away, none_rising (first + 1) n ns (omega (arith, up.0)) up.1)

rising_once : (low n : ℕ) (ns : List ℕ) → RisesFrom low ns → count_by (λ m. m == n) ns ≤ 1
rising_once low n [] up = omega arith
rising_once low n (first ∷ ns) up =
    elim (cases_Bool (first == n)) [
      | inl here ↦
          let same = eqb-true first n here in
          let one = ap one_if here in
          omega (arith, sum_by-cons (λ m. cond (m == n) 1 0) first ns, one, none_rising (first + 1) n ns (omega (arith, same)) up.1)
      | inr away ↦ let none = ap one_if away in omega (arith, sum_by-cons (λ m. cond (m == n) 1 0) first ns, none, rising_once (first + 1) n ns up.1)
    ]

-- marks of findings
module _ (t : Lists) (ordered : IsOrdered t) (bill : IsBill t) (labels names : List (List ℕ)) (numbered : AreNumbered t (finding_number labels names)) (code : List ℕ) where
  abbrev number : Finding → ℕ
  number = finding_number labels names

  number_of : (n : ℕ) → has_numbered number (findings_at t code) n ≡ true → IsNumber t labels names n
  number_of n there =
      any_gives (λ finding. number finding == n) (findings_at t code) {G = IsNumber t labels names n}
      (each_map (λ finding. is_found t finding ≡ true) (λ finding. (number finding == n) ≡ true → IsNumber t labels names n) (λ finding is e. (finding, is, eqb-true (number finding) n e)) (findings_at t code) (each_found t ordered bill code)) there

  module _ (hops : List Hop) (found : (n : ℕ) → has (hop_numbers hops) n ≡ has_numbered number (findings_at t code) n) where
    each_number : (some : List Hop) → ((n : ℕ) → has (hop_numbers some) n ≡ true → has (hop_numbers hops) n ≡ true) → AllByRecursion (λ hop. IsNumber t labels names (mark_number hop.mark)) some
    each_number [] all = tt
    each_number (hop ∷ some) all = (
      number_of (mark_number hop.mark) (sym (found (mark_number hop.mark)) ∙ all (mark_number hop.mark) (or_left (mark_number hop.mark == mark_number hop.mark) (has (hop_numbers some) (mark_number hop.mark)) (eq-eqb (mark_number hop.mark) (mark_number hop.mark) refl))),
      each_number some (λ n there. all n (or_right (mark_number hop.mark == n) (has (hop_numbers some) n) there)),
    )

    pub marks_are_numbers : AllByRecursion (λ hop. IsNumber t labels names (mark_number hop.mark)) hops
    marks_are_numbers = each_number hops (λ n there. there)

    module _ (rise : Rises (hop_numbers hops)) (list new : List Told) (told : AreTold t labels names hops list) (same : IsPermutation list new) (sorted : IsSortedByKey finding_of finding_cmp new) where
      told_number : Told → ℕ
      told_number one = number (finding_of one)

      few : (n : ℕ) → count_by (λ one. told_number one == n) new ≤ 1
      unfolding told_number
      few n =
          let once = rising_once 0 n (hop_numbers hops) rise in
          let moved = sum_by-IsPermutation (λ one. cond (told_number one == n) 1 0) list new same in
          let mapped = sum_by-map (λ m. cond (m == n) 1 0) told_number list in
          let are = ap (λ ns. count_by (λ m. m == n) ns) told.numbers in
          omega (arith, once, moved, mapped, are)

      in_order_now : IsStrictlySortedBy finding_cmp (map finding_of new)
      unfolding told_number
      in_order_now = rises finding_of finding_cmp finding_total told_number (λ x y e. ap number (tied (finding_of x) (finding_of y) e)) new sorted few

      module _ (finding : Finding) where
        test_same : is_found t finding ≡ true → (other : Finding) → is_found t other ≡ true → (number other == number finding) ≡ same_finding finding other
        test_same there other also =
            elim (cases_Bool (number other == number finding)) [
              | inl one ↦ one ∙ sym (subst (λ f. same_finding finding f ≡ true) (numbered finding other there also (sym (eqb-true (number other) (number finding) one))) (same_itself finding))
              | inr differs ↦
                  differs
                  ∙ sym (false_from_ne_true (same_finding finding other) (λ one.
                  both_ways (number other == number finding) differs (eq-eqb (number other) (number finding) (sym (ap number (same_finding-true finding other one))))))
            ]

        by_number : is_found t finding ≡ true → (some : List Finding) → AllByRecursion (λ other. is_found t other ≡ true) some → has_numbered number some (number finding) ≡ is_in finding some
        by_number there some a = any_same (λ other. number other == number finding) (same_finding finding) some (each_map (λ other. is_found t other ≡ true) (λ other. (number other == number finding) ≡ same_finding finding other) (test_same there) some a)

        in_found : (some : List Finding) → AllByRecursion (λ other. is_found t other ≡ true) some → is_in finding some ≡ true → is_found t finding ≡ true
        in_found some a there =
            any_gives (same_finding finding) some {G = is_found t finding ≡ true}
            (each_map (λ other. is_found t other ≡ true) (λ other. same_finding finding other ≡ true → is_found t finding ≡ true) (λ other is one. subst (λ f. is_found t f ≡ true) (sym (same_finding-true finding other one)) is) some a) there

        told_found : AllByRecursion (λ other. is_found t other ≡ true) (map finding_of list)
        told_found = Rattle.desk_model.proofs.Elements.each_of_map (λ other. is_found t other ≡ true) finding_of list told.found

        numbers_in : has_numbered number (map finding_of list) (number finding) ≡ has_numbered number (findings_at t code) (number finding)
        unfolding told_number
        numbers_in =
            any-map (λ other. number other == number finding) finding_of list
            ∙ sym (any-map (λ m. m == number finding) told_number list)
            ∙ ap (λ ns. has ns (number finding)) told.numbers
            ∙ found (number finding)

        in_list : is_in finding (map finding_of list) ≡ is_in finding (findings_at t code)
        in_list =
            elim (cases_Bool (is_found t finding)) [
              | inl there ↦ sym (by_number there (map finding_of list) told_found) ∙ numbers_in ∙ by_number there (findings_at t code) (each_found t ordered bill code)
              | inr none ↦
                  false_from_ne_true (is_in finding (map finding_of list)) (λ there. both_ways (is_found t finding) none (in_found (map finding_of list) told_found there))
                  ∙ sym (false_from_ne_true (is_in finding (findings_at t code)) (λ there. both_ways (is_found t finding) none (in_found (findings_at t code) (each_found t ordered bill code) there)))
            ]

        alike : is_in finding (map finding_of new) ≡ is_in finding (findings_at t code)
        alike =
            any-map (same_finding finding) finding_of new
            ∙ sym (list_any-IsPermutation (λ one. same_finding finding (finding_of one)) list new same)
            ∙ sym (any-map (same_finding finding) finding_of list)
            ∙ in_list

      pub sorted_findings : are_codes_apart t ≡ true → is_part t code ≡ true → map finding_of new ≡ findings t code
      sorted_findings apart part =
          in_order t ordered code (map finding_of new) in_order_now (λ finding. alike finding ∙ ap (is_in finding) (of_part t apart code part))
