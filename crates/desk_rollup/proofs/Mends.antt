-- Hops in the order of their marks, of which some are exchanged.
use Rattle.std.proofs.Common.{◌≡◌, ℕ, zero, suc, ◌+◌, ◌<◌, ◌≤◌, Bool, true, false, cond, ◌||◌, ◌==◌, List, [], ◌∷◌, ◌++◌, drop, find, get_or, length, nat_lt, take, IfOk, IfSome, Result, Ok, Err, Option, Some, None, is_some, option_map, refl, sym, ap, ◌∙◌, subst, inl, inr, arith}
use Rattle.std.specs.Prelude.{option_to_list}
use Rattle.std.proofs.lemmas.Bool.{both_ways, cases_Bool, cases_eq, cases_lt, eq-eqb, eqb-true, false≢true, le-ltb, lt-ltb, ne_eqb, or_cases, or_parts}
use Rattle.std.proofs.lemmas.List.{drop_more}
use Rattle.desk_graph.specs.declared.line.BillLine.{BillLine}
use Rattle.desk_rollup.specs.declared.hop.Hop.{Hop}
use Rattle.desk_rollup.specs.declared.mark.Mark.{Mark}
use Rattle.desk_rollup.specs.Changed.{ChangedValues, DoFollow, IsMended, with_hop}
use Rattle.desk_rollup.specs.Numbers.{IsPlaceOf, Rises, RisesFrom, has, hop_numbers, mark_number, mark_numbers}
use Rattle.desk_rollup.specs.Step.{step_hop}
use Rattle.desk_rollup.specs.Values.{OwnValues, RolledValues, hop_of}
use Rattle.desk_rollup.proofs.Lists.{has_found, some_map}
use Rattle.desk_rollup.proofs.Halves.{half_rest, none_below, number_of}

-- the hop is of the mark with this number, if it is there
abbrev pub IsOf : ℕ → Option Hop → Type 0
IsOf n hop = IfSome hop (λ hop. mark_number hop.mark ≡ n)

rises_from : (low high : ℕ) (numbers : List ℕ) → low ≤ high → RisesFrom high numbers → RisesFrom low numbers
rises_from low high [] h up = tt
rises_from low high (number ∷ numbers) h up = (omega (arith, h, up.0), up.1)

-- in front of what rises behind it
before : (low n : ℕ) (hop : Option Hop) (rest : List Hop) → IsOf n hop → low ≤ n → RisesFrom (n + 1) (hop_numbers rest) → RisesFrom low (hop_numbers (option_to_list hop ++ rest))
before low n None rest is h up = rises_from low (n + 1) (hop_numbers rest) (omega (arith, h)) up
before low n (Some hop) rest is h up = (omega (arith, is, h), subst (λ m. RisesFrom (m + 1) (hop_numbers rest)) (sym is) up)

none_more : (hops : List Hop) → hops ++ [] ≡ hops
none_more [] = refl
none_more (hop ∷ hops) = ap (λ l. hop ∷ l) (none_more hops)

-- what is in front isn't of another mark
not_before : (n : ℕ) (hop : Option Hop) → IsOf n hop → (m : ℕ) (rest : List Hop) → (n == m) ≡ false → find (λ h. number_of h == m) (option_to_list hop ++ rest) ≡ find (λ h. number_of h == m) rest
not_before n None is m rest other = refl
not_before n (Some hop) is m rest other = let away : (number_of hop == m) ≡ false = ap (λ k. k == m) is ∙ other in rw away refl

-- what is in front is the hop of its mark
here_before : (n : ℕ) (hop : Option Hop) → IsOf n hop → (rest : List Hop) → find (λ h. number_of h == n) rest ≡ None → find (λ h. number_of h == n) (option_to_list hop ++ rest) ≡ hop
here_before n None is rest none = none
here_before n (Some hop) is rest none = let here : (number_of hop == n) ≡ true = eq-eqb (number_of hop) n is in rw here refl

module _ (n : ℕ) (hop : Option Hop) (is : IsOf n hop) where
  -- with the hop they rise still
  pub up_with : (low : ℕ) (hops : List Hop) → low ≤ n → RisesFrom low (hop_numbers hops) → RisesFrom low (hop_numbers (with_hop n hop hops))
  up_with low [] h up = subst (λ l. RisesFrom low (hop_numbers l)) (none_more (option_to_list hop)) (before low n hop [] is h tt)
  up_with low (held ∷ rest) h up =
      elim (cases_lt (number_of held) n) [
        | inl lower ↦
            let less : nat_lt (number_of held) n ≡ true = lt-ltb (number_of held) n lower in
            rw less (up.0, up_with (number_of held + 1) rest (omega (arith, lower)) up.1)
        | inr past ↦
            let not_less : nat_lt (number_of held) n ≡ false = le-ltb (number_of held) n past in
            elim (cases_eq (number_of held) n) [
              | inl same ↦
                  let equal : (number_of held == n) ≡ true = eq-eqb (number_of held) n same in
                  rw (not_less, equal) (before low n hop rest is h (subst (λ m. RisesFrom (m + 1) (hop_numbers rest)) same up.1))
              | inr other ↦
                  let differs : (number_of held == n) ≡ false = ne_eqb (number_of held) n other in
                  rw (not_less, differs) (before low n hop (held ∷ rest) is h (omega (arith, past, other), up.1))
            ]
      ]

  -- the hops of other marks stay
  pub other_with : (m : ℕ) (hops : List Hop) → (n == m) ≡ false → find (λ h. number_of h == m) (with_hop n hop hops) ≡ find (λ h. number_of h == m) hops
  other_with m [] other = subst (λ l. find (λ h. number_of h == m) l ≡ None) (none_more (option_to_list hop)) (not_before n hop is m [] other)
  other_with m (held ∷ rest) other =
      elim (cases_lt (number_of held) n) [
        | inl lower ↦
            let less : nat_lt (number_of held) n ≡ true = lt-ltb (number_of held) n lower in
            rw less (ap (cond (number_of held == m) (Some held)) (other_with m rest other))
        | inr past ↦
            let not_less : nat_lt (number_of held) n ≡ false = le-ltb (number_of held) n past in
            elim (cases_eq (number_of held) n) [
              | inl same ↦
                  let equal : (number_of held == n) ≡ true = eq-eqb (number_of held) n same in
                  let away : (number_of held == m) ≡ false = ap (λ k. k == m) same ∙ other in
                  rw (not_less, equal, away) (not_before n hop is m rest other)
              | inr differ ↦
                  let differs : (number_of held == n) ≡ false = ne_eqb (number_of held) n differ in
                  rw (not_less, differs) (not_before n hop is m (held ∷ rest) other)
            ]
      ]

  -- the mark has the hop
  pub this_with : (low : ℕ) (hops : List Hop) → RisesFrom low (hop_numbers hops) → find (λ h. number_of h == n) (with_hop n hop hops) ≡ hop
  this_with low [] up = subst (λ l. find (λ h. number_of h == n) l ≡ hop) (none_more (option_to_list hop)) (here_before n hop is [] refl)
  this_with low (held ∷ rest) up =
      elim (cases_lt (number_of held) n) [
        | inl lower ↦
            let less : nat_lt (number_of held) n ≡ true = lt-ltb (number_of held) n lower in
            let away : (number_of held == n) ≡ false = ne_eqb (number_of held) n (λ e. omega (arith, e, lower)) in
            rw (less, away) (this_with (number_of held + 1) rest up.1)
        | inr past ↦
            let not_less : nat_lt (number_of held) n ≡ false = le-ltb (number_of held) n past in
            elim (cases_eq (number_of held) n) [
              | inl same ↦
                  let equal : (number_of held == n) ≡ true = eq-eqb (number_of held) n same in
                  rw (not_less, equal) (here_before n hop is rest (none_below (number_of held + 1) n rest (omega (arith, same)) up.1))
              | inr differ ↦
                  let differs : (number_of held == n) ≡ false = ne_eqb (number_of held) n differ in
                  rw (not_less, differs) (here_before n hop is (held ∷ rest) (none_below (number_of held) n (held ∷ rest) (omega (arith, past, differ)) (omega arith, up.1)))
            ]
      ]

-- without one of the number at the place, the hop is put in there
pub put_in : (n : ℕ) (hop : Option Hop) (hops : List Hop) (at : ℕ) (d : Hop) → at ≤ length hops → IsPlaceOf n hops at → (at < length hops → number_of (get_or hops at d) ≡ n → ⊥) →
    with_hop n hop hops ≡ take at hops ++ (option_to_list hop ++ drop at hops)
put_in n hop [] zero d h place other = sym (none_more (option_to_list hop))
put_in n hop [] (suc at) d h place other = absurd (omega (arith, h))
put_in n hop (held ∷ rest) zero d h place other =
    let not_less : nat_lt (number_of held) n ≡ false = place.1 0 d (omega arith) (omega arith) in
    let differs : (number_of held == n) ≡ false = ne_eqb (number_of held) n (other (omega arith)) in
    rw (not_less, differs) refl
put_in n hop (held ∷ rest) (suc at) d h place other =
    let less : nat_lt (number_of held) n ≡ true = place.0 0 d (omega arith) (omega arith) in
    rw less (ap (λ l. held ∷ l) (put_in n hop rest at d (omega arith) (half_rest n held rest at place) (λ low. other (omega (arith, low)))))

-- with one of the number at the place, the hop is put in its place
pub put_over : (n : ℕ) (hop : Option Hop) (hops : List Hop) (at : ℕ) (d : Hop) → at < length hops → IsPlaceOf n hops at → number_of (get_or hops at d) ≡ n →
    with_hop n hop hops ≡ take at hops ++ (option_to_list hop ++ drop (suc at) hops)
put_over n hop [] at d h place same = absurd (omega (arith, h))
put_over n hop (held ∷ rest) zero d h place same =
    let not_less : nat_lt (number_of held) n ≡ false = place.1 0 d (omega arith) (omega arith) in
    let equal : (number_of held == n) ≡ true = eq-eqb (number_of held) n same in
    rw (not_less, equal) refl
put_over n hop (held ∷ rest) (suc at) d h place same =
    let less : nat_lt (number_of held) n ≡ true = place.0 0 d (omega arith) (omega arith) in
    rw less (ap (λ l. held ∷ l) (put_over n hop rest at d (omega arith) (half_rest n held rest at place) same))

whole : (hops : List Hop) (at : ℕ) → take at hops ++ drop at hops ≡ hops
whole hops zero = refl
whole [] (suc at) = refl
whole (hop ∷ hops) (suc at) = ap (λ l. hop ∷ l) (whole hops at)

-- without one of the number at the place, nothing is to take out
pub none_out : (n : ℕ) (hops : List Hop) (at : ℕ) (d : Hop) → at ≤ length hops → IsPlaceOf n hops at → (at < length hops → number_of (get_or hops at d) ≡ n → ⊥) → with_hop n None hops ≡ hops
none_out n hops at d h place other = put_in n None hops at d h place other ∙ whole hops at

-- the marks and one more
has_more : (changed : List Mark) (mark : Mark) (m : ℕ) → has (mark_numbers (changed ++ mark ∷ [])) m ≡ (has (mark_numbers changed) m || (mark_number mark == m))
has_more [] mark m = elim (mark_number mark == m) as (λ b. (b || false) ≡ b) [ true ↦ refl | false ↦ refl ]
has_more (first ∷ changed) mark m =
    elim (mark_number first == m) as (λ b. (b || has (mark_numbers (changed ++ mark ∷ [])) m) ≡ ((b || has (mark_numbers changed) m) || (mark_number mark == m))) [ true ↦ refl | false ↦ has_more changed mark m ]

module _ (below : ℕ → RolledValues) (own : OwnValues) (of_node : List BillLine) (kept : List Hop) where
  -- where no mark has changed, nothing is to mend
  pub mended_none : Rises (hop_numbers kept) → IsMended below own of_node [] kept kept
  mended_none rises = record {
    rises = rises;
    others = λ mark e. refl;
    changes = λ mark e. absurd (false≢true e);
  }

  -- what is mended by some marks is mended by one more
  pub mended_more : (changed : List Mark) (mark : Mark) (hop : Option Hop) (held new : List Hop) → IsMended below own of_node changed kept held → IsOf (mark_number mark) hop →
      option_map (λ h. h.next) hop ≡ step_hop below own of_node (mark_number mark) → new ≡ with_hop (mark_number mark) hop held → IsMended below own of_node (changed ++ mark ∷ []) kept new
  mended_more changed mark hop held new mended is next new_is =
      let n = mark_number mark in
      let other : (m : ℕ) → (n == m) ≡ false → hop_of new m ≡ hop_of held m = λ m e.
      ap (λ l. hop_of l m) new_is ∙ ap (option_map (λ h. h.next)) (other_with n hop is m held e) in record {
        rises = subst (λ l. Rises (hop_numbers l)) (sym new_is) (up_with n hop is 0 held (omega arith) mended.rises);
        others = λ m e.
            let parts = or_parts (has (mark_numbers changed) m) (n == m) (sym (has_more changed mark m) ∙ e) in
            other m parts.1 ∙ mended.others m parts.0;
        changes = λ m e.
            elim (cases_Bool (n == m)) [
              | inl here ↦
                  let same : n ≡ m = eqb-true n m here in
                  subst (λ k. hop_of new k ≡ step_hop below own of_node k) same
                  (ap (λ l. hop_of l n) new_is ∙ ap (option_map (λ h. h.next)) (this_with n hop is 0 held mended.rises) ∙ next)
              | inr away ↦
                  elim (or_cases (has (mark_numbers changed) m) (n == m) (sym (has_more changed mark m) ∙ e)) [
                    | inl earlier ↦ other m away ∙ mended.changes m earlier
                    | inr here ↦ absurd (both_ways (n == m) away here)
                  ]
            ];
      }

-- the hop of a mark that the node hasn't of its own: the first of the lines from a place on that has it
module _ (below : ℕ → RolledValues) (own : OwnValues) (of_node : List BillLine) (n : ℕ) (not_own : has (mark_numbers own.marks) n ≡ false) (at : ℕ) where
  abbrev has_it : BillLine → Bool
  has_it line = has (hop_numbers (below line.node).hops) n

  abbrev to_child : BillLine → Option ℕ
  to_child line = Some line.node

  pub step_line : (d : BillLine) → at < length of_node → find has_it of_node ≡ find has_it (drop at of_node) → has_it (get_or of_node at d) ≡ true →
      Some (Some (get_or of_node at d).node) ≡ step_hop below own of_node n
  step_line d low past has_mark =
      sym
      (ap (λ b. cond b (Some None) (option_map to_child (find has_it of_node))) not_own
      ∙ ap (option_map to_child) (past ∙ ap (find has_it) (drop_more of_node at d low) ∙ ap (λ b. cond b (Some (get_or of_node at d)) (find has_it (drop (at + 1) of_node))) has_mark))

  pub step_past : (d : BillLine) → at < length of_node → find has_it of_node ≡ find has_it (drop at of_node) → has_it (get_or of_node at d) ≡ false →
      find has_it of_node ≡ find has_it (drop (at + 1) of_node)
  step_past d low past hasnt_mark =
      past ∙ ap (find has_it) (drop_more of_node at d low) ∙ ap (λ b. cond b (Some (get_or of_node at d)) (find has_it (drop (at + 1) of_node))) hasnt_mark

  pub step_end : length of_node ≤ at → find has_it of_node ≡ find has_it (drop at of_node) → None ≡ step_hop below own of_node n
  step_end end past =
      sym
      (ap (λ b. cond b (Some None) (option_map to_child (find has_it of_node))) not_own
      ∙ ap (option_map to_child) (past ∙ ap (find has_it) (drop_all of_node at end)))
    where
      drop_all : (lines : List BillLine) (k : ℕ) → length lines ≤ k → drop k lines ≡ []
      drop_all [] zero h = refl
      drop_all [] (suc k) h = refl
      drop_all (line ∷ lines) zero h = absurd (omega (arith, h))
      drop_all (line ∷ lines) (suc k) h = drop_all lines k (omega arith)

-- hops that are mended have of the steady marks those that the kept ones have
pub follows_mended : (below : ℕ → RolledValues) (own : OwnValues) (of_node : List BillLine) (changed : ChangedValues) (kept new : List Hop) → IsMended below own of_node changed.marks kept new → DoFollow changed kept new
follows_mended below own of_node changed kept new mended mark steady =
    has_found number_of new mark
    ∙ sym (some_map (λ h. h.next) (find (λ h. number_of h == mark) new))
    ∙ ap (λ o. is_some o) (mended.others mark steady.1)
    ∙ some_map (λ h. h.next) (find (λ h. number_of h == mark) kept)
    ∙ sym (has_found number_of kept mark)

pub if_ok : {X E : Type 0} {P Q : X → Type 0} (found : Result X E) → ((x : X) → P x → Q x) → IfOk found P → IfOk found Q
if_ok (Ok x) f p = f x p
if_ok (Err e) f p = tt
