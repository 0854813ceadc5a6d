-- Rounds settle: on a bill without cycles two rounds more than there are nodes come to the right values, whatever they began with.
use Rattle.std.proofs.Common.{◌≡◌, ℕ, zero, suc, ◌+◌, ◌-◌, ◌<◌, ◌≤◌, true, false, not, ◌&&◌, List, length, map, count_by, refl, sym, ap, ◌∙◌, subst, inl, inr, add-one, arith}
use Rattle.std.specs.List.{AllByRecursion}
use Rattle.std.proofs.lemmas.Bool.{and_from, cases_Bool, not_from_false, or_left, or_right}
use Rattle.std.proofs.lemmas.List.{length-append, length-map}
use Rattle.std.proofs.lemmas.List.Sums.{count_by-le-length}
use Rattle.desk_text.specs.Code.{same_code}
use Rattle.desk_text.proofs.CodeLemmas.{same_code_itself}
use Rattle.desk_model.specs.declared.rows.line.LineRow.{LineRow}
use Rattle.desk_model.specs.Lists.{Lists, is_part}
use Rattle.desk_model.proofs.Elements.{count_less, each, each_both, each_filter, each_map}
use Rattle.desk_model.proofs.Kept.{kept_any, same_code-true}
use Rattle.desk_findings.specs.Bill.{IsBill}
use Rattle.desk_findings.specs.Reaches.{is_or_reaches, lines_of, reaches}
use Rattle.desk_findings.proofs.Bill.{by_line, has_parents, lines_of-none, not_itself}
use Rattle.desk_totals.proofs.Scatter.{value_of-map}
use Rattle.desk_totals.specs.Linked.{IsLinkedOf, Linked, is_among}
use Rattle.desk_totals.specs.Rounds.{IsSettled, round, rounds, value_of, with_lines}

-- there are no more parts than nodes
pub parts-le : (t : Lists) (bill : Linked) → IsLinkedOf bill t → length t.parts ≤ length bill.nodes
parts-le t bill of =
    omega (arith, ap length of.nodes, length-append (map (λ row. row.code) t.materials) (map (λ row. row.code) t.parts), length-map t.parts (λ row. row.code))

module _ (t : Lists) (is_bill : IsBill t) where
  -- how many parts a code reaches: it falls along each line
  pub rank : List ℕ → ℕ
  rank code = count_by (λ part. reaches t code part.code) t.parts

  pub rank-le : (code : List ℕ) → rank code ≤ length t.parts
  unfolding rank
  rank-le code = count_by-le-length (λ part. reaches t code part.code) t.parts

  falls : (line : LineRow) → ((target : List ℕ) → is_or_reaches t line.child target ≡ true → reaches t line.parent target ≡ true) → is_part t line.child ≡ true → rank line.child < rank line.parent
  unfolding rank
  falls line by kept =
      count_less (λ part. reaches t line.child part.code) (λ part. reaches t line.parent part.code) t.parts
      (each (λ part. reaches t line.child part.code ≡ true → reaches t line.parent part.code ≡ true) (λ part e. by part.code (or_right (same_code line.child part.code) (reaches t line.child part.code) e)) t.parts)
      (kept_any (λ row. row.code) (λ code. reaches t line.parent code && not (reaches t line.child code)) line.child t.parts kept
      (and_from (reaches t line.parent line.child) (not (reaches t line.child line.child)) (by line.child (or_left (same_code line.child line.child) (reaches t line.child line.child) (same_code_itself line.child)))
      (not_from_false (reaches t line.child line.child) (not_itself t (has_parents t is_bill.parents) is_bill.acyclic line.child kept))))

  -- the children of a code that are parts have a lesser rank
  below : (k : ℕ) (code : List ℕ) → rank code < suc k → AllByRecursion (λ line. is_part t line.child ≡ true → rank line.child < k) (lines_of t.lines code)
  below k code h =
      each_map (λ line. (is_part t line.child ≡ true → rank line.child < rank line.parent) × (same_code line.parent code ≡ true)) (λ line. is_part t line.child ≡ true → rank line.child < k)
      (λ line f kept.
      let falls_here = f.0 kept in
      let same = ap rank (same_code-true line.parent code f.1) in
      omega (arith, falls_here, same, h))
      (lines_of t.lines code)
      (each_filter (λ line. is_part t line.child ≡ true → rank line.child < rank line.parent) (λ line. same_code line.parent code) t.lines
      (each_map (λ line. (target : List ℕ) → is_or_reaches t line.child target ≡ true → reaches t line.parent target ≡ true) (λ line. is_part t line.child ≡ true → rank line.child < rank line.parent) falls t.lines
      (by_line t (has_parents t is_bill.parents))))

  module _ {V : Type 0} (add : V → ℕ → V → V) (none : V) (bill : Linked) (of : IsLinkedOf bill t) (own : List V) (children : AllByRecursion (λ line. is_among line.child bill.nodes ≡ true) t.lines)
      (IsRight : List ℕ → V → Type 0)
      (step : (f : List ℕ → V) (code : List ℕ) → is_among code bill.nodes ≡ true → AllByRecursion (λ line. IsRight line.child (f line.child)) (lines_of t.lines code) → IsRight code (with_lines add f (value_of none bill.nodes own code) (lines_of t.lines code)))
    where
      -- a round is right of a code where what it began with is right of the children of its lines
      round_right : (values : List V) (code : List ℕ) → is_among code bill.nodes ≡ true → AllByRecursion (λ line. IsRight line.child (value_of none bill.nodes values line.child)) (lines_of t.lines code) → IsRight code (value_of none bill.nodes (round add none bill own values) code)
      unfolding round
      round_right values code there right =
          subst (IsRight code)
          (sym (value_of-map none (λ c. with_lines add (value_of none bill.nodes values) (value_of none bill.nodes own c) (lines_of bill.lines c)) bill.nodes code there
          ∙ ap (λ lines. with_lines add (value_of none bill.nodes values) (value_of none bill.nodes own code) (lines_of lines code)) of.lines))
          (step (value_of none bill.nodes values) code there right)

      rounds-suc : (k : ℕ) (first : List V) → rounds add none bill own (suc k) first ≡ round add none bill own (rounds add none bill own k first)
      unfolding rounds
      rounds-suc k first = refl

      childless : (values : List V) (code : List ℕ) → is_part t code ≡ false → AllByRecursion (λ line. IsRight line.child (value_of none bill.nodes values line.child)) (lines_of t.lines code)
      childless values code absent = rw (lines_of-none t (has_parents t is_bill.parents) code absent) tt

      -- one round more than the rank of a code is enough for it
      right_within : (k : ℕ) (first : List V) (code : List ℕ) → is_among code bill.nodes ≡ true → (is_part t code ≡ true → rank code < k) → IsRight code (value_of none bill.nodes (rounds add none bill own (suc k) first) code)
      right_within zero first code there h =
          rw (rounds-suc zero first)
          (round_right (rounds add none bill own zero first) code there
          (elim (cases_Bool (is_part t code)) [ inl kept ↦ absurd (omega (arith, h kept)) | inr absent ↦ childless (rounds add none bill own zero first) code absent ]))
      right_within (suc k) first code there h =
          rw (rounds-suc (suc k) first)
          (round_right (rounds add none bill own (suc k) first) code there
          (elim (cases_Bool (is_part t code)) [
            | inl kept ↦
                each_map (λ line. (is_part t line.child ≡ true → rank line.child < k) × ((is_among line.child bill.nodes ≡ true) × (same_code line.parent code ≡ true))) (λ line. IsRight line.child (value_of none bill.nodes (rounds add none bill own (suc k) first) line.child))
                (λ line g. right_within k first line.child g.1.0 g.0) (lines_of t.lines code)
                (each_both (λ line. is_part t line.child ≡ true → rank line.child < k) (λ line. (is_among line.child bill.nodes ≡ true) × (same_code line.parent code ≡ true)) (lines_of t.lines code) (below k code (h kept))
                (each_filter (λ line. is_among line.child bill.nodes ≡ true) (λ line. same_code line.parent code) t.lines children))
            | inr absent ↦ childless (rounds add none bill own (suc k) first) code absent
          ]))

      -- settled values are right
      pub settled_right : (values : List V) → IsSettled add none bill own values → (code : List ℕ) → is_among code bill.nodes ≡ true → IsRight code (value_of none bill.nodes values code)
      settled_right values settled code there =
          subst (λ vs. IsRight code (value_of none bill.nodes vs code)) (sym (settled.settled ∙ ap (λ k. rounds add none bill own k settled.first) (omega arith)))
          (right_within (length bill.nodes + 1) settled.first code there (λ _. omega (arith, rank-le code, parts-le t bill of)))

module _ {V : Type 0} (add : V → ℕ → V → V) (none : V) (bill : Linked) (own : List V) where
  -- values that a round leaves as they are stay so
  rounds_stay : (values : List V) → round add none bill own values ≡ values → (k : ℕ) → rounds add none bill own k values ≡ values
  unfolding rounds
  rounds_stay values same zero = refl
  rounds_stay values same (suc k) = ap (round add none bill own) (rounds_stay values same k) ∙ same

  -- and so they are settled
  pub settled_where_same : (values : List V) → length values ≡ length bill.nodes → values ≡ round add none bill own values → IsSettled add none bill own values
  settled_where_same values size same = record { first = values; size = size; settled = sym (rounds_stay values (sym same) (length bill.nodes + 2)) }

  one_more : (k : ℕ) (first : List V) → rounds add none bill own (k + 1) first ≡ round add none bill own (rounds add none bill own k first)
  unfolding rounds
  one_more k first = rw add-one refl

  -- one round more
  pub rounds-more : (k : ℕ) (first values next : List V) → values ≡ rounds add none bill own k first → next ≡ round add none bill own values → next ≡ rounds add none bill own (k + 1) first
  rounds-more k first values next so e = e ∙ ap (round add none bill own) so ∙ sym (one_more k first)

  -- rounds keep the number of values
  pub rounds-length : (k : ℕ) (first : List V) → length first ≡ length bill.nodes → length (rounds add none bill own k first) ≡ length bill.nodes
  unfolding rounds round
  rounds-length zero first size = size
  rounds-length (suc k) first size = length-map bill.nodes (λ code. with_lines add (value_of none bill.nodes (rounds add none bill own k first)) (value_of none bill.nodes own code) (lines_of bill.lines code))

  -- a round has a value for each node
  pub round-length : (values next : List V) → next ≡ round add none bill own values → length next ≡ length bill.nodes
  unfolding round
  round-length values next e = ap length e ∙ length-map bill.nodes (λ code. with_lines add (value_of none bill.nodes values) (value_of none bill.nodes own code) (lines_of bill.lines code))

  -- no rounds leave the values as they are
  pub rounds-none : (first : List V) → first ≡ rounds add none bill own 0 first
  unfolding rounds
  rounds-none first = refl

  -- settled values are as many as there are nodes
  pub settled-length : (values : List V) → IsSettled add none bill own values → length values ≡ length bill.nodes
  settled-length values settled = ap length settled.settled ∙ rounds-length (length bill.nodes + 2) settled.first settled.size

  -- rounds after rounds
  rounds-add : (k i : ℕ) (first : List V) → rounds add none bill own (k + i) first ≡ rounds add none bill own k (rounds add none bill own i first)
  unfolding rounds
  rounds-add zero i first = ap (λ n. rounds add none bill own n first) (omega arith)
  rounds-add (suc k) i first =
      let e : suc k + i ≡ suc (k + i) = omega arith in
      ap (λ n. rounds add none bill own n first) e ∙ ap (round add none bill own) (rounds-add k i first)

  -- a round that changes nothing ends them
  pub rounds_end : (i k : ℕ) (first values : List V) → i ≤ k → values ≡ rounds add none bill own i first → values ≡ round add none bill own values → values ≡ rounds add none bill own k first
  rounds_end i k first values h so same =
      let e : k ≡ k - i + i = omega (arith, h) in
      sym (ap (λ n. rounds add none bill own n first) e ∙ rounds-add (k - i) i first ∙ ap (rounds add none bill own (k - i)) (sym so) ∙ rounds_stay values (sym same) (k - i))
