-- Settled bits: a node has a bit exactly where it is the node that the bit stands for, or reaches it.
use Rattle.std.proofs.Common.{◌≡◌, ℕ, zero, suc, ◌<◌, Bool, true, false, not, ◌&&◌, ◌||◌, List, [], ◌∷◌, map, refl, sym, ap, ◌∙◌, subst, inl, inr, arith}
use Rattle.std.specs.Prelude.{◌==◌, bit_or, if◌then◌else◌, max}
use Rattle.std.specs.Int.{bit_at}
use Rattle.std.specs.List.{AllByRecursion, list_any}
use Rattle.std.proofs.lemmas.Bool.{cases_Bool}
use Rattle.std.proofs.lemmas.Nat.Bits.{bit_at-lt, bit_at_or}
use Rattle.desk_text.specs.Code.{same_code}
use Rattle.desk_model.specs.declared.rows.line.LineRow.{LineRow}
use Rattle.desk_model.specs.Lists.{Lists, is_part}
use Rattle.desk_model.proofs.Elements.{any_same, each_map}
use Rattle.desk_model.proofs.Kept.{same_code-true}
use Rattle.desk_findings.specs.Bill.{IsBill}
use Rattle.desk_findings.specs.Reaches.{is_or_reaches, lines_of, reaches}
use Rattle.desk_findings.proofs.Bill.{has_parents, lines_of-none, not_itself, reaches-step}
use Rattle.desk_totals.proofs.Distinct.{each_among, map_same}
use Rattle.desk_totals.proofs.Scatter.{value_of-map}
use Rattle.desk_totals.proofs.Settle.{settled_right}
use Rattle.desk_totals.specs.Linked.{IsLinkedOf, Linked, is_among}
use Rattle.desk_totals.specs.Marks.{has_bit, with_bits}
use Rattle.desk_totals.specs.Rounds.{IsSettled, value_of, with_lines}

greater_is_one : (x y : ℕ) → x < 2 → y < 2 → (max x y == 1) ≡ (x == 1 || y == 1)
greater_is_one zero zero h k = refl
greater_is_one zero (suc zero) h k = refl
greater_is_one (suc zero) zero h k = refl
greater_is_one (suc zero) (suc zero) h k = refl
greater_is_one (suc (suc x)) y h k = absurd (omega (arith, h))
greater_is_one zero (suc (suc y)) h k = absurd (omega (arith, k))
greater_is_one (suc zero) (suc (suc y)) h k = absurd (omega (arith, k))

-- a bit of two numbers together
pub has_bit-or : (bit a b : ℕ) → has_bit bit (bit_or a b) ≡ (has_bit bit a || has_bit bit b)
has_bit-or bit a b = ap (λ n. n == 1) (bit_at_or a b bit) ∙ greater_is_one (bit_at a bit) (bit_at b bit) (bit_at-lt a bit) (bit_at-lt b bit)

or_assoc : (a b c : Bool) → ((a || b) || c) ≡ (a || (b || c))
or_assoc true b c = refl
or_assoc false b c = refl

or_none : (a : Bool) → (a || false) ≡ a
or_none true = refl
or_none false = refl

-- a bit with those of the lines' children
pub has_bit-lines : (bit : ℕ) (f : List ℕ → ℕ) (bits : ℕ) (lines : List LineRow) → has_bit bit (with_lines with_bits f bits lines) ≡ (has_bit bit bits || list_any (λ line. has_bit bit (f line.child)) lines)
unfolding with_lines
has_bit-lines bit f bits [] = sym (or_none (has_bit bit bits))
has_bit-lines bit f bits (line ∷ lines) =
    has_bit-lines bit f (bit_or bits (f line.child)) lines
    ∙ ap (λ b. b || list_any (λ l. has_bit bit (f l.child)) lines) (has_bit-or bit bits (f line.child))
    ∙ or_assoc (has_bit bit bits) (has_bit bit (f line.child)) (list_any (λ l. has_bit bit (f l.child)) lines)

lowest : (b : Bool) → has_bit 0 (if b then 1 else 0) ≡ b
lowest true = refl
lowest false = refl

-- the lowest bit stands for the target
pub lowest_own : (nodes : List (List ℕ)) (own target : List ℕ) → own ≡ map (λ code. if same_code code target then 1 else 0) nodes → (code : List ℕ) → is_among code nodes ≡ true → has_bit 0 (value_of 0 nodes own code) ≡ same_code code target
lowest_own nodes own target its_own code there =
    ap (λ list. has_bit 0 (value_of 0 nodes list code)) its_own ∙ ap (has_bit 0) (value_of-map 0 (λ c. if same_code c target then 1 else 0) nodes code there) ∙ lowest (same_code code target)

module _ (t : Lists) (is_bill : IsBill t) (bill : Linked) (of : IsLinkedOf bill t) (children : AllByRecursion (λ line. is_among line.child bill.nodes ≡ true) t.lines) where
  pub bits_right : (own bits : List ℕ) → IsSettled with_bits 0 bill own bits → (bit : ℕ) (target : List ℕ) → ((code : List ℕ) → is_among code bill.nodes ≡ true → has_bit bit (value_of 0 bill.nodes own code) ≡ same_code code target) →
      (code : List ℕ) → is_among code bill.nodes ≡ true → has_bit bit (value_of 0 bill.nodes bits code) ≡ is_or_reaches t code target
  bits_right own bits settled bit target its_own =
      settled_right t is_bill with_bits 0 bill of own children (λ code value. has_bit bit value ≡ is_or_reaches t code target)
      (λ f code there right.
      has_bit-lines bit f (value_of 0 bill.nodes own code) (lines_of t.lines code)
      ∙ ap (λ b. b || list_any (λ line. has_bit bit (f line.child)) (lines_of t.lines code)) (its_own code there)
      ∙ ap (λ b. same_code code target || b) (any_same (λ line. has_bit bit (f line.child)) (λ line. is_or_reaches t line.child target) (lines_of t.lines code) right ∙ sym (reaches-step t (has_parents t is_bill.parents) target code)))
      bits settled

  -- no code reaches itself
  reaches_itself : (code : List ℕ) → reaches t code code ≡ false
  reaches_itself code =
      elim (cases_Bool (is_part t code)) [
        | inl kept ↦ not_itself t (has_parents t is_bill.parents) is_bill.acyclic code kept
        | inr absent ↦ reaches-step t (has_parents t is_bill.parents) code code ∙ rw (lines_of-none t (has_parents t is_bill.parents) code absent) refl
      ]

  but_itself : (same reached : Bool) → (same ≡ true → reached ≡ false) → ((same || reached) && not same) ≡ reached
  but_itself true reached h = sym (h refl)
  but_itself false true h = refl
  but_itself false false h = refl

  -- what is or reaches the target, and isn't it, reaches it
  pub reaches_only : (code target : List ℕ) → (is_or_reaches t code target && not (same_code code target)) ≡ reaches t code target
  reaches_only code target =
      but_itself (same_code code target) (reaches t code target) (λ same. subst (λ c. reaches t code c ≡ false) (same_code-true code target same) (reaches_itself code))

  pub lowest_right : (own bits target : List ℕ) → IsSettled with_bits 0 bill own bits → own ≡ map (λ code. if same_code code target then 1 else 0) bill.nodes → (code : List ℕ) → is_among code bill.nodes ≡ true → has_bit 0 (value_of 0 bill.nodes bits code) ≡ is_or_reaches t code target
  lowest_right own bits target settled its_own =
      bits_right own bits settled 0 target
      (lowest_own bill.nodes own target its_own)

  -- where the lowest bit stands for the target, those that have it and aren't the target reach it
  pub marks_are : (own bits target : List ℕ) → IsSettled with_bits 0 bill own bits → own ≡ map (λ code. if same_code code target then 1 else 0) bill.nodes →
      map (λ code. has_bit 0 (value_of 0 bill.nodes bits code) && not (same_code code target)) bill.nodes ≡ map (λ code. reaches t code target) bill.nodes
  marks_are own bits target settled its_own =
      map_same (λ code. has_bit 0 (value_of 0 bill.nodes bits code) && not (same_code code target)) (λ code. reaches t code target) bill.nodes
      (each_map (λ code. is_among code bill.nodes ≡ true) (λ code. (has_bit 0 (value_of 0 bill.nodes bits code) && not (same_code code target)) ≡ reaches t code target)
      (λ code there. ap (λ b. b && not (same_code code target)) (lowest_right own bits target settled its_own code there) ∙ reaches_only code target)
      bill.nodes (each_among bill.nodes))
