-- A bit that goes up from a node counts the parts that reach it.
use Rattle.std.proofs.Common.{◌≡◌, ℕ, zero, suc, ◌+◌, ◌<◌, Bool, true, false, not, cond, ◌&&◌, List, [], ◌∷◌, count_by, length, get_or, map, drop, refl, sym, ap, ◌∙◌, subst, inl, inr, arith}
use Rattle.std.specs.Prelude.{◌==◌}
use Rattle.std.specs.List.{AllByRecursion}
use Rattle.std.proofs.lemmas.Bool.{cases_eq, eq-eqb, ne_eqb}
use Rattle.std.proofs.lemmas.List.{drop-map, drop_at, ext_get_or, get_or-map, length-map}
use Rattle.desk_text.specs.Code.{same_code}
use Rattle.desk_text.proofs.CodeLemmas.{same_code_itself}
use Rattle.desk_model.specs.Lists.{Lists}
use Rattle.desk_model.proofs.Elements.{count_by-cons}
use Rattle.desk_findings.proofs.FindingRolls.{same_code_back}
use Rattle.desk_findings.specs.Bill.{IsBill}
use Rattle.desk_findings.specs.Reaches.{is_or_reaches, reaches}
use Rattle.desk_totals.proofs.BitsGoUp.{bits_right, reaches_only}
use Rattle.desk_totals.proofs.Distinct.{among_at, each_at, later_distinct, others, place_of_among}
use Rattle.desk_totals.proofs.Scatter.{value_of-at}
use Rattle.desk_totals.proofs.Settle.{settled-length}
use Rattle.desk_totals.specs.Linked.{IsLinkedOf, Linked, are_codes_distinct, is_among}
use Rattle.desk_totals.specs.Marks.{has_bit, reach_count, with_bits}
use Rattle.desk_totals.specs.Places.{node_at}
use Rattle.desk_totals.specs.Rounds.{IsSettled, value_of}

-- nodes at two places are the same where the places are
apart_at : (nodes : List (List ℕ)) (i j : ℕ) → are_codes_distinct nodes ≡ true → i < length nodes → j < length nodes → (i ≡ j → ⊥) → same_code (node_at nodes i) (node_at nodes j) ≡ false
apart_at [] i j e h k other = absurd (omega (arith, h))
apart_at (node ∷ nodes) zero zero e h k other = absurd (other refl)
apart_at (node ∷ nodes) zero (suc j) e h k other = each_at (λ later. same_code node later ≡ false) nodes j (omega (arith, k)) (others node nodes e)
apart_at (node ∷ nodes) (suc i) zero e h k other = same_code_back (node_at nodes i) node ∙ each_at (λ later. same_code node later ≡ false) nodes i (omega (arith, h)) (others node nodes e)
apart_at (node ∷ nodes) (suc i) (suc j) e h k other = apart_at nodes i j (later_distinct node nodes e) (omega (arith, h)) (omega (arith, k)) (λ same. other (ap suc same))

pub same_place : (nodes : List (List ℕ)) (i j : ℕ) → are_codes_distinct nodes ≡ true → i < length nodes → j < length nodes → (j == i) ≡ same_code (node_at nodes i) (node_at nodes j)
same_place nodes i j e h k =
    elim (cases_eq i j) [
      | inl same ↦ ap (λ p. j == p) same ∙ eq-eqb j j refl ∙ sym (ap (λ p. same_code (node_at nodes p) (node_at nodes j)) same ∙ same_code_itself (node_at nodes j))
      | inr other ↦ ne_eqb j i (λ back. other (sym back)) ∙ sym (apart_at nodes i j e h k other)
    ]

count_by-map : {X Y : Type 0} (p : Y → Bool) (f : X → Y) (xs : List X) → count_by p (map f xs) ≡ count_by (λ x. p (f x)) xs
count_by-map p f [] = refl
count_by-map p f (x ∷ xs) = count_by-cons p (f x) (map f xs) ∙ ap (λ n. cond (p (f x)) 1 0 + n) (count_by-map p f xs) ∙ sym (count_by-cons (λ y. p (f y)) x xs)

module _ (t : Lists) (is_bill : IsBill t) (bill : Linked) (of : IsLinkedOf bill t) (distinct : are_codes_distinct bill.nodes ≡ true) (children : AllByRecursion (λ line. is_among line.child bill.nodes ≡ true) t.lines)
    (own bits cleared : List ℕ) (own_size : length own ≡ length bill.nodes) (settled : IsSettled with_bits 0 bill own bits) (cleared_size : length cleared ≡ length bits)
    (bit place : ℕ) (within : place < length bill.nodes)
    (own_at : (node : ℕ) → node < length bill.nodes → has_bit bit (get_or own node 0) ≡ (place == node))
    (cleared_at : (node : ℕ) → has_bit bit (get_or cleared node 0) ≡ (has_bit bit (get_or bits node 0) && not (place == node)))
  where
    target : List ℕ
    target = node_at bill.nodes place

    size : length bits ≡ length bill.nodes
    size = settled-length with_bits 0 bill own bits settled

    its_own : (code : List ℕ) → is_among code bill.nodes ≡ true → has_bit bit (value_of 0 bill.nodes own code) ≡ same_code code target
    unfolding target
    its_own code there =
        let found = place_of_among bill.nodes code there in
        subst (λ c. has_bit bit (value_of 0 bill.nodes own c) ≡ same_code c (node_at bill.nodes place)) found.2
        (ap (has_bit bit) (value_of-at 0 bill.nodes own found.0 distinct found.1 own_size) ∙ own_at found.0 found.1 ∙ same_place bill.nodes found.0 place distinct found.1 within)

    reached_at : (node : ℕ) → node < length bill.nodes → has_bit bit (get_or cleared node 0) ≡ reaches t (node_at bill.nodes node) target
    unfolding target
    reached_at node inside =
        cleared_at node
        ∙ ap (λ b. b && not (place == node))
        (ap (has_bit bit) (sym (value_of-at 0 bill.nodes bits node distinct inside size)) ∙ bits_right t is_bill bill of children own bits settled bit target its_own (node_at bill.nodes node) (among_at bill.nodes node inside))
        ∙ ap (λ b. is_or_reaches t (node_at bill.nodes node) target && not b) (same_place bill.nodes node place distinct inside within)
        ∙ reaches_only t is_bill bill of children (node_at bill.nodes node) target

    reached : map (has_bit bit) cleared ≡ map (λ code. reaches t code target) bill.nodes
    reached =
        ext_get_or false (map (has_bit bit) cleared) (map (λ code. reaches t code target) bill.nodes)
        (length-map cleared (has_bit bit) ∙ cleared_size ∙ size ∙ sym (length-map bill.nodes (λ code. reaches t code target)))
        (λ node h.
        let inside : node < length cleared = omega (arith, h, length-map cleared (has_bit bit)) in
        let node_inside : node < length bill.nodes = omega (arith, inside, cleared_size, size) in
        get_or-map (has_bit bit) cleared node 0 false inside ∙ reached_at node node_inside ∙ sym (get_or-map (λ code. reaches t code target) bill.nodes node [] false node_inside))

    parts_behind : drop bill.material_count bill.nodes ≡ map (λ row. row.code) t.parts
    parts_behind =
        ap (drop bill.material_count) of.nodes
        ∙ drop_at (map (λ row. row.code) t.materials) (map (λ row. row.code) t.parts) bill.material_count (length-map t.materials (λ row. row.code) ∙ sym of.material_count)

    -- how often the bit is set at the parts is how many of them reach its node
    pub counted : count_by (has_bit bit) (drop bill.material_count cleared) ≡ reach_count t (node_at bill.nodes place)
    unfolding target
    counted =
        sym (count_by-map (λ b. b) (has_bit bit) (drop bill.material_count cleared))
        ∙ ap (count_by (λ b. b)) (sym (drop-map (has_bit bit) bill.material_count cleared) ∙ ap (drop bill.material_count) reached ∙ drop-map (λ code. reaches t code target) bill.material_count bill.nodes ∙ ap (map (λ code. reaches t code target)) parts_behind)
        ∙ count_by-map (λ b. b) (λ code. reaches t code target) (map (λ row. row.code) t.parts)
        ∙ count_by-map (λ code. reaches t code target) (λ row. row.code) t.parts
