-- Bills without cycles, by heights that fall along each line, and parts that reach themselves, by rounds from blank bits.
use Rattle.std.proofs.Common.{◌≡◌, ℕ, zero, suc, ◌+◌, ◌-◌, ◌<◌, ◌≤◌, true, false, not, ◌&&◌, ◌||◌, List, [], ◌∷◌, ◌++◌, length, get_or, map, replicate, refl, sym, ap, ◌∙◌, subst, inl, inr, arith, Option, Some, None, MatchOption}
use Rattle.std.specs.Prelude.{◌==◌, nat_lt}
use Rattle.std.specs.List.{AllByRecursion, list_all, list_any}
use Rattle.std.proofs.lemmas.Bool.{and_parts, eqb-true, false≢true, false_from_ne_true, not_from_false, or_cases}
use Rattle.std.proofs.lemmas.Bool.Decides.{nat_tests}
use Rattle.std.proofs.lemmas.List.{get_or-append-add, get_or-map, get_or-replicate, length-append, length-map, length-replicate}
use Rattle.std.proofs.lemmas.List.Elements.{recursion_from_All}
use Rattle.desk_text.specs.Code.{same_code}
use Rattle.desk_model.specs.declared.rows.line.LineRow.{LineRow}
use Rattle.desk_model.specs.Lists.{Lists}
use Rattle.desk_model.proofs.Elements.{all_from_each, any-filter, any-map, any_gives, any_none, any_same, each, each_both, each_filter, each_from_all, each_in_map, each_map, each_of_map}
use Rattle.desk_model.proofs.Kept.{same_code-true}
use Rattle.desk_findings.specs.Bill.{are_parents_kept, is_acyclic}
use Rattle.desk_findings.specs.Reaches.{enough, is_or_reaches, lines_of, reaches, reaches_within}
use Rattle.desk_findings.proofs.Bill.{has_parents, reaches-deeper, reaches-step}
use Rattle.desk_findings.proofs.FindingRolls.{same_code_back}
use Rattle.desk_totals.proofs.BitsGoUp.{has_bit-lines}
use Rattle.desk_totals.proofs.CountsGoUp.{same_place}
use Rattle.desk_totals.proofs.Distinct.{among_at, place_of_among}
use Rattle.desk_totals.proofs.Scatter.{value_of-at, value_of-map}
use Rattle.desk_totals.proofs.Settle.{parts-le}
use Rattle.desk_totals.specs.declared.link.Link.{Link}
use Rattle.desk_totals.specs.Cycles.{IsOnCycle}
use Rattle.desk_totals.specs.Linked.{IsLinkedOf, Linked, are_codes_distinct, is_among}
use Rattle.desk_totals.specs.Marks.{has_bit, with_bits}
use Rattle.desk_totals.specs.Places.{ArePlaces, line_at, node_at}
use Rattle.desk_totals.specs.Rounds.{round, rounds, value_of, with_lines}

below : (a b : ℕ) → nat_lt a b ≡ true → a < b
below a b e = grind (arith, nat_tests)

reached_by_lines : (lines : List LineRow) (k : ℕ) (part target : List ℕ) → reaches_within lines (suc k) part target ≡ list_any (λ line. same_code line.child target || reaches_within lines k line.child target) (lines_of lines part)
unfolding reaches_within
reached_by_lines lines k part target = refl

reaches_none : (lines : List LineRow) (part target : List ℕ) → reaches_within lines zero part target ≡ false
unfolding reaches_within
reaches_none lines part target = refl

-- where a number falls along each line nothing reaches itself
module _ (t : Lists) (height : List ℕ → ℕ) (falls : AllByRecursion (λ line. height line.child < height line.parent) t.lines) where
  within_falls : (k : ℕ) (part target : List ℕ) → reaches_within t.lines k part target ≡ true → height target < height part
  within_falls zero part target e = absurd (false≢true (sym (reaches_none t.lines part target) ∙ e))
  within_falls (suc k) part target e =
      any_gives (λ line. same_code line.child target || reaches_within t.lines k line.child target) (lines_of t.lines part)
      (each_map (λ (line : LineRow). (height line.child < height line.parent) × (same_code line.parent part ≡ true)) (λ line. (same_code line.child target || reaches_within t.lines k line.child target) ≡ true → height target < height part)
      (λ line h found.
      let falls_here = h.0 in
      let parent = ap height (same_code-true line.parent part h.1) in
      elim (or_cases (same_code line.child target) (reaches_within t.lines k line.child target) found) [
        | inl here ↦ let child = ap height (same_code-true line.child target here) in omega (arith, falls_here, parent, child)
        | inr there ↦ let later = within_falls k line.child target there in omega (arith, falls_here, parent, later)
      ])
      (lines_of t.lines part) (each_filter (λ line. height line.child < height line.parent) (λ line. same_code line.parent part) t.lines falls))
      (sym (reached_by_lines t.lines k part target) ∙ e)

  pub acyclic_where_falls : is_acyclic t ≡ true
  acyclic_where_falls =
      all_from_each (λ part. not (reaches t part.code part.code)) t.parts
      (each (λ part. not (reaches t part.code part.code) ≡ true)
      (λ part. not_from_false (reaches t part.code part.code) (false_from_ne_true (reaches t part.code part.code) (λ e. let less = within_falls (enough t) part.code part.code e in absurd (omega (arith, less)))))
      t.parts)

-- heights of places that fall along each link
pub acyclic_by_heights : (t : Lists) (bill : Linked) → IsLinkedOf bill t → are_codes_distinct bill.nodes ≡ true → (links : List Link) → bill.lines ≡ map (line_at bill.nodes) links → ArePlaces (length bill.nodes) links → (heights : List ℕ) → length heights ≡ length bill.nodes →
    list_all (λ link. nat_lt (get_or heights link.child 0) (get_or heights link.parent 0)) links ≡ true → is_acyclic t ≡ true
acyclic_by_heights t bill of distinct links lines places heights size e =
    acyclic_where_falls t (value_of 0 bill.nodes heights)
    (subst (AllByRecursion (λ line. value_of 0 bill.nodes heights line.child < value_of 0 bill.nodes heights line.parent)) (sym lines ∙ of.lines)
    (each_of_map (λ line. value_of 0 bill.nodes heights line.child < value_of 0 bill.nodes heights line.parent) (line_at bill.nodes) links
    (each_map (λ (link : Link). ((link.parent < length bill.nodes) × (link.child < length bill.nodes)) × (nat_lt (get_or heights link.child 0) (get_or heights link.parent 0) ≡ true))
    (λ link. value_of 0 bill.nodes heights (node_at bill.nodes link.child) < value_of 0 bill.nodes heights (node_at bill.nodes link.parent))
    (λ link h.
    let child = value_of-at 0 bill.nodes heights link.child distinct h.0.1 size in
    let parent = value_of-at 0 bill.nodes heights link.parent distinct h.0.0 size in
    let less : get_or heights link.child 0 < get_or heights link.parent 0 = below (get_or heights link.child 0) (get_or heights link.parent 0) h.1 in
    omega (arith, child, parent, less))
    links
    (each_both (λ link. (link.parent < length bill.nodes) × (link.child < length bill.nodes)) (λ link. nat_lt (get_or heights link.child 0) (get_or heights link.parent 0) ≡ true) links
    (recursion_from_All (λ link. (link.parent < length bill.nodes) × (link.child < length bill.nodes)) links places)
    (each_from_all (λ link. nat_lt (get_or heights link.child 0) (get_or heights link.parent 0)) links e)))))

-- the materials stand before the parts
part_place : (t : Lists) (bill : Linked) → IsLinkedOf bill t → (i : ℕ) → node_at bill.nodes (bill.material_count + i) ≡ node_at (map (λ row. row.code) t.parts) i
part_place t bill of i =
    ap (λ nodes. node_at nodes (bill.material_count + i)) of.nodes
    ∙ ap (λ n. node_at (map (λ row. row.code) t.materials ++ map (λ row. row.code) t.parts) (n + i)) (of.material_count ∙ sym (length-map t.materials (λ row. row.code)))
    ∙ get_or-append-add (map (λ row. row.code) t.materials) (map (λ row. row.code) t.parts) i []

each_from_at : (P : List ℕ → Type 0) (codes : List (List ℕ)) → ((i : ℕ) → i < length codes → P (node_at codes i)) → AllByRecursion P codes
each_from_at P [] f = tt
each_from_at P (code ∷ codes) f = (f 0 (omega arith), each_from_at P codes (λ i h. f (suc i) (omega (arith, h))))

-- a bill is acyclic where none of these reaches itself
pub acyclic_by_parts : (t : Lists) (bill : Linked) → IsLinkedOf bill t → ((place : ℕ) → bill.material_count ≤ place → place < length bill.nodes → reaches t (node_at bill.nodes place) (node_at bill.nodes place) ≡ false) → is_acyclic t ≡ true
acyclic_by_parts t bill of none =
    all_from_each (λ part. not (reaches t part.code part.code)) t.parts
    (each_in_map (λ code. not (reaches t code code) ≡ true) (λ row. row.code) t.parts
    (each_from_at (λ code. not (reaches t code code) ≡ true) (map (λ row. row.code) t.parts)
    (λ i h.
    let within : bill.material_count + i < length bill.nodes =
    omega (arith, h, ap length of.nodes, length-append (map (λ row. row.code) t.materials) (map (λ row. row.code) t.parts), length-map t.materials (λ row. row.code), of.material_count) in
    subst (λ code. not (reaches t code code) ≡ true) (part_place t bill of i)
    (not_from_false (reaches t (node_at bill.nodes (bill.material_count + i)) (node_at bill.nodes (bill.material_count + i))) (none (bill.material_count + i) (omega arith) within)))))

module _ (t : Lists) (bill : Linked) (of : IsLinkedOf bill t) (children : AllByRecursion (λ line. is_among line.child bill.nodes ≡ true) t.lines) (own target : List ℕ)
    (its_own : (code : List ℕ) → is_among code bill.nodes ≡ true → has_bit 0 (value_of 0 bill.nodes own code) ≡ same_code code target)
  where
    after : ℕ → List ℕ
    after k = rounds with_bits 0 bill own k (replicate (length bill.nodes) 0)

    round-at : (values : List ℕ) (code : List ℕ) → is_among code bill.nodes ≡ true →
        has_bit 0 (value_of 0 bill.nodes (round with_bits 0 bill own values) code) ≡ (same_code code target || list_any (λ line. has_bit 0 (value_of 0 bill.nodes values line.child)) (lines_of t.lines code))
    unfolding round
    round-at values code there =
        ap (has_bit 0)
        (value_of-map 0 (λ c. with_lines with_bits (value_of 0 bill.nodes values) (value_of 0 bill.nodes own c) (lines_of bill.lines c)) bill.nodes code there
        ∙ ap (λ lines. with_lines with_bits (value_of 0 bill.nodes values) (value_of 0 bill.nodes own code) (lines_of lines code)) of.lines)
        ∙ has_bit-lines 0 (value_of 0 bill.nodes values) (value_of 0 bill.nodes own code) (lines_of t.lines code)
        ∙ ap (λ b. b || list_any (λ line. has_bit 0 (value_of 0 bill.nodes values line.child)) (lines_of t.lines code)) (its_own code there)

    after-suc : (k : ℕ) → after (suc k) ≡ round with_bits 0 bill own (after k)
    unfolding rounds after
    after-suc k = refl

    child_lines : (part : List ℕ) → AllByRecursion (λ line. (is_among line.child bill.nodes ≡ true) × (same_code line.parent part ≡ true)) (lines_of t.lines part)
    child_lines part = each_filter (λ line. is_among line.child bill.nodes ≡ true) (λ line. same_code line.parent part) t.lines children

    blank_at : (code : List ℕ) → is_among code bill.nodes ≡ true → are_codes_distinct bill.nodes ≡ true → has_bit 0 (value_of 0 bill.nodes (after zero) code) ≡ false
    unfolding rounds after
    blank_at code there distinct =
        let found = place_of_among bill.nodes code there in
        ap (λ c. has_bit 0 (value_of 0 bill.nodes (replicate (length bill.nodes) 0) c)) (sym found.2)
        ∙ ap (has_bit 0) (value_of-at 0 bill.nodes (replicate (length bill.nodes) 0) found.0 distinct found.1 (length-replicate (length bill.nodes) 0) ∙ get_or-replicate (length bill.nodes) found.0 0 0 found.1)

    -- rounds from blank bits follow the lines so deep
    blank_right : are_codes_distinct bill.nodes ≡ true → (k : ℕ) (code : List ℕ) → is_among code bill.nodes ≡ true → has_bit 0 (value_of 0 bill.nodes (after (suc k)) code) ≡ (same_code code target || reaches_within t.lines k code target)
    blank_right distinct zero code there =
        ap (λ values. has_bit 0 (value_of 0 bill.nodes values code)) (after-suc zero)
        ∙ round-at (after zero) code there
        ∙ ap (λ b. same_code code target || b)
        (any_none (λ line. has_bit 0 (value_of 0 bill.nodes (after zero) line.child)) (lines_of t.lines code)
        (each_map (λ (line : LineRow). (is_among line.child bill.nodes ≡ true) × (same_code line.parent code ≡ true)) (λ line. has_bit 0 (value_of 0 bill.nodes (after zero) line.child) ≡ false) (λ line h. blank_at line.child h.0 distinct) (lines_of t.lines code) (child_lines code))
        ∙ sym (reaches_none t.lines code target))
    blank_right distinct (suc k) code there =
        ap (λ values. has_bit 0 (value_of 0 bill.nodes values code)) (after-suc (suc k))
        ∙ round-at (after (suc k)) code there
        ∙ ap (λ b. same_code code target || b)
        (any_same (λ line. has_bit 0 (value_of 0 bill.nodes (after (suc k)) line.child)) (λ line. same_code line.child target || reaches_within t.lines k line.child target) (lines_of t.lines code)
        (each_map (λ (line : LineRow). (is_among line.child bill.nodes ≡ true) × (same_code line.parent code ≡ true)) (λ line. has_bit 0 (value_of 0 bill.nodes (after (suc k)) line.child) ≡ (same_code line.child target || reaches_within t.lines k line.child target)) (λ line h. blank_right distinct k line.child h.0) (lines_of t.lines code) (child_lines code))
        ∙ sym (reached_by_lines t.lines k code target))

    -- and so many rounds are enough
    above : are_codes_distinct bill.nodes ≡ true → are_parents_kept t ≡ true → (bits : List ℕ) → bits ≡ rounds with_bits 0 bill own (length bill.nodes + 2) (replicate (length bill.nodes) 0) → (code : List ℕ) → is_among code bill.nodes ≡ true →
        has_bit 0 (value_of 0 bill.nodes bits code) ≡ is_or_reaches t code target
    unfolding after
    above distinct parents bits so code there =
        let less = parts-le t bill of in
        let rounds_are : length bill.nodes + 2 ≡ suc (length bill.nodes + 1) = omega arith in
        let deep : length bill.nodes + 1 ≡ length bill.nodes - length t.parts + enough t = omega (arith, less) in
        ap (λ values. has_bit 0 (value_of 0 bill.nodes values code)) (so ∙ ap (λ k. rounds with_bits 0 bill own k (replicate (length bill.nodes) 0)) rounds_are)
        ∙ blank_right distinct (length bill.nodes + 1) code there
        ∙ ap (λ k. same_code code target || reaches_within t.lines k code target) deep
        ∙ ap (λ b. same_code code target || b) (reaches-deeper t (has_parents t parents) target (length bill.nodes - length t.parts) code)

-- a node reaches itself where a link from it leads to a node that is it or reaches it
pub reaches_itself_by_links : (t : Lists) (bill : Linked) (of : IsLinkedOf bill t) (distinct : are_codes_distinct bill.nodes ≡ true) (children : AllByRecursion (λ line. is_among line.child bill.nodes ≡ true) t.lines) (parents : are_parents_kept t ≡ true)
    (links : List Link) (lines : bill.lines ≡ map (line_at bill.nodes) links) (places : ArePlaces (length bill.nodes) links) (own bits : List ℕ) (place : ℕ) (within : place < length bill.nodes)
    (its_own : (code : List ℕ) → is_among code bill.nodes ≡ true → has_bit 0 (value_of 0 bill.nodes own code) ≡ same_code code (node_at bill.nodes place)) (size : length bits ≡ length bill.nodes)
    (so : bits ≡ rounds with_bits 0 bill own (length bill.nodes + 2) (replicate (length bill.nodes) 0)) →
    list_any (λ link. link.parent == place && has_bit 0 (get_or bits link.child 0)) links ≡ reaches t (node_at bill.nodes place) (node_at bill.nodes place)
reaches_itself_by_links t bill of distinct children parents links lines places own bits place within its_own size so =
    let target : List ℕ = node_at bill.nodes place in
    any_same (λ link. link.parent == place && has_bit 0 (get_or bits link.child 0)) (λ link. same_code (node_at bill.nodes link.parent) target && is_or_reaches t (node_at bill.nodes link.child) target) links
    (each_map (λ (link : Link). (link.parent < length bill.nodes) × (link.child < length bill.nodes))
    (λ link. (link.parent == place && has_bit 0 (get_or bits link.child 0)) ≡ (same_code (node_at bill.nodes link.parent) target && is_or_reaches t (node_at bill.nodes link.child) target))
    (λ link h.
    ap (λ b. b && has_bit 0 (get_or bits link.child 0)) (same_place bill.nodes place link.parent distinct within h.0 ∙ same_code_back target (node_at bill.nodes link.parent))
    ∙ ap (λ b. same_code (node_at bill.nodes link.parent) target && b)
    (ap (has_bit 0) (sym (value_of-at 0 bill.nodes bits link.child distinct h.1 size)) ∙ above t bill of children own target its_own distinct parents bits so (node_at bill.nodes link.child) (among_at bill.nodes link.child h.1)))
    links (recursion_from_All (λ link. (link.parent < length bill.nodes) × (link.child < length bill.nodes)) links places))
    ∙ sym (any-map (λ line. same_code line.parent target && is_or_reaches t line.child target) (line_at bill.nodes) links)
    ∙ ap (list_any (λ line. same_code line.parent target && is_or_reaches t line.child target)) (sym lines ∙ of.lines)
    ∙ sym (any-filter (λ line. same_code line.parent target) (λ line. is_or_reaches t line.child target) t.lines)
    ∙ sym (reaches-step t (has_parents t parents) target target)

-- a link from a node to what is the node or reaches it stands for a line on a cycle; where there is none the node doesn't reach itself
pub line_by_link : (t : Lists) (bill : Linked) (of : IsLinkedOf bill t) (distinct : are_codes_distinct bill.nodes ≡ true) (children : AllByRecursion (λ line. is_among line.child bill.nodes ≡ true) t.lines) (parents : are_parents_kept t ≡ true)
    (links : List Link) (lines : bill.lines ≡ map (line_at bill.nodes) links) (places : ArePlaces (length bill.nodes) links) (own bits : List ℕ) (place : ℕ) (within : place < length bill.nodes)
    (its_own : (code : List ℕ) → is_among code bill.nodes ≡ true → has_bit 0 (value_of 0 bill.nodes own code) ≡ same_code code (node_at bill.nodes place)) (size : length bits ≡ length bill.nodes)
    (so : bits ≡ rounds with_bits 0 bill own (length bill.nodes + 2) (replicate (length bill.nodes) 0)) (found : Option ℕ) →
    MatchOption found (list_any (λ link. link.parent == place && has_bit 0 (get_or bits link.child 0)) links ≡ false)
    (λ i. (i < length links) × ((d : Link) → ((get_or links i d).parent == place && has_bit 0 (get_or bits (get_or links i d).child 0)) ≡ true)) →
    MatchOption found (reaches t (node_at bill.nodes place) (node_at bill.nodes place) ≡ false) (IsOnCycle t)
line_by_link t bill of distinct children parents links lines places own bits place within its_own size so None none =
    sym (reaches_itself_by_links t bill of distinct children parents links lines places own bits place within its_own size so) ∙ none
line_by_link t bill of distinct children parents links lines places own bits place within its_own size so (Some i) found =
    let all : t.lines ≡ map (line_at bill.nodes) links = sym of.lines ∙ lines in (
      omega (arith, found.0, ap length all, length-map links (line_at bill.nodes)),
      λ d.
          let blank : Link = record { parent = 0; child = 0; count = 0 } in
          let link : Link = get_or links i blank in
          let test = and_parts (link.parent == place) (has_bit 0 (get_or bits link.child 0)) (found.1 blank) in
          let parent : link.parent ≡ place = eqb-true link.parent place test.0 in
          let inside = places i blank found.0 in
          let reached : is_or_reaches t (node_at bill.nodes link.child) (node_at bill.nodes place) ≡ true =
          sym (ap (has_bit 0) (sym (value_of-at 0 bill.nodes bits link.child distinct inside.1 size)) ∙ above t bill of children own (node_at bill.nodes place) its_own distinct parents bits so (node_at bill.nodes link.child) (among_at bill.nodes link.child inside.1))
          ∙ test.1 in
          let line : get_or t.lines i d ≡ line_at bill.nodes link = ap (λ list. get_or list i d) all ∙ get_or-map (line_at bill.nodes) links i blank d found.0 in
          subst (λ one. is_or_reaches t one.child one.parent ≡ true) (sym line) (subst (λ n. is_or_reaches t (node_at bill.nodes link.child) (node_at bill.nodes n) ≡ true) (sym parent) reached),
    )
