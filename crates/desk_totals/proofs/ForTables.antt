-- What callers need that keep tables: the bill of sound tables is one that links can be made of.
use Rattle.std.proofs.Common.{◌≡◌, ℕ, ◌+◌, Bool, true, false, not, cond, ◌||◌, List, [], ◌∷◌, ◌++◌, length, map, is_eq, is_some, Less, count_by, inl, inr, zero-add, refl, sym, ap, ◌∙◌, arith}
use Rattle.std.specs.List.{AllByRecursion, list_all}
use Rattle.std.specs.List.Sorted.{IsStrictlySortedBy}
use Rattle.std.proofs.lemmas.Bool.{and_from, and_parts, cases_Bool, not-true, not_from_false, or_parts}
use Rattle.std.proofs.lemmas.List.{length-append, length-map}
use Rattle.std.proofs.lemmas.List.Folds.{list_any-append}
use Rattle.desk_text.specs.Code.{code_cmp, same_code}
use Rattle.desk_rows.specs.Rows.{row_of}
use Rattle.desk_model.specs.declared.rows.line.LineRow.{LineRow}
use Rattle.desk_model.specs.declared.rows.part.PartRow.{PartRow}
use Rattle.desk_model.specs.Lists.{IsOrdered, Lists, is_kept, is_material, is_part}
use Rattle.desk_model.proofs.Elements.{all_from_each, any_none, count_by-cons, each, each_both, each_from_all, each_map, each_of_map}
use Rattle.desk_model.proofs.Anys.{count-map}
use Rattle.desk_model.proofs.Kept.{same_code-true}
use Rattle.desk_findings.specs.Reaches.{is_or_reaches, reaches}
use Rattle.desk_findings.proofs.Bill.{has_parents, not_itself}
use Rattle.desk_totals.specs.Marks.{reach_count}
use Rattle.desk_findings.specs.Bill.{IsBill, are_children_kept, are_codes_apart, are_parents_kept}
use Rattle.desk_findings.proofs.FindingRolls.{same_code_back}
use Rattle.desk_totals.proofs.Distinct.{later_distinct}
use Rattle.desk_totals.specs.Linked.{IsLinkedOf, IsLinked, Linked, are_codes_distinct, has_ends_in, is_among}

-- a code is among those of rows where a row of it is kept
among_rows : {R : Type 0} (key : R → List ℕ) (code : List ℕ) (rows : List R) → is_among code (map key rows) ≡ is_some (row_of key code_cmp code rows)
among_rows key code [] = refl
among_rows key code (row ∷ rows) =
    ap (λ b. b || is_among code (map key rows)) (same_code_back code (key row))
    ∙ elim (same_code (key row) code) as (λ b. (b || is_among code (map key rows)) ≡ is_some (cond b (Rattle.std.proofs.Common.Some row) (row_of key code_cmp code rows))) [ true ↦ refl | false ↦ among_rows key code rows ]

-- codes that rise are distinct
rising_distinct : (codes : List (List ℕ)) → IsStrictlySortedBy code_cmp codes → are_codes_distinct codes ≡ true
unfolding IsStrictlySortedBy
rising_distinct [] h = refl
rising_distinct (code ∷ codes) h =
    and_from (not (is_among code codes)) (are_codes_distinct codes)
    (not_from_false (is_among code codes) (any_none (same_code code) codes (each_map (λ other. code_cmp code other ≡ Less) (λ other. same_code code other ≡ false) (λ other e. ap is_eq e) codes h.0)))
    (rising_distinct codes h.1)

-- and so are distinct codes behind others, where none of them is one of the others
distinct-append : (codes others : List (List ℕ)) → are_codes_distinct codes ≡ true → are_codes_distinct others ≡ true → AllByRecursion (λ code. is_among code codes ≡ false) others → are_codes_distinct (codes ++ others) ≡ true
distinct-append [] others d e apart = e
distinct-append (code ∷ codes) others d e apart =
    let none : is_among code others ≡ false =
    any_none (same_code code) others
    (each_map (λ other. is_among other (code ∷ codes) ≡ false) (λ other. same_code code other ≡ false) (λ other h. same_code_back code other ∙ (or_parts (same_code other code) (is_among other codes) h).0) others apart) in
    let here : is_among code (codes ++ others) ≡ false =
    list_any-append (same_code code) codes others ∙ rw (none, not-true (is_among code codes) (and_parts (not (is_among code codes)) (are_codes_distinct codes) d).0) refl in
    and_from (not (is_among code (codes ++ others))) (are_codes_distinct (codes ++ others)) (not_from_false (is_among code (codes ++ others)) here)
    (distinct-append codes others (later_distinct code codes d) e
    (each_map (λ other. is_among other (code ∷ codes) ≡ false) (λ other. is_among other codes ≡ false) (λ other h. (or_parts (same_code other code) (is_among other codes) h).1) others apart))

module _ (bill : Linked) (t : Lists) (of : IsLinkedOf bill t) where
  among_nodes : (code : List ℕ) → is_among code bill.nodes ≡ is_kept t code
  among_nodes code =
      ap (is_among code) of.nodes
      ∙ list_any-append (same_code code) (map (λ row. row.code) t.materials) (map (λ row. row.code) t.parts)
      ∙ ap (λ b. b || is_among code (map (λ row. row.code) t.parts)) (among_rows (λ row. row.code) code t.materials) ∙ ap (λ b. is_material t code || b) (among_rows (λ row. row.code) code t.parts)

  distinct_nodes : IsOrdered t → are_codes_apart t ≡ true → are_codes_distinct bill.nodes ≡ true
  distinct_nodes ordered apart =
      ap are_codes_distinct of.nodes
      ∙ distinct-append (map (λ row. row.code) t.materials) (map (λ row. row.code) t.parts) (rising_distinct (map (λ row. row.code) t.materials) ordered.materials) (rising_distinct (map (λ row. row.code) t.parts) ordered.parts)
      (each_of_map (λ code. is_among code (map (λ row. row.code) t.materials) ≡ false) (λ row. row.code) t.parts
      (each_map (λ (part : PartRow). not (is_material t part.code) ≡ true) (λ part. is_among part.code (map (λ row. row.code) t.materials) ≡ false)
      (λ part h. among_rows (λ row. row.code) part.code t.materials ∙ not-true (is_material t part.code) h) t.parts (each_from_all (λ part. not (is_material t part.code)) t.parts apart)))

  or_later : (a b : Bool) → b ≡ true → (a || b) ≡ true
  or_later true b e = refl
  or_later false b e = e

  -- the bill of ordered tables whose codes are apart, and whose lines go between kept rows, is right
  pub linked_from_tables : IsOrdered t → are_codes_apart t ≡ true → are_parents_kept t ≡ true → are_children_kept t ≡ true → IsLinked bill
  linked_from_tables ordered apart parents children = record {
    distinct = distinct_nodes ordered apart;
    materials = omega (arith, of.material_count, ap length of.nodes, length-append (map (λ row. row.code) t.materials) (map (λ row. row.code) t.parts), length-map t.materials (λ row. row.code));
    ends =
        ap (list_all (has_ends_in bill.nodes)) of.lines
        ∙ all_from_each (has_ends_in bill.nodes) t.lines
        (each_map (λ (line : LineRow). (is_part t line.parent ≡ true) × (is_kept t line.child ≡ true)) (λ line. has_ends_in bill.nodes line ≡ true)
        (λ line h. and_from (is_among line.parent bill.nodes) (is_among line.child bill.nodes) (among_nodes line.parent ∙ or_later (is_material t line.parent) (is_part t line.parent) h.0) (among_nodes line.child ∙ h.1))
        t.lines
        (each_both (λ line. is_part t line.parent ≡ true) (λ line. is_kept t line.child ≡ true) t.lines (each_from_all (λ line. is_part t line.parent) t.lines parents) (each_from_all (λ line. is_kept t line.child) t.lines children)));
  }

-- a code that is among distinct ones is there once
count_same : (code : List ℕ) (codes : List (List ℕ)) → are_codes_distinct codes ≡ true → count_by (λ other. same_code other code) codes ≡ cond (is_among code codes) 1 0
count_same code [] e = refl
count_same code (first ∷ codes) e =
    let later = count_same code codes (later_distinct first codes e) in
    elim (cases_Bool (same_code first code)) [
      | inl same ↦
          let first_is : first ≡ code = same_code-true first code same in
          let gone : is_among code codes ≡ false = ap (λ c. is_among c codes) (sym first_is) ∙ not-true (is_among first codes) (and_parts (not (is_among first codes)) (are_codes_distinct codes) e).0 in
          count_by-cons (λ other. same_code other code) first codes ∙ rw (same_code_back code first, same, later, gone) refl
      | inr other ↦
          count_by-cons (λ c. same_code c code) first codes ∙ rw (same_code_back code first, other, later) (zero-add (cond (is_among code codes) 1 0))
    ]

one_or_other : (a b : Bool) → (a ≡ true → b ≡ false) → cond (a || b) 1 0 ≡ cond b 1 0 + cond a 1 0
one_or_other true b h = rw (h refl) refl
one_or_other false true h = refl
one_or_other false false h = refl

count_either : {X : Type 0} (p q : X → Bool) (xs : List X) → AllByRecursion (λ x. p x ≡ true → q x ≡ false) xs → count_by (λ x. p x || q x) xs ≡ count_by q xs + count_by p xs
count_either p q [] a = refl
count_either p q (x ∷ xs) a =
    let later = count_either p q xs a.1 in
    omega (arith, count_by-cons (λ y. p y || q y) x xs, count_by-cons p x xs, count_by-cons q x xs, one_or_other (p x) (q x) a.0, later)

-- a part and those that reach it
pub with_itself : (t : Lists) → IsOrdered t → IsBill t → (code : List ℕ) → is_part t code ≡ true → count_by (λ part. is_or_reaches t part.code code) t.parts ≡ reach_count t code + 1
with_itself t ordered is_bill code kept =
    count_either (λ part. same_code part.code code) (λ part. reaches t part.code code) t.parts
    (each (λ (part : PartRow). same_code part.code code ≡ true → reaches t part.code code ≡ false)
    (λ part same. ap (λ c. reaches t c code) (same_code-true part.code code same) ∙ not_itself t (has_parents t is_bill.parents) is_bill.acyclic code kept) t.parts)
    ∙ ap (λ n. reach_count t code + n)
    (sym (count-map (λ other. same_code other code) (λ row. row.code) t.parts)
    ∙ count_same code (map (λ row. row.code) t.parts) (rising_distinct (map (λ row. row.code) t.parts) ordered.parts)
    ∙ ap (λ b. cond b 1 0) (among_rows (λ row. row.code) code t.parts ∙ kept))
