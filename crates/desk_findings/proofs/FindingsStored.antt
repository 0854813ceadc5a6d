-- Findings that are stored by lines are right, and all findings are counted by what holds them.
use Rattle.std.proofs.Common.{◌≡◌, ℕ, suc, ◌+◌, ◌*◌, ◌≤◌, Bool, true, false, cond, ◌&&◌, ◌||◌, List, [], ◌∷◌, ◌++◌, filter, length, sum_by, count_by, refl, sym, ap, ◌∙◌, inl, inr, arith}
use Rattle.std.specs.Prelude.{if◌then◌else◌}
use Rattle.std.specs.List.{flat_map, list_any}
use Rattle.std.proofs.Math.Nat.{mul-add}
use Rattle.std.proofs.lemmas.Bool.{and_from, cases_Bool, eq-eqb, true≢false}
use Rattle.std.proofs.lemmas.List.Concat.{length-flat_map}
use Rattle.std.proofs.lemmas.List.Sums.{sum_by-cons}
use Rattle.desk_text.specs.Code.{code_cmp, same_code}
use Rattle.desk_text.proofs.CodeLemmas.{same_code_itself}
use Rattle.desk_law.specs.Rule.{rule_number, same_rule}
use Rattle.desk_rows.proofs.Sums.{sum_by-filter}
use Rattle.desk_model.specs.declared.rows.part.PartRow.{PartRow}
use Rattle.desk_model.specs.Lists.{IsOrdered, Lists, is_kept, is_material, is_part}
use Rattle.desk_model.proofs.Anys.{sum-swap}
use Rattle.desk_model.proofs.Elements.{any_same, count_by-cons, each, each_both, each_filter, each_map, sum_same, sum_zero}
use Rattle.desk_model.proofs.Kept.{code_cmp_total, each_kept}
use Rattle.desk_findings.specs.Articles.{articles_in, is_article_sort, materials_in}
use Rattle.desk_findings.specs.Bill.{IsBill, are_children_kept, are_codes_apart}
use Rattle.desk_findings.specs.Findings.{Finding, above, finding_count, findings, findings_at, findings_of_article, findings_on, is_in, over, own_findings, same_finding}
use Rattle.desk_findings.specs.Laws.{IsStoredByLines, StoredFindingsAreRight}
use Rattle.desk_findings.specs.Reaches.{is_or_reaches, lines_of, reaches}
use Rattle.desk_findings.proofs.Bill.{bill_induction, has_children, has_parents}
use Rattle.desk_findings.proofs.FindingRolls.{by_lines}
use Rattle.desk_findings.proofs.FindingsOnce.{of_part, once, same_finding-true}

-- what is counted tells what is there
some_counted : {X : Type 0} (p : X → Bool) (xs : List X) → list_any p xs ≡ true → 1 ≤ count_by p xs
some_counted p [] e = absurd (true≢false (sym e))
some_counted p (x ∷ xs) e =
    elim (cases_Bool (p x)) [
      | inl here ↦
          let first : ◌≡◌ {A = ℕ} (cond (p x) 1 0) 1 = rw here refl in
          omega (arith, count_by-cons p x xs, first)
      | inr other ↦ omega (arith, count_by-cons p x xs, some_counted p xs (rw other at e))
    ]

none_counted : {X : Type 0} (p : X → Bool) (xs : List X) → list_any p xs ≡ false → count_by p xs ≡ 0
none_counted p [] e = refl
none_counted p (x ∷ xs) e =
    elim (cases_Bool (p x)) [
      | inl here ↦ absurd (true≢false (rw here at e))
      | inr other ↦
          let first : ◌≡◌ {A = ℕ} (cond (p x) 1 0) 0 = rw other refl in
          omega (arith, count_by-cons p x xs, first, none_counted p xs (rw other at e))
    ]

any_of_count : {X : Type 0} (p : X → Bool) (xs : List X) (b : Bool) → count_by p xs ≡ cond b 1 0 → list_any p xs ≡ b
any_of_count p xs true e = elim (cases_Bool (list_any p xs)) [ inl some ↦ some | inr none ↦ absurd (omega (arith, e, none_counted p xs none)) ]
any_of_count p xs false e = elim (cases_Bool (list_any p xs)) [ inl some ↦ absurd (omega (arith, e, some_counted p xs some)) | inr none ↦ none ]

-- lists that hold each finding equally often are equally long
same_itself : (finding : Finding) → same_finding finding finding ≡ true
same_itself (over m rule) = and_from (same_code m m) (same_rule rule rule) (same_code_itself m) (eq-eqb (rule_number rule) (rule_number rule) refl)
same_itself (above a s) = and_from (same_code a a) (same_code s s) (same_code_itself a) (same_code_itself s)

taken_out : Finding → List Finding → List Finding
taken_out x [] = []
taken_out x (y ∷ ys) = if same_finding x y then ys else y ∷ taken_out x ys

count_taken : (x : Finding) (ys : List Finding) → list_any (same_finding x) ys ≡ true → (finding : Finding) → count_by (same_finding finding) ys ≡ cond (same_finding finding x) 1 0 + count_by (same_finding finding) (taken_out x ys)
unfolding taken_out
count_taken x [] e finding = absurd (true≢false (sym e))
count_taken x (y ∷ ys) e finding =
    elim (cases_Bool (same_finding x y)) [
      | inl same ↦
          let turned : ◌≡◌ {A = ℕ} (cond (same_finding finding y) 1 0) (cond (same_finding finding x) 1 0) = ap (λ z. cond (same_finding finding z) 1 0) (sym (same_finding-true x y same)) in
          let rest : (if same_finding x y then ys else y ∷ taken_out x ys) ≡ ys = rw same refl in
          omega (arith, count_by-cons (same_finding finding) y ys, turned, ap (count_by (same_finding finding)) rest)
      | inr other ↦
          let rest : (if same_finding x y then ys else y ∷ taken_out x ys) ≡ y ∷ taken_out x ys = rw other refl in
          omega (arith, count_by-cons (same_finding finding) y ys, count_by-cons (same_finding finding) y (taken_out x ys), ap (count_by (same_finding finding)) rest, count_taken x ys (rw other at e) finding)
    ]

length_taken : (x : Finding) (ys : List Finding) → list_any (same_finding x) ys ≡ true → length ys ≡ suc (length (taken_out x ys))
unfolding taken_out
length_taken x [] e = absurd (true≢false (sym e))
length_taken x (y ∷ ys) e =
    elim (cases_Bool (same_finding x y)) [
      | inl same ↦
          let rest : (if same_finding x y then ys else y ∷ taken_out x ys) ≡ ys = rw same refl in
          omega (arith, ap length rest)
      | inr other ↦
          let rest : (if same_finding x y then ys else y ∷ taken_out x ys) ≡ y ∷ taken_out x ys = rw other refl in
          omega (arith, ap length rest, length_taken x ys (rw other at e))
    ]

equally_long : (xs ys : List Finding) → ((finding : Finding) → count_by (same_finding finding) xs ≡ count_by (same_finding finding) ys) → length xs ≡ length ys
equally_long [] [] same = refl
equally_long [] (y ∷ ys) same =
    let first : ◌≡◌ {A = ℕ} (cond (same_finding y y) 1 0) 1 = rw (same_itself y) refl in
    absurd (omega (arith, same y, count_by-cons (same_finding y) y ys, first))
equally_long (x ∷ xs) ys same =
    let first : ◌≡◌ {A = ℕ} (cond (same_finding x x) 1 0) 1 = rw (same_itself x) refl in
    let there : list_any (same_finding x) ys ≡ true =
    elim (cases_Bool (list_any (same_finding x) ys)) [ inl some ↦ some | inr none ↦ absurd (omega (arith, same x, count_by-cons (same_finding x) x xs, first, none_counted (same_finding x) ys none)) ] in
    let rest = equally_long xs (taken_out x ys) (λ finding. omega (arith, same finding, count_by-cons (same_finding finding) x xs, count_taken x ys there finding)) in
    omega (arith, rest, length_taken x ys there)

module _ (t : Lists) (ordered : IsOrdered t) (bill : IsBill t) (children : are_children_kept t ≡ true) (apart : are_codes_apart t ≡ true) (stored : List ℕ → List Finding) (right : IsStoredByLines t stored) where
  stored_is : (code : List ℕ) → is_kept t code ≡ true → (finding : Finding) → is_in finding (stored code) ≡ (is_in finding (own_findings t code) || list_any (λ line. is_in finding (stored line.child)) (lines_of t.lines code))
  stored_is code kept finding = any_of_count (same_finding finding) (stored code) (is_in finding (own_findings t code) || list_any (λ line. is_in finding (stored line.child)) (lines_of t.lines code)) (right code kept finding)

  same : (code : List ℕ) → is_kept t code ≡ true → (finding : Finding) → is_in finding (stored code) ≡ is_in finding (findings_at t code)
  same =
      bill_induction t (has_parents t bill.parents) bill.acyclic (λ code. is_kept t code ≡ true → (finding : Finding) → is_in finding (stored code) ≡ is_in finding (findings_at t code))
      (λ code below kept finding.
      stored_is code kept finding
      ∙ ap (λ b. is_in finding (own_findings t code) || b)
      (any_same (λ line. is_in finding (stored line.child)) (λ line. is_in finding (findings_at t line.child)) (lines_of t.lines code)
      (each_map (λ line. (is_kept t line.child ≡ true → (f : Finding) → is_in f (stored line.child) ≡ is_in f (findings_at t line.child)) × ((is_kept t line.child ≡ true) × (same_code line.parent code ≡ true))) (λ line. is_in finding (stored line.child) ≡ is_in finding (findings_at t line.child))
      (λ line h. h.0 h.1.0 finding) (lines_of t.lines code)
      (each_both (λ line. is_kept t line.child ≡ true → (f : Finding) → is_in f (stored line.child) ≡ is_in f (findings_at t line.child)) (λ line. (is_kept t line.child ≡ true) × (same_code line.parent code ≡ true)) (lines_of t.lines code) below
      (each_filter (λ line. is_kept t line.child ≡ true) (λ line. same_code line.parent code) t.lines (has_children t children)))))
      ∙ sym (by_lines t ordered (has_parents t bill.parents) finding code))

  lengths : (code : List ℕ) → is_kept t code ≡ true → length (stored code) ≡ length (findings_at t code)
  lengths code kept =
      equally_long (stored code) (findings_at t code)
      (λ finding.
      right code kept finding
      ∙ ap (λ b. cond b 1 0) (sym (stored_is code kept finding) ∙ same code kept finding)
      ∙ sym (once t ordered (has_parents t bill.parents) apart code finding))

  all : sum_by (λ part. length (stored part.code)) t.parts ≡ finding_count t
  unfolding finding_count
  all =
      sum_same (λ part. length (stored part.code)) (λ part. length (findings t part.code)) t.parts
      (each_map (λ part. is_part t part.code ≡ true) (λ part. length (stored part.code) ≡ length (findings t part.code))
      (λ part kept. lengths part.code (Rattle.std.proofs.lemmas.Bool.or_right (is_material t part.code) (is_part t part.code) kept) ∙ ap length (of_part t apart part.code kept)) t.parts
      (each_kept (λ row. row.code) code_cmp code_cmp_total t.parts))

  pub stored_right : StoredFindingsAreRight t stored
  stored_right = record { same = same; lengths = lengths; all = all }

-- all findings, by the material or the article that holds them
sum_times : {X : Type 0} (test : X → Bool) (n : ℕ) (xs : List X) → sum_by (λ x. cond (test x) n 0) xs ≡ n * count_by test xs
sum_times test n [] = omega arith
sum_times test n (x ∷ xs) =
    let whole = sum_by-cons (λ y. cond (test y) n 0) x xs in
    let rest = sum_times test n xs in
    elim (cases_Bool (test x)) [
      | inl here ↦
          let first : cond (test x) n 0 ≡ n = rw here refl in
          let counted : count_by test (x ∷ xs) ≡ 1 + count_by test xs = count_by-cons test x xs ∙ rw here refl in
          omega (arith, whole, rest, first, ap (λ k. n * k) counted, mul-add n 1 (count_by test xs))
      | inr other ↦
          let first : cond (test x) n 0 ≡ 0 = rw other refl in
          let nothing : ◌≡◌ {A = ℕ} (cond (test x) 1 0) 0 = rw other refl in
          let counted : count_by test (x ∷ xs) ≡ count_by test xs = omega (arith, count_by-cons test x xs, nothing) in
          omega (arith, whole, rest, first, ap (λ k. n * k) counted)
    ]

length_filtered : {X Y : Type 0} (f : X → List Y) (test : X → Bool) (xs : List X) → length (flat_map f (filter test xs)) ≡ sum_by (λ x. cond (test x) (length (f x)) 0) xs
length_filtered f test xs = length-flat_map f (filter test xs) ∙ sum_by-filter test (λ x. length (f x)) xs

sum_plus : {X : Type 0} (f g h : X → ℕ) → ((x : X) → f x ≡ g x + h x) → (xs : List X) → sum_by f xs ≡ sum_by g xs + sum_by h xs
sum_plus f g h e [] = refl
sum_plus f g h e (x ∷ xs) = omega (arith, sum_by-cons f x xs, sum_by-cons g x xs, sum_by-cons h x xs, e x, sum_plus f g h e xs)

length_both : {Y : Type 0} (xs ys : List Y) → length (xs ++ ys) ≡ length xs + length ys
length_both [] ys = omega arith
length_both (x ∷ xs) ys = omega (arith, length_both xs ys)

module _ (t : Lists) where
  found_length : (part : PartRow) → length (findings t part.code) ≡ sum_by (λ material. cond (reaches t part.code material.code) (length (findings_on t material)) 0) t.materials + sum_by (λ article. cond (is_article_sort article.sort && is_or_reaches t part.code article.code) (length (findings_of_article t article)) 0) t.parts
  unfolding findings
  found_length part =
      omega (
        arith,
        length_both (flat_map (findings_on t) (materials_in t part.code)) (flat_map (findings_of_article t) (articles_in t part.code)),
        length_filtered (findings_on t) (λ material. reaches t part.code material.code) t.materials,
        length_filtered (findings_of_article t) (λ article. is_article_sort article.sort && is_or_reaches t part.code article.code) t.parts,
      )

  article_sum : (article : PartRow) → sum_by (λ part. cond (is_article_sort article.sort && is_or_reaches t part.code article.code) (length (findings_of_article t article)) 0) t.parts ≡ (if is_article_sort article.sort then length (findings_of_article t article) * count_by (λ part. is_or_reaches t part.code article.code) t.parts else 0)
  article_sum article =
      elim (is_article_sort article.sort) as (λ b. sum_by (λ part. cond (b && is_or_reaches t part.code article.code) (length (findings_of_article t article)) 0) t.parts ≡ (if b then length (findings_of_article t article) * count_by (λ part. is_or_reaches t part.code article.code) t.parts else 0)) [
        | true ↦ sum_times (λ part. is_or_reaches t part.code article.code) (length (findings_of_article t article)) t.parts
        | false ↦ sum_zero (λ part. 0) t.parts (each (λ part. ◌≡◌ {A = ℕ} 0 0) (λ part. refl) t.parts)
      ]

  pub by_holder : finding_count t
      ≡ sum_by (λ material. length (findings_on t material) * count_by (λ part. reaches t part.code material.code) t.parts) t.materials
      + sum_by (λ article. if is_article_sort article.sort then length (findings_of_article t article) * count_by (λ part. is_or_reaches t part.code article.code) t.parts else 0) t.parts
  unfolding finding_count
  by_holder =
      let whole =
      sum_plus (λ part. length (findings t part.code))
      (λ part. sum_by (λ material. cond (reaches t part.code material.code) (length (findings_on t material)) 0) t.materials)
      (λ part. sum_by (λ article. cond (is_article_sort article.sort && is_or_reaches t part.code article.code) (length (findings_of_article t article)) 0) t.parts) found_length t.parts in
      let materials =
      sum-swap (λ part material. cond (reaches t part.code material.code) (length (findings_on t material)) 0) t.parts t.materials
      ∙ sum_same (λ material. sum_by (λ part. cond (reaches t part.code material.code) (length (findings_on t material)) 0) t.parts) (λ material. length (findings_on t material) * count_by (λ part. reaches t part.code material.code) t.parts) t.materials
      (each (λ material. sum_by (λ part. cond (reaches t part.code material.code) (length (findings_on t material)) 0) t.parts ≡ length (findings_on t material) * count_by (λ part. reaches t part.code material.code) t.parts)
      (λ material. sum_times (λ part. reaches t part.code material.code) (length (findings_on t material)) t.parts) t.materials) in
      let articles =
      sum-swap (λ part article. cond (is_article_sort article.sort && is_or_reaches t part.code article.code) (length (findings_of_article t article)) 0) t.parts t.parts
      ∙ sum_same (λ article. sum_by (λ part. cond (is_article_sort article.sort && is_or_reaches t part.code article.code) (length (findings_of_article t article)) 0) t.parts) (λ article. if is_article_sort article.sort then length (findings_of_article t article) * count_by (λ part. is_or_reaches t part.code article.code) t.parts else 0) t.parts
      (each (λ article. sum_by (λ part. cond (is_article_sort article.sort && is_or_reaches t part.code article.code) (length (findings_of_article t article)) 0) t.parts ≡ (if is_article_sort article.sort then length (findings_of_article t article) * count_by (λ part. is_or_reaches t part.code article.code) t.parts else 0)) article_sum t.parts) in
      omega (arith, whole, materials, articles)
