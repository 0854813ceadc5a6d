-- Few ways down the bill leave few findings: no more of them than ways, times the most that one node has by itself.
use Rattle.std.proofs.Common.{◌≡◌, ℕ, zero, suc, ◌+◌, ◌*◌, ◌≤◌, Bool, true, false, cond, not, ◌||◌, List, [], ◌∷◌, ◌++◌, drop, filter, map, length, replicate, sum_by, count_by, refl, ap, ◌∙◌, inl, inr, arith, mul-le-mul_left}
use Rattle.std.specs.Prelude.{if◌then◌else◌}
use Rattle.std.specs.List.{AllByRecursion, list_any}
use Rattle.std.proofs.lemmas.Bool.{cases_Bool, le-ltb}
use Rattle.std.proofs.lemmas.List.{drop-map, drop_at, length-map}
use Rattle.std.proofs.lemmas.List.Folds.{list_all-map}
use Rattle.std.proofs.lemmas.List.Sums.{count_by-le-length, length-filter, sum_by-cons}
use Rattle.desk_text.specs.Code.{code_cmp, same_code}
use Rattle.desk_law.specs.Rule.{restricting_rules}
use Rattle.desk_model.specs.declared.limits.TheConstants.{FINDING_LIMIT}
use Rattle.desk_model.specs.declared.rows.line.LineRow.{LineRow}
use Rattle.desk_model.specs.declared.rows.material.MaterialRow.{MaterialRow}
use Rattle.desk_model.specs.declared.rows.part.PartRow.{PartRow}
use Rattle.desk_model.specs.Lists.{IsOrdered, Lists, is_part}
use Rattle.desk_model.proofs.Anys.{count-append, count-map, sum-swap}
use Rattle.desk_model.proofs.Elements.{all_from_each, any-map, any_same, count_by-cons, each, each_from_all, each_map, sum_le, sum_same}
use Rattle.desk_model.proofs.Kept.{code_cmp_total, each_kept, same_code-true}
use Rattle.desk_findings.specs.Articles.{is_article_sort}
use Rattle.desk_findings.specs.Above.{is_above}
use Rattle.desk_findings.specs.Bill.{IsBill}
use Rattle.desk_findings.specs.Findings.{Finding, finding_count, findings_of_article, findings_on, rules_over}
use Rattle.desk_findings.specs.Reaches.{enough, is_or_reaches, lines_of, reaches, reaches_within}
use Rattle.desk_findings.specs.Rolled.{rolled}
use Rattle.desk_findings.specs.Share.{is_over_limit}
use Rattle.desk_findings.specs.Totals.{has_too_many_findings}
use Rattle.desk_findings.proofs.Bill.{has_parents, rolled-step}
use Rattle.desk_findings.proofs.FindingsStored.{by_holder}
use Rattle.desk_totals.specs.Linked.{IsLinkedOf, Linked, are_codes_distinct, single}
use Rattle.desk_totals.specs.Marks.{reach_count}
use Rattle.desk_totals.proofs.Distinct.{later_distinct, others}
use Rattle.desk_totals.proofs.ForTables.{with_itself}

-- counts of what passes one of some tests
one_or : (a b : Bool) → cond (a || b) 1 0 ≤ cond a 1 0 + cond b 1 0
one_or true true = omega arith
one_or true false = omega arith
one_or false true = omega arith
one_or false false = omega arith

count_or : {X : Type 0} (p q : X → Bool) (xs : List X) → count_by (λ x. p x || q x) xs ≤ count_by p xs + count_by q xs
count_or p q [] = omega arith
count_or p q (x ∷ xs) = omega (arith, count_by-cons (λ y. p y || q y) x xs, count_by-cons p x xs, count_by-cons q x xs, one_or (p x) (q x), count_or p q xs)

count_none : {X : Type 0} (p : X → Bool) (xs : List X) → AllByRecursion (λ x. p x ≡ false) xs → count_by p xs ≡ 0
count_none p [] a = refl
count_none p (x ∷ xs) a =
    let first : ◌≡◌ {A = ℕ} (cond (p x) 1 0) 0 = rw a.0 refl in
    omega (arith, count_by-cons p x xs, first, count_none p xs a.1)

count_any : {X Y : Type 0} (r : Y → X → Bool) (ys : List Y) (xs : List X) → count_by (λ x. list_any (λ y. r y x) ys) xs ≤ sum_by (λ y. count_by (r y) xs) ys
count_any r [] xs = omega (arith, count_none (λ x. false) xs (each (λ x. false ≡ false) (λ x. refl) xs))
count_any r (y ∷ ys) xs = omega (arith, count_or (r y) (λ x. list_any (λ z. r z x) ys) xs, sum_by-cons (λ z. count_by (r z) xs) y ys, count_any r ys xs)

-- at most one of distinct codes is a given one
count_one : (code : List ℕ) (codes : List (List ℕ)) → are_codes_distinct codes ≡ true → count_by (same_code code) codes ≤ 1
count_one code [] e = omega arith
count_one code (first ∷ codes) e =
    elim (cases_Bool (same_code code first)) [
      | inl same ↦
          let none : count_by (same_code code) codes ≡ 0 = ap (λ c. count_by (same_code c) codes) (same_code-true code first same) ∙ count_none (same_code first) codes (others first codes e) in
          let one : ◌≡◌ {A = ℕ} (cond (same_code code first) 1 0) 1 = rw same refl in
          omega (arith, count_by-cons (same_code code) first codes, none, one)
      | inr other ↦
          let nothing : ◌≡◌ {A = ℕ} (cond (same_code code first) 1 0) 0 = rw other refl in
          omega (arith, count_by-cons (same_code code) first codes, nothing, count_one code codes (later_distinct first codes e))
    ]

pub sum_map : {X Y : Type 0} (f : Y → ℕ) (g : X → Y) (xs : List X) → sum_by f (map g xs) ≡ sum_by (λ x. f (g x)) xs
sum_map f g [] = refl
sum_map f g (x ∷ xs) = omega (arith, sum_by-cons f (g x) (map g xs), sum_by-cons (λ y. f (g y)) x xs, sum_map f g xs)

sum_plus : {X : Type 0} (g h k : X → ℕ) → ((x : X) → k x ≡ g x + h x) → (xs : List X) → sum_by k xs ≡ sum_by g xs + sum_by h xs
sum_plus g h k e [] = refl
sum_plus g h k e (x ∷ xs) = omega (arith, sum_by-cons k x xs, sum_by-cons g x xs, sum_by-cons h x xs, e x, sum_plus g h k e xs)

-- lines with the count 1 lead where their lines do
lines_single : (lines : List LineRow) (code : List ℕ) → lines_of (map single lines) code ≡ map single (lines_of lines code)
lines_single [] code = refl
lines_single (line ∷ lines) code =
    elim (same_code line.parent code) as (λ b. cond b (single line ∷ lines_of (map single lines) code) (lines_of (map single lines) code) ≡ map single (cond b (line ∷ lines_of lines code) (lines_of lines code))) [
      | true ↦ ap (λ l. single line ∷ l) (lines_single lines code)
      | false ↦ lines_single lines code
    ]

within_single : (lines : List LineRow) (k : ℕ) (part target : List ℕ) → reaches_within (map single lines) k part target ≡ reaches_within lines k part target
unfolding reaches_within
within_single lines zero part target = refl
within_single lines (suc k) part target =
    ap (list_any (λ line. same_code line.child target || reaches_within (map single lines) k line.child target)) (lines_single lines part)
    ∙ any-map (λ line. same_code line.child target || reaches_within (map single lines) k line.child target) single (lines_of lines part)
    ∙ any_same (λ line. same_code line.child target || reaches_within (map single lines) k line.child target) (λ line. same_code line.child target || reaches_within lines k line.child target) (lines_of lines part)
    (each (λ line. (same_code line.child target || reaches_within (map single lines) k line.child target) ≡ (same_code line.child target || reaches_within lines k line.child target))
    (λ line. ap (λ b. same_code line.child target || b) (within_single lines k line.child target)) (lines_of lines part))

-- the tables with the count 1 in each line
abbrev pub singles : Lists → Lists
singles t = record t { lines = map single t.lines }

module _ (t : Lists) (is_bill : IsBill t) where
  pub singles_bill : IsBill (singles t)
  singles_bill = record {
    parents = list_all-map (λ line. is_part t line.parent) single t.lines ∙ is_bill.parents;
    acyclic =
        all_from_each (λ part. not (reaches (singles t) part.code part.code)) t.parts
        (each_map (λ (part : PartRow). not (reaches t part.code part.code) ≡ true) (λ part. not (reaches (singles t) part.code part.code) ≡ true)
        (λ part e. ap not (within_single t.lines (enough t) part.code part.code) ∙ e) t.parts
        (each_from_all (λ part. not (reaches t part.code part.code)) t.parts is_bill.acyclic));
  }

  -- how many ways lead down from a code, with the one that goes nowhere
  unfoldable pub ways : List ℕ → ℕ
  ways code = rolled (singles t) (λ c. 1) code

  ways-step : (code : List ℕ) → ways code ≡ 1 + sum_by (λ line. ways line.child) (lines_of t.lines code)
  unfolding ways
  ways-step code =
      rolled-step (singles t) (has_parents (singles t) singles_bill.parents) singles_bill.acyclic (λ c. 1) code
      ∙ ap (λ n. 1 + n)
      (ap (sum_by (λ line. line.count * rolled (singles t) (λ c. 1) line.child)) (lines_single t.lines code)
      ∙ sum_map (λ line. line.count * rolled (singles t) (λ c. 1) line.child) single (lines_of t.lines code)
      ∙ sum_same (λ line. 1 * rolled (singles t) (λ c. 1) line.child) (λ line. rolled (singles t) (λ c. 1) line.child) (lines_of t.lines code)
      (each (λ line. 1 * rolled (singles t) (λ c. 1) line.child ≡ rolled (singles t) (λ c. 1) line.child) (λ line. omega arith) (lines_of t.lines code)))

  module _ (nodes : List (List ℕ)) (distinct : are_codes_distinct nodes ≡ true) where
    none_within : (code : List ℕ) → count_by (λ node. reaches_within t.lines 0 code node) nodes ≡ 0
    unfolding reaches_within
    none_within code = count_none (λ node. false) nodes (each (λ node. false ≡ false) (λ node. refl) nodes)

    more_within : (k : ℕ) (code : List ℕ) → count_by (λ node. reaches_within t.lines (suc k) code node) nodes ≤ sum_by (λ line. count_by (λ node. same_code line.child node || reaches_within t.lines k line.child node) nodes) (lines_of t.lines code)
    unfolding reaches_within
    more_within k code = count_any (λ (line : LineRow) node. same_code line.child node || reaches_within t.lines k line.child node) (lines_of t.lines code) nodes

    -- a code and what it reaches are no more than the ways down from it
    counted_within : (k : ℕ) (code : List ℕ) → 1 + count_by (λ node. reaches_within t.lines k code node) nodes ≤ ways code
    counted_within zero code = omega (arith, none_within code, ways-step code)
    counted_within (suc k) code =
        omega (
          arith,
          ways-step code,
          more_within k code,
          sum_le (λ line. count_by (λ node. same_code line.child node || reaches_within t.lines k line.child node) nodes) (λ line. ways line.child) (lines_of t.lines code)
              (each (λ (line : LineRow). count_by (λ node. same_code line.child node || reaches_within t.lines k line.child node) nodes ≤ ways line.child)
              (λ line. omega (arith, count_or (same_code line.child) (λ node. reaches_within t.lines k line.child node) nodes, count_one line.child nodes distinct, counted_within k line.child)) (lines_of t.lines code)),
        )

  -- a code with the materials and the parts that it reaches
  reached : List ℕ → ℕ
  reached code = count_by (λ (material : MaterialRow). reaches t code material.code) t.materials + count_by (λ (part : PartRow). reaches t code part.code) t.parts

  reached-le : are_codes_distinct (map (λ row. row.code) t.materials ++ map (λ row. row.code) t.parts) ≡ true → (code : List ℕ) → reached code + 1 ≤ ways code
  unfolding reached
  reached-le distinct code =
      omega (
        arith,
        counted_within (map (λ row. row.code) t.materials ++ map (λ row. row.code) t.parts) distinct (enough t) code,
        count-append (λ node. reaches t code node) (map (λ row. row.code) t.materials) (map (λ row. row.code) t.parts),
        count-map (λ node. reaches t code node) (λ (row : MaterialRow). row.code) t.materials,
        count-map (λ node. reaches t code node) (λ (row : PartRow). row.code) t.parts,
      )

  -- all pairs of a part with a node that it is or reaches, counted from either side
  pairs : sum_by (λ (material : MaterialRow). reach_count t material.code) t.materials + sum_by (λ (part : PartRow). reach_count t part.code + 1) t.parts ≡ sum_by (λ (part : PartRow). reached part.code + 1) t.parts
  unfolding reached
  pairs =
      omega (
        arith,
        sum-swap (λ (material : MaterialRow) (part : PartRow). cond (reaches t part.code material.code) 1 0) t.materials t.parts,
        sum-swap (λ (target part : PartRow). cond (reaches t part.code target.code) 1 0) t.parts t.parts,
        sum_plus (λ (part : PartRow). reach_count t part.code) (λ part. 1) (λ part. reach_count t part.code + 1) (λ part. refl) t.parts,
        sum_plus (λ (part : PartRow). reached part.code) (λ part. 1) (λ part. reached part.code + 1) (λ part. refl) t.parts,
        sum_plus (λ (part : PartRow). count_by (λ (material : MaterialRow). reaches t part.code material.code) t.materials) (λ part. count_by (λ (target : PartRow). reaches t part.code target.code) t.parts) (λ part. reached part.code) (λ part. refl) t.parts,
      )

  -- what is found on a material or an article by itself
  on_material : (material : MaterialRow) → length (findings_on t material) ≤ length t.candidates + 10
  on_material material =
      omega (
        arith,
        length-map (rules_over t material) (λ rule. Finding.over material.code rule),
        length-filter (λ rule. is_over_limit t rule material) restricting_rules,
        count_by-le-length (λ rule. is_over_limit t rule material) restricting_rules,
      )

  on_article : (article : PartRow) → length (findings_of_article t article) ≤ length t.candidates + 10
  on_article article =
      omega (
        arith,
        length-map (filter (λ candidate. is_above t article.code candidate.substance) t.candidates) (λ candidate. Finding.above article.code candidate.substance),
        length-filter (λ candidate. is_above t article.code candidate.substance) t.candidates,
        count_by-le-length (λ candidate. is_above t article.code candidate.substance) t.candidates,
      )

  times_less : (n most times : ℕ) → n ≤ most → n * times ≤ most * times
  times_less n most times h = omega (arith, mul-le-mul_left times h)

  by_sort : (article : Bool) (n most times both : ℕ) → n ≤ most → both ≡ times → (if article then n * both else 0) ≤ most * times
  by_sort true n most times both h e = rw e (times_less n most times h)
  by_sort false n most times both h e = omega arith

  sum_times : {X : Type 0} (most : ℕ) (f : X → ℕ) (xs : List X) → sum_by (λ x. most * f x) xs ≡ most * sum_by f xs
  sum_times most f [] = omega arith
  sum_times most f (x ∷ xs) = omega (arith, sum_by-cons (λ y. most * f y) x xs, sum_by-cons f x xs, sum_times most f xs, ap (λ n. most * n) (sum_by-cons f x xs), Rattle.std.proofs.Math.Nat.mul-add most (f x) (sum_by f xs))

  module _ (ordered : IsOrdered t) (distinct : are_codes_distinct (map (λ row. row.code) t.materials ++ map (λ row. row.code) t.parts) ≡ true) where
    most : ℕ
    most = length t.candidates + 10

    of_materials : sum_by (λ (material : MaterialRow). length (findings_on t material) * count_by (λ (part : PartRow). reaches t part.code material.code) t.parts) t.materials ≤ most * sum_by (λ (material : MaterialRow). reach_count t material.code) t.materials
    unfolding most
    of_materials =
        omega (
          arith,
          sum_le (λ (material : MaterialRow). length (findings_on t material) * reach_count t material.code) (λ material. (length t.candidates + 10) * reach_count t material.code) t.materials
              (each (λ (material : MaterialRow). length (findings_on t material) * reach_count t material.code ≤ (length t.candidates + 10) * reach_count t material.code)
              (λ material. times_less (length (findings_on t material)) (length t.candidates + 10) (reach_count t material.code) (on_material material)) t.materials),
          sum_times (length t.candidates + 10) (λ (material : MaterialRow). reach_count t material.code) t.materials,
        )

    of_parts : sum_by (λ (article : PartRow). if is_article_sort article.sort then length (findings_of_article t article) * count_by (λ (part : PartRow). is_or_reaches t part.code article.code) t.parts else 0) t.parts ≤ most * sum_by (λ (part : PartRow). reach_count t part.code + 1) t.parts
    unfolding most
    of_parts =
        omega (
          arith,
          sum_le (λ (article : PartRow). if is_article_sort article.sort then length (findings_of_article t article) * count_by (λ (part : PartRow). is_or_reaches t part.code article.code) t.parts else 0) (λ article. (length t.candidates + 10) * (reach_count t article.code + 1)) t.parts
              (each_map (λ (part : PartRow). is_part t part.code ≡ true)
              (λ (article : PartRow). (if is_article_sort article.sort then length (findings_of_article t article) * count_by (λ (part : PartRow). is_or_reaches t part.code article.code) t.parts else 0) ≤ (length t.candidates + 10) * (reach_count t article.code + 1))
              (λ article kept.
              by_sort (is_article_sort article.sort) (length (findings_of_article t article)) (length t.candidates + 10) (reach_count t article.code + 1) (count_by (λ (part : PartRow). is_or_reaches t part.code article.code) t.parts) (on_article article)
              (with_itself t ordered is_bill article.code kept)) t.parts (each_kept (λ row. row.code) code_cmp code_cmp_total t.parts)),
          sum_times (length t.candidates + 10) (λ (part : PartRow). reach_count t part.code + 1) t.parts,
        )

    -- so all findings are no more than the ways down from parts, times the most of one node
    finding_count-le : finding_count t ≤ (length t.candidates + 10) * sum_by (λ (part : PartRow). ways part.code) t.parts
    unfolding most
    finding_count-le =
        let materials = sum_by (λ (material : MaterialRow). reach_count t material.code) t.materials in
        let parts = sum_by (λ (part : PartRow). reach_count t part.code + 1) t.parts in
        let all = sum_by (λ (part : PartRow). ways part.code) t.parts in
        let fewer : materials + parts ≤ all =
        omega (arith, pairs, sum_le (λ (part : PartRow). reached part.code + 1) (λ part. ways part.code) t.parts (each (λ (part : PartRow). reached part.code + 1 ≤ ways part.code) (λ part. reached-le distinct part.code) t.parts)) in
        omega (arith, by_holder t, of_materials, of_parts, mul-le-mul_left (length t.candidates + 10) fewer, Rattle.std.proofs.Math.Nat.mul-add (length t.candidates + 10) materials parts)

    pub few : (length t.candidates + 10) * sum_by (λ (part : PartRow). ways part.code) t.parts ≤ FINDING_LIMIT → has_too_many_findings t ≡ false
    unfolding has_too_many_findings
    few h = le-ltb FINDING_LIMIT (finding_count t) (omega (arith, finding_count-le, h))

-- the number of each part is behind those of the materials
pub of_parts_alone : {V : Type 0} (bill : Linked) (t : Lists) → IsLinkedOf bill t → (f : List ℕ → V) (values : List V) → values ≡ map f bill.nodes → drop (length t.materials) values ≡ map f (map (λ row. row.code) t.parts)
of_parts_alone bill t of f values e =
    ap (drop (length t.materials)) e
    ∙ drop-map f (length t.materials) bill.nodes
    ∙ ap (map f) (ap (drop (length t.materials)) of.nodes ∙ drop_at (map (λ row. row.code) t.materials) (map (λ row. row.code) t.parts) (length t.materials) (length-map t.materials (λ row. row.code)))

-- so many ones are a one for each
pub ones : {X : Type 0} (xs : List X) → replicate {A = ℕ} (length xs) 1 ≡ map (λ x. 1) xs
ones [] = refl
ones (x ∷ xs) = ap (λ l. 1 ∷ l) (ones xs)
