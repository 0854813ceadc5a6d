-- Findings go up the bill line by line, each once.
use Rattle.std.proofs.Common.{◌≡◌, ℕ, Bool, true, false, ◌&&◌, ◌||◌, List, [], ◌∷◌, Option, Some, None, is_eq, refl, sym, ap, ◌∙◌, subst, inl, inr}
use Rattle.std.specs.Prelude.{if◌then◌else◌}
use Rattle.std.specs.List.{flat_map, list_any}
use Rattle.std.specs.Option.{option_map_or}
use Rattle.std.proofs.lemmas.Bool.{both_ways, cases_Bool, false_from_ne_true}
use Rattle.desk_text.specs.Code.{code_cmp, same_code}
use Rattle.desk_rows.specs.Rows.{IsByKey, row_of}
use Rattle.desk_rows.proofs.Order.{AllAbove, first_above, rest_by_key}
use Rattle.desk_model.specs.declared.rows.material.MaterialRow.{MaterialRow}
use Rattle.desk_model.specs.declared.rows.part.PartRow.{PartRow}
use Rattle.desk_model.specs.Lists.{IsOrdered, Lists, material_row, part_row}
use Rattle.desk_model.proofs.Anys.{any-and, any-append, any-flat_map, any-or, any-swap}
use Rattle.desk_model.proofs.Elements.{any-filter, any_same, each}
use Rattle.desk_model.proofs.Kept.{code_cmp_total, same_code-from, same_code-true}
use Rattle.desk_findings.specs.Articles.{articles_in, is_article_sort, materials_in}
use Rattle.desk_findings.specs.Findings.{Finding, findings, findings_at, findings_of_article, findings_on, is_in, own_findings, same_finding}
use Rattle.desk_findings.specs.Reaches.{is_or_reaches, lines_of, reaches}
use Rattle.desk_findings.proofs.Bill.{HasParents, reaches-step}

pub same_code_back : (a b : List ℕ) → same_code a b ≡ same_code b a
same_code_back a b =
    elim (cases_Bool (same_code b a)) [
      | inl same ↦ same_code-from a b (sym (same_code-true b a same)) ∙ sym same
      | inr other ↦ false_from_ne_true (same_code a b) (λ same. both_ways (same_code b a) other (same_code-from b a (sym (same_code-true a b same)))) ∙ sym other
    ]

-- a test of the row of a code, among rows by code
module _ {R : Type 0} (key : R → List ℕ) (test : R → Bool) where
  none_above : (code : List ℕ) (rows : List R) → AllAbove key code_cmp code_cmp_total code rows → list_any (λ row. same_code code (key row) && test row) rows ≡ false
  none_above code [] a = refl
  none_above code (row ∷ rows) a = rw (ap is_eq a.0) (none_above code rows a.1)

  or_none : (a b : Bool) → b ≡ false → (a || b) ≡ a
  or_none true b e = refl
  or_none false b e = e

  pub any_of_code : (code : List ℕ) (rows : List R) → IsByKey key code_cmp rows → list_any (λ row. same_code code (key row) && test row) rows ≡ option_map_or test (row_of key code_cmp code rows) false
  any_of_code code [] h = refl
  any_of_code code (row ∷ rows) h =
      elim (cases_Bool (same_code (key row) code)) [
        | inl same ↦
            let is = same_code-true (key row) code same in
            let none = subst (λ c. list_any (λ r. same_code c (key r) && test r) rows ≡ false) is (none_above (key row) rows (first_above key code_cmp code_cmp_total row rows h)) in
            rw (same_code_back code (key row), same, none) (or_none (test row) false refl)
        | inr other ↦ rw (same_code_back code (key row), other) (any_of_code code rows (rest_by_key key code_cmp code_cmp_total row rows h))
      ]

module _ (t : Lists) (ordered : IsOrdered t) (parents : HasParents t) (finding : Finding) where
  -- the finding is one of the material's, or one of the article's
  on_material : MaterialRow → Bool
  on_material material = is_in finding (findings_on t material)

  on_article : PartRow → Bool
  on_article part = is_in finding (findings_of_article t part)

  -- the finding is in a material that the code reaches, or in an article that it is or reaches
  in_materials : List ℕ → Bool
  in_materials code = list_any (λ material. reaches t code material.code && on_material material) t.materials

  in_articles : List ℕ → Bool
  in_articles code = list_any (λ part. is_article_sort part.sort && is_or_reaches t code part.code && on_article part) t.parts

  -- it is the material's of the code itself, or the article's
  of_material : List ℕ → Bool
  of_material code = list_any (λ material. same_code code material.code && on_material material) t.materials

  of_article : List ℕ → Bool
  of_article code = list_any (λ part. same_code code part.code && (is_article_sort part.sort && on_article part)) t.parts

  found_is : (code : List ℕ) → is_in finding (findings t code) ≡ (in_materials code || in_articles code)
  unfolding findings in_materials in_articles on_material on_article
  found_is code =
      any-append (same_finding finding) (flat_map (findings_on t) (materials_in t code)) (flat_map (findings_of_article t) (articles_in t code))
      ∙ ap (λ b. b || list_any (same_finding finding) (flat_map (findings_of_article t) (articles_in t code)))
      (any-flat_map (same_finding finding) (findings_on t) (materials_in t code) ∙ any-filter (λ material. reaches t code material.code) (λ material. is_in finding (findings_on t material)) t.materials)
      ∙ ap (λ b. list_any (λ material. reaches t code material.code && is_in finding (findings_on t material)) t.materials || b)
      (any-flat_map (same_finding finding) (findings_of_article t) (articles_in t code) ∙ any-filter (λ part. is_article_sort part.sort && is_or_reaches t code part.code) (λ part. is_in finding (findings_of_article t part)) t.parts)

  some_is : (o : Option MaterialRow) → is_in finding (option_map_or (findings_on t) o []) ≡ option_map_or on_material o false
  unfolding on_material
  some_is None = refl
  some_is (Some material) = refl

  own_material : (code : List ℕ) → is_in finding (option_map_or (findings_on t) (material_row t code) []) ≡ of_material code
  unfolding of_material
  own_material code = some_is (material_row t code) ∙ sym (any_of_code (λ row. row.code) on_material code t.materials ordered.materials)

  article_is : (o : Option PartRow) → is_in finding (option_map_or (λ part. if is_article_sort part.sort then findings_of_article t part else []) o []) ≡ option_map_or (λ part. is_article_sort part.sort && on_article part) o false
  unfolding on_article
  article_is None = refl
  article_is (Some part) =
      elim (is_article_sort part.sort) as (λ b. is_in finding (if b then findings_of_article t part else []) ≡ (b && is_in finding (findings_of_article t part))) [ true ↦ refl | false ↦ refl ]

  own_article : (code : List ℕ) → is_in finding (option_map_or (λ part. if is_article_sort part.sort then findings_of_article t part else []) (part_row t code) []) ≡ of_article code
  unfolding of_article
  own_article code = article_is (part_row t code) ∙ sym (any_of_code (λ row. row.code) (λ part. is_article_sort part.sort && on_article part) code t.parts ordered.parts)

  own_is : (code : List ℕ) → is_in finding (own_findings t code) ≡ (of_material code || of_article code)
  unfolding own_findings
  own_is code =
      any-append (same_finding finding) (option_map_or (findings_on t) (material_row t code) []) (option_map_or (λ part. if is_article_sort part.sort then findings_of_article t part else []) (part_row t code) [])
      ∙ ap (λ b. b || is_in finding (option_map_or (λ part. if is_article_sort part.sort then findings_of_article t part else []) (part_row t code) [])) (own_material code)
      ∙ ap (λ b. of_material code || b) (own_article code)

  at_is : (code : List ℕ) → is_in finding (findings_at t code) ≡ (of_material code || (in_materials code || in_articles code))
  unfolding findings_at
  at_is code =
      any-append (same_finding finding) (option_map_or (findings_on t) (material_row t code) []) (findings t code)
      ∙ ap (λ b. b || is_in finding (findings t code)) (own_material code)
      ∙ ap (λ b. of_material code || b) (found_is code)

  -- the materials, line by line
  split_reach : (a b c : Bool) → ((a || b) && c) ≡ (a && c || b && c)
  split_reach true true true = refl
  split_reach true true false = refl
  split_reach true false true = refl
  split_reach true false false = refl
  split_reach false b c = refl

  materials_step : (code : List ℕ) → in_materials code ≡ list_any (λ line. of_material line.child || in_materials line.child) (lines_of t.lines code)
  unfolding in_materials of_material
  materials_step code =
      any_same (λ material. reaches t code material.code && on_material material) (λ material. list_any (λ line. is_or_reaches t line.child material.code && on_material material) (lines_of t.lines code)) t.materials
      (each (λ material. (reaches t code material.code && on_material material) ≡ list_any (λ line. is_or_reaches t line.child material.code && on_material material) (lines_of t.lines code))
      (λ material. ap (λ b. b && on_material material) (reaches-step t parents material.code code) ∙ any-and (λ line. is_or_reaches t line.child material.code) (on_material material) (lines_of t.lines code)) t.materials)
      ∙ any-swap (λ material line. is_or_reaches t line.child material.code && on_material material) t.materials (lines_of t.lines code)
      ∙ any_same (λ line. list_any (λ material. is_or_reaches t line.child material.code && on_material material) t.materials) (λ line. list_any (λ material. same_code line.child material.code && on_material material) t.materials || list_any (λ material. reaches t line.child material.code && on_material material) t.materials) (lines_of t.lines code)
      (each (λ line. list_any (λ material. is_or_reaches t line.child material.code && on_material material) t.materials ≡ (list_any (λ material. same_code line.child material.code && on_material material) t.materials || list_any (λ material. reaches t line.child material.code && on_material material) t.materials))
      (λ line.
      any_same (λ material. is_or_reaches t line.child material.code && on_material material) (λ material. same_code line.child material.code && on_material material || reaches t line.child material.code && on_material material) t.materials
      (each (λ material. (is_or_reaches t line.child material.code && on_material material) ≡ (same_code line.child material.code && on_material material || reaches t line.child material.code && on_material material))
      (λ material. split_reach (same_code line.child material.code) (reaches t line.child material.code) (on_material material)) t.materials)
      ∙ any-or (λ material. same_code line.child material.code && on_material material) (λ material. reaches t line.child material.code && on_material material) t.materials)
      (lines_of t.lines code))

  -- the articles, the own one first
  split_article : (art same reached on : Bool) → (art && (same || reached) && on) ≡ (same && (art && on) || reached && (art && on))
  split_article true true true true = refl
  split_article true true true false = refl
  split_article true true false true = refl
  split_article true true false false = refl
  split_article true false true on = refl
  split_article true false false on = refl
  split_article false true true on = refl
  split_article false true false on = refl
  split_article false false true on = refl
  split_article false false false on = refl

  join_article : (art reached on : Bool) → (reached && (art && on)) ≡ (art && reached && on)
  join_article true true on = refl
  join_article true false on = refl
  join_article false true on = refl
  join_article false false on = refl

  articles_step : (code : List ℕ) → in_articles code ≡ (of_article code || list_any (λ line. in_articles line.child) (lines_of t.lines code))
  unfolding in_articles of_article
  articles_step code =
      any_same (λ part. is_article_sort part.sort && is_or_reaches t code part.code && on_article part) (λ part. same_code code part.code && (is_article_sort part.sort && on_article part) || reaches t code part.code && (is_article_sort part.sort && on_article part)) t.parts
      (each (λ part. (is_article_sort part.sort && is_or_reaches t code part.code && on_article part) ≡ (same_code code part.code && (is_article_sort part.sort && on_article part) || reaches t code part.code && (is_article_sort part.sort && on_article part)))
      (λ part. split_article (is_article_sort part.sort) (same_code code part.code) (reaches t code part.code) (on_article part)) t.parts)
      ∙ any-or (λ part. same_code code part.code && (is_article_sort part.sort && on_article part)) (λ part. reaches t code part.code && (is_article_sort part.sort && on_article part)) t.parts
      ∙ ap (λ b. list_any (λ part. same_code code part.code && (is_article_sort part.sort && on_article part)) t.parts || b)
      (any_same (λ part. reaches t code part.code && (is_article_sort part.sort && on_article part)) (λ part. list_any (λ line. is_or_reaches t line.child part.code && (is_article_sort part.sort && on_article part)) (lines_of t.lines code)) t.parts
      (each (λ part. (reaches t code part.code && (is_article_sort part.sort && on_article part)) ≡ list_any (λ line. is_or_reaches t line.child part.code && (is_article_sort part.sort && on_article part)) (lines_of t.lines code))
      (λ part. ap (λ b. b && (is_article_sort part.sort && on_article part)) (reaches-step t parents part.code code) ∙ any-and (λ line. is_or_reaches t line.child part.code) (is_article_sort part.sort && on_article part) (lines_of t.lines code)) t.parts)
      ∙ any-swap (λ part line. is_or_reaches t line.child part.code && (is_article_sort part.sort && on_article part)) t.parts (lines_of t.lines code)
      ∙ any_same (λ line. list_any (λ part. is_or_reaches t line.child part.code && (is_article_sort part.sort && on_article part)) t.parts) (λ line. list_any (λ part. is_article_sort part.sort && is_or_reaches t line.child part.code && on_article part) t.parts) (lines_of t.lines code)
      (each (λ line. list_any (λ part. is_or_reaches t line.child part.code && (is_article_sort part.sort && on_article part)) t.parts ≡ list_any (λ part. is_article_sort part.sort && is_or_reaches t line.child part.code && on_article part) t.parts)
      (λ line.
      any_same (λ part. is_or_reaches t line.child part.code && (is_article_sort part.sort && on_article part)) (λ part. is_article_sort part.sort && is_or_reaches t line.child part.code && on_article part) t.parts
      (each (λ part. (is_or_reaches t line.child part.code && (is_article_sort part.sort && on_article part)) ≡ (is_article_sort part.sort && is_or_reaches t line.child part.code && on_article part))
      (λ part. join_article (is_article_sort part.sort) (is_or_reaches t line.child part.code) (on_article part)) t.parts))
      (lines_of t.lines code)))

  gather : (m a x y : Bool) → (m || (x || (a || y))) ≡ (m || a || (x || y))
  gather true a x y = refl
  gather false true true y = refl
  gather false true false y = refl
  gather false false x y = refl

  regroup : (m x y : Bool) → (m || x || y) ≡ (m || (x || y))
  regroup true x y = refl
  regroup false x y = refl

  pub by_lines : (code : List ℕ) → is_in finding (findings_at t code) ≡ (is_in finding (own_findings t code) || list_any (λ line. is_in finding (findings_at t line.child)) (lines_of t.lines code))
  by_lines code =
      at_is code
      ∙ ap (λ b. of_material code || (b || in_articles code)) (materials_step code)
      ∙ ap (λ b. of_material code || (list_any (λ line. of_material line.child || in_materials line.child) (lines_of t.lines code) || b)) (articles_step code)
      ∙ gather (of_material code) (of_article code) (list_any (λ line. of_material line.child || in_materials line.child) (lines_of t.lines code)) (list_any (λ line. in_articles line.child) (lines_of t.lines code))
      ∙ ap (λ b. b || (list_any (λ line. of_material line.child || in_materials line.child) (lines_of t.lines code) || list_any (λ line. in_articles line.child) (lines_of t.lines code))) (sym (own_is code))
      ∙ ap (λ b. is_in finding (own_findings t code) || b)
      (sym (any-or (λ line. of_material line.child || in_materials line.child) (λ line. in_articles line.child) (lines_of t.lines code))
      ∙ any_same (λ line. of_material line.child || in_materials line.child || in_articles line.child) (λ line. is_in finding (findings_at t line.child)) (lines_of t.lines code)
      (each (λ line. (of_material line.child || in_materials line.child || in_articles line.child) ≡ is_in finding (findings_at t line.child)) (λ line. regroup (of_material line.child) (in_materials line.child) (in_articles line.child) ∙ sym (at_is line.child)) (lines_of t.lines code)))
