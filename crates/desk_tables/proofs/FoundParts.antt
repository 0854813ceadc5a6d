-- Parts on which something is found: an article with findings of its own, or the parent of a line to a material that is over a limit.
use Rattle.std.proofs.Common.{◌≡◌, ℕ, suc, ◌<◌, Bool, true, false, ◌&&◌, ◌||◌, cond, List, [], ◌∷◌, ◌++◌, Option, Some, None, MatchOption, Result, Ok, Err, Less, length, map, filter, get_or, is_eq, refl, sym, ap, subst, ◌∙◌, arith}
use Rattle.std.specs.Prelude.{nat_lt, IfOk, if◌then◌else◌}
use Rattle.std.specs.List.{AllByRecursion, flat_map, list_any}
use Rattle.std.specs.Option.{option_map_or}
use Rattle.std.proofs.lemmas.Bool.{and_from, false≢true, false_from_ne_true, le-ltb, lt-ltb, ltb-false, or_left, or_right, true≢false}
use Rattle.std.proofs.lemmas.List.{get_or-map, length-map}
use Rattle.std.proofs.lemmas.List.Elements.{All-from_recursion}
use Rattle.std.proofs.lemmas.List.Folds.{list_any_at}
use Rattle.desk_text.specs.Code.{code_cmp, same_code}
use Rattle.desk_rows.specs.Place.{StandsAt, StandsNowhere}
use Rattle.desk_rows.specs.Rows.{IsByKey, row_of}
use Rattle.desk_rows.proofs.Order.{first_above, rest_by_key}
use Rattle.desk_model.specs.declared.limits.TheConstants.{FINDING_LIMIT}
use Rattle.desk_model.specs.declared.rows.line.LineRow.{LineRow}
use Rattle.desk_model.specs.declared.rows.material.MaterialRow.{MaterialRow}
use Rattle.desk_model.specs.declared.rows.part.PartRow.{PartRow}
use Rattle.desk_model.specs.Lists.{Lists, is_part, material_row}
use Rattle.desk_model.proofs.Elements.{any-map, any_none, each, each_both, each_from_all, each_map, none_from_any, sum_zero}
use Rattle.desk_model.proofs.Kept.{code_cmp_total, each_kept, found_any, found_each, same_code-from, same_code-true}
use Rattle.desk_findings.specs.Articles.{articles_in, is_article_sort, materials_in}
use Rattle.desk_findings.specs.Bill.{has_right_child}
use Rattle.desk_findings.specs.Findings.{Finding, finding_count, findings, findings_of_article, findings_on, rules_over}
use Rattle.desk_findings.specs.Reaches.{enough, is_or_reaches, reaches}
use Rattle.desk_findings.specs.Totals.{has_too_many_findings}
use Rattle.desk_findings.proofs.Bill.{by_line}
use Rattle.desk_findings.proofs.Children.{right_parent}
use Rattle.desk_findings.proofs.Lighter.{unreached}
use Rattle.desk_history.specs.Sound.{IsConsistent}
use Rattle.desk_history.proofs.SoundClauses.{parents_of, right_of}
use Rattle.desk_tables.specs.FindingCounts.{is_over_some_limit, own_of_material, own_of_part}

positive : (n : ℕ) → nat_lt 0 (suc n) ≡ true
positive n = lt-ltb 0 (suc n) (omega arith)

some_append : {Y : Type 0} (xs ys : List Y) → nat_lt 0 (length (xs ++ ys)) ≡ (nat_lt 0 (length xs) || nat_lt 0 (length ys))
some_append [] ys = refl
some_append (x ∷ xs) ys = rw (positive (length (xs ++ ys)), positive (length xs)) refl

-- something is made of the elements that pass where something is made of one of them
some_made : {X Y : Type 0} (f : X → List Y) (p : X → Bool) (xs : List X) → nat_lt 0 (length (flat_map f (filter p xs))) ≡ list_any (λ x. p x && nat_lt 0 (length (f x))) xs
some_made f p [] = refl
some_made f p (x ∷ xs) =
    elim (p x) as (λ b. nat_lt 0 (length (flat_map f (cond b (x ∷ filter p xs) (filter p xs)))) ≡ (b && nat_lt 0 (length (f x)) || list_any (λ y. p y && nat_lt 0 (length (f y))) xs)) [
      | true ↦ some_append (f x) (flat_map f (filter p xs)) ∙ ap (λ b. nat_lt 0 (length (f x)) || b) (some_made f p xs)
      | false ↦ some_made f p xs
    ]

-- a row in the order of codes is the one of its code
own_row : (rows : List MaterialRow) → IsByKey (λ row. row.code) code_cmp rows → AllByRecursion (λ row. row_of (λ row. row.code) code_cmp row.code rows ≡ Some row) rows
own_row [] h = tt
own_row (row ∷ rows) h = (
  rw (same_code-from row.code row.code refl) refl,
  each_map (λ (other : MaterialRow). (row_of (λ row. row.code) code_cmp other.code rows ≡ Some other) × (code_cmp row.code other.code ≡ Less)) (λ other. row_of (λ row. row.code) code_cmp other.code (row ∷ rows) ≡ Some other)
      (λ other e. let apart : is_eq (code_cmp row.code other.code) ≡ false = ap is_eq e.1 in rw apart e.0) rows
      (each_both (λ other. row_of (λ row. row.code) code_cmp other.code rows ≡ Some other) (λ other. code_cmp row.code other.code ≡ Less) rows
      (own_row rows (rest_by_key (λ row. row.code) code_cmp code_cmp_total row rows h)) (of_keys (λ code. code_cmp row.code code ≡ Less) rows (first_above (λ row. row.code) code_cmp code_cmp_total row rows h))),
)
  where
    of_keys : (P : List ℕ → Type 0) (xs : List MaterialRow) → AllByRecursion P (map (λ x. x.code) xs) → AllByRecursion (λ x. P x.code) xs
    of_keys P [] a = tt
    of_keys P (x ∷ xs) a = (a.0, of_keys P xs a.1)

-- where a material stands it is told by its count whether it is over some limit
pub over_at : (t : Lists) (materials : List MaterialRow) (counts : List ℕ) (code : List ℕ) (place : ℕ) → materials ≡ t.materials → counts ≡ map (own_of_material t) t.materials → StandsAt (λ row. row.code) code_cmp code materials place
    → nat_lt 0 (get_or counts place 0) ≡ is_over_some_limit t code
over_at t [] counts code place same are at = absurd (omega (arith, at.within))
over_at t (first ∷ rest) counts code place same are at =
    let materials : List MaterialRow = first ∷ rest in
    ap (λ list. nat_lt 0 (get_or list place 0)) (are ∙ ap (map (own_of_material t)) (sym same))
    ∙ ap (nat_lt 0) (get_or-map (own_of_material t) materials place first 0 at.within)
    ∙ sym (ap (λ rows. option_map_or (λ material. nat_lt 0 (own_of_material t material)) (row_of (λ row. row.code) code_cmp code rows) false) (sym same) ∙ ap (λ o. option_map_or (λ material. nat_lt 0 (own_of_material t material)) o false) (at.found first))

pub over_nowhere : (t : Lists) (materials : List MaterialRow) (code : List ℕ) (place : ℕ) → materials ≡ t.materials → StandsNowhere (λ row. row.code) code_cmp code materials place → false ≡ is_over_some_limit t code
over_nowhere t materials code place same nowhere =
    sym (ap (λ rows. option_map_or (λ material. nat_lt 0 (own_of_material t material)) (row_of (λ row. row.code) code_cmp code rows) false) (sym same) ∙ ap (λ o. option_map_or (λ material. nat_lt 0 (own_of_material t material)) o false) nowhere.absent)

module _ (t : Lists) where
  found_on : List ℕ → MaterialRow → Bool
  found_on code material = reaches t code material.code && nat_lt 0 (length (findings_on t material))

  found_at : List ℕ → PartRow → Bool
  found_at code part = is_article_sort part.sort && is_or_reaches t code part.code && nat_lt 0 (length (findings_of_article t part))

  -- a part has findings where it reaches a material, or reaches or is an article, that has some
  found_where : (code : List ℕ) → nat_lt 0 (length (findings t code)) ≡ (list_any (found_on code) t.materials || list_any (found_at code) t.parts)
  unfolding findings found_on found_at
  found_where code =
      some_append (flat_map (findings_on t) (materials_in t code)) (flat_map (findings_of_article t) (articles_in t code))
      ∙ ap (λ b. b || nat_lt 0 (length (flat_map (findings_of_article t) (articles_in t code)))) (some_made (findings_on t) (λ material. reaches t code material.code) t.materials)
      ∙ ap (λ b. list_any (λ material. reaches t code material.code && nat_lt 0 (length (findings_on t material))) t.materials || b)
      (some_made (findings_of_article t) (λ part. is_article_sort part.sort && is_or_reaches t code part.code) t.parts)

  sort_of : (article : Bool) (n : ℕ) → nat_lt 0 (if article then n else 0) ≡ true → (article ≡ true) × (nat_lt 0 n ≡ true)
  sort_of true n e = (refl, e)
  sort_of false n e = absurd (false≢true (sym (le-ltb 0 0 (omega arith)) ∙ e))

  -- an article with findings of its own
  pub article_found : (parts : List PartRow) (counts : List ℕ) (place : ℕ) (row : PartRow) → parts ≡ t.parts → counts ≡ map (own_of_part t) t.parts → place < length counts → row ≡ get_or parts place row → nat_lt 0 (get_or counts place 0) ≡ true
      → (is_part t row.code ≡ true) × (nat_lt 0 (length (findings t row.code)) ≡ true)
  unfolding found_at
  article_found parts counts place row same are l is e =
      let within : place < length t.parts = omega (arith, l, ap length are, length-map t.parts (own_of_part t)) in
      let here : row ≡ get_or t.parts place row = is ∙ ap (λ rows. get_or rows place row) same in
      let own : nat_lt 0 (own_of_part t row) ≡ true =
      ap (λ r. nat_lt 0 (own_of_part t r)) here ∙ ap (nat_lt 0) (sym (ap (λ list. get_or list place 0) are ∙ get_or-map (own_of_part t) t.parts place row 0 within)) ∙ e in
      let sort = sort_of (is_article_sort row.sort) (length (findings_of_article t row)) own in
      let itself : is_or_reaches t row.code row.code ≡ true = or_left (same_code row.code row.code) (reaches t row.code row.code) (same_code-from row.code row.code refl) in
      let passes : found_at row.code row ≡ true =
      and_from (is_article_sort row.sort && is_or_reaches t row.code row.code) (nat_lt 0 (length (findings_of_article t row))) (and_from (is_article_sort row.sort) (is_or_reaches t row.code row.code) sort.0 itself) sort.1 in (
        sym (ap (λ r. is_part t r.code) (sym here)) ∙ All-from_recursion (λ part. is_part t part.code ≡ true) t.parts (each_kept (λ row. row.code) code_cmp code_cmp_total t.parts) place row within,
        found_where row.code ∙ or_right (list_any (found_on row.code) t.materials) (list_any (found_at row.code) t.parts)
            (list_any_at (found_at row.code) t.parts place row within (ap (found_at row.code) (sym here) ∙ passes)),
      )

  own_findings_on : (material : MaterialRow) → length (findings_on t material) ≡ own_of_material t material
  own_findings_on material = length-map (rules_over t material) (λ rule. Finding.over material.code rule)

  over_found : (code child : List ℕ) (found : Option MaterialRow) → material_row t child ≡ found → option_map_or (λ material. nat_lt 0 (own_of_material t material)) found false ≡ true → reaches t code child ≡ true → list_any (found_on code) t.materials ≡ true
  unfolding found_on
  over_found code child None is e r = absurd (false≢true e)
  over_found code child (Some material) is e r =
      let named = found_each (λ row. row.code) (λ row. Unit {0}) child t.materials material (each (λ row. Unit {0}) (λ row. tt) t.materials) is in
      found_any (λ row. row.code) (found_on code) child t.materials material is
      (and_from (reaches t code material.code) (nat_lt 0 (length (findings_on t material))) (ap (reaches t code) named.1 ∙ r) (ap (nat_lt 0) (own_findings_on material) ∙ e))

  module _ (s : IsConsistent t) where
    -- the parent of a line to a material that is over some limit
    pub parent_found : (lines : List LineRow) (place : ℕ) (row : LineRow) → lines ≡ t.lines → place < length t.lines → row ≡ get_or lines place row → ((d : LineRow) → is_over_some_limit t (get_or t.lines place d).child ≡ true)
        → (is_part t row.parent ≡ true) × (nat_lt 0 (length (findings t row.parent)) ≡ true)
    parent_found lines place row same l is over =
        let here : row ≡ get_or t.lines place row = is ∙ ap (λ rows. get_or rows place row) same in
        let right : has_right_child t row ≡ true = ap (has_right_child t) here ∙ All-from_recursion (λ line. has_right_child t line ≡ true) t.lines (each_from_all (has_right_child t) t.lines (right_of t s)) place row l in
        let by : (target : List ℕ) → is_or_reaches t row.child target ≡ true → reaches t row.parent target ≡ true =
        subst (λ (line : LineRow). (target : List ℕ) → is_or_reaches t line.child target ≡ true → reaches t line.parent target ≡ true) (sym here)
        (All-from_recursion (λ line. (target : List ℕ) → is_or_reaches t line.child target ≡ true → reaches t line.parent target ≡ true) t.lines (by_line t (parents_of t s)) place row l) in
        let reached : reaches t row.parent row.child ≡ true = by row.child (or_left (same_code row.child row.child) (reaches t row.child row.child) (same_code-from row.child row.child refl)) in (
          right_parent t row right,
          found_where row.parent ∙ or_left (list_any (found_on row.parent) t.materials) (list_any (found_at row.parent) t.parts)
              (over_found row.parent row.child (material_row t row.child) refl (ap (λ line. is_over_some_limit t line.child) here ∙ over row) reached),
        )

    -- where there is neither nothing is found
    pub nothing_found_at_all : list_any (λ count. nat_lt 0 count) (map (own_of_part t) t.parts) ≡ false → list_any (λ line. is_over_some_limit t line.child) t.lines ≡ false → finding_count t ≡ 0
    unfolding finding_count found_on found_at
    nothing_found_at_all parts lines =
        sum_zero (λ part. length (findings t part.code)) t.parts
        (each (λ part. length (findings t part.code) ≡ 0) (λ part. none_of part.code) t.parts)
      where
        and_none : (a b : Bool) → (b ≡ true → a ≡ false) → (a && b) ≡ false
        and_none true true f = f refl
        and_none true false f = refl
        and_none false b f = refl

        article_none : (article through : Bool) (n : ℕ) → nat_lt 0 (if article then n else 0) ≡ false → (article && through && nat_lt 0 n) ≡ false
        article_none true true n e = e
        article_none true false n e = refl
        article_none false through n e = refl

        unreached_over : (code : List ℕ) (material : MaterialRow) → row_of (λ row. row.code) code_cmp material.code t.materials ≡ Some material → nat_lt 0 (length (findings_on t material)) ≡ true → reaches t code material.code ≡ false
        unreached_over code material is over =
            let some : is_over_some_limit t material.code ≡ true =
            ap (λ o. option_map_or (λ m. nat_lt 0 (own_of_material t m)) o false) is ∙ ap (nat_lt 0) (sym (own_findings_on material)) ∙ over in
            unreached t.lines material.code
            (each_map (λ (line : LineRow). is_over_some_limit t line.child ≡ false) (λ line. same_code line.child material.code ≡ false)
            (λ line none. false_from_ne_true (same_code line.child material.code) (λ same. true≢false (sym some ∙ ap (is_over_some_limit t) (sym (same_code-true line.child material.code same)) ∙ none)))
            t.lines (none_from_any (λ line. is_over_some_limit t line.child) t.lines lines))
            (enough t) code

        materials_none : (code : List ℕ) → list_any (found_on code) t.materials ≡ false
        materials_none code =
            any_none (found_on code) t.materials
            (each_map (λ (material : MaterialRow). row_of (λ row. row.code) code_cmp material.code t.materials ≡ Some material) (λ material. found_on code material ≡ false)
            (λ material is. and_none (reaches t code material.code) (nat_lt 0 (length (findings_on t material))) (unreached_over code material is))
            t.materials (own_row t.materials s.ordered.materials))

        parts_none : (code : List ℕ) → list_any (found_at code) t.parts ≡ false
        parts_none code =
            any_none (found_at code) t.parts
            (each_map (λ (part : PartRow). nat_lt 0 (own_of_part t part) ≡ false) (λ part. found_at code part ≡ false)
            (λ part none. article_none (is_article_sort part.sort) (is_or_reaches t code part.code) (length (findings_of_article t part)) none)
            t.parts (none_from_any (λ part. nat_lt 0 (own_of_part t part)) t.parts (sym (any-map (λ count. nat_lt 0 count) (own_of_part t) t.parts) ∙ parts)))

        none_of : (code : List ℕ) → length (findings t code) ≡ 0
        none_of code =
            let none : nat_lt 0 (length (findings t code)) ≡ false = found_where code ∙ rw (materials_none code, parts_none code) refl in
            omega (arith, ltb-false 0 (length (findings t code)) none)

-- nothing is not too much
pub few_findings : (t : Lists) → finding_count t ≡ 0 → has_too_many_findings t ≡ false
unfolding has_too_many_findings
few_findings t e = ap (nat_lt FINDING_LIMIT) e ∙ le-ltb FINDING_LIMIT 0 (omega arith)

-- where there are too many findings a part is found that has some
pub many_found : (t : Lists) {E : Type 0} (result : Result (Option (List ℕ)) E) → has_too_many_findings t ≡ true
    → IfOk result (λ found. MatchOption found (finding_count t ≡ 0) (λ code. (is_part t code ≡ true) × (nat_lt 0 (length (findings t code)) ≡ true)))
    → IfOk result (λ found. MatchOption found (has_too_many_findings t ≡ false) (λ code. (has_too_many_findings t ≡ true) × (is_part t code ≡ true) × (nat_lt 0 (length (findings t code)) ≡ true)))
many_found t (Ok None) many none = few_findings t none
many_found t (Ok (Some code)) many found = (many, found.0, found.1)
many_found t (Err e) many h = tt
