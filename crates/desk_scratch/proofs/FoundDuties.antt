-- The findings of a part, and its duties to inform.
use Rattle.std.proofs.Common.{◌≡◌, ◌∙◌, ap, refl, sym, ℕ, Bool, true, false, List, [], ◌∷◌, ◌++◌, Some, filter, map}
use Rattle.std.specs.Prelude.{◌&&◌, ◌||◌, if◌then◌else◌}
use Rattle.std.specs.List.{AllByRecursion, flat_map, list_any}
use Rattle.std.specs.Option.{option_map_or}
use Rattle.std.proofs.lemmas.Bool.{and_from, and_parts, eq-eqb, or_left, or_right}
use Rattle.std.proofs.lemmas.List.Concat.{flat_map-append}
use Rattle.desk_text.specs.Code.{code_cmp, same_code}
use Rattle.desk_text.specs.Day.{Date, is_not_after}
use Rattle.desk_text.proofs.CodeLemmas.{same_code_itself}
use Rattle.desk_law.specs.Rule.{rule_number, same_rule}
use Rattle.desk_model.specs.declared.rows.candidate.CandidateRow.{CandidateRow}
use Rattle.desk_model.specs.declared.rows.material.MaterialRow.{MaterialRow}
use Rattle.desk_model.specs.declared.rows.part.PartRow.{PartRow}
use Rattle.desk_model.specs.Lists.{IsOrdered, Lists, candidate_row, is_part, part_row}
use Rattle.desk_model.proofs.Elements.{each, each_both, each_filter, each_map, each_of_map}
use Rattle.desk_model.proofs.Kept.{code_cmp_total}
use Rattle.desk_findings.specs.Above.{is_above}
use Rattle.desk_findings.specs.Articles.{articles_in, is_article, is_article_sort, materials_in}
use Rattle.desk_findings.specs.Duties.{Duty, duties, duties_for}
use Rattle.desk_findings.specs.Findings.{Finding, above, findings, findings_of_article, findings_on, is_in, over, rules_over, same_finding}
use Rattle.desk_findings.specs.Reaches.{is_or_reaches}
use Rattle.desk_tables.proofs.OwnMasses.{each_found}
use Rattle.desk_scratch.specs.LookUps.{IsFound, IsHeldAbove, IsRightlyAbove, duty_of, is_finding_due}
use Rattle.desk_scratch.proofs.FlatMaps.{each_nothing, each_the_same, of_flat_map, of_map}
use Rattle.desk_scratch.proofs.Lines.{flat_map-filter, map-filter}

each_append : {X : Type 0} (P : X → Type 0) (xs ys : List X) → AllByRecursion P xs → AllByRecursion P ys → AllByRecursion P (xs ++ ys)
each_append P [] ys h k = k
each_append P (x ∷ xs) ys h k = (h.0, each_append P xs ys h.1 k)

each_of_flat_map : {X Y : Type 0} (P : Y → Type 0) (f : X → List Y) (xs : List X) → AllByRecursion (λ x. AllByRecursion P (f x)) xs → AllByRecursion P (flat_map f xs)
each_of_flat_map P f [] a = tt
each_of_flat_map P f (x ∷ xs) a = each_append P (f x) (flat_map f xs) a.0 (each_of_flat_map P f xs a.1)

same_itself : (finding : Finding) → same_finding finding finding ≡ true
same_itself (over m rule) = and_from (same_code m m) (same_rule rule rule) (same_code_itself m) (eq-eqb (rule_number rule) (rule_number rule) refl)
same_itself (above a s) = and_from (same_code a a) (same_code s s) (same_code_itself a) (same_code_itself s)

-- each finding of a list is in it
each_in : (all list : List Finding) → ((finding : Finding) → is_in finding list ≡ true → is_in finding all ≡ true) → AllByRecursion (λ finding. is_in finding all ≡ true) list
each_in all [] f = tt
each_in all (one ∷ list) f = (
  f one (or_left (same_finding one one) (is_in one list) (same_itself one)),
  each_in all list (λ finding e. f finding (or_right (same_finding finding one) (is_in finding list) e)),
)

twice : (a b : Bool) {X : Type 0} (x : X) → (if a then (if b then x ∷ [] else []) else []) ≡ (if a && b then x ∷ [] else [])
twice true b x = refl
twice false b x = refl

module _ (t : Lists) (ordered : IsOrdered t) (part : List ℕ) where
  abbrev IsHeld : PartRow → Type 0
  IsHeld article = (part_row t article.code ≡ Some article) × ((is_article_sort article.sort && is_or_reaches t part article.code) ≡ true)

  articles_found : AllByRecursion IsHeld (articles_in t part)
  articles_found =
      each_filter (λ (article : PartRow). part_row t article.code ≡ Some article) (λ other. is_article_sort other.sort && is_or_reaches t part other.code) t.parts
      (each_found (λ (row : PartRow). row.code) code_cmp code_cmp_total t.parts ordered.parts)

  of_materials : (materials : List MaterialRow) → AllByRecursion (IsRightlyAbove t) (flat_map (findings_on t) materials)
  of_materials materials =
      each_of_flat_map (IsRightlyAbove t) (findings_on t) materials
      (each (λ material. AllByRecursion (IsRightlyAbove t) (findings_on t material))
      (λ material. each_of_map (IsRightlyAbove t) (over material.code) (rules_over t material) (each (λ rule. IsRightlyAbove t (over material.code rule)) (λ rule. tt) (rules_over t material))) materials)

  of_article : (article : PartRow) → IsHeld article → AllByRecursion (IsRightlyAbove t) (findings_of_article t article)
  of_article article held =
      let sort : is_article_sort article.sort ≡ true = (and_parts (is_article_sort article.sort) (is_or_reaches t part article.code) held.1).0 in
      let article_there : is_article t article.code ≡ true = ap (λ row. option_map_or (λ (one : PartRow). is_article_sort one.sort) row false) held.0 ∙ sort in
      let kept : is_part t article.code ≡ true = ap (λ (row : Rattle.std.specs.Prelude.Option PartRow). Rattle.std.specs.Prelude.is_some row) held.0 in
      each_of_map (IsRightlyAbove t) (λ (candidate : CandidateRow). above article.code candidate.substance) (filter (λ candidate. is_above t article.code candidate.substance) t.candidates)
      (each_map (λ (candidate : CandidateRow). (candidate ≡ candidate) × (is_above t article.code candidate.substance ≡ true)) (λ candidate. IsHeldAbove t article.code candidate.substance)
      (λ candidate h. record { kept = kept; is_article = article_there; above = h.1 }) (filter (λ candidate. is_above t article.code candidate.substance) t.candidates)
      (each_filter (λ candidate. candidate ≡ candidate) (λ candidate. is_above t article.code candidate.substance) t.candidates (each (λ candidate. candidate ≡ candidate) (λ candidate. refl) t.candidates)))

  right : AllByRecursion (IsRightlyAbove t) (findings t part)
  unfolding findings
  right =
      each_append (IsRightlyAbove t) (flat_map (findings_on t) (materials_in t part)) (flat_map (findings_of_article t) (articles_in t part)) (of_materials (materials_in t part))
      (each_of_flat_map (IsRightlyAbove t) (findings_of_article t) (articles_in t part) (each_map IsHeld (λ article. AllByRecursion (IsRightlyAbove t) (findings_of_article t article)) of_article (articles_in t part) articles_found))

  -- each of a part's findings is one of its findings
  pub each_is_found : AllByRecursion (IsFound t part) (findings t part)
  each_is_found =
      each_map (λ finding. (is_in finding (findings t part) ≡ true) × IsRightlyAbove t finding) (IsFound t part) (λ finding h. record { there = h.0; above = h.1 }) (findings t part)
      (each_both (λ finding. is_in finding (findings t part) ≡ true) (IsRightlyAbove t) (findings t part) (each_in (findings t part) (findings t part) (λ finding e. e)) right)

  module _ (day : Date) where
    abbrev duty_list : Finding → List Duty
    duty_list finding = if is_finding_due t day finding then duty_of finding ∷ [] else []

    no_material : (material : MaterialRow) → flat_map duty_list (findings_on t material) ≡ []
    unfolding is_finding_due
    no_material material =
        of_map duty_list (over material.code) (rules_over t material)
        ∙ each_nothing (λ rule. duty_list (over material.code rule)) (rules_over t material) (each (λ rule. duty_list (over material.code rule) ≡ []) (λ rule. refl) (rules_over t material))

    of_candidate : (article : List ℕ) (candidate : CandidateRow) → candidate_row t candidate.substance ≡ Some candidate
        → (if is_above t article candidate.substance then duty_list (above article candidate.substance) else [])
        ≡ (if is_above t article candidate.substance && is_not_after candidate.day day then (record { article = article; substance = candidate.substance }) ∷ [] else [])
    unfolding is_finding_due
    of_candidate article candidate found =
        let duty : Duty = record { article = article; substance = candidate.substance } in
        ap (λ row. if is_above t article candidate.substance then (if option_map_or (λ (one : CandidateRow). is_not_after one.day day) row false then duty ∷ [] else []) else []) found
        ∙ twice (is_above t article candidate.substance) (is_not_after candidate.day day) duty

    duties_of : (article : List ℕ) → flat_map duty_list (map (λ (candidate : CandidateRow). above article candidate.substance) (filter (λ candidate. is_above t article candidate.substance) t.candidates)) ≡ duties_for t day article
    duties_of article =
        let test = λ (candidate : CandidateRow). is_above t article candidate.substance in
        let due = λ (candidate : CandidateRow). is_above t article candidate.substance && is_not_after candidate.day day in
        let duty : CandidateRow → Duty = λ candidate. record { article = article; substance = candidate.substance } in
        of_map duty_list (λ (candidate : CandidateRow). above article candidate.substance) (filter test t.candidates)
        ∙ flat_map-filter (λ (candidate : CandidateRow). duty_list (above article candidate.substance)) test t.candidates
        ∙ each_the_same (λ candidate. if test candidate then duty_list (above article candidate.substance) else []) (λ candidate. if due candidate then duty candidate ∷ [] else []) t.candidates
        (each_map (λ (candidate : CandidateRow). candidate_row t candidate.substance ≡ Some candidate) (λ candidate. (if test candidate then duty_list (above article candidate.substance) else []) ≡ (if due candidate then duty candidate ∷ [] else []))
        (of_candidate article) t.candidates (each_found (λ (row : CandidateRow). row.substance) code_cmp code_cmp_total t.candidates ordered.candidates))
        ∙ sym (map-filter duty due t.candidates)

    -- the duties are the findings on articles whose candidate was included by the day
    pub found_duties : duties t part day ≡ map duty_of (filter (is_finding_due t day) (findings t part))
    unfolding duties findings
    found_duties =
        let first : flat_map duty_list (flat_map (findings_on t) (materials_in t part)) ≡ [] =
        of_flat_map duty_list (findings_on t) (materials_in t part)
        ∙ each_nothing (λ material. flat_map duty_list (findings_on t material)) (materials_in t part) (each (λ material. flat_map duty_list (findings_on t material) ≡ []) no_material (materials_in t part)) in
        let second : flat_map duty_list (flat_map (findings_of_article t) (articles_in t part)) ≡ flat_map (λ article. duties_for t day article.code) (articles_in t part) =
        of_flat_map duty_list (findings_of_article t) (articles_in t part)
        ∙ each_the_same (λ article. flat_map duty_list (findings_of_article t article)) (λ article. duties_for t day article.code) (articles_in t part)
        (each (λ article. flat_map duty_list (findings_of_article t article) ≡ duties_for t day article.code) (λ article. duties_of article.code) (articles_in t part)) in
        sym
        (map-filter duty_of (is_finding_due t day) (flat_map (findings_on t) (materials_in t part) ++ flat_map (findings_of_article t) (articles_in t part))
        ∙ flat_map-append duty_list (flat_map (findings_on t) (materials_in t part)) (flat_map (findings_of_article t) (articles_in t part))
        ∙ ap (λ list. list ++ flat_map duty_list (flat_map (findings_of_article t) (articles_in t part))) first
        ∙ second)
