-- Which finding a mark tells.
use Rattle.std.proofs.Common.{◌≡◌, ℕ, ◌+◌, ◌*◌, ◌<◌, true, false, List, [], filter, length, Option, Some, None, is_some, refl, sym, ap, ◌∙◌, subst, arith}
use Rattle.std.specs.Prelude.{if◌then◌else◌}
use Rattle.std.specs.List.{AllByRecursion}
use Rattle.std.specs.Option.{option_map_or}
use Rattle.std.proofs.lemmas.Bool.{both_ways, eq-eqb, false_from_ne_true, or_left, or_right}
use Rattle.desk_text.specs.Code.{code_cmp}
use Rattle.desk_law.specs.declared.rule.Rule.{Rule}
use Rattle.desk_law.specs.Rule.{rule_number}
use Rattle.desk_law.proofs.Rules.{rule_below, same_rule-true}
use Rattle.desk_graph.specs.Graph.{label_of}
use Rattle.desk_model.specs.declared.rows.material.MaterialRow.{MaterialRow}
use Rattle.desk_model.specs.declared.rows.part.PartRow.{PartRow}
use Rattle.desk_model.specs.Lists.{Lists, is_kept, is_material, is_part, material_row, part_row}
use Rattle.desk_model.proofs.Elements.{any_gives, each, each_filter, each_map, each_of_map}
use Rattle.desk_model.proofs.Kept.{code_cmp_total, each_kept, found_each}
use Rattle.desk_findings.specs.Above.{is_above, is_candidate}
use Rattle.desk_findings.specs.Articles.{is_article, is_article_sort}
use Rattle.desk_findings.specs.Findings.{Finding, above, findings_of_article, findings_on, over, own_findings, rules_over, same_finding}
use Rattle.desk_findings.specs.Holders.{holder}
use Rattle.desk_findings.specs.Numbering.{is_found}
use Rattle.desk_findings.proofs.Children.{is_part-article, not_part}
use Rattle.desk_findings.proofs.FindingsOnce.{same_finding-true}
use Rattle.desk_history.specs.Sound.{IsConsistent}
use Rattle.desk_bridge.specs.Bridge.{IsNumbered, place_of}
use Rattle.desk_bridge.specs.Numbers.{AreNames, finding_number}
use Rattle.desk_bridge.proofs.Found.{node_of-kept, node_of-taken}
use Rattle.desk_bridge.proofs.Sorted.{all_both}
use Rattle.desk_engine.specs.Answers.{HasNumber, IsNumber}

first_part : (a b c d : ℕ) → c < 4294967296 → d < 4294967296 → a * 4294967296 + c ≡ b * 4294967296 + d → a ≡ b
first_part a b c d low lower e = omega arith

last_part : (a b c d : ℕ) → c < 4294967296 → d < 4294967296 → a * 4294967296 + c ≡ b * 4294967296 + d → c ≡ d
last_part a b c d low lower e = omega arith

-- a finding of tables: on a kept material, or of a candidate in an article
abbrev pub IsOf : Lists → Finding → Type 0
IsOf t (over material rule) = is_material t material ≡ true
IsOf t (above article substance) = (is_article t article ≡ true) × (is_candidate t substance ≡ true)

module _ (t : Lists) where
  of_row : (code : List ℕ) (o : Option MaterialRow) → material_row t code ≡ o → AllByRecursion (IsOf t) (option_map_or (findings_on t) o [])
  of_row code None e = tt
  of_row code (Some material) e =
      let is = (found_each (λ row. row.code) (λ row. Unit {0}) code t.materials material (each (λ row. Unit {0}) (λ row. tt) t.materials) e).1 in
      let kept : is_material t material.code ≡ true = subst (λ c. is_material t c ≡ true) (sym is) (ap is_some e) in
      each_of_map (IsOf t) (over material.code) (rules_over t material) (each (λ rule. is_material t material.code ≡ true) (λ rule. kept) (rules_over t material))

  of_article : (code : List ℕ) (o : Option PartRow) → part_row t code ≡ o → AllByRecursion (IsOf t) (option_map_or (λ part. if is_article_sort part.sort then findings_of_article t part else []) o [])
  of_article code None e = tt
  of_article code (Some part) e =
      elim (is_article_sort part.sort) as (λ b. is_article_sort part.sort ≡ b → AllByRecursion (IsOf t) (if b then findings_of_article t part else [])) [
        | true ↦ λ sort.
            let is = (found_each (λ row. row.code) (λ row. Unit {0}) code t.parts part (each (λ row. Unit {0}) (λ row. tt) t.parts) e).1 in
            let article : is_article t part.code ≡ true = subst (λ c. is_article t c ≡ true) (sym is) (ap (λ o. option_map_or (λ p. is_article_sort p.sort) o false) e ∙ sort) in
            each_of_map (IsOf t) (λ candidate. above part.code candidate.substance) (filter (λ candidate. is_above t part.code candidate.substance) t.candidates)
            (each_map (λ candidate. (is_candidate t candidate.substance ≡ true) × (is_above t part.code candidate.substance ≡ true)) (λ candidate. (is_article t part.code ≡ true) × (is_candidate t candidate.substance ≡ true)) (λ candidate h. (article, h.0))
            (filter (λ candidate. is_above t part.code candidate.substance) t.candidates)
            (each_filter (λ candidate. is_candidate t candidate.substance ≡ true) (λ candidate. is_above t part.code candidate.substance) t.candidates (each_kept (λ row. row.substance) code_cmp code_cmp_total t.candidates)))
        | false ↦ λ sort. tt
      ] refl

  each_of : (code : List ℕ) → AllByRecursion (IsOf t) (own_findings t code)
  unfolding own_findings
  each_of code = all_both (IsOf t) (option_map_or (findings_on t) (material_row t code) []) (option_map_or (λ part. if is_article_sort part.sort then findings_of_article t part else []) (part_row t code) []) (of_row code (material_row t code) refl) (of_article code (part_row t code) refl)

  pub found_of : (finding : Finding) → is_found t finding ≡ true → IsOf t finding
  found_of finding e =
      any_gives (same_finding finding) (own_findings t (holder finding)) {G = IsOf t finding}
      (each_map (IsOf t) (λ one. same_finding finding one ≡ true → IsOf t finding) (λ one is same. subst (IsOf t) (sym (same_finding-true finding one same)) is) (own_findings t (holder finding)) (each_of (holder finding))) e

  pub material_kept : (code : List ℕ) → is_material t code ≡ true → is_kept t code ≡ true
  material_kept code e = or_left (is_material t code) (is_part t code) e

  pub article_kept : (code : List ℕ) → is_article t code ≡ true → is_kept t code ≡ true
  article_kept code e = or_right (is_material t code) (is_part t code) (is_part-article t code e)

  pub holder_kept : (finding : Finding) → IsOf t finding → is_kept t (holder finding) ≡ true
  holder_kept (over material rule) is = material_kept material is
  holder_kept (above article substance) is = article_kept article is.0

module _ (t : Lists) (s : IsConsistent t) (labels names : List (List ℕ)) (numbered : IsNumbered t labels) (named : AreNames t names) (node what : ℕ) (low : what < 4294967296) where
  -- what the mark of a finding tells
  abbrev Tells : Finding → Type 0
  Tells (over material rule) = (node < length labels) × (label_of labels node ≡ material) × (is_material t material ≡ true) × (rule_number rule ≡ what)
  Tells (above article substance) = (node < length labels) × (label_of labels node ≡ article) × (is_material t article ≡ false) × (what < length names) × (label_of names what ≡ substance)

  tells_of : (finding : Finding) → IsOf t finding → finding_number labels names finding ≡ node * 4294967296 + what → Tells finding
  tells_of (over material rule) is e =
      let at = node_of-kept t labels numbered material (material_kept t material is) in
      let same : place_of labels material ≡ node = first_part (place_of labels material) node (rule_number rule) what (rule_below rule) low e in
      (subst (λ n. n < length labels) same at.0, ap (label_of labels) (sym same) ∙ at.1, is, last_part (place_of labels material) node (rule_number rule) what (rule_below rule) low e)
  tells_of (above article substance) is e =
      let at = node_of-kept t labels numbered article (article_kept t article is.0) in
      let name = node_of-taken names substance (named.named substance is.1) in
      let below : place_of names substance < 4294967296 = omega (arith, name.0, named.few) in
      let same : place_of labels article ≡ node = first_part (place_of labels article) node (place_of names substance) what below low e in
      let named_same : place_of names substance ≡ what = last_part (place_of labels article) node (place_of names substance) what below low e in
      let none : is_material t article ≡ false = false_from_ne_true (is_material t article) (λ material. both_ways (is_part t article) (not_part t s.codes_apart article material) (is_part-article t article is.0)) in
      (subst (λ n. n < length labels) same at.0, ap (label_of labels) (sym same) ∙ at.1, none, subst (λ n. n < length names) named_same name.0, ap (label_of names) (sym named_same) ∙ name.1)

  abbrev Number : Type 0
  Number = IsNumber t labels names (node * 4294967296 + what)

  tells : (is : Number) → Tells is.0
  tells is = tells_of is.0 (found_of t is.0 is.1) is.2

  there_of : (finding : Finding) → Tells finding → node < length labels
  there_of (over material rule) h = h.0
  there_of (above article substance) h = h.0

  pub node_there : Number → node < length labels
  node_there is = there_of is.0 (tells is)

  not_material : {G : Type 0} (code : List ℕ) → label_of labels node ≡ code → is_material t code ≡ false → is_material t (label_of labels node) ≡ true → G
  not_material code e none is = absurd (both_ways (is_material t code) none (ap (is_material t) (sym e) ∙ is))

  rule_of_told : (finding : Finding) → Tells finding → is_material t (label_of labels node) ≡ true → (rule : Rule) × (rule_number rule ≡ what)
  rule_of_told (over material rule) h is = (rule, h.3)
  rule_of_told (above article substance) h is = not_material article h.1 h.2 is

  pub has_rule : Number → is_material t (label_of labels node) ≡ true → (rule : Rule) × (rule_number rule ≡ what)
  has_rule is material = rule_of_told is.0 (tells is) material

  over_told : (finding : Finding) → Tells finding → is_material t (label_of labels node) ≡ true → (rule : Rule) → rule_number rule ≡ what → finding ≡ over (label_of labels node) rule
  over_told (over material other) h is rule e = ap (λ c. over c other) (sym h.1) ∙ ap (over (label_of labels node)) (same_rule-true other rule (eq-eqb (rule_number other) (rule_number rule) (h.3 ∙ sym e)))
  over_told (above article substance) h is rule e = not_material article h.1 h.2 is

  pub tells_over : (is : Number) → is_material t (label_of labels node) ≡ true → (code : List ℕ) (rule : Rule) → code ≡ label_of labels node → rule_number rule ≡ what → HasNumber t labels names (node * 4294967296 + what) (over code rule)
  tells_over is material code rule at e =
      let one : is.0 ≡ over code rule = over_told is.0 (tells is) material rule e ∙ ap (λ c. over c rule) (sym at) in
      record { found = subst (λ f. is_found t f ≡ true) one is.1; number = subst (λ f. finding_number labels names f ≡ node * 4294967296 + what) one is.2 }

  name_of_told : (finding : Finding) → Tells finding → is_material t (label_of labels node) ≡ false → what < length names
  name_of_told (over material rule) h is = absurd (both_ways (is_material t material) (ap (is_material t) (sym h.1) ∙ is) h.2)
  name_of_told (above article substance) h is = h.3

  pub name_there : Number → is_material t (label_of labels node) ≡ false → what < length names
  name_there is none = name_of_told is.0 (tells is) none

  above_told : (finding : Finding) → Tells finding → is_material t (label_of labels node) ≡ false → finding ≡ above (label_of labels node) (label_of names what)
  above_told (over material rule) h is = absurd (both_ways (is_material t material) (ap (is_material t) (sym h.1) ∙ is) h.2)
  above_told (above article substance) h is = ap (λ c. above c substance) (sym h.1) ∙ ap (above (label_of labels node)) (sym h.4)

  pub tells_above : (is : Number) → is_material t (label_of labels node) ≡ false → (code substance : List ℕ) → code ≡ label_of labels node → substance ≡ label_of names what → HasNumber t labels names (node * 4294967296 + what) (above code substance)
  tells_above is none code substance at e =
      let one : is.0 ≡ above code substance = above_told is.0 (tells is) none ∙ ap (λ c. above c (label_of names what)) (sym at) ∙ ap (above code) (sym e) in
      record { found = subst (λ f. is_found t f ≡ true) one is.1; number = subst (λ f. finding_number labels names f ≡ node * 4294967296 + what) one is.2 }
