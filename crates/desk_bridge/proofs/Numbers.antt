-- Numbers of findings.
use Rattle.std.proofs.Common.{◌≡◌, ℕ, zero, suc, ◌+◌, ◌-◌, ◌*◌, ◌<◌, Bool, true, false, ◌==◌, ◌&&◌, List, [], ◌∷◌, ◌++◌, length, filter, count_by, Option, Some, None, is_some, refl, sym, ap, ◌∙◌, subst, inl, inr, arith}
use Rattle.std.specs.Prelude.{if◌then◌else◌, nat_lt, slice_index_or}
use Rattle.std.specs.List.{AllByRecursion, list_any}
use Rattle.std.specs.Option.{option_map_or}
use Rattle.std.proofs.lemmas.Bool.{both_ways, cases_Bool, cases_lt, eq-eqb, false≢true, or_left, or_right}
use Rattle.std.proofs.lemmas.List.{get_or_append_left, get_or_past}
use Rattle.std.proofs.Math.Seq.{get_or-append_right}
use Rattle.desk_text.specs.Code.{code_cmp, same_code}
use Rattle.desk_law.specs.declared.rule.Rule.{Rule}
use Rattle.desk_law.specs.Rule.{rule_number}
use Rattle.desk_law.proofs.Rules.{rule_below, same_rule-true}
use Rattle.desk_graph.specs.Graph.{Graph, label_of}
use Rattle.desk_graph.specs.Reaches.{has_node}
use Rattle.desk_rollup.specs.Plan.{CanPrepare, nodes_of_owns}
use Rattle.desk_rollup.specs.Values.{KeptValues, OwnValues, own_at, own_with}
use Rattle.desk_model.specs.declared.edit.Edit.{Edit}
use Rattle.desk_model.specs.declared.rows.material.MaterialRow.{MaterialRow}
use Rattle.desk_model.specs.declared.rows.part.PartRow.{PartRow}
use Rattle.desk_model.specs.Effect.{with_edit_entered}
use Rattle.desk_model.specs.Lists.{Lists, is_kept, is_material, is_part, material_row, part_row}
use Rattle.desk_model.proofs.Elements.{any_gives, any_same, each, each_filter, each_map, each_of_map}
use Rattle.desk_model.proofs.Kept.{code_cmp_total, each_kept, found_each}
use Rattle.desk_findings.specs.Above.{content, is_above, is_candidate}
use Rattle.desk_findings.specs.Articles.{is_article, is_article_sort}
use Rattle.desk_findings.specs.Carried.{own_load}
use Rattle.desk_findings.specs.Findings.{Finding, above, findings_of_article, findings_on, over, own_findings, rules_over, same_finding}
use Rattle.desk_findings.specs.Mass.{mass}
use Rattle.desk_findings.proofs.Children.{is_part-article, not_part}
use Rattle.desk_findings.proofs.FindingsOnce.{same_finding-true}
use Rattle.desk_history.specs.Sound.{IsConsistent}
use Rattle.desk_findings.specs.Holders.{holder}
use Rattle.desk_findings.specs.Numbering.{AreLabels, AreNumbered, is_found}
use Rattle.desk_bridge.specs.AfterEdit.{AreOwnOf, IsEdited, IsOwnOf}
use Rattle.desk_bridge.specs.Bridge.{IsBridge}
use Rattle.desk_bridge.proofs.Bridges.{labels_of}
use Rattle.desk_bridge.specs.Numbers.{AreNames, finding_number}
use Rattle.desk_bridge.specs.Bridge.{place_of}
use Rattle.desk_bridge.proofs.Found.{node_of-here, node_of-later, node_of-taken}
use Rattle.desk_bridge.specs.Values.{HasOwnValues}
use Rattle.desk_findings.proofs.Counted.{none_counted}
use Rattle.desk_bridge.proofs.AfterEdit.{after_consistent, can_prepare, owns_after}

abbrev is_listed : List (List ℕ) → List ℕ → Bool
is_listed codes code = list_any (λ listed. same_code listed code) codes

-- a listed code stands at its place, and stays there where the list grows
place_stays : (codes more : List (List ℕ)) (code : List ℕ) → is_listed codes code ≡ true → place_of (codes ++ more) code ≡ place_of codes code
place_stays [] more code e = absurd (false≢true e)
place_stays (first ∷ codes) more code e =
    elim (cases_Bool (same_code first code)) [
      | inl here ↦ node_of-here first (codes ++ more) code here ∙ sym (node_of-here first codes code here)
      | inr other ↦ node_of-later first (codes ++ more) code other ∙ ap suc (place_stays codes more code (rw other at e)) ∙ sym (node_of-later first codes code other)
    ]

-- codes at one place are one
one_place : (codes : List (List ℕ)) (a b : List ℕ) → is_listed codes a ≡ true → is_listed codes b ≡ true → place_of codes a ≡ place_of codes b → a ≡ b
one_place codes a b here there e = sym (node_of-taken codes a here).1 ∙ ap (λ place. slice_index_or codes place []) e ∙ (node_of-taken codes b there).1

first_part : (a b c d : ℕ) → c < 4294967296 → d < 4294967296 → a * 4294967296 + c ≡ b * 4294967296 + d → a ≡ b
first_part a b c d low lower e = omega arith

last_part : (a b c d : ℕ) → c < 4294967296 → d < 4294967296 → a * 4294967296 + c ≡ b * 4294967296 + d → c ≡ d
last_part a b c d low lower e = omega arith

-- a finding of tables: on a kept material, or of a candidate in an article
abbrev IsOf : Lists → Finding → Type 0
IsOf t (over material rule) = is_material t material ≡ true
IsOf t (above article substance) = (is_article t article ≡ true) × (is_candidate t substance ≡ true)

each_append : {X : Type 0} (P : X → Type 0) (xs ys : List X) → AllByRecursion P xs → AllByRecursion P ys → AllByRecursion P (xs ++ ys)
each_append P [] ys a b = b
each_append P (x ∷ xs) ys a b = (a.0, each_append P xs ys a.1 b)

module _ (t : Lists) where
  of_row : (code : List ℕ) (o : Option MaterialRow) → material_row t code ≡ o → AllByRecursion (IsOf t) (option_map_or (findings_on t) o [])
  of_row code None e = tt
  of_row code (Some material) e =
      let is = (found_each (λ row. row.code) (λ row. Unit {0}) code t.materials material (each (λ row. Unit {0}) (λ row. tt) t.materials) e).1 in
      let kept : is_material t material.code ≡ true = subst (λ c. is_material t c ≡ true) (sym is) (ap is_some e) in
      each_of_map (IsOf t) (over material.code) (rules_over t material) (each (λ rule. is_material t material.code ≡ true) (λ rule. kept) (rules_over t material))

  of_article : (code : List ℕ) (o : Option PartRow) → part_row t code ≡ o → AllByRecursion (IsOf t) (option_map_or (λ part. if is_article_sort part.sort then findings_of_article t part else []) o [])
  of_article code None e = tt
  of_article code (Some part) e =
      elim (is_article_sort part.sort) as (λ b. is_article_sort part.sort ≡ b → AllByRecursion (IsOf t) (if b then findings_of_article t part else [])) [
        | true ↦ λ sort.
            let is = (found_each (λ row. row.code) (λ row. Unit {0}) code t.parts part (each (λ row. Unit {0}) (λ row. tt) t.parts) e).1 in
            let article : is_article t part.code ≡ true = subst (λ c. is_article t c ≡ true) (sym is) (ap (λ o. option_map_or (λ p. is_article_sort p.sort) o false) e ∙ sort) in
            each_of_map (IsOf t) (λ candidate. above part.code candidate.substance) (filter (λ candidate. is_above t part.code candidate.substance) t.candidates)
            (each_map (λ candidate. (is_candidate t candidate.substance ≡ true) × (is_above t part.code candidate.substance ≡ true)) (λ candidate. (is_article t part.code ≡ true) × (is_candidate t candidate.substance ≡ true)) (λ candidate h. (article, h.0))
            (filter (λ candidate. is_above t part.code candidate.substance) t.candidates)
            (each_filter (λ candidate. is_candidate t candidate.substance ≡ true) (λ candidate. is_above t part.code candidate.substance) t.candidates (each_kept (λ row. row.substance) code_cmp code_cmp_total t.candidates)))
        | false ↦ λ sort. tt
      ] refl

  each_of : (code : List ℕ) → AllByRecursion (IsOf t) (own_findings t code)
  unfolding own_findings
  each_of code = each_append (IsOf t) (option_map_or (findings_on t) (material_row t code) []) (option_map_or (λ part. if is_article_sort part.sort then findings_of_article t part else []) (part_row t code) []) (of_row code (material_row t code) refl) (of_article code (part_row t code) refl)

  found_of : (finding : Finding) → is_found t finding ≡ true → IsOf t finding
  found_of finding e =
      any_gives (same_finding finding) (own_findings t (holder finding)) {G = IsOf t finding}
      (each_map (IsOf t) (λ one. same_finding finding one ≡ true → IsOf t finding) (λ one is same. subst (IsOf t) (sym (same_finding-true finding one same)) is) (own_findings t (holder finding)) (each_of (holder finding))) e

  -- what is kept is listed
  listed : (labels : List (List ℕ)) → AreLabels t labels → (code : List ℕ) → is_kept t code ≡ true → is_listed labels code ≡ true
  listed labels are code kept =
      elim (cases_Bool (is_listed labels code)) [
        | inl there ↦ there
        | inr none ↦
            let one : count_by (λ other. same_code other code) labels ≡ 1 = are code ∙ ap (λ b. if b then 1 else 0) kept in
            absurd (omega (arith, one, none_counted (λ other. same_code other code) labels none))
      ]

  kept_material : (code : List ℕ) → is_material t code ≡ true → is_kept t code ≡ true
  kept_material code e = or_left (is_material t code) (is_part t code) e

  kept_article : (code : List ℕ) → is_article t code ≡ true → is_kept t code ≡ true
  kept_article code e = or_right (is_material t code) (is_part t code) (is_part-article t code e)

  module _ (s : IsConsistent t) (labels names : List (List ℕ)) (are : AreLabels t labels) (named : AreNames t names) where
    name_below : (substance : List ℕ) → is_candidate t substance ≡ true → place_of names substance < 4294967296
    name_below substance e = omega (arith, (node_of-taken names substance (named.named substance e)).0, named.few)

    not_both : (code : List ℕ) → is_material t code ≡ true → is_article t code ≡ true → ⊥
    not_both code material article = both_ways (is_part t code) (not_part t s.codes_apart code material) (is_part-article t code article)

    same_holder : (a b : List ℕ) (c d : ℕ) → is_kept t a ≡ true → is_kept t b ≡ true → c < 4294967296 → d < 4294967296 → place_of labels a * 4294967296 + c ≡ place_of labels b * 4294967296 + d → a ≡ b
    same_holder a b c d x y low lower e = one_place labels a b (listed labels are a x) (listed labels are b y) (first_part (place_of labels a) (place_of labels b) c d low lower e)

    by_cases : (a b : Finding) → IsOf t a → IsOf t b → finding_number labels names a ≡ finding_number labels names b → a ≡ b
    by_cases (over m r) (over n q) x y e =
        let held = same_holder m n (rule_number r) (rule_number q) (kept_material m x) (kept_material n y) (rule_below r) (rule_below q) e in
        let rules = last_part (place_of labels m) (place_of labels n) (rule_number r) (rule_number q) (rule_below r) (rule_below q) e in
        ap (λ c. over c r) held ∙ ap (over n) (same_rule-true r q (eq-eqb (rule_number r) (rule_number q) rules))
    by_cases (over m r) (above a u) x y e =
        let held = same_holder m a (rule_number r) (place_of names u) (kept_material m x) (kept_article a y.0) (rule_below r) (name_below u y.1) e in
        absurd (not_both a (subst (λ c. is_material t c ≡ true) held x) y.0)
    by_cases (above a u) (over m r) x y e =
        let held = same_holder a m (place_of names u) (rule_number r) (kept_article a x.0) (kept_material m y) (name_below u x.1) (rule_below r) e in
        absurd (not_both a (subst (λ c. is_material t c ≡ true) (sym held) y) x.0)
    by_cases (above a u) (above b v) x y e =
        let held = same_holder a b (place_of names u) (place_of names v) (kept_article a x.0) (kept_article b y.0) (name_below u x.1) (name_below v y.1) e in
        let places = last_part (place_of labels a) (place_of labels b) (place_of names u) (place_of names v) (name_below u x.1) (name_below v y.1) e in
        ap (λ c. above c u) held ∙ ap (above b) (one_place names u v (named.named u x.1) (named.named v y.1) places)

    pub numbers_differ : AreNumbered t (finding_number labels names)
    numbers_differ a b x y e = by_cases a b (found_of a x) (found_of b y) e

  -- what is no candidate is no load
  no_load : (substance code : List ℕ) → is_candidate t substance ≡ false → own_load t substance code ≡ 0
  unfolding is_above
  no_load substance code e =
      ap (λ b. if is_article t code && (b && nat_lt (mass t code) (1000 * content t code substance)) then content t code substance else 0) e
      ∙ neither (is_article t code) (content t code substance)
    where
      neither : (b : Bool) (n : ℕ) → (if b && false then n else 0) ≡ 0
      neither true n = refl
      neither false n = refl

  module _ (s : IsConsistent t) (g : Graph) (bridge : IsBridge t g) (names : List (List ℕ)) (named : AreNames t names) (more others : List (List ℕ)) (fresh : AllByRecursion (λ substance. is_candidate t substance ≡ false) others) where
    number_stays : (finding : Finding) → IsOf t finding → finding_number (g.labels ++ more) (names ++ others) finding ≡ finding_number g.labels names finding
    number_stays (over material rule) is = ap (λ place. place * 4294967296 + rule_number rule) (place_stays g.labels more material (listed g.labels (labels_of t g bridge) material (kept_material material is)))
    number_stays (above article substance) is =
        ap (λ place. place * 4294967296 + place_of (names ++ others) substance) (place_stays g.labels more article (listed g.labels (labels_of t g bridge) article (kept_article article is.0)))
        ∙ ap (λ place. place_of g.labels article * 4294967296 + place) (place_stays names others substance (named.named substance is.1))

    each_or_none : (codes : List (List ℕ)) → AllByRecursion (λ substance. is_candidate t substance ≡ false) codes → (n : ℕ) → is_candidate t (slice_index_or codes n []) ≡ false
    each_or_none [] a n = named.nameless
    each_or_none (first ∷ codes) a zero = a.0
    each_or_none (first ∷ codes) a (suc n) = each_or_none codes a.1 n

    load_stays : (n : ℕ) (code : List ℕ) → own_load t (label_of names n) code ≡ own_load t (label_of (names ++ others) n) code
    load_stays n code =
        elim (cases_lt n (length names)) [
          | inl inside ↦ ap (λ name. own_load t name code) (sym (get_or_append_left names others [] n inside))
          | inr past ↦
              ap (λ name. own_load t name code) (get_or_past names n [] past)
              ∙ no_load [] code named.nameless
              ∙ sym (ap (λ name. own_load t name code) (get_or-append_right names others n [] past) ∙ no_load (slice_index_or others (n - length names) []) code (each_or_none others fresh (n - length names)))
        ]

    pub owns_grow : (own : ℕ → OwnValues) → AreOwnOf t g (finding_number g.labels names) (label_of names) own → AreOwnOf t g (finding_number (g.labels ++ more) (names ++ others)) (label_of (names ++ others)) own
    owns_grow own owns node inside =
        let was = owns node inside in record {
          weight = was.weight;
          marks = λ n.
              was.marks n
              ∙ any_same (λ finding. finding_number g.labels names finding == n) (λ finding. finding_number (g.labels ++ more) (names ++ others) finding == n) (own_findings t (label_of g.labels node))
              (each_map (IsOf t) (λ finding. (finding_number g.labels names finding == n) ≡ (finding_number (g.labels ++ more) (names ++ others) finding == n)) (λ finding is. ap (λ m. m == n) (sym (number_stays finding is))) (own_findings t (label_of g.labels node)) (each_of (label_of g.labels node)));
          loads = λ n. was.loads n ∙ load_stays n (label_of g.labels node);
        }

pub values_kept : (t : Lists) (edit : Edit) (g new : Graph) (kept : KeptValues) (owns : List OwnValues) → IsEdited t edit g new kept owns →
    (more : List (List ℕ)) → new.labels ≡ g.labels ++ more → (names others : List (List ℕ)) → AreNames t names → AreNames (with_edit_entered t edit) (names ++ others) →
    AllByRecursion (λ substance. is_candidate t substance ≡ false) others →
    AreOwnOf t g (finding_number g.labels names) (label_of names) (own_at kept.owns) →
    ((node : ℕ) → has_node (nodes_of_owns owns) node ≡ true → IsOwnOf (with_edit_entered t edit) (finding_number new.labels (names ++ others)) (label_of (names ++ others)) (label_of new.labels node) (own_with owns kept.owns node)) →
    CanPrepare new owns kept × HasOwnValues (with_edit_entered t edit) new (finding_number new.labels (names ++ others)) (label_of (names ++ others)) (own_with owns kept.owns)
values_kept t edit g new kept owns edited more grown names others named named_after fresh own given =
    let number = finding_number new.labels (names ++ others) in
    let before : AreOwnOf t g (finding_number new.labels (names ++ others)) (label_of (names ++ others)) (own_at kept.owns) =
    subst (λ labels. AreOwnOf t g (finding_number labels (names ++ others)) (label_of (names ++ others)) (own_at kept.owns)) (sym grown)
    (owns_grow t edited.consistent g edited.before names named more others fresh (own_at kept.owns) own) in
    let after : AreOwnOf (with_edit_entered t edit) new (finding_number new.labels (names ++ others)) (label_of (names ++ others)) (own_with owns kept.owns) =
    owns_after t edit g new kept owns edited (finding_number new.labels (names ++ others)) (label_of (names ++ others)) before given in (
      can_prepare t edit g new kept owns edited (finding_number new.labels (names ++ others)) (label_of (names ++ others)) after,
      record {
        consistent = after_consistent t edit g new kept owns edited;
        bridge = edited.after;
        numbered = numbers_differ (with_edit_entered t edit) (after_consistent t edit g new kept owns edited) new.labels (names ++ others) (labels_of (with_edit_entered t edit) new edited.after) named_after;
        owns = after;
      },
    )
