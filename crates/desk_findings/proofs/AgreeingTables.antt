-- Two tables that agree on what some codes have and lead to: there these codes weigh, reach, carry and find the same.
use Rattle.std.proofs.Common.{◌≡◌, ℕ, ◌*◌, Bool, true, false, cond, ◌&&◌, ◌||◌, List, [], ◌∷◌, ◌++◌, filter, find, map, sum_by, Option, Some, None, refl, sym, ap, ◌∙◌, subst, ◌⊎◌, ⊎_elim, arith}
use Rattle.std.specs.Prelude.{if◌then◌else◌, nat_lt, option_map}
use Rattle.std.specs.List.{AllByRecursion, flat_map, list_any}
use Rattle.std.specs.Option.{option_map_or}
use Rattle.std.proofs.lemmas.Bool.{and_parts, and_right, le-ltb, or_cases}
use Rattle.desk_text.specs.Code.{same_code}
use Rattle.desk_law.specs.declared.rule.Rule.{Rule}
use Rattle.desk_law.specs.Limit.{is_over, limit_of}
use Rattle.desk_law.specs.Rule.{restricting_rules}
use Rattle.desk_model.specs.declared.rows.line.LineRow.{LineRow}
use Rattle.desk_model.specs.declared.rows.material.MaterialRow.{MaterialRow}
use Rattle.desk_model.specs.declared.rows.part.PartRow.{PartRow}
use Rattle.desk_findings.specs.Above.{content, held_mass, is_above, is_candidate, mass_in}
use Rattle.desk_findings.specs.Articles.{articles_in, is_article, is_article_sort, materials_in}
use Rattle.desk_findings.specs.Carried.{carried, own_load}
use Rattle.desk_findings.specs.Chain.{chain, next_to}
use Rattle.desk_findings.specs.Findings.{Finding, above, findings, findings_of_article, findings_on, over, own_findings}
use Rattle.desk_model.specs.Lists.{Lists, material_row, part_row}
use Rattle.desk_findings.specs.Mass.{mass, own_mass}
use Rattle.desk_findings.specs.Reaches.{is_or_reaches, lines_of, reaches}
use Rattle.desk_findings.specs.Share.{share}
use Rattle.desk_findings.specs.Bill.{IsBill}
use Rattle.desk_findings.proofs.Bill.{bill_induction, chain-step, has_parents, reaches-step}
use Rattle.desk_model.proofs.Elements.{any_same, each, each_both, each_filter, each_map, each_of_map, sum_same}
use Rattle.desk_model.proofs.Kept.{found_each, same_code-true}
use Rattle.desk_findings.proofs.Loads.{carried-step, mass-step}

-- the second tables agree with the first on what free codes have and lead to
pub record Agrees (t u : Lists) (Free : List ℕ → Type 0) : Type 0 where
  -- free codes lead to free codes
  pub closed : (code : List ℕ) → Free code → AllByRecursion (λ line. Free line.child) (lines_of u.lines code)
  pub reached : (code target : List ℕ) → Free code → reaches u code target ≡ true → Free target
  -- and have the same lines, rows and sorts
  pub lines : (code : List ℕ) → Free code → lines_of u.lines code ≡ lines_of t.lines code
  pub materials : (code : List ℕ) → Free code → material_row u code ≡ material_row t code
  pub articles : (code : List ℕ) → Free code → is_article u code ≡ is_article t code
  -- a substance is a candidate in both, or a free code has nothing of it
  pub candidates : (code substance : List ℕ) → Free code → (is_candidate u substance ≡ is_candidate t substance) ⊎ (content u code substance ≡ 0)
  -- free materials, parts and candidates stand in both
  pub material_list : (test : List ℕ → Bool) → ((code : List ℕ) → test code ≡ true → Free code) → filter (λ material. test material.code) u.materials ≡ filter (λ material. test material.code) t.materials
  pub article_list : (test : List ℕ → Bool) → ((code : List ℕ) → test code ≡ true → Free code) → map (λ part. part.code) (filter (λ part. is_article_sort part.sort && test part.code) u.parts) ≡ map (λ part. part.code) (filter (λ part. is_article_sort part.sort && test part.code) t.parts)
  pub candidate_list : (test : List ℕ → Bool) → ((substance : List ℕ) → is_candidate t substance ≡ false → test substance ≡ false) → map (λ candidate. candidate.substance) (filter (λ candidate. test candidate.substance) u.candidates) ≡ map (λ candidate. candidate.substance) (filter (λ candidate. test candidate.substance) t.candidates)
  pub shares : AllByRecursion (λ material. Free material.code → (rule : Rule) → share u rule material ≡ share t rule material) t.materials

filter_same : {X : Type 0} (p q : X → Bool) (xs : List X) → ((x : X) → p x ≡ q x) → filter p xs ≡ filter q xs
filter_same p q xs f = ap (λ test. filter test xs) (λ i x. f x i)

find_same : {X : Type 0} (p q : X → Bool) (xs : List X) → AllByRecursion (λ x. p x ≡ q x) xs → find p xs ≡ find q xs
find_same p q [] a = refl
find_same p q (x ∷ xs) a = rw (a.0, find_same p q xs a.1) refl

module _ (t u : Lists) (s : IsBill t) (r : IsBill u) (Free : List ℕ → Type 0) (agrees : Agrees t u Free) where
  pub same_reached : (target code : List ℕ) → Free code → reaches u code target ≡ reaches t code target
  same_reached target =
      bill_induction u (has_parents u r.parents) r.acyclic (λ code. Free code → reaches u code target ≡ reaches t code target)
      (λ code below free.
      reaches-step u (has_parents u r.parents) target code
      ∙ any_same (λ line. is_or_reaches u line.child target) (λ line. is_or_reaches t line.child target) (lines_of u.lines code)
      (each_map (λ line. (Free line.child → reaches u line.child target ≡ reaches t line.child target) × Free line.child) (λ line. is_or_reaches u line.child target ≡ is_or_reaches t line.child target)
      (λ line h. ap (λ b. same_code line.child target || b) (h.0 h.1)) (lines_of u.lines code)
      (each_both (λ line. Free line.child → reaches u line.child target ≡ reaches t line.child target) (λ line. Free line.child) (lines_of u.lines code) below (agrees.closed code free)))
      ∙ ap (λ lines. list_any (λ line. is_or_reaches t line.child target) lines) (agrees.lines code free)
      ∙ sym (reaches-step t (has_parents t s.parents) target code))

  pub same_mass : (code : List ℕ) → Free code → mass u code ≡ mass t code
  same_mass =
      bill_induction u (has_parents u r.parents) r.acyclic (λ code. Free code → mass u code ≡ mass t code)
      (λ code below free.
      let own : own_mass u code ≡ own_mass t code = ap (λ o. option_map_or (λ material. material.mass) o 0) (agrees.materials code free) in
      let sums =
      sum_same (λ line. line.count * mass u line.child) (λ line. line.count * mass t line.child) (lines_of u.lines code)
      (each_map (λ line. (Free line.child → mass u line.child ≡ mass t line.child) × Free line.child) (λ line. line.count * mass u line.child ≡ line.count * mass t line.child)
      (λ line h. ap (λ n. line.count * n) (h.0 h.1)) (lines_of u.lines code)
      (each_both (λ line. Free line.child → mass u line.child ≡ mass t line.child) (λ line. Free line.child) (lines_of u.lines code) below (agrees.closed code free))) in
      let lines = ap (λ rows. sum_by (λ line. line.count * mass t line.child) rows) (agrees.lines code free) in
      omega (arith, mass-step u r code, mass-step t s code, own, sums, lines))

  same_content : (code substance : List ℕ) → Free code → content u code substance ≡ content t code substance
  unfolding content
  same_content code substance free =
      sum_same (λ line. line.count * mass_in u substance line.child) (λ line. line.count * mass_in t substance line.child) (lines_of u.lines code)
      (each_map (λ line. Free line.child) (λ line. line.count * mass_in u substance line.child ≡ line.count * mass_in t substance line.child)
      (λ line child. ap (λ o. line.count * option_map_or (λ material. held_mass substance material.substances) o 0) (agrees.materials line.child child)) (lines_of u.lines code) (agrees.closed code free))
      ∙ ap (λ rows. sum_by (λ line. line.count * mass_in t substance line.child) rows) (agrees.lines code free)

  nothing_above : (v : Lists) (code substance : List ℕ) → content v code substance ≡ 0 → is_above v code substance ≡ false
  unfolding is_above
  nothing_above v code substance none =
      and_right (is_candidate v substance) (nat_lt (mass v code) (1000 * content v code substance)) (le-ltb (mass v code) (1000 * content v code substance) (omega (arith, none)))

  same_above : (code substance : List ℕ) → Free code → is_above u code substance ≡ is_above t code substance
  unfolding is_above
  same_above code substance free =
      ⊎_elim
      (λ both.
      ap (λ b. b && nat_lt (mass u code) (1000 * content u code substance)) both
      ∙ ap (λ n. is_candidate t substance && nat_lt n (1000 * content u code substance)) (same_mass code free)
      ∙ ap (λ n. is_candidate t substance && nat_lt (mass t code) (1000 * n)) (same_content code substance free))
      (λ none. nothing_above u code substance none ∙ sym (nothing_above t code substance (sym (same_content code substance free) ∙ none)))
      (agrees.candidates code substance free)

  pub same_load : (substance code : List ℕ) → Free code → own_load u substance code ≡ own_load t substance code
  same_load substance code free =
      ap (λ b. if b && is_above u code substance then content u code substance else 0) (agrees.articles code free)
      ∙ ap (λ b. if is_article t code && b then content u code substance else 0) (same_above code substance free)
      ∙ ap (λ n. if is_article t code && is_above t code substance then n else 0) (same_content code substance free)

  pub same_carried : (substance code : List ℕ) → Free code → carried u substance code ≡ carried t substance code
  same_carried substance =
      bill_induction u (has_parents u r.parents) r.acyclic (λ code. Free code → carried u substance code ≡ carried t substance code)
      (λ code below free.
      let sums =
      sum_same (λ line. line.count * carried u substance line.child) (λ line. line.count * carried t substance line.child) (lines_of u.lines code)
      (each_map (λ line. (Free line.child → carried u substance line.child ≡ carried t substance line.child) × Free line.child) (λ line. line.count * carried u substance line.child ≡ line.count * carried t substance line.child)
      (λ line h. ap (λ n. line.count * n) (h.0 h.1)) (lines_of u.lines code)
      (each_both (λ line. Free line.child → carried u substance line.child ≡ carried t substance line.child) (λ line. Free line.child) (lines_of u.lines code) below (agrees.closed code free))) in
      let lines = ap (λ rows. sum_by (λ line. line.count * carried t substance line.child) rows) (agrees.lines code free) in
      omega (arith, carried-step u r substance code, carried-step t s substance code, same_load substance code free, sums, lines))

  same_next : (code target : List ℕ) → Free code → next_to u code target ≡ next_to t code target
  same_next code target free =
      ap (λ o. option_map (λ line. line.child) o)
      (find_same (λ line. is_or_reaches u line.child target) (λ line. is_or_reaches t line.child target) (lines_of u.lines code)
      (each_map (λ line. Free line.child) (λ line. is_or_reaches u line.child target ≡ is_or_reaches t line.child target)
      (λ line child. ap (λ b. same_code line.child target || b) (same_reached target line.child child)) (lines_of u.lines code) (agrees.closed code free))
      ∙ ap (λ rows. find (λ line. is_or_reaches t line.child target) rows) (agrees.lines code free))

  chain_same : (target code : List ℕ) (o : Option (List ℕ)) → (if same_code code target then code ∷ [] else code ∷ option_map_or (λ child. chain u child target) o []) ≡ (if same_code code target then code ∷ [] else code ∷ option_map_or (λ child. chain t child target) o []) → next_to u code target ≡ o → next_to t code target ≡ o → chain u code target ≡ chain t code target
  chain_same target code o same e f =
      chain-step u (has_parents u r.parents) r.acyclic target code
      ∙ ap (λ next. if same_code code target then code ∷ [] else code ∷ option_map_or (λ child. chain u child target) next []) e
      ∙ same
      ∙ sym (chain-step t (has_parents t s.parents) s.acyclic target code ∙ ap (λ next. if same_code code target then code ∷ [] else code ∷ option_map_or (λ child. chain t child target) next []) f)

  pub same_chain : (target code : List ℕ) → Free code → chain u code target ≡ chain t code target
  same_chain target =
      bill_induction u (has_parents u r.parents) r.acyclic (λ code. Free code → chain u code target ≡ chain t code target)
      (λ code below free.
      let next = same_next code target free in
      chain_same target code (next_to u code target)
      (ap (λ rest. if same_code code target then code ∷ [] else code ∷ rest)
      (next_same code target (each_map (λ line. (Free line.child → chain u line.child target ≡ chain t line.child target) × Free line.child) (λ line. chain u line.child target ≡ chain t line.child target) (λ line h. h.0 h.1) (lines_of u.lines code)
      (each_both (λ line. Free line.child → chain u line.child target ≡ chain t line.child target) (λ line. Free line.child) (lines_of u.lines code) below (agrees.closed code free)))))
      refl (sym next))
    where
      next_same : (code target : List ℕ) → AllByRecursion (λ line. chain u line.child target ≡ chain t line.child target) (lines_of u.lines code) → option_map_or (λ child. chain u child target) (next_to u code target) [] ≡ option_map_or (λ child. chain t child target) (next_to u code target) []
      next_same code target a = of_found (lines_of u.lines code) a
        where
          of_found : (rows : List LineRow) → AllByRecursion (λ line. chain u line.child target ≡ chain t line.child target) rows → option_map_or (λ child. chain u child target) (option_map (λ line. line.child) (find (λ line. is_or_reaches u line.child target) rows)) [] ≡ option_map_or (λ child. chain t child target) (option_map (λ line. line.child) (find (λ line. is_or_reaches u line.child target) rows)) []
          of_found [] a = refl
          of_found (line ∷ rows) a =
              elim (is_or_reaches u line.child target) as (λ b. option_map_or (λ child. chain u child target) (option_map (λ row. row.child) (cond b (Some line) (find (λ row. is_or_reaches u row.child target) rows))) [] ≡ option_map_or (λ child. chain t child target) (option_map (λ row. row.child) (cond b (Some line) (find (λ row. is_or_reaches u row.child target) rows))) []) [
                | true ↦ a.0
                | false ↦ of_found rows a.1
              ]

  flat_map_same : {X Y : Type 0} (f g : X → List Y) (xs : List X) → AllByRecursion (λ x. f x ≡ g x) xs → flat_map f xs ≡ flat_map g xs
  flat_map_same f g [] a = refl
  flat_map_same f g (x ∷ xs) a = rw (a.0, flat_map_same f g xs a.1) refl

  map_map : {X Y Z : Type 0} (f : X → Y) (g : Y → Z) (xs : List X) → map (λ x. g (f x)) xs ≡ map g (map f xs)
  map_map f g [] = refl
  map_map f g (x ∷ xs) = ap (λ rest. g (f x) ∷ rest) (map_map f g xs)

  flat_map_map : {X Y Z : Type 0} (f : X → Y) (g : Y → List Z) (xs : List X) → flat_map (λ x. g (f x)) xs ≡ flat_map g (map f xs)
  flat_map_map f g [] = refl
  flat_map_map f g (x ∷ xs) = ap (λ rest. g (f x) ++ rest) (flat_map_map f g xs)

  -- on the materials that a free code reaches, the same is found
  same_rules : (material : MaterialRow) → ((rule : Rule) → share u rule material ≡ share t rule material) → findings_on u material ≡ findings_on t material
  same_rules material shares =
      ap (λ rules. map (over material.code) rules)
      (filter_same (λ rule. is_over (share u rule material) material.mass (limit_of rule)) (λ rule. is_over (share t rule material) material.mass (limit_of rule)) restricting_rules (λ rule. ap (λ n. is_over n material.mass (limit_of rule)) (shares rule)))

  same_materials : (code : List ℕ) → Free code → flat_map (findings_on u) (materials_in u code) ≡ flat_map (findings_on t) (materials_in t code)
  same_materials code free =
      ap (flat_map (findings_on u))
      (agrees.material_list (λ target. reaches u code target) (λ target e. agrees.reached code target free e)
      ∙ filter_same (λ material. reaches u code material.code) (λ material. reaches t code material.code) t.materials (λ material. same_reached material.code code free))
      ∙ flat_map_same (findings_on u) (findings_on t) (materials_in t code)
      (each_map (λ material. (Free material.code → (rule : Rule) → share u rule material ≡ share t rule material) × (reaches t code material.code ≡ true)) (λ material. findings_on u material ≡ findings_on t material)
      (λ material h. same_rules material (h.0 (agrees.reached code material.code free (same_reached material.code code free ∙ h.1)))) (materials_in t code)
      (each_filter (λ material. Free material.code → (rule : Rule) → share u rule material ≡ share t rule material) (λ material. reaches t code material.code) t.materials agrees.shares))

  -- what is found on an article, by its code
  on_article : Lists → List ℕ → List Finding
  on_article v code = map (above code) (map (λ candidate. candidate.substance) (filter (λ candidate. is_above v code candidate.substance) v.candidates))

  on_article_is : (v : Lists) (parts : List PartRow) → flat_map (findings_of_article v) parts ≡ flat_map (on_article v) (map (λ part. part.code) parts)
  unfolding on_article
  on_article_is v [] = refl
  on_article_is v (part ∷ parts) =
      ap (λ here. here ++ flat_map (findings_of_article v) parts) (map_map (λ candidate. candidate.substance) (above part.code) (filter (λ candidate. is_above v part.code candidate.substance) v.candidates))
      ∙ ap (λ rest. map (above part.code) (map (λ candidate. candidate.substance) (filter (λ candidate. is_above v part.code candidate.substance) v.candidates)) ++ rest) (on_article_is v parts)

  not_above : (code substance : List ℕ) → is_candidate t substance ≡ false → is_above t code substance ≡ false
  unfolding is_above
  not_above code substance none = ap (λ b. b && nat_lt (mass t code) (1000 * content t code substance)) none

  same_on_article : (code : List ℕ) → Free code → on_article u code ≡ on_article t code
  unfolding on_article
  same_on_article code free =
      ap (λ substances. map (above code) substances)
      (ap (map (λ candidate. candidate.substance)) (filter_same (λ candidate. is_above u code candidate.substance) (λ candidate. is_above t code candidate.substance) u.candidates (λ candidate. same_above code candidate.substance free))
      ∙ agrees.candidate_list (λ substance. is_above t code substance) (λ substance none. not_above code substance none))

  free_or_reached : (code target : List ℕ) → Free code → is_or_reaches u code target ≡ true → Free target
  free_or_reached code target free e =
      ⊎_elim (λ here. subst Free (same_code-true code target here) free) (λ there. agrees.reached code target free there) (or_cases (same_code code target) (reaches u code target) e)

  same_test : (sort : Bool) (code target : List ℕ) → Free code → (sort && is_or_reaches u code target) ≡ (sort && is_or_reaches t code target)
  same_test sort code target free = ap (λ b. sort && (same_code code target || b)) (same_reached target code free)

  same_articles : (code : List ℕ) → Free code → flat_map (findings_of_article u) (articles_in u code) ≡ flat_map (findings_of_article t) (articles_in t code)
  same_articles code free =
      let codes : map (λ part. part.code) (articles_in u code) ≡ map (λ part. part.code) (articles_in t code) =
      agrees.article_list (λ target. is_or_reaches u code target) (λ target e. free_or_reached code target free e)
      ∙ ap (map (λ part. part.code)) (filter_same (λ part. is_article_sort part.sort && is_or_reaches u code part.code) (λ part. is_article_sort part.sort && is_or_reaches t code part.code) t.parts (λ part. same_test (is_article_sort part.sort) code part.code free)) in
      on_article_is u (articles_in u code)
      ∙ ap (flat_map (on_article u)) codes
      ∙ flat_map_same (on_article u) (on_article t) (map (λ part. part.code) (articles_in t code))
      (each_of_map (λ target. on_article u target ≡ on_article t target) (λ part. part.code) (articles_in t code)
      (each_map (λ part. Unit {0} × ((is_article_sort part.sort && is_or_reaches t code part.code) ≡ true)) (λ part. on_article u part.code ≡ on_article t part.code)
      (λ part h.
      let parts = and_parts (is_article_sort part.sort) (is_or_reaches t code part.code) h.1 in
      same_on_article part.code (free_or_reached code part.code free (ap (λ b. same_code code part.code || b) (same_reached part.code code free) ∙ parts.1)))
      (articles_in t code)
      (each_filter (λ part. Unit {0}) (λ part. is_article_sort part.sort && is_or_reaches t code part.code) t.parts (each (λ part. Unit {0}) (λ part. tt) t.parts))))
      ∙ sym (on_article_is t (articles_in t code))

  -- a free code has the same findings
  pub same_findings : (code : List ℕ) → Free code → findings u code ≡ findings t code
  unfolding findings
  same_findings code free =
      ap (λ front. front ++ flat_map (findings_of_article u) (articles_in u code)) (same_materials code free)
      ∙ ap (λ back. flat_map (findings_on t) (materials_in t code) ++ back) (same_articles code free)

  pub same_own_mass : (code : List ℕ) → Free code → own_mass u code ≡ own_mass t code
  same_own_mass code free = ap (λ o. option_map_or (λ material. material.mass) o 0) (agrees.materials code free)

  -- what a free code has of its own is the same, in the same order
  own_on_article : (v : Lists) (code : List ℕ) (o : Option PartRow) → part_row v code ≡ o → option_map_or (λ part. if is_article_sort part.sort then findings_of_article v part else []) o [] ≡ (if option_map_or (λ part. is_article_sort part.sort) o false then on_article v code else [])
  unfolding on_article
  own_on_article v code None e = refl
  own_on_article v code (Some part) e =
      let is = (found_each (λ row. row.code) (λ row. Unit {0}) code v.parts part (each (λ row. Unit {0}) (λ row. tt) v.parts) e).1 in
      ap (λ list. if is_article_sort part.sort then list else [])
      (map_map (λ candidate. candidate.substance) (above part.code) (filter (λ candidate. is_above v part.code candidate.substance) v.candidates)
      ∙ ap (λ c. map (above c) (map (λ candidate. candidate.substance) (filter (λ candidate. is_above v c candidate.substance) v.candidates))) is)

  own_on_material : (code : List ℕ) → Free code → (o : Option MaterialRow) → material_row t code ≡ o → option_map_or (findings_on u) o [] ≡ option_map_or (findings_on t) o []
  own_on_material code free None e = refl
  own_on_material code free (Some material) e =
      let is = found_each (λ row. row.code) (λ row. Free row.code → (rule : Rule) → share u rule row ≡ share t rule row) code t.materials material agrees.shares e in
      same_rules material (is.0 (subst Free (sym is.1) free))

  pub same_own_findings : (code : List ℕ) → Free code → own_findings u code ≡ own_findings t code
  unfolding own_findings
  same_own_findings code free =
      ap (λ front. front ++ option_map_or (λ part. if is_article_sort part.sort then findings_of_article u part else []) (part_row u code) [])
      (ap (λ o. option_map_or (findings_on u) o []) (agrees.materials code free) ∙ own_on_material code free (material_row t code) refl)
      ∙ ap (λ back. option_map_or (findings_on t) (material_row t code) [] ++ back)
      (own_on_article u code (part_row u code) refl
      ∙ ap (λ b. if b then on_article u code else []) (agrees.articles code free)
      ∙ ap (λ list. if is_article t code then list else []) (same_on_article code free)
      ∙ sym (own_on_article t code (part_row t code) refl))
