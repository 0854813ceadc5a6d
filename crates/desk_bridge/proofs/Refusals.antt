-- The rules on sums, by what the roll-ups tell.
use Rattle.std.proofs.Common.{◌≡◌, ℕ, ◌^◌, ◌<◌, ◌≤◌, Bool, true, false, not, ◌||◌, List, [], ◌∷◌, length, find, Option, Some, None, MatchOption, is_some, option_map, refl, sym, ap, ◌∙◌, subst, ⊎_elim, Ordering, Less, Equal, Greater, is_lt, arith}
use Rattle.std.specs.Prelude.{nat_le, nat_lt}
use Rattle.std.specs.List.{AllByRecursion, list_any}
use Rattle.std.proofs.lemmas.Bool.{and_parts, both_ways, false_from_ne_true, false≢true, le-leb, leb-true, not-true, or_cases}
use Rattle.std.proofs.lemmas.Map.Lookups.{exact_bytes}
use Rattle.desk_text.specs.Code.{code_cmp}
use Rattle.desk_rows.proofs.Order.{less_back}
use Rattle.desk_graph.specs.Graph.{Graph, label_of}
use Rattle.desk_rollup.specs.Plan.{AllFit, IsFirstTooLarge}
use Rattle.desk_rollup.specs.Rolled.{mark_count, weight}
use Rattle.desk_rollup.specs.Values.{OwnValues}
use Rattle.desk_model.specs.declared.rows.material.MaterialRow.{MaterialRow}
use Rattle.desk_model.specs.declared.rows.part.PartRow.{PartRow}
use Rattle.desk_model.specs.Forms.{is_material_row}
use Rattle.desk_model.specs.Lists.{Lists, is_material, is_part, material_row}
use Rattle.desk_model.proofs.Elements.{each_from_all, each_map, find-none, find_each}
use Rattle.desk_model.proofs.Kept.{code_cmp_total, each_kept, found_each, kept_each}
use Rattle.desk_findings.specs.Findings.{Finding}
use Rattle.desk_findings.specs.Mass.{mass, own_mass}
use Rattle.desk_findings.specs.Totals.{has_too_many_findings, too_heavy_part}
use Rattle.desk_findings.proofs.Firsts.{heavy-least}
use Rattle.desk_history.specs.Sound.{IsConsistent}
use Rattle.desk_history.proofs.SoundClauses.{forms_of}
use Rattle.desk_findings.specs.Bill.{IsRight}
use Rattle.desk_bridge.specs.Values.{HasOwnValues}
use Rattle.desk_bridge.proofs.RolledAlike.{rolled_agree}
use Rattle.desk_bridge.proofs.AfterEdit.{node_of}
use Rattle.desk_bridge.proofs.Bridges.{right_tables}
use Rattle.desk_bridge.proofs.Hops.{all_marks, label_kept}
use Rattle.desk_findings.proofs.OwnValues.{of_material}

-- a material is light
row_light : (row : MaterialRow) → is_material_row row ≡ true → row.mass < 2 ^ 128
unfolding is_material_row
row_light row e =
    let content = and_parts _ _ (and_parts _ _ e).0 in
    let upper = and_parts _ _ (and_parts _ _ (and_parts _ _ content.1).0).0 in
    let bound = leb-true row.mass 1000000000000000 upper.1 in
    omega (arith, bound)

material_light : (t : Lists) → IsConsistent t → (code : List ℕ) → (o : Option MaterialRow) → material_row t code ≡ o → is_some o ≡ true → mass t code < 2 ^ 128
material_light t s code None e some = absurd (false≢true some)
material_light t s code (Some material) e some =
    let row = found_each (λ row. row.code) (λ row. is_material_row row ≡ true) code t.materials material (each_from_all is_material_row t.materials (forms_of t s.in_form).materials) e in
    subst (λ n. n < 2 ^ 128) (sym (of_material t (right_tables t s) code material e).1) (row_light material row.0)

module _ (t : Lists) (g : Graph) (number : Finding → ℕ) (name : ℕ → List ℕ) (own : ℕ → OwnValues) (is : HasOwnValues t g number name own) where
  right : IsRight t
  right = right_tables t is.consistent

  weighs : (node : ℕ) → node < length g.labels → weight g.lines own node ≡ mass t (label_of g.labels node)
  weighs = rolled_agree t right g is.bridge (λ n. (own n).weight) (own_mass t) (λ n at. (is.owns n at).weight)

  pub all_fit : AllFit g own → too_heavy_part t ≡ None
  unfolding too_heavy_part
  all_fit fit = none_first (λ part. nat_le (2 ^ 128) (mass t part.code)) t.parts light
    where
      none_first : (p : PartRow → Bool) (rows : List PartRow) → AllByRecursion (λ row. p row ≡ false) rows → option_map (λ part. part.code) (find p rows) ≡ None
      none_first p [] a = refl
      none_first p (row ∷ rows) a = rw a.0 (none_first p rows a.1)

      light : AllByRecursion (λ part. nat_le (2 ^ 128) (mass t part.code) ≡ false) t.parts
      light =
          each_map (λ part. is_part t part.code ≡ true) (λ part. nat_le (2 ^ 128) (mass t part.code) ≡ false)
          (λ part kept.
          let node = node_of t g is.bridge part.code (Rattle.std.proofs.lemmas.Bool.or_right (is_material t part.code) (is_part t part.code) kept) in
          let below : mass t part.code < 2 ^ 128 = subst (λ n. n < 2 ^ 128) (weighs node.0 node.1 ∙ ap (mass t) node.2) (fit node.0 node.1) in
          false_from_ne_true (nat_le (2 ^ 128) (mass t part.code)) (λ e. absurd (omega (arith, below, leb-true (2 ^ 128) (mass t part.code) e))))
          t.parts (each_kept (λ row. row.code) code_cmp code_cmp_total t.parts)

  pub too_many : has_too_many_findings t ≡ nat_lt 4194304 (mark_count g.lines own)
  unfolding has_too_many_findings
  too_many = ap (nat_lt 4194304) (sym (all_marks t right g is.bridge is.consistent.ordered number is.numbered own (λ n at. (is.owns n at).marks)))

  -- a part that is told is kept and too heavy
  told_heavy : (code : List ℕ) → too_heavy_part t ≡ Some code → (is_part t code ≡ true) × (2 ^ 128 ≤ mass t code)
  unfolding too_heavy_part
  told_heavy code e =
      from_found (find (λ part. nat_le (2 ^ 128) (mass t part.code)) t.parts)
      (find_each (λ part. is_part t part.code ≡ true) (λ part. nat_le (2 ^ 128) (mass t part.code)) t.parts (each_kept (λ row. row.code) code_cmp code_cmp_total t.parts)) e
    where
      some_some : {X : Type 0} (x y : X) → Some x ≡ Some y → x ≡ y
      some_some x y e = cc

      none_some : {X : Type 0} (x : X) {G : Type 0} → None ≡ Some x → G
      none_some x e = cc

      from_found : (o : Option PartRow) → MatchOption o (list_any (λ part. nat_le (2 ^ 128) (mass t part.code)) t.parts ≡ false)
          (λ part. (is_part t part.code ≡ true) × (nat_le (2 ^ 128) (mass t part.code) ≡ true) × (list_any (λ part. nat_le (2 ^ 128) (mass t part.code)) t.parts ≡ true)) →
          option_map (λ part. part.code) o ≡ Some code → (is_part t code ≡ true) × (2 ^ 128 ≤ mass t code)
      from_found None h e = none_some code e
      from_found (Some part) h e =
          let same = some_some part.code code e in
          (subst (λ c. is_part t c ≡ true) same h.0, subst (λ c. 2 ^ 128 ≤ mass t c) same (leb-true (2 ^ 128) (mass t part.code) h.1))

  -- where none is told, no part is too heavy
  none_heavy : too_heavy_part t ≡ None → (code : List ℕ) → is_part t code ≡ true → nat_le (2 ^ 128) (mass t code) ≡ false
  unfolding too_heavy_part
  none_heavy e code kept =
      kept_each (λ row. row.code) (λ c. nat_le (2 ^ 128) (mass t c) ≡ false) code t.parts
      (find-none (λ part. nat_le (2 ^ 128) (mass t part.code)) t.parts (unmapped (find (λ part. nat_le (2 ^ 128) (mass t part.code)) t.parts) e)) kept
    where
      unmapped : (o : Option PartRow) → option_map (λ part. part.code) o ≡ None → o ≡ None
      unmapped None e = refl
      unmapped (Some part) e = cc

  -- of two codes neither of which is less they are one
  one_code : (a b : List ℕ) → is_lt (code_cmp a b) ≡ false → is_lt (code_cmp b a) ≡ false → a ≡ b
  one_code a b ab ba = by_order (code_cmp a b) refl
    where
      by_order : (o : Ordering) → code_cmp a b ≡ o → a ≡ b
      by_order Less e = absurd (both_ways (is_lt (code_cmp a b)) ab (ap is_lt e))
      by_order Equal e = exact_bytes a b e
      by_order Greater e = absurd (both_ways (is_lt (code_cmp b a)) ba (ap is_lt (less_back (λ code. code) code_cmp code_cmp_total a b e)))

  pub first_large : (node : ℕ) → IsFirstTooLarge g own node → too_heavy_part t ≡ Some (label_of g.labels node)
  first_large node first = by_told (too_heavy_part t) refl
    where
      heavy : 2 ^ 128 ≤ mass t (label_of g.labels node)
      heavy = subst (λ n. 2 ^ 128 ≤ n) (weighs node first.there) first.large

      part : is_part t (label_of g.labels node) ≡ true
      part =
          ⊎_elim (λ material. absurd (omega (arith, heavy, material_light t is.consistent (label_of g.labels node) (material_row t (label_of g.labels node)) refl material))) (λ kept. kept)
          (or_cases (is_material t (label_of g.labels node)) (is_part t (label_of g.labels node)) (label_kept t right g is.bridge node first.there))

      by_told : (o : Option (List ℕ)) → too_heavy_part t ≡ o → too_heavy_part t ≡ Some (label_of g.labels node)
      by_told None e = absurd (both_ways (nat_le (2 ^ 128) (mass t (label_of g.labels node))) (none_heavy e (label_of g.labels node) part) (le-leb (2 ^ 128) (mass t (label_of g.labels node)) heavy))
      by_told (Some code) e =
          let told = told_heavy code e in
          let other = node_of t g is.bridge code (Rattle.std.proofs.lemmas.Bool.or_right (is_material t code) (is_part t code) told.0) in
          let weight_of : 2 ^ 128 ≤ weight g.lines own other.0 = subst (λ n. 2 ^ 128 ≤ n) (sym (weighs other.0 other.1 ∙ ap (mass t) other.2)) told.1 in
          let not_less : is_lt (code_cmp code (label_of g.labels node)) ≡ false = subst (λ c. is_lt (code_cmp c (label_of g.labels node)) ≡ false) other.2 (first.least other.0 other.1 weight_of) in
          let least =
          kept_each (λ row. row.code) (λ c. (not (nat_le (2 ^ 128) (mass t c)) || not (is_lt (code_cmp c code))) ≡ true) (label_of g.labels node) t.parts
          (each_from_all (λ row. not (nat_le (2 ^ 128) (mass t row.code)) || not (is_lt (code_cmp row.code code))) t.parts (heavy-least t is.consistent.ordered code e)) part in
          let not_more : is_lt (code_cmp (label_of g.labels node) code) ≡ false =
          ⊎_elim (λ light. absurd (both_ways (nat_le (2 ^ 128) (mass t (label_of g.labels node))) (not-true (nat_le (2 ^ 128) (mass t (label_of g.labels node))) light) (le-leb (2 ^ 128) (mass t (label_of g.labels node)) heavy)))
          (λ h. not-true (is_lt (code_cmp (label_of g.labels node) code)) h)
          (or_cases (not (nat_le (2 ^ 128) (mass t (label_of g.labels node)))) (not (is_lt (code_cmp (label_of g.labels node) code))) least) in
          e ∙ ap Some (one_code code (label_of g.labels node) not_less not_more)
