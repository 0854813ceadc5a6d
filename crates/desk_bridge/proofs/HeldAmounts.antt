-- What lines hold of substances, gathered substance by substance, and which of these are above.
use Rattle.std.proofs.Common.{◌≡◌, ℕ, zero, suc, ◌+◌, ◌*◌, ◌<◌, ◌≤◌, Bool, true, false, cond, ◌&&◌, List, [], ◌∷◌, drop, filter, get_or, length, Option, Some, None, is_some, is_eq, refl, sym, ap, ◌∙◌, subst, arith, find}
use Rattle.std.specs.Prelude.{if◌then◌else◌, nat_lt}
use Rattle.std.specs.List.{AllByRecursion}
use Rattle.std.specs.Option.{option_map_or}
use Rattle.std.proofs.lemmas.Bool.{and_parts, ltb-true}
use Rattle.std.proofs.Math.Nat.{mul-add}
use Rattle.std.proofs.lemmas.List.{drop_all, drop_more}
use Rattle.std.proofs.lemmas.List.Sums.{sum_by-cons}
use Rattle.desk_text.specs.Code.{code_cmp, same_code}
use Rattle.desk_text.proofs.CodeLemmas.{same_code_itself}
use Rattle.desk_rows.specs.Rows.{IsByKey, row_of, with_row}
use Rattle.desk_rows.proofs.Lookups.{row_of-with_row_other}
use Rattle.desk_rows.proofs.Order.{AllAbove, first_above, greater_back, rest_by_key}
use Rattle.desk_model.specs.declared.rows.line.LineRow.{LineRow}
use Rattle.desk_model.specs.declared.rows.material.MaterialRow.{MaterialRow}
use Rattle.desk_model.specs.declared.substance_mass.SubstanceMass.{SubstanceMass}
use Rattle.desk_model.specs.Forms.{is_material_row}
use Rattle.desk_model.specs.Lists.{Lists, material_row}
use Rattle.desk_model.proofs.Content.{content_parts, substance_parts}
use Rattle.desk_model.proofs.Elements.{each_filter, each_from_all, each_map}
use Rattle.desk_model.proofs.Kept.{code_cmp_total, found_each, same_code-true}
use Rattle.desk_findings.specs.Above.{content, held_mass, is_above, is_candidate, mass_in}
use Rattle.desk_findings.specs.Articles.{is_article}
use Rattle.desk_findings.specs.Mass.{mass}
use Rattle.desk_findings.specs.OwnValues.{content_of_lines, mass_of_lines}
use Rattle.desk_findings.specs.Reaches.{lines_of}
use Rattle.desk_findings.proofs.OwnValues.{of_article}
use Rattle.desk_history.specs.Sound.{IsConsistent}
use Rattle.desk_history.proofs.SoundClauses.{forms_of}
use Rattle.desk_tables.proofs.HeldMasses.{within_mass}
use Rattle.desk_tables.proofs.KeptForms.{content_of}
use Rattle.desk_tables.proofs.OwnMasses.{each_found}
use Rattle.desk_bridge.specs.declared.holdings.Holding.{Holding}
use Rattle.desk_bridge.specs.Own.{AreAbove, amount_held, is_more}
use Rattle.desk_bridge.proofs.Bridges.{right_tables}
use Rattle.desk_bridge.proofs.RowsAfter.{found_new}

some_inside : {X : Type 0} (x y : X) → Some x ≡ Some y → x ≡ y
some_inside x y e = cc

none_some : {X : Type 0} (x : X) {G : Type 0} → None ≡ Some x → G
none_some x e = cc

-- so much more of one substance
pub amount-put : (held new : List Holding) (substance : List ℕ) (more amount : ℕ) → amount ≡ amount_held held substance + more →
    new ≡ with_row (λ holding. holding.substance) code_cmp (record { substance = substance; amount = amount }) held →
    (other : List ℕ) → amount_held new other ≡ amount_held held other + (if same_code substance other then more else 0)
amount-put held new substance more amount is put other = ap (λ rows. amount_held rows other) put ∙ by (same_code substance other) refl
  where
    by : (b : Bool) → same_code substance other ≡ b → amount_held (with_row (λ holding. holding.substance) code_cmp (record { substance = substance; amount = amount }) held) other ≡ amount_held held other + (if b then more else 0)
    by true e =
        ap (λ o. option_map_or (λ holding. holding.amount) o 0) (found_new (λ holding. holding.substance) code_cmp code_cmp_total (record { substance = substance; amount = amount }) other held e)
        ∙ is
        ∙ ap (λ s. amount_held held s + more) (same_code-true substance other e)
    by false e =
        ap (λ o. option_map_or (λ holding. holding.amount) o 0) (row_of-with_row_other (λ holding. holding.substance) code_cmp code_cmp_total (record { substance = substance; amount = amount }) other held e)
        ∙ omega arith

-- what is held of a substance among others, each of which stands there once
held_first : (one : SubstanceMass) (rest : List SubstanceMass) (substance : List ℕ) → held_mass substance (one ∷ rest) ≡ cond (same_code one.substance substance) one.mass (held_mass substance rest)
held_first one rest substance =
    elim (same_code one.substance substance) as (λ b. option_map_or (λ x. x.mass) (cond b (Some one) (find (λ x. same_code x.substance substance) rest)) 0 ≡ cond b one.mass (held_mass substance rest)) [ true ↦ refl | false ↦ refl ]

none_above : (k : List ℕ) (rest : List SubstanceMass) → AllAbove (λ one. one.substance) code_cmp code_cmp_total k rest → held_mass k rest ≡ 0
none_above k [] a = refl
none_above k (one ∷ rest) a = held_first one rest k ∙ rw (ap is_eq (greater_back (λ (x : SubstanceMass). x.substance) code_cmp code_cmp_total k one.substance a.0)) (none_above k rest a.1)

held_split : (one : SubstanceMass) (rest : List SubstanceMass) → IsByKey (λ x. x.substance) code_cmp (one ∷ rest) → (substance : List ℕ) →
    held_mass substance (one ∷ rest) ≡ (if same_code one.substance substance then one.mass else 0) + held_mass substance rest
held_split one rest h substance = held_first one rest substance ∙ by (same_code one.substance substance) refl
  where
    by : (b : Bool) → same_code one.substance substance ≡ b → cond b one.mass (held_mass substance rest) ≡ (if b then one.mass else 0) + held_mass substance rest
    by true e =
        let nothing : held_mass substance rest ≡ 0 =
        subst (λ s. held_mass s rest ≡ 0) (same_code-true one.substance substance e) (none_above one.substance rest (first_above (λ x. x.substance) code_cmp code_cmp_total one rest h)) in
        omega (arith, nothing)
    by false e = omega arith

by_key_drop : (i : ℕ) (rows : List SubstanceMass) → IsByKey (λ x. x.substance) code_cmp rows → IsByKey (λ x. x.substance) code_cmp (drop i rows)
by_key_drop zero rows h = h
by_key_drop (suc i) [] h = h
by_key_drop (suc i) (row ∷ rows) h = by_key_drop i rows (rest_by_key (λ x. x.substance) code_cmp code_cmp_total row rows h)

times_split : (count a b : ℕ) (c : Bool) (m : ℕ) → a ≡ (if c then m else 0) + b → count * a ≡ (if c then count * m else 0) + count * b
times_split count a b true m e = ap (λ n. count * n) e ∙ mul-add count m b
times_split count a b false m e = ap (λ n. count * n) e ∙ omega arith

-- the pass over what a material holds
module _ (substances : List SubstanceMass) (h : IsByKey (λ x. x.substance) code_cmp substances) (count i : ℕ) (one : SubstanceMass) (low : i < length substances) (at : one ≡ get_or substances i one) where
  next : drop i substances ≡ one ∷ drop (i + 1) substances
  next = drop_more substances i one low ∙ ap (λ first. first ∷ drop (i + 1) substances) (sym at)

  split : (substance : List ℕ) → count * held_mass substance (drop i substances) ≡ (if same_code one.substance substance then count * one.mass else 0) + count * held_mass substance (drop (i + 1) substances)
  split substance =
      times_split count (held_mass substance (drop i substances)) (held_mass substance (drop (i + 1) substances)) (same_code one.substance substance) one.mass
      (ap (held_mass substance) next
      ∙ held_split one (drop (i + 1) substances) (subst (IsByKey (λ x. x.substance) code_cmp) next (by_key_drop i substances h)) substance)

  -- what is added next fits
  pub one_fits : (bound now whole : ℕ) → now + count * held_mass one.substance (drop i substances) ≡ whole → whole < bound → now + count * one.mass < bound
  one_fits bound now whole e l =
      let here : (if same_code one.substance one.substance then count * one.mass else 0) ≡ count * one.mass = ap (λ b. if b then count * one.mass else 0) (same_code_itself one.substance) in
      omega (arith, split one.substance, here, e, l)

  -- and the rest stays to be added
  pub one_added : (substance : List ℕ) (now new whole : ℕ) → now + count * held_mass substance (drop i substances) ≡ whole →
      new ≡ now + (if same_code one.substance substance then count * one.mass else 0) → new + count * held_mass substance (drop (i + 1) substances) ≡ whole
  one_added substance now new whole e is = omega (arith, split substance, e, is)

pub all_added : (substances : List SubstanceMass) (count i : ℕ) (substance : List ℕ) (now whole : ℕ) → length substances ≤ i → now + count * held_mass substance (drop i substances) ≡ whole → now ≡ whole
all_added substances count i substance now whole past e =
    let none : count * held_mass substance (drop i substances) ≡ 0 = ap (λ rest. count * held_mass substance rest) (drop_all i substances past) ∙ omega arith in
    omega (arith, none, e)

-- the pass over lines
module _ (t : Lists) (lines : List LineRow) (i : ℕ) (line : LineRow) (low : i < length lines) (at : line ≡ get_or lines i line) where
  line_split : (substance : List ℕ) → content_of_lines (material_row t) (drop i lines) substance ≡ line.count * mass_in t substance line.child + content_of_lines (material_row t) (drop (i + 1) lines) substance
  line_split substance =
      ap (λ rows. content_of_lines (material_row t) rows substance) (drop_more lines i line low ∙ ap (λ first. first ∷ drop (i + 1) lines) (sym at))
      ∙ sum_by-cons (λ l. l.count * mass_in t substance l.child) line (drop (i + 1) lines)

  pub line_fits : (substance : List ℕ) (bound now whole : ℕ) → now + content_of_lines (material_row t) (drop i lines) substance ≡ whole → whole < bound → now + line.count * mass_in t substance line.child < bound
  line_fits substance bound now whole e l = omega (arith, line_split substance, e, l)

  pub line_added : (substance : List ℕ) (now new whole : ℕ) → now + content_of_lines (material_row t) (drop i lines) substance ≡ whole → new ≡ now + line.count * mass_in t substance line.child →
      new + content_of_lines (material_row t) (drop (i + 1) lines) substance ≡ whole
  line_added substance now new whole e is = omega (arith, line_split substance, e, is)

pub lines_added : (t : Lists) (lines : List LineRow) (i : ℕ) (substance : List ℕ) (now whole : ℕ) → length lines ≤ i → now + content_of_lines (material_row t) (drop i lines) substance ≡ whole → now ≡ whole
lines_added t lines i substance now whole past e =
    let none : content_of_lines (material_row t) (drop i lines) substance ≡ 0 = ap (λ rest. content_of_lines (material_row t) rest substance) (drop_all i lines past) in
    omega (arith, none, e)

-- a kept material holds each substance once
pub held_once : (t : Lists) → IsConsistent t → (code : List ℕ) (row : MaterialRow) → material_row t code ≡ Some row → IsByKey (λ one. one.substance) code_cmp row.substances
held_once t s code row e =
    (found_each (λ r. r.code) (λ r. IsByKey (λ one. one.substance) code_cmp r.substances) code t.materials row
    (each_map (λ r. is_material_row r ≡ true) (λ r. IsByKey (λ one. one.substance) code_cmp r.substances)
    (λ r form. (substance_parts r.substances (content_parts r.mass r.substances r.claims (content_of r form)).substances).by_key) t.materials
    (each_from_all is_material_row t.materials (forms_of t s.in_form).materials)) e).0

-- a row that is found and passes is found among those that pass
found_in_filter : (p : Holding → Bool) (k : List ℕ) (rows : List Holding) (x : Holding) → row_of (λ h. h.substance) code_cmp k rows ≡ Some x → p x ≡ true → is_some (row_of (λ h. h.substance) code_cmp k (filter p rows)) ≡ true
found_in_filter p k [] x e good = none_some x e
found_in_filter p k (first ∷ rows) x e good = by (same_code first.substance k) refl e (found_in_filter p k rows x)
  where
    later : same_code first.substance k ≡ false → is_some (row_of (λ h. h.substance) code_cmp k (filter p rows)) ≡ true → is_some (row_of (λ h. h.substance) code_cmp k (filter p (first ∷ rows))) ≡ true
    later other found =
        elim (p first) as (λ b. is_some (row_of (λ h. h.substance) code_cmp k (cond b (first ∷ filter p rows) (filter p rows))) ≡ true) [ true ↦ rw other found | false ↦ found ]

    by : (b : Bool) → same_code first.substance k ≡ b → cond b (Some first) (row_of (λ h. h.substance) code_cmp k rows) ≡ Some x →
        (row_of (λ h. h.substance) code_cmp k rows ≡ Some x → p x ≡ true → is_some (row_of (λ h. h.substance) code_cmp k (filter p rows)) ≡ true) →
        is_some (row_of (λ h. h.substance) code_cmp k (filter p (first ∷ rows))) ≡ true
    by true same here ih = rw (ap p (some_inside first x here) ∙ good, same) refl
    by false other here ih = later other (ih here good)

module _ (t : Lists) (s : IsConsistent t) (code : List ℕ) (article : is_article t code ≡ true) (lines : List LineRow) (lines_are : lines ≡ lines_of t.lines code) (weight : ℕ) (weighs : weight ≡ mass_of_lines (material_row t) lines) where
  mass_is : weight ≡ mass t code
  mass_is = weighs ∙ ap (mass_of_lines (material_row t)) lines_are ∙ sym (of_article t (right_tables t s) code article).1

  content_is : (substance : List ℕ) → content_of_lines (material_row t) lines substance ≡ content t code substance
  unfolding content
  content_is substance = ap (λ rows. content_of_lines (material_row t) rows substance) lines_are

  -- what the lines hold is no more than they weigh
  pub content_fits : (bound : ℕ) → weight < bound → (substance : List ℕ) → content_of_lines (material_row t) lines substance < bound
  content_fits bound low substance = omega (arith, mass_is, content_is substance, within_mass t s code substance, low)

  module _ (held : List Holding) (by_key : IsByKey (λ h. h.substance) code_cmp held) (amounts : (substance : List ℕ) → amount_held held substance ≡ content_of_lines (material_row t) lines substance) where
    held_is : (substance : List ℕ) → amount_held held substance ≡ content t code substance
    held_is substance = amounts substance ∙ content_is substance

    above_is : (h : Holding) → h.amount ≡ content t code h.substance → is_more t weight h ≡ is_above t code h.substance
    unfolding is_above
    above_is h e =
        ap (λ n. is_candidate t h.substance && nat_lt weight (1000 * n)) e
        ∙ ap (λ n. is_candidate t h.substance && nat_lt n (1000 * content t code h.substance)) mass_is

    each_amount : AllByRecursion (λ h. h.amount ≡ content t code h.substance) held
    each_amount =
        each_map (λ h. row_of (λ x. x.substance) code_cmp h.substance held ≡ Some h) (λ h. h.amount ≡ content t code h.substance)
        (λ h found. sym (ap (λ o. option_map_or (λ x. x.amount) o 0) found) ∙ held_is h.substance) held
        (each_found (λ h. h.substance) code_cmp code_cmp_total held by_key)

    holds_some : (substance : List ℕ) → is_above t code substance ≡ true → 0 < content t code substance
    unfolding is_above
    holds_some substance e =
        let more = ltb-true (mass t code) (1000 * content t code substance) (and_parts (is_candidate t substance) (nat_lt (mass t code) (1000 * content t code substance)) e).1 in
        omega (arith, more)

    found_above : (substance : List ℕ) (o : Option Holding) → row_of (λ h. h.substance) code_cmp substance held ≡ o → is_above t code substance ≡ true → 0 < option_map_or (λ h. h.amount) o 0 →
        is_some (row_of (λ h. h.substance) code_cmp substance (filter (is_more t weight) held)) ≡ true
    found_above substance None e above some = absurd (omega (arith, some))
    found_above substance (Some h) e above some =
        let found = found_each (λ x. x.substance) (λ x. x.amount ≡ content t code x.substance) substance held h each_amount e in
        found_in_filter (is_more t weight) substance held h e (above_is h found.0 ∙ ap (is_above t code) found.1 ∙ above)

    -- those that are more than one thousandth of the weight are those that are above
    pub are_above : (found : List Holding) → found ≡ filter (is_more t weight) held → AreAbove t code found
    are_above found is = subst (AreAbove t code) (sym is) (record {
      each =
          each_map (λ h. (h.amount ≡ content t code h.substance) × (is_more t weight h ≡ true)) (λ h. (is_above t code h.substance ≡ true) × (h.amount ≡ content t code h.substance))
          (λ h p. (sym (above_is h p.0) ∙ p.1, p.0)) (filter (is_more t weight) held) (each_filter (λ h. h.amount ≡ content t code h.substance) (is_more t weight) held each_amount);
      all = λ substance above.
          found_above substance (row_of (λ h. h.substance) code_cmp substance held) refl above (subst (λ n. 0 < n) (sym (held_is substance)) (holds_some substance above));
    })
