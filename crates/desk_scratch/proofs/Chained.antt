-- Where a breach stands in the answer on a product, and that a chain follows it.
use Rattle.std.proofs.Common.{◌≡◌, ◌∙◌, sym, ap, refl, subst, ℕ, zero, suc, ◌-◌, ◌<◌, Bool, true, false, cond, List, [], ◌∷◌, ◌++◌, length, get_or, filter, append_assoc, arith}
use Rattle.std.specs.Prelude.{not, ◌||◌, if◌then◌else◌}
use Rattle.std.specs.List.{flat_map}
use Rattle.desk_text.specs.Code.{same_code}
use Rattle.desk_text.specs.Day.{Date}
use Rattle.desk_law.specs.declared.rule.Rule.{Rule}
use Rattle.desk_law.specs.declared.rule.Rule.TheVariants.{Lead}
use Rattle.desk_law.specs.declared.verdict.Verdict.{Verdict}
use Rattle.desk_law.specs.declared.verdict.Verdict.TheVariants.{Within, NotInForce, Breach}
use Rattle.desk_law.specs.InForce.{first_day, in_force_from}
use Rattle.desk_law.specs.Restriction.{restriction_of}
use Rattle.desk_law.specs.Rule.{restricting_rules, rule_number}
use Rattle.desk_law.proofs.Rules.{rule_at, rule_inside}
use Rattle.desk_law.specs.Verdict.{covering_place, exempt_or_breach, verdict, verdict_by}
use Rattle.desk_model.specs.declared.rows.material.MaterialRow.{MaterialRow}
use Rattle.desk_model.specs.declared.rows.product.ProductRow.{ProductRow}
use Rattle.desk_model.specs.Lists.{Lists}
use Rattle.desk_findings.specs.Articles.{materials_in}
use Rattle.desk_findings.specs.Bill.{IsBill}
use Rattle.desk_findings.specs.Chain.{chain}
use Rattle.desk_findings.specs.Findings.{rules_over}
use Rattle.desk_findings.specs.Reaches.{is_or_reaches, reaches}
use Rattle.desk_findings.specs.Share.{is_over_limit, share}
use Rattle.desk_findings.specs.Verdicts.{terms_of, verdict_on}
use Rattle.desk_findings.proofs.Bill.{has_parents}
use Rattle.desk_findings.proofs.Chains.{chain-begins, chain-ends, chain-linked}
use Rattle.desk_scratch.specs.Judgement.{is_breach, reaches_breach}
use Rattle.desk_scratch.specs.Laws.{AreBreachesChained}
use Rattle.desk_scratch.specs.Rohs.{asked_product_line, over_line, over_lines, rohs_text}
use Rattle.desk_scratch.specs.SharedLines.{chain_line, compliance_line, version_line}

-- the piece stands in the text
pub record Stands (piece text : List ℕ) : Type 0 where
  pub before : List ℕ
  pub after : List ℕ
  pub is : text ≡ before ++ piece ++ after

-- it stands in what goes on around the text
around : (piece text first last : List ℕ) → Stands piece text → Stands piece (first ++ text ++ last)
around piece text first last s = record {
  before = first ++ s.before;
  after = s.after ++ last;
  is = ap (λ (x : List ℕ). first ++ x ++ last) s.is ∙ simp append_assoc;
}

-- the text of an element that passes stands in the text of all that do
stands-at : {X : Type 0} (f : X → List ℕ) (p : X → Bool) (xs : List X) (i : ℕ) (d : X) → i < length xs → p (get_or xs i d) ≡ true
    → Stands (f (get_or xs i d)) (flat_map f (filter p xs))
stands-at f p [] i d inside passes = absurd (omega arith)
stands-at f p (x ∷ xs) zero d inside passes =
    subst (λ b. Stands (f x) (flat_map f (cond b (x ∷ filter p xs) (filter p xs)))) (sym passes) (record { before = []; after = flat_map f (filter p xs); is = refl })
stands-at f p (x ∷ xs) (suc i) d inside passes = by (p x) (stands-at f p xs i d (omega arith) passes)
  where
    by : (b : Bool) → Stands (f (get_or xs i d)) (flat_map f (filter p xs)) → Stands (f (get_or xs i d)) (flat_map f (cond b (x ∷ filter p xs) (filter p xs)))
    by true s = record { before = f x ++ s.before; after = s.after; is = ap (λ (y : List ℕ). f x ++ y) s.is ∙ simp append_assoc }
    by false s = s

inner : (piece text whole : List ℕ) → Stands piece text → Stands text whole → Stands piece whole
inner piece text whole s w = record {
  before = w.before ++ s.before;
  after = s.after ++ w.after;
  is = w.is ∙ ap (λ (x : List ℕ). w.before ++ x ++ w.after) s.is ∙ simp append_assoc;
}

module _ (t : Lists) (product : ProductRow) (day : Date) where
  -- a rule that is breached is one whose limit the material is over
  breach-over : (material : MaterialRow) (rule : Rule) → verdict_on t product.kind day material rule ≡ Breach → is_over_limit t rule material ≡ true
  unfolding verdict_on verdict verdict_by restriction_of
  breach-over material rule = by (is_over_limit t rule material)
    where
      by : (b : Bool) → (if not b then Within
          else (if not (in_force_from (first_day rule product.kind) day) then NotInForce
          else exempt_or_breach (covering_place (terms_of t) material.claims rule product.kind day (share t rule material) material.mass))) ≡ Breach → b ≡ true
      by true e = refl
      by false e = cc

  breached : (v : Verdict) → v ≡ Breach → is_breach v ≡ true
  breached v e = rw e refl

  -- the line on a breach and its chain
  pub lines-of-breach : (material : MaterialRow) (rule : Rule) → verdict_on t product.kind day material rule ≡ Breach
      → over_lines t product day material rule ≡ over_line t product.kind day material rule ++ chain_line (chain t product.part material.code)
  unfolding over_lines
  lines-of-breach material rule e = rw (breached (verdict_on t product.kind day material rule) e) refl

  -- they stand in the answer
  stand : (i : ℕ) (d : MaterialRow) → i < length t.materials → reaches t product.part (get_or t.materials i d).code ≡ true → (rule : Rule)
      → verdict_on t product.kind day (get_or t.materials i d) rule ≡ Breach
      → Stands (over_line t product.kind day (get_or t.materials i d) rule ++ chain_line (chain t product.part (get_or t.materials i d).code)) (rohs_text t product day)
  unfolding rohs_text
  stand i d inside reached rule e =
      let material = get_or t.materials i d in
      let by_rule = λ (m : MaterialRow). flat_map (over_lines t product day m) (rules_over t m) in
      let in_rules : Stands (over_lines t product day material rule) (by_rule material) =
      subst (λ r. Stands (over_lines t product day material r) (by_rule material)) (rule_at rule)
      (stands-at (over_lines t product day material) (λ r. is_over_limit t r material) restricting_rules (rule_number rule - 1) Lead (rule_inside rule)
      (subst (λ r. is_over_limit t r material ≡ true) (sym (rule_at rule)) (breach-over material rule e))) in
      let in_materials : Stands (by_rule material) (flat_map by_rule (materials_in t product.part)) =
      stands-at by_rule (λ m. reaches t product.part m.code) t.materials i d inside reached in
      subst (λ (piece : List ℕ). Stands piece (rohs_text t product day)) (lines-of-breach material rule e)
      (around _ _ (version_line t ++ asked_product_line t product day) (compliance_line (not (reaches_breach t product.kind day product.part)))
      (inner _ _ _ in_rules in_materials))

  -- so each breach is followed by its chain
  pub chained : IsBill t → AreBreachesChained t product.kind day product.part (rohs_text t product day)
  chained bill i d inside reached rule e =
      let material = get_or t.materials i d in
      let s = stand i d inside reached rule e in
      record {
        before = s.before;
        after = s.after;
        told = s.is ∙ simp append_assoc;
        begins = chain-begins t product.part material.code;
        ends = chain-ends t (has_parents t bill.parents) bill.acyclic material.code product.part ∙ reached_so product.part material.code reached;
        linked = chain-linked t (has_parents t bill.parents) bill.acyclic material.code product.part;
      }
    where
      reached_so : (part code : List ℕ) → reaches t part code ≡ true → is_or_reaches t part code ≡ true
      reached_so part code h = by (same_code part code)
        where
          by : (b : Bool) → (b || reaches t part code) ≡ true
          by true = refl
          by false = h
