-- An article whose lines lead to no material that holds a candidate has no finding.
use Rattle.std.proofs.Common.{◌≡◌, ◌∙◌, ◌*◌, ℕ, suc, Bool, true, false, List, [], ◌∷◌, Option, None, Some, ap, arith, map, refl, sym}
use Rattle.std.specs.Prelude.{◌&&◌, nat_lt}
use Rattle.std.specs.List.{AllByRecursion, list_any}
use Rattle.std.specs.Option.{option_map_or}
use Rattle.std.proofs.lemmas.Bool.{false≢true, false_from_ne_true, leb-true}
use Rattle.desk_text.specs.Code.{same_code}
use Rattle.desk_model.specs.declared.rows.candidate.CandidateRow.{CandidateRow}
use Rattle.desk_model.specs.declared.rows.line.LineRow.{LineRow}
use Rattle.desk_model.specs.declared.rows.material.MaterialRow.{MaterialRow}
use Rattle.desk_model.specs.declared.rows.part.PartRow.{PartRow}
use Rattle.desk_model.specs.declared.substance_mass.SubstanceMass.{SubstanceMass}
use Rattle.desk_model.specs.Lists.{Lists, material_row}
use Rattle.desk_model.proofs.Elements.{each, each_map, none_from_any, none_kept, sum_zero}
use Rattle.desk_model.proofs.Kept.{same_code-true}
use Rattle.desk_findings.specs.Above.{content, held_mass, is_above, is_candidate, mass_in}
use Rattle.desk_findings.specs.Findings.{above, findings_of_article}
use Rattle.desk_findings.specs.Mass.{mass}
use Rattle.desk_findings.specs.Reaches.{lines_of}
use Rattle.desk_scratch.specs.LookUps.{holds_candidate}

none_less : (n : ℕ) → nat_lt n 0 ≡ false
none_less n = false_from_ne_true (nat_lt n 0) (λ e. absurd (omega (arith, leb-true (suc n) 0 e)))

no_product : (count n : ℕ) → n ≡ 0 → count * n ≡ 0
no_product count n e = rw e (omega arith)

module _ (t : Lists) (substance : List ℕ) (candidate : is_candidate t substance ≡ true) where
  other : (one : SubstanceMass) → is_candidate t one.substance ≡ false → same_code one.substance substance ≡ false
  other one e = false_from_ne_true (same_code one.substance substance) (λ same. false≢true (sym e ∙ ap (is_candidate t) (same_code-true one.substance substance same) ∙ candidate))

  none_held : (held : List SubstanceMass) → AllByRecursion (λ one. is_candidate t one.substance ≡ false) held → held_mass substance held ≡ 0
  none_held [] a = refl
  none_held (one ∷ held) a = rw (other one a.0) (none_held held a.1)

  none_in : (code : List ℕ) → holds_candidate t code ≡ false → mass_in t substance code ≡ 0
  unfolding holds_candidate
  none_in code e = by (material_row t code) e
    where
      by : (found : Option MaterialRow) → option_map_or (λ material. list_any (λ one. is_candidate t one.substance) material.substances) found false ≡ false → option_map_or (λ material. held_mass substance material.substances) found 0 ≡ 0
      by None h = refl
      by (Some material) h = none_held material.substances (none_from_any (λ one. is_candidate t one.substance) material.substances h)

  no_content : (article : List ℕ) → list_any (λ line. holds_candidate t line.child) (lines_of t.lines article) ≡ false → content t article substance ≡ 0
  unfolding content
  no_content article e =
      sum_zero (λ line. line.count * mass_in t substance line.child) (lines_of t.lines article)
      (each_map (λ (line : LineRow). holds_candidate t line.child ≡ false) (λ line. line.count * mass_in t substance line.child ≡ 0) (λ line h. no_product line.count (mass_in t substance line.child) (none_in line.child h)) (lines_of t.lines article)
      (none_from_any (λ line. holds_candidate t line.child) (lines_of t.lines article) e))

module _ (t : Lists) (article : List ℕ) (none : list_any (λ line. holds_candidate t line.child) (lines_of t.lines article) ≡ false) where
  not_above : (substance : List ℕ) → is_above t article substance ≡ false
  unfolding is_above
  not_above substance = by (is_candidate t substance) refl
    where
      by : (b : Bool) → is_candidate t substance ≡ b → (b && nat_lt (mass t article) (1000 * content t article substance)) ≡ false
      by false e = refl
      by true e = ap (λ n. nat_lt (mass t article) n) (no_product 1000 (content t article substance) (no_content t substance e article none)) ∙ none_less (mass t article)

pub no_findings : (t : Lists) (article : PartRow) → list_any (λ line. holds_candidate t line.child) (lines_of t.lines article.code) ≡ false → findings_of_article t article ≡ []
no_findings t article none =
    ap (map (λ (candidate : CandidateRow). above article.code candidate.substance))
    (none_kept (λ candidate. is_above t article.code candidate.substance) t.candidates
    (each (λ candidate. is_above t article.code candidate.substance ≡ false) (λ candidate. not_above t article.code none candidate.substance) t.candidates))
