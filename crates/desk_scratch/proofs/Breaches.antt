-- What the tests on breaches say: of a rule, of a material, of what a part reaches, and how many there are.
use Rattle.std.proofs.Common.{◌≡◌, ◌≢◌, ◌∙◌, sym, refl, ℕ, ◌+◌, ◌<◌, Bool, true, false, cond, List, [], ◌∷◌, length, get_or, count_by, sum_by, arith}
use Rattle.std.specs.Prelude.{◌&&◌, ◌||◌, ◌↔◌}
use Rattle.std.specs.List.{list_any}
use Rattle.std.proofs.lemmas.Bool.{false≢true}
use Rattle.std.proofs.lemmas.List.Folds.{list_any_at, list_any_none}
use Rattle.std.proofs.lemmas.List.Sums.{sum_by-cons}
use Rattle.desk_text.specs.Day.{Date}
use Rattle.desk_law.specs.declared.kind.Kind.{Kind}
use Rattle.desk_law.specs.declared.rule.Rule.{Rule}
use Rattle.desk_law.specs.declared.verdict.Verdict.{Verdict}
use Rattle.desk_law.specs.declared.verdict.Verdict.TheVariants.{Within, NotInForce, Exempt, Breach}
use Rattle.desk_law.specs.Rule.{restricting_rules}
use Rattle.desk_law.proofs.Rules.{no_rule}
use Rattle.desk_model.specs.declared.rows.material.MaterialRow.{MaterialRow}
use Rattle.desk_model.specs.Lists.{Lists}
use Rattle.desk_model.proofs.Elements.{any-filter, count_by-cons}
use Rattle.desk_findings.specs.Articles.{materials_in}
use Rattle.desk_findings.specs.Reaches.{reaches}
use Rattle.desk_findings.specs.Verdicts.{verdict_on}
use Rattle.desk_scratch.specs.Judgement.{breach_count, has_breach, is_breach, is_breached, reaches_breach}
use Rattle.desk_scratch.specs.Laws.{BreachesNone, ReachesNoBreach}

-- one equivalence after another
pub both : {A B C : Type 0} → A ↔ B → B ↔ C → A ↔ C
both h k = (λ a. k.0 (h.0 a), λ c. h.1 (k.1 c))

-- what no element passes, the element at a place does not pass
pub none-at : {X : Type 0} (p : X → Bool) (xs : List X) (i : ℕ) (d : X) → list_any p xs ≡ false → i < length xs → p (get_or xs i d) ≡ false
none-at p xs i d none inside = by (p (get_or xs i d)) refl
  where
    by : (b : Bool) → p (get_or xs i d) ≡ b → b ≡ false
    by true e = absurd (false≢true (sym none ∙ list_any_at p xs i d inside e))
    by false e = refl

not_breach : (v : Verdict) → is_breach v ≡ false → v ≢ Breach
not_breach Breach h = λ e. false≢true (sym h)
not_breach Within h = λ e. cc
not_breach NotInForce h = λ e. cc
not_breach (Exempt place) h = λ e. cc

from_not_breach : (v : Verdict) → v ≢ Breach → is_breach v ≡ false
from_not_breach Breach h = absurd (h refl)
from_not_breach Within h = refl
from_not_breach NotInForce h = refl
from_not_breach (Exempt place) h = refl

module _ (t : Lists) (kind : Kind) (day : Date) where
  -- a material breaches no rule where the test says so
  pub none-breached : (material : MaterialRow) → (has_breach t kind day material ≡ false) ↔ BreachesNone t kind day material
  none-breached material = (
    λ none rule. not_breach (verdict_on t kind day material rule) (no_rule (is_breached t kind day material) none rule),
    λ clean. list_any_none (is_breached t kind day material) restricting_rules
        (λ i d inside. from_not_breach (verdict_on t kind day material (get_or restricting_rules i d)) (clean (get_or restricting_rules i d))),
  )

  -- and so does each that a part reaches
  pub none-reached : (part : List ℕ) → (reaches_breach t kind day part ≡ false) ↔ ReachesNoBreach t kind day part
  none-reached part = (
    λ none i d inside reached.
        (none-breached (get_or t.materials i d)).0
        (second (reaches t part (get_or t.materials i d).code) (has_breach t kind day (get_or t.materials i d)) reached
        (none-at both_tests t.materials i d (sym (any-filter reached_one (has_breach t kind day) t.materials) ∙ none) inside)),
    λ clean.
        any-filter reached_one (has_breach t kind day) t.materials
        ∙ list_any_none both_tests t.materials (λ i d inside.
        by (get_or t.materials i d) (reaches t part (get_or t.materials i d).code) refl (clean i d inside)),
  )
    where
      reached_one : MaterialRow → Bool
      reached_one material = reaches t part material.code

      both_tests : MaterialRow → Bool
      both_tests material = reached_one material && has_breach t kind day material

      second : (a b : Bool) → a ≡ true → (a && b) ≡ false → b ≡ false
      second true b h k = k
      second false b h k = absurd (false≢true h)

      by : (material : MaterialRow) (b : Bool) → reaches t part material.code ≡ b → (reaches t part material.code ≡ true → BreachesNone t kind day material) → both_tests material ≡ false
      by material true e clean = rw e ((none-breached material).1 (clean e))
      by material false e clean = rw e refl

-- nothing is counted exactly where nothing passes
count-none : {X : Type 0} (p : X → Bool) (xs : List X) → (count_by p xs ≡ 0) ↔ (list_any p xs ≡ false)
count-none p [] = (λ h. refl, λ h. refl)
count-none p (x ∷ xs) = rw (count_by-cons p x xs) (by (p x) (count-none p xs))
  where
    by : (b : Bool) → (count_by p xs ≡ 0) ↔ (list_any p xs ≡ false) → (cond b 1 0 + count_by p xs ≡ 0) ↔ ((b || list_any p xs) ≡ false)
    by true h = (λ e. absurd (omega (arith, e)), λ e. absurd (false≢true (sym e)))
    by false h = (λ e. h.0 (omega (arith, e)), λ e. omega (arith, h.1 e))

sum-none : {X : Type 0} (f : X → ℕ) (p : X → Bool) → ((x : X) → (f x ≡ 0) ↔ (p x ≡ false)) → (xs : List X) → (sum_by f xs ≡ 0) ↔ (list_any p xs ≡ false)
sum-none f p each [] = (λ h. refl, λ h. refl)
sum-none f p each (x ∷ xs) = rw (sum_by-cons f x xs) (by (f x) (p x) (each x) (sum-none f p each xs))
  where
    by : (n : ℕ) (b : Bool) → (n ≡ 0) ↔ (b ≡ false) → (sum_by f xs ≡ 0) ↔ (list_any p xs ≡ false) → (n + sum_by f xs ≡ 0) ↔ ((b || list_any p xs) ≡ false)
    by n true h rest = (λ e. absurd (false≢true (sym (h.0 (omega (arith, e))))), λ e. absurd (false≢true (sym e)))
    by n false h rest = (λ e. rest.0 (omega (arith, e)), λ e. omega (arith, h.1 refl, rest.1 e))

pub none-counted : (t : Lists) (kind : Kind) (day : Date) (part : List ℕ) → (breach_count t kind day part ≡ 0) ↔ ReachesNoBreach t kind day part
none-counted t kind day part =
    both (sum-none (λ material. count_by (is_breached t kind day material) restricting_rules) (has_breach t kind day)
    (λ material. count-none (is_breached t kind day material) restricting_rules) (materials_in t part))
    (none-reached t kind day part)
