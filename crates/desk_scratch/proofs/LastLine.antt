-- Texts of whole lines, and which line is the last.
use Rattle.std.proofs.Common.{◌≡◌, ◌∙◌, sym, ap, refl, ℕ, ◌*◌, List, [], ◌∷◌, ◌++◌, append_assoc, Bool, true, false, arith}
use Rattle.std.specs.Prelude.{◌↔◌, codes, not}
use Rattle.std.specs.Fmt.{decimal}
use Rattle.std.specs.List.{flat_map}
use Rattle.std.proofs.lemmas.Bool.{false≢true}
use Rattle.std.proofs.lemmas.List.{append-nil, append_cancel_right}
use Rattle.desk_text.specs.Day.{Date, date_text}
use Rattle.desk_law.specs.declared.kind.Kind.{Kind}
use Rattle.desk_law.specs.declared.rule.Rule.{Rule}
use Rattle.desk_law.specs.Kind.{kind_code}
use Rattle.desk_law.specs.Limit.{limit_of}
use Rattle.desk_law.specs.Rule.{restricting_rules, rule_code}
use Rattle.desk_model.specs.declared.rows.material.MaterialRow.{MaterialRow}
use Rattle.desk_model.specs.Declaration.{Declared}
use Rattle.desk_model.specs.Effect.{declared_row}
use Rattle.desk_model.specs.Lists.{Lists}
use Rattle.desk_findings.specs.Share.{share}
use Rattle.desk_findings.specs.Verdicts.{terms_of, verdict_on}
use Rattle.desk_scratch.specs.CheckText.{EndsIn, check_line, check_text, some_breach}
use Rattle.desk_scratch.specs.SharedLines.{compliance_line}
use Rattle.desk_scratch.specs.MaterialBlock.{material_block, material_line, material_line_with, rule_line, rule_line_with, verdict_words}

-- the text ends a line
abbrev pub EndsLine : List ℕ → Type 0
EndsLine text = EndsIn text (codes "\n")

pub ends-after : (a b : List ℕ) → EndsLine b → EndsLine (a ++ b)
ends-after a b e = (a ++ e.0, ap (λ (t : List ℕ). a ++ t) e.1 ∙ sym (append_assoc a e.0 (codes "\n")))

-- what is appended to whole lines line by line is whole lines
pub ends-lines : {X : Type 0} (f : X → List ℕ) → ((x : X) → EndsLine (f x)) → (xs : List X) (a : List ℕ) → EndsLine a → EndsLine (a ++ flat_map f xs)
ends-lines f each [] a e = (e.0, append-nil a ∙ e.1)
ends-lines f each (x ∷ xs) a e =
    let more = ends-lines f each xs (a ++ f x) (ends-after a (f x) (each x)) in
    (more.0, sym (append_assoc a (f x) (flat_map f xs)) ∙ more.1)

material_line-ends : (m : MaterialRow) → EndsLine (material_line m)
unfolding material_line_with
material_line-ends m =
    (codes "material " ++ m.code ++ codes " supplier " ++ m.supplier ++ codes " declaration " ++ decimal m.number ++ codes " mass " ++ decimal m.mass, refl)

rule_line-ends : (t : Lists) (kind : Kind) (day : Date) (m : MaterialRow) (rule : Rule) → EndsLine (rule_line t kind day m rule)
unfolding rule_line rule_line_with
rule_line-ends t kind day m rule = (
  codes "rule " ++ rule_code rule ++ codes " share " ++ decimal (share t rule m) ++ codes " limit " ++ decimal (limit_of rule * m.mass)
      ++ codes " " ++ verdict_words (terms_of t) (verdict_on t kind day m rule),
  refl,
)

pub material_block-ends : (t : Lists) (kind : Kind) (day : Date) (m : MaterialRow) → EndsLine (material_block t kind day m)
unfolding material_block
material_block-ends t kind day m = ends-lines (rule_line t kind day m) (rule_line-ends t kind day m) restricting_rules (material_line m) (material_line-ends m)

pub check_line-ends : (kind : Kind) (day : Date) (supplier : List ℕ) (number : ℕ) → EndsLine (check_line kind day supplier number)
unfolding check_line
check_line-ends kind day supplier number =
    (codes "check " ++ date_text day ++ codes " kind " ++ kind_code kind ++ codes " supplier " ++ supplier ++ codes " declaration " ++ decimal number, refl)

-- the last element
abbrev last_of : ℕ → List ℕ → ℕ
last_of d [] = d
last_of d (x ∷ xs) = last_of x xs

last-is : (d a : ℕ) (xs : List ℕ) → last_of d (xs ++ (a ∷ [])) ≡ a
last-is d a [] = refl
last-is d a (x ∷ xs) = last-is x a xs

-- after whole lines the last line tells which it is
pub last-line : (breach : Bool) (lines text : List ℕ) → EndsLine lines → text ≡ lines ++ compliance_line (not breach)
    → (EndsIn text (codes "\ncompliant\n") ↔ (breach ≡ false))
last-line false lines text e t = (
  λ ends. refl,
  λ none. (e.0, t ∙ ap (λ (l : List ℕ). l ++ codes "compliant\n") e.1 ∙ append_assoc e.0 (codes "\n") (codes "compliant\n")),
)
last-line true lines text e t = (
  λ ends.
      let same : ends.0 ++ codes "\n" ≡ lines ++ codes "not-" =
      append_cancel_right (ends.0 ++ codes "\n") (lines ++ codes "not-") (codes "compliant\n")
      (append_assoc ends.0 (codes "\n") (codes "compliant\n") ∙ sym ends.1 ∙ t ∙ sym (append_assoc lines (codes "not-") (codes "compliant\n"))) in
      let bytes : 10 ≡ 45 =
      sym (last-is 0 10 ends.0) ∙ ap (last_of 0) same ∙ ap (last_of 0) (sym (append_assoc lines (codes "not") (codes "-"))) ∙ last-is 0 45 (lines ++ codes "not") in
      absurd (omega (arith, bytes)),
  λ none. absurd (false≢true (sym none)),
)

-- the text of a check ends so exactly where nothing is breached
pub compliant-last : (t : Lists) (kind : Kind) (day : Date) (d : Declared) (text : List ℕ) → text ≡ check_text t kind day d
    → (EndsIn text (codes "\ncompliant\n") ↔ (some_breach t kind day d ≡ false))
unfolding check_text
compliant-last t kind day d text e =
    last-line (some_breach t kind day d) (check_line kind day d.supplier d.number ++ flat_map (λ m. material_block t kind day (declared_row d m)) d.materials) text
    (ends-lines (λ m. material_block t kind day (declared_row d m)) (λ m. material_block-ends t kind day (declared_row d m)) d.materials (check_line kind day d.supplier d.number) (check_line-ends kind day d.supplier d.number))
    e
