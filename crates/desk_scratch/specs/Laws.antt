-- What the last line of a judgement means. Each law is the contract of a function without a body in `src/laws.rt`, so that the
-- check proves it.
use Rattle.std.specs.Prelude.{◌≡◌, ◌≢◌, ◌↔◌, ℕ, Bool, true, List, ◌++◌, Ok, Some, codes}
use Rattle.std.specs.List.{All, AllByRecursion, concat}
use Rattle.desk_text.specs.Day.{Date}
use Rattle.desk_law.specs.declared.kind.Kind.{Kind}
use Rattle.desk_law.specs.declared.rule.Rule.{Rule}
use Rattle.desk_law.specs.declared.verdict.Verdict.TheVariants.{Breach}
use Rattle.desk_model.specs.declared.rows.material.MaterialRow.{MaterialRow}
use Rattle.desk_model.specs.declared.rows.product.ProductRow.{ProductRow}
use Rattle.desk_model.specs.Declaration.{Declared}
use Rattle.desk_model.specs.Effect.{declared_row}
use Rattle.desk_model.specs.Lists.{Lists, material_row, product_row}
use Rattle.desk_findings.specs.Chain.{are_linked, begins_with, chain, ends_with}
use Rattle.desk_findings.specs.Reaches.{reaches}
use Rattle.desk_findings.specs.Share.{is_over_limit}
use Rattle.desk_findings.specs.Verdicts.{verdict_on}
use Rattle.desk_history.specs.Sound.{Sound}
use Rattle.desk_scratch.specs.declared.question.Question.TheVariants.{Material, Rohs}
use Rattle.desk_scratch.specs.CheckText.{EndsIn, check_text}
use Rattle.desk_scratch.specs.Eval.{eval}
use Rattle.desk_scratch.specs.Judgement.{breach_count}
use Rattle.desk_scratch.specs.Rohs.{asked_product_line, over_line}
use Rattle.desk_scratch.specs.SharedLines.{chain_line, compliance_line, version_line}

-- the verdict on the material is a breach for no rule
abbrev pub BreachesNone : Lists → Kind → Date → MaterialRow → Type 0
BreachesNone t kind day material = (rule : Rule) → verdict_on t kind day material rule ≢ Breach

-- no material that the part reaches breaches a rule
abbrev pub ReachesNoBreach : Lists → Kind → Date → List ℕ → Type 0
ReachesNoBreach t kind day part = All (λ material. reaches t part material.code ≡ true → BreachesNone t kind day material) t.materials

-- the last line of the text is `compliant`
abbrev pub IsToldCompliant : List ℕ → Type 0
IsToldCompliant text = EndsIn text (codes "\ncompliant\n")

-- behind the line the text tells the chain from the part to the target: it begins with the part, ends with the target, and each two
-- neighbours in it are the parent and the child of a kept line
pub record IsFollowedByChain (t : Lists) (part target line text : List ℕ) : Type 0 where
  pub before : List ℕ
  pub after : List ℕ
  pub told : text ≡ before ++ line ++ chain_line (chain t part target) ++ after
  pub begins : begins_with part (chain t part target) ≡ true
  pub ends : ends_with target (chain t part target) ≡ true
  pub linked : are_linked t (chain t part target) ≡ true

-- each breach has its line in the text, with a chain from the product to the material behind it
abbrev pub AreBreachesChained : Lists → Kind → Date → List ℕ → List ℕ → Type 0
AreBreachesChained t kind day product text =
    All (λ material. reaches t product material.code ≡ true → (rule : Rule) → verdict_on t kind day material rule ≡ Breach
    → IsFollowedByChain t product material.code (over_line t kind day material rule) text) t.materials

-- one piece of the answer on a product: the line on a material that it reaches and a rule whose limit the material is over; and behind it,
-- exactly where the verdict is a breach, the chain from the product to the material
pub record IsPiece (t : Lists) (product : ProductRow) (day : Date) (material : MaterialRow) (rule : Rule) (piece : List ℕ) : Type 0 where
  pub reached : reaches t product.part material.code ≡ true
  pub over : is_over_limit t rule material ≡ true
  pub breach : verdict_on t product.kind day material rule ≡ Breach
      → piece ≡ over_line t product.kind day material rule ++ chain_line (chain t product.part material.code)
  pub other : verdict_on t product.kind day material rule ≢ Breach → piece ≡ over_line t product.kind day material rule

-- between its first two lines and its last the answer on a product holds such pieces and nothing else: each line on a breach is followed by
-- its chain, and no other line is
pub record IsOfPieces (t : Lists) (product : ProductRow) (day : Date) (text : List ℕ) : Type 0 where
  pub pieces : List (List ℕ)
  pub each : AllByRecursion (λ piece. (material : MaterialRow) × (rule : Rule) × IsPiece t product day material rule piece) pieces
  pub is_compliant : Bool
  pub told : text ≡ version_line t ++ asked_product_line t product day ++ concat pieces ++ compliance_line is_compliant

-- "compliant" means that no breaching material is reachable: the answer on a product, that on a material, that to `check`, and the
-- number of breaches in a summary; and each breach of a product is told with its chain
pub record CompliantMeans : Type 0 where
  pub rohs : (t : Lists) (code : List ℕ) (day : Date) (product : ProductRow) (text : List ℕ) → product_row t code ≡ Some product
      → eval t (Rohs code day) ≡ Ok text → IsToldCompliant text ↔ ReachesNoBreach t product.kind day code
  pub chained : (t : Lists) → Sound t → (code : List ℕ) (day : Date) (product : ProductRow) (text : List ℕ) → product_row t code ≡ Some product
      → eval t (Rohs code day) ≡ Ok text → AreBreachesChained t product.kind day code text
  pub pieces : (t : Lists) (code : List ℕ) (day : Date) (product : ProductRow) (text : List ℕ) → product_row t code ≡ Some product
      → eval t (Rohs code day) ≡ Ok text → IsOfPieces t product day text
  pub material : (t : Lists) (code : List ℕ) (kind : Kind) (day : Date) (material : MaterialRow) (text : List ℕ) → material_row t code ≡ Some material
      → eval t (Material code kind day) ≡ Ok text → IsToldCompliant text ↔ BreachesNone t kind day material
  pub check : (t : Lists) (kind : Kind) (day : Date) (d : Declared) →
      IsToldCompliant (check_text t kind day d) ↔ All (λ material. BreachesNone t kind day (declared_row d material)) d.materials
  pub counted : (t : Lists) (kind : Kind) (day : Date) (part : List ℕ) → breach_count t kind day part ≡ 0 ↔ ReachesNoBreach t kind day part
