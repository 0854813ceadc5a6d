-- The pieces that the answer on a product is made of.
use Rattle.std.proofs.Common.{◌≡◌, ◌≢◌, ◌∙◌, sym, ap, refl, ℕ, Bool, true, false, cond, List, [], ◌∷◌, ◌++◌, filter, map, append-nil}
use Rattle.std.specs.Prelude.{not}
use Rattle.std.specs.List.{AllByRecursion, concat, flat_map}
use Rattle.std.proofs.lemmas.List.Folds.{concat-append}
use Rattle.desk_text.specs.Day.{Date}
use Rattle.desk_law.specs.declared.rule.Rule.{Rule}
use Rattle.desk_law.specs.declared.verdict.Verdict.{Verdict}
use Rattle.desk_law.specs.declared.verdict.Verdict.TheVariants.{Within, NotInForce, Exempt, Breach}
use Rattle.desk_law.specs.Rule.{restricting_rules}
use Rattle.desk_model.specs.declared.rows.material.MaterialRow.{MaterialRow}
use Rattle.desk_model.specs.declared.rows.product.ProductRow.{ProductRow}
use Rattle.desk_model.specs.Lists.{Lists}
use Rattle.desk_findings.specs.Articles.{materials_in}
use Rattle.desk_findings.specs.Chain.{chain}
use Rattle.desk_findings.specs.Findings.{rules_over}
use Rattle.desk_findings.specs.Reaches.{reaches}
use Rattle.desk_findings.specs.Share.{is_over_limit}
use Rattle.desk_findings.specs.Verdicts.{verdict_on}
use Rattle.desk_scratch.specs.Judgement.{is_breach, reaches_breach}
use Rattle.desk_scratch.specs.Laws.{IsOfPieces, IsPiece}
use Rattle.desk_scratch.specs.Rohs.{asked_product_line, over_line, over_lines, rohs_text}
use Rattle.desk_scratch.specs.SharedLines.{chain_line, compliance_line, version_line}
use Rattle.desk_scratch.proofs.Chained.{lines-of-breach}

not_breach : (v : Verdict) → v ≢ Breach → is_breach v ≡ false
not_breach Within other = refl
not_breach NotInForce other = refl
not_breach (Exempt place) other = refl
not_breach Breach other = absurd (other refl)

each_joined : {X : Type 0} (Q : X → Type 0) (xs ys : List X) → AllByRecursion Q xs → AllByRecursion Q ys → AllByRecursion Q (xs ++ ys)
each_joined Q [] ys a b = b
each_joined Q (x ∷ xs) ys a b = (a.0, each_joined Q xs ys a.1 b)

-- the texts of the elements that pass are of the elements that pass
each_passed : {X T : Type 0} (Q : T → Type 0) (f : X → T) (p : X → Bool) → ((x : X) → p x ≡ true → Q (f x)) → (xs : List X) → AllByRecursion Q (map f (filter p xs))
each_passed Q f p good [] = tt
each_passed Q f p good (x ∷ xs) = by (p x) refl (each_passed Q f p good xs)
  where
    by : (b : Bool) → p x ≡ b → AllByRecursion Q (map f (filter p xs)) → AllByRecursion Q (map f (cond b (x ∷ filter p xs) (filter p xs)))
    by true e others = (good x e, others)
    by false e others = others

-- so are the texts of lists that each of them has
each_passed_list : {X T : Type 0} (Q : T → Type 0) (f : X → List T) (p : X → Bool) → ((x : X) → p x ≡ true → AllByRecursion Q (f x)) → (xs : List X)
    → AllByRecursion Q (flat_map f (filter p xs))
each_passed_list Q f p good [] = tt
each_passed_list Q f p good (x ∷ xs) = by (p x) refl (each_passed_list Q f p good xs)
  where
    by : (b : Bool) → p x ≡ b → AllByRecursion Q (flat_map f (filter p xs)) → AllByRecursion Q (flat_map f (cond b (x ∷ filter p xs) (filter p xs)))
    by true e others = each_joined Q (f x) (flat_map f (filter p xs)) (good x e) others
    by false e others = others

joined_map : {X : Type 0} (f : X → List ℕ) (xs : List X) → concat (map f xs) ≡ flat_map f xs
joined_map f [] = refl
joined_map f (x ∷ xs) = ap (λ l. f x ++ l) (joined_map f xs)

joined_lists : {X : Type 0} (f : X → List (List ℕ)) (g : X → List ℕ) → ((x : X) → concat (f x) ≡ g x) → (xs : List X) → concat (flat_map f xs) ≡ flat_map g xs
joined_lists f g same [] = refl
joined_lists f g same (x ∷ xs) =
    concat-append (f x) (flat_map f xs) ∙ ap (λ l. l ++ concat (flat_map f xs)) (same x) ∙ ap (λ l. g x ++ l) (joined_lists f g same xs)

module _ (t : Lists) (product : ProductRow) (day : Date) where
  lines-of-other : (material : MaterialRow) (rule : Rule) → verdict_on t product.kind day material rule ≢ Breach
      → over_lines t product day material rule ≡ over_line t product.kind day material rule
  unfolding over_lines
  lines-of-other material rule other =
      ap (λ b. over_line t product.kind day material rule ++ cond b (chain_line (chain t product.part material.code)) []) (not_breach (verdict_on t product.kind day material rule) other)
      ∙ append-nil (over_line t product.kind day material rule)

  piece : (material : MaterialRow) (rule : Rule) → reaches t product.part material.code ≡ true → is_over_limit t rule material ≡ true
      → (m : MaterialRow) × (r : Rule) × IsPiece t product day m r (over_lines t product day material rule)
  piece material rule reached over = (
    material,
    rule,
    record {
      reached = reached;
      over = over;
      breach = lines-of-breach t product day material rule;
      other = lines-of-other material rule;
    },
  )

  pieces_of : MaterialRow → List (List ℕ)
  pieces_of material = map (over_lines t product day material) (rules_over t material)

  pub of_pieces : IsOfPieces t product day (rohs_text t product day)
  unfolding rohs_text pieces_of
  of_pieces =
      record {
        pieces = flat_map pieces_of (materials_in t product.part);
        each = each_passed_list (λ text. (m : MaterialRow) × (r : Rule) × IsPiece t product day m r text) pieces_of (λ material. reaches t product.part material.code)
            (λ material reached.
            each_passed (λ text. (m : MaterialRow) × (r : Rule) × IsPiece t product day m r text) (over_lines t product day material) (λ rule. is_over_limit t rule material)
            (λ rule over. piece material rule reached over) restricting_rules)
            t.materials;
        is_compliant = not (reaches_breach t product.kind day product.part);
        told = ap (λ l. version_line t ++ asked_product_line t product day ++ l ++ compliance_line (not (reaches_breach t product.kind day product.part)))
            (sym (joined_lists pieces_of (λ material. flat_map (over_lines t product day material) (rules_over t material))
            (λ material. joined_map (over_lines t product day material) (rules_over t material)) (materials_in t product.part)));
      }
