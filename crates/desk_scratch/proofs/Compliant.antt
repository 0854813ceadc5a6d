-- What the last line of each judgement says.
use Rattle.std.proofs.Common.{◌≡◌, ◌∙◌, sym, ap, refl, subst, ℕ, Bool, true, false, List, [], ◌∷◌, ◌++◌, append_assoc}
use Rattle.std.specs.Prelude.{◌↔◌, codes, length, Result, Ok, Err, Some, get_or, if◌then◌else◌, ⊤}
use Rattle.std.specs.Fmt.{decimal}
use Rattle.std.specs.List.{All, flat_map}
use Rattle.std.specs.Option.{option_map_or}
use Rattle.std.proofs.lemmas.List.{append-nil}
use Rattle.std.proofs.lemmas.List.Folds.{list_any_none}
use Rattle.desk_text.specs.Day.{Date, date_text}
use Rattle.desk_law.specs.declared.kind.Kind.{Kind}
use Rattle.desk_law.specs.declared.rule.Rule.{Rule}
use Rattle.desk_law.specs.Kind.{kind_code}
use Rattle.desk_model.specs.declared.material_decl.MaterialDecl.{MaterialDecl}
use Rattle.desk_model.specs.declared.rows.material.MaterialRow.{MaterialRow}
use Rattle.desk_model.specs.declared.rows.product.ProductRow.{ProductRow}
use Rattle.desk_model.specs.Declaration.{Declared}
use Rattle.desk_model.specs.Effect.{declared_row}
use Rattle.desk_model.specs.Lists.{Lists, is_part, material_row, product_row}
use Rattle.desk_model.proofs.Elements.{each}
use Rattle.desk_model.proofs.Kept.{found_each}
use Rattle.desk_findings.specs.Articles.{materials_in}
use Rattle.desk_findings.specs.Bill.{IsBill}
use Rattle.desk_findings.specs.Chain.{chain}
use Rattle.desk_findings.specs.Findings.{rules_over}
use Rattle.desk_findings.specs.Mass.{mass}
use Rattle.desk_scratch.specs.declared.ask_fault.AskFault.{AskFault}
use Rattle.desk_scratch.specs.declared.ask_fault.AskFault.TheVariants.{NoSuchCode, NotAProduct}
use Rattle.desk_scratch.specs.declared.question.Question.TheVariants.{Material, Rohs}
use Rattle.desk_scratch.specs.CheckText.{check_text}
use Rattle.desk_scratch.specs.Eval.{eval}
use Rattle.desk_scratch.specs.Judgement.{has_breach, is_breached, reaches_breach}
use Rattle.desk_scratch.specs.Laws.{AreBreachesChained, BreachesNone, IsOfPieces, IsToldCompliant, ReachesNoBreach}
use Rattle.desk_scratch.specs.Material.{material_text}
use Rattle.desk_scratch.specs.MaterialBlock.{judged_words, material_block}
use Rattle.desk_scratch.specs.Rohs.{asked_product_line, over_line, over_lines, rohs_text}
use Rattle.desk_scratch.specs.SharedLines.{chain_line, version_line}
use Rattle.desk_scratch.proofs.Breaches.{both, none-at, none-breached, none-reached}
use Rattle.desk_scratch.proofs.Chained.{chained}
use Rattle.desk_scratch.proofs.Pieces.{of_pieces}
use Rattle.desk_scratch.proofs.LastLine.{EndsLine, compliant-last, ends-after, last-line, material_block-ends}

-- an answer that is given is the text that it is made of
abbrev given : List ℕ → Result (List ℕ) AskFault
given text = Ok text

ok-is : (a b : List ℕ) → given a ≡ given b → a ≡ b
ok-is a b e = cc

-- whole lines stay whole lines where each piece that is appended keeps them so
ends-each : {X : Type 0} (f : X → List ℕ) → ((x : X) (a : List ℕ) → EndsLine a → EndsLine (a ++ f x)) → (xs : List X) (a : List ℕ) → EndsLine a → EndsLine (a ++ flat_map f xs)
ends-each f keeps [] a e = subst EndsLine (sym (append-nil a)) e
ends-each f keeps (x ∷ xs) a e = subst EndsLine (append_assoc a (f x) (flat_map f xs)) (ends-each f keeps xs (a ++ f x) (keeps x a e))

version_line-ends : (t : Lists) → EndsLine (version_line t)
unfolding version_line
version_line-ends t = (codes "version " ++ decimal (length t.tickets), refl)

asked_product_line-ends : (t : Lists) (product : ProductRow) (day : Date) → EndsLine (asked_product_line t product day)
unfolding asked_product_line
asked_product_line-ends t product day = (
  codes "product " ++ product.part ++ codes " kind " ++ kind_code product.kind ++ codes " day " ++ date_text day ++ codes " mass " ++ decimal (mass t product.part),
  refl,
)

chain_line-ends : (parts : List (List ℕ)) → EndsLine (chain_line parts)
unfolding chain_line
chain_line-ends parts = (codes "chain" ++ flat_map (λ code. codes " " ++ code) parts, refl)

over_line-ends : (t : Lists) (kind : Kind) (day : Date) (material : MaterialRow) (rule : Rule) → EndsLine (over_line t kind day material rule)
unfolding over_line
over_line-ends t kind day material rule = (codes "over " ++ material.code ++ codes " " ++ judged_words t kind day material rule, refl)

over_lines-ends : (t : Lists) (product : ProductRow) (day : Date) (material : MaterialRow) (rule : Rule) → EndsLine (over_lines t product day material rule)
unfolding over_lines
over_lines-ends t product day material rule = by (is_breached t product.kind day material rule)
  where
    line : List ℕ
    line = over_line t product.kind day material rule

    by : (b : Bool) → EndsLine (line ++ (if b then chain_line (chain t product.part material.code) else []))
    by true = ends-after line (chain_line (chain t product.part material.code)) (chain_line-ends (chain t product.part material.code))
    by false = subst EndsLine (sym (append-nil line)) (over_line-ends t product.kind day material rule)

module _ (t : Lists) where
  -- the answer on a product
  rohs-told : (product : ProductRow) (day : Date) → IsToldCompliant (rohs_text t product day) ↔ ReachesNoBreach t product.kind day product.part
  unfolding rohs_text
  rohs-told product day =
      let first = version_line t ++ asked_product_line t product day in
      let by_rule = λ (m : MaterialRow). flat_map (over_lines t product day m) (rules_over t m) in
      both (last-line (reaches_breach t product.kind day product.part) (first ++ flat_map by_rule (materials_in t product.part)) (rohs_text t product day)
      (ends-each by_rule (λ m a e. ends-each (over_lines t product day m) (λ rule b f. ends-after b (over_lines t product day m rule) (over_lines-ends t product day m rule)) (rules_over t m) a e)
      (materials_in t product.part) first (ends-after (version_line t) (asked_product_line t product day) (asked_product_line-ends t product day)))
      refl)
      (none-reached t product.kind day product.part)

  module _ (code : List ℕ) (day : Date) (product : ProductRow) (text : List ℕ) (kept : product_row t code ≡ Some product) (answer : eval t (Rohs code day) ≡ Ok text) where
    part-is : product.part ≡ code
    part-is = (found_each (λ row. row.part) (λ row. ⊤) code t.products product (each (λ row. ⊤) (λ row. tt) t.products) kept).1

    text-is : rohs_text t product day ≡ text
    unfolding eval
    text-is = by (is_part t code) answer
      where
        by : (b : Bool) → (if b then option_map_or (λ (p : ProductRow). Ok (rohs_text t p day)) (product_row t code) (Err (NotAProduct code)) else Err (NoSuchCode code)) ≡ Ok text → rohs_text t product day ≡ text
        by true e = ok-is (rohs_text t product day) text (ap (λ found. option_map_or (λ (p : ProductRow). Ok (rohs_text t p day)) found (Err (NotAProduct code))) (sym kept) ∙ e)
        by false e = cc

    pub rohs-means : IsToldCompliant text ↔ ReachesNoBreach t product.kind day code
    rohs-means =
        subst (λ (c : List ℕ). IsToldCompliant text ↔ ReachesNoBreach t product.kind day c) part-is
        (subst (λ (x : List ℕ). IsToldCompliant x ↔ ReachesNoBreach t product.kind day product.part) text-is (rohs-told product day))

    pub rohs-pieces : IsOfPieces t product day text
    rohs-pieces = subst (IsOfPieces t product day) text-is (of_pieces t product day)

    pub rohs-chained : IsBill t → AreBreachesChained t product.kind day code text
    rohs-chained bill =
        subst (λ (c : List ℕ). AreBreachesChained t product.kind day c text) part-is
        (subst (λ (x : List ℕ). AreBreachesChained t product.kind day product.part x) text-is (chained t product day bill))

  -- the answer on a material
  material-told : (kind : Kind) (day : Date) (material : MaterialRow) → IsToldCompliant (material_text t kind day material) ↔ BreachesNone t kind day material
  unfolding material_text
  material-told kind day material =
      both (last-line (has_breach t kind day material) (version_line t ++ material_block t kind day material) (material_text t kind day material)
      (ends-after (version_line t) (material_block t kind day material) (material_block-ends t kind day material)) refl)
      (none-breached t kind day material)

  pub material-means : (code : List ℕ) (kind : Kind) (day : Date) (material : MaterialRow) (text : List ℕ) → material_row t code ≡ Some material
      → eval t (Material code kind day) ≡ Ok text → IsToldCompliant text ↔ BreachesNone t kind day material
  unfolding eval
  material-means code kind day material text kept answer =
      subst (λ (x : List ℕ). IsToldCompliant x ↔ BreachesNone t kind day material)
      (ok-is (material_text t kind day material) text (ap (λ found. option_map_or (λ (m : MaterialRow). Ok (material_text t kind day m)) found (Err (NoSuchCode code))) (sym kept) ∙ answer))
      (material-told kind day material)

  -- the answer to a check
  pub check-means : (kind : Kind) (day : Date) (d : Declared) → IsToldCompliant (check_text t kind day d) ↔ All (λ m. BreachesNone t kind day (declared_row d m)) d.materials
  check-means kind day d =
      both (compliant-last t kind day d (check_text t kind day d) refl) (
        λ none i e inside. (none-breached t kind day (declared_row d (get_or d.materials i e))).0 (none-at test d.materials i e none inside),
        λ clean. list_any_none test d.materials (λ i e inside. (none-breached t kind day (declared_row d (get_or d.materials i e))).1 (clean i e inside)),
      )
    where
      test : MaterialDecl → Bool
      test m = has_breach t kind day (declared_row d m)
