-- A walk from place to place is a chain.
use Rattle.std.proofs.Common.{◌≡◌, ℕ, zero, suc, ◌+◌, ◌-◌, ◌<◌, Bool, true, false, List, [], ◌∷◌, ◌++◌, Option, Some, None, drop, find, length, map, option_map, get_or, refl, sym, ap, ◌∙◌, arith}
use Rattle.std.specs.Prelude.{if◌then◌else◌}
use Rattle.std.specs.List.{list_any}
use Rattle.std.specs.Option.{option_map_or}
use Rattle.std.proofs.lemmas.List.{append-nil, append_assoc}
use Rattle.desk_text.specs.Code.{same_code}
use Rattle.desk_model.specs.declared.rows.line.LineRow.{LineRow}
use Rattle.desk_findings.specs.Chain.{chain, chain_within, next_within}
use Rattle.desk_findings.specs.Bill.{IsBill}
use Rattle.desk_findings.specs.Reaches.{enough, is_or_reaches, reaches}
use Rattle.desk_findings.proofs.Bill.{chain-deeper, chain-step, has_parents, lines_of-none, reaches-step}
use Rattle.desk_model.proofs.Elements.{any-map}
use Rattle.desk_model.proofs.Kept.{kept_any}
use Rattle.desk_model.specs.Lists.{Lists, is_part}
use Rattle.desk_text.proofs.CodeLemmas.{same_code_itself}
use Rattle.std.proofs.lemmas.Bool.{both_ways, false_from_ne_true, or_right}
use Rattle.std.proofs.lemmas.List.Folds.{list_any-append}
use Rattle.desk_totals.proofs.Settle.{parts-le}
use Rattle.desk_totals.specs.Linked.{IsLinkedOf, Linked, is_among}
use Rattle.desk_totals.specs.Next.{AreNext}
use Rattle.desk_totals.specs.Places.{node_at}

module _ (lines : List LineRow) (deep : ℕ) (target : List ℕ) where
  chain_of : ℕ → List ℕ → List (List ℕ)
  chain_of k part = chain_within lines deep k part target

  -- a chain begins with its part
  pub chain-head : (k : ℕ) (part : List ℕ) → chain_within lines deep k part target ≡ part ∷ drop 1 (chain_within lines deep k part target)
  unfolding chain_within
  chain-head zero part = refl
  chain-head (suc k) part =
      elim (same_code part target) as (λ b. (if b then part ∷ [] else part ∷ option_map_or (λ child. chain_within lines deep k child target) (next_within lines deep part target) [])
      ≡ part ∷ drop 1 (if b then part ∷ [] else part ∷ option_map_or (λ child. chain_within lines deep k child target) (next_within lines deep part target) [])) [
        | true ↦ refl
        | false ↦ refl
      ]

  -- what comes behind it is the chain of the next child, if there is one
  chain-tail : (k : ℕ) (part : List ℕ) → drop 1 (chain_within lines deep (suc k) part target) ≡ (if same_code part target then [] else option_map_or (λ child. chain_within lines deep k child target) (next_within lines deep part target) [])
  unfolding chain_within
  chain-tail k part =
      elim (same_code part target) as (λ b. drop 1 (if b then part ∷ [] else part ∷ option_map_or (λ child. chain_within lines deep k child target) (next_within lines deep part target) [])
      ≡ (if b then [] else option_map_or (λ child. chain_within lines deep k child target) (next_within lines deep part target) [])) [
        | true ↦ refl
        | false ↦ refl
      ]

  pub chain-last : (part : List ℕ) → drop 1 (chain_within lines deep zero part target) ≡ []
  unfolding chain_within
  chain-last part = refl

  module _ (nodes : List (List ℕ)) (next : List (Option ℕ)) (are : AreNext nodes next lines deep target) where
    by_place : (k : ℕ) (o : Option ℕ) → option_map_or (λ child. chain_within lines deep k child target) (option_map (node_at nodes) o) [] ≡ option_map_or (λ place. chain_within lines deep k (node_at nodes place) target) o []
    by_place k None = refl
    by_place k (Some place) = refl

    by_step : (k : ℕ) (same : Bool) (o : Option ℕ) → (if same then [] else option_map_or (λ place. chain_within lines deep k (node_at nodes place) target) o []) ≡ option_map_or (λ place. chain_within lines deep k (node_at nodes place) target) (if same then None else o) []
    by_step k true o = refl
    by_step k false o = refl

    -- the rest of a chain, by the step that is taken
    pub rest_by_step : (k at : ℕ) (step : Option ℕ) → at < length nodes → step ≡ (if same_code (node_at nodes at) target then None else get_or next at None) →
        drop 1 (chain_within lines deep (suc k) (node_at nodes at) target) ≡ option_map_or (λ place. chain_within lines deep k (node_at nodes place) target) step []
    rest_by_step k at step within e =
        chain-tail k (node_at nodes at)
        ∙ ap (λ o. if same_code (node_at nodes at) target then [] else option_map_or (λ child. chain_within lines deep k child target) o []) (sym (are at within).1)
        ∙ ap (λ l. if same_code (node_at nodes at) target then [] else l) (by_place k (get_or next at None))
        ∙ by_step k (same_code (node_at nodes at) target) (get_or next at None)
        ∙ ap (λ o. option_map_or (λ place. chain_within lines deep k (node_at nodes place) target) o []) (sym e)

    -- the walk goes on by one node
    pub walked_more : (k at child : ℕ) (codes more whole : List (List ℕ)) → at < length nodes → Some child ≡ (if same_code (node_at nodes at) target then None else get_or next at None) → more ≡ codes ++ node_at nodes child ∷ [] →
        codes ++ drop 1 (chain_within lines deep (suc k) (node_at nodes at) target) ≡ whole → more ++ drop 1 (chain_within lines deep k (node_at nodes child) target) ≡ whole
    walked_more k at child codes more whole within e so began =
        ap (λ l. l ++ drop 1 (chain_within lines deep k (node_at nodes child) target)) so
        ∙ append_assoc codes (node_at nodes child ∷ []) (drop 1 (chain_within lines deep k (node_at nodes child) target))
        ∙ ap (λ l. codes ++ l) (sym (chain-head k (node_at nodes child)) ∙ sym (rest_by_step k at (Some child) within e))
        ∙ began

    -- the walk ends
    pub walked_all : (k at : ℕ) (codes whole : List (List ℕ)) → at < length nodes → None ≡ (if same_code (node_at nodes at) target then None else get_or next at None) →
        codes ++ drop 1 (chain_within lines deep (suc k) (node_at nodes at) target) ≡ whole → codes ≡ whole
    walked_all k at codes whole within e began = sym (append-nil codes) ∙ ap (λ l. codes ++ l) (sym (rest_by_step k at None within e)) ∙ began

-- as many steps as there are nodes, and two more, are enough for a chain
pub steps_enough : (t : Lists) → IsBill t → (bill : Linked) → IsLinkedOf bill t → (code target : List ℕ) → chain_within t.lines (enough t) (length bill.nodes + 2) code target ≡ chain t code target
steps_enough t is_bill bill of code target =
    let less = parts-le t bill of in
    let steps : length bill.nodes + 2 ≡ length bill.nodes + 1 - length t.parts + enough t = omega (arith, less) in
    let deep : enough t ≡ 0 + enough t = omega arith in
    ap (λ k. chain_within t.lines (enough t) k code target) steps
    ∙ ap (λ d. chain_within t.lines d (length bill.nodes + 1 - length t.parts + enough t) code target) deep
    ∙ chain-deeper t (has_parents t is_bill.parents) is_bill.acyclic target 0 (length bill.nodes + 1 - length t.parts) code

-- a code that isn't a node's is no part's
pub no_part : (t : Lists) (bill : Linked) → IsLinkedOf bill t → (code : List ℕ) → is_among code bill.nodes ≡ false → is_part t code ≡ false
no_part t bill of code absent =
    false_from_ne_true (is_part t code)
    (λ kept.
    both_ways (is_among code bill.nodes) absent
    (ap (is_among code) of.nodes
    ∙ list_any-append (same_code code) (map (λ row. row.code) t.materials) (map (λ row. row.code) t.parts)
    ∙ or_right (is_among code (map (λ row. row.code) t.materials)) (is_among code (map (λ row. row.code) t.parts))
    (any-map (same_code code) (λ row. row.code) t.parts ∙ kept_any (λ row. row.code) (same_code code) code t.parts kept (same_code_itself code))))

either : {X : Type 0} {x : X} (b : Bool) → (if b then x else x) ≡ x
either true = refl
either false = refl

-- and its chain is the code alone
pub chain_alone : (t : Lists) → IsBill t → (bill : Linked) → IsLinkedOf bill t → (code target : List ℕ) → is_among code bill.nodes ≡ false → chain t code target ≡ code ∷ []
chain_alone t is_bill bill of code target absent =
    chain-step t (has_parents t is_bill.parents) is_bill.acyclic target code
    ∙ ap (λ lines. if same_code code target then code ∷ [] else code ∷ option_map_or (λ child. chain t child target) (option_map (λ line. line.child) (find (λ line. is_or_reaches t line.child target) lines)) []) (lines_of-none t (has_parents t is_bill.parents) code (no_part t bill of code absent))
    ∙ either (same_code code target)

-- nor does it reach anything
pub reaches_nothing : (t : Lists) → IsBill t → (bill : Linked) → IsLinkedOf bill t → (code target : List ℕ) → is_among code bill.nodes ≡ false → reaches t code target ≡ false
reaches_nothing t is_bill bill of code target absent =
    reaches-step t (has_parents t is_bill.parents) target code
    ∙ ap (list_any (λ line. is_or_reaches t line.child target)) (lines_of-none t (has_parents t is_bill.parents) code (no_part t bill of code absent))
