-- How many nodes an edit affects: as many as materials and parts.
use Rattle.std.proofs.Common.{◌≡◌, ℕ, zero, suc, ◌+◌, ◌<◌, ◌≤◌, Bool, true, false, cond, ◌||◌, ◌==◌, List, [], ◌∷◌, count_by, filter, length, map, sum_by, refl, sym, ap, ◌∙◌, subst, inl, inr, arith}
use Rattle.std.specs.Prelude.{nat_lt}
use Rattle.std.specs.List.{range_with_len}
use Rattle.std.proofs.lemmas.Bool.{cases_Bool, cases_lt, eq-eqb, eqb-true, lt-ltb, ltb-true, ne_eqb, or_cases, true≢false}
use Rattle.std.proofs.lemmas.List.Sums.{sum_by-cons}
use Rattle.desk_text.specs.Code.{same_code}
use Rattle.desk_text.proofs.CodeLemmas.{same_code_itself}
use Rattle.desk_graph.specs.Bill.{IsBillGraph}
use Rattle.desk_graph.specs.Graph.{Graph, label_of}
use Rattle.desk_graph.specs.Reaches.{longest_node_chain, has_node, is_node_affected, is_node_or_reaches, node_reaches}
use Rattle.desk_graph.proofs.Ends.{has_node_there}
use Rattle.desk_graph.proofs.Reached.{any_node-out, up}
use Rattle.desk_model.specs.Lists.{Lists, is_kept, is_material, is_part, nodes_of}
use Rattle.desk_model.proofs.Elements.{count_by-cons}
use Rattle.desk_model.proofs.Kept.{same_code-true}
use Rattle.desk_model.proofs.Times.{times, times_append, times_by_code}
use Rattle.desk_history.specs.Sound.{IsConsistent}
use Rattle.desk_findings.proofs.Children.{not_part}
use Rattle.desk_findings.proofs.Counted.{sum_by_counts, sum_by_place}
use Rattle.desk_bridge.specs.Bridge.{IsBridge}
use Rattle.desk_bridge.proofs.Bridges.{labels_of}

-- how often a number is among those of a range that pass a test
module _ (p : ℕ → Bool) where
  below : (low n node : ℕ) → node < low → count_by (λ other. other == node) (filter p (range_with_len low n)) ≡ 0
  below low zero node under = refl
  below low (suc n) node under =
      let rest = below (low + 1) n node (omega (arith, under)) in
      let other : ◌≡◌ {A = ℕ} (cond (low == node) 1 0) 0 = rw (ne_eqb low node (λ same. omega (arith, same, under))) refl in
      elim (p low) as (λ b. count_by (λ other. other == node) (cond b (low ∷ filter p (range_with_len (low + 1) n)) (filter p (range_with_len (low + 1) n))) ≡ 0) [
        | true ↦ omega (arith, count_by-cons (λ other. other == node) low (filter p (range_with_len (low + 1) n)), other, rest)
        | false ↦ rest
      ]

  pub above : (low n node : ℕ) → low + n ≤ node → count_by (λ other. other == node) (filter p (range_with_len low n)) ≡ 0
  above low zero node over = refl
  above low (suc n) node over =
      let rest = above (low + 1) n node (omega (arith, over)) in
      let other : ◌≡◌ {A = ℕ} (cond (low == node) 1 0) 0 = rw (ne_eqb low node (λ same. omega (arith, same, over))) refl in
      elim (p low) as (λ b. count_by (λ other. other == node) (cond b (low ∷ filter p (range_with_len (low + 1) n)) (filter p (range_with_len (low + 1) n))) ≡ 0) [
        | true ↦ omega (arith, count_by-cons (λ other. other == node) low (filter p (range_with_len (low + 1) n)), other, rest)
        | false ↦ rest
      ]

  pub within : (low n node : ℕ) → low ≤ node → node < low + n → count_by (λ other. other == node) (filter p (range_with_len low n)) ≡ cond (p node) 1 0
  within low zero node over under = absurd (omega (arith, over, under))
  within low (suc n) node over under =
      elim (cases_Bool (low == node)) [
        | inl same ↦
            let is = eqb-true low node same in
            let rest = below (low + 1) n node (omega (arith, is)) in
            let one : ◌≡◌ {A = ℕ} (cond (low == node) 1 0) 1 = rw same refl in
            ap (λ m. count_by (λ other. other == node) (cond (p m) (low ∷ filter p (range_with_len (low + 1) n)) (filter p (range_with_len (low + 1) n)))) is
            ∙ elim (p node) as (λ b. count_by (λ other. other == node) (cond b (low ∷ filter p (range_with_len (low + 1) n)) (filter p (range_with_len (low + 1) n))) ≡ cond b 1 0) [
              | true ↦ omega (arith, count_by-cons (λ other. other == node) low (filter p (range_with_len (low + 1) n)), one, rest)
              | false ↦ rest
            ]
        | inr away ↦
            let rest = within (low + 1) n node (next low node over away) (omega (arith, under)) in
            let other : ◌≡◌ {A = ℕ} (cond (low == node) 1 0) 0 = rw away refl in
            elim (p low) as (λ b. count_by (λ other. other == node) (cond b (low ∷ filter p (range_with_len (low + 1) n)) (filter p (range_with_len (low + 1) n))) ≡ cond (p node) 1 0) [
              | true ↦ omega (arith, count_by-cons (λ other. other == node) low (filter p (range_with_len (low + 1) n)), other, rest)
              | false ↦ rest
            ]
      ]
    where
      next : (a b : ℕ) → a ≤ b → (a == b) ≡ false → a + 1 ≤ b
      next a b le away = elim (cases_lt a b) [ inl less ↦ omega (arith, less) | inr more ↦ absurd (true≢false (sym (eq-eqb a b (omega (arith, le, more))) ∙ away)) ]

-- no node beyond those of a bill is affected where the seeds are of it
pub none_beyond : (g : Graph) → IsBillGraph g → (seeds : List ℕ) → ((node : ℕ) → has_node seeds node ≡ true → node < length g.labels) → (node : ℕ) → length g.labels ≤ node → is_node_affected g.lines seeds node ≡ false
none_beyond g bill seeds low node past =
    elim (cases_Bool (is_node_affected g.lines seeds node)) [
      | inl is ↦
          let found = any_node-out (λ seed. is_node_or_reaches g.lines node seed) seeds is in
          let seed_low = low found.0 found.1 in
          elim (or_cases (node == found.0) (node_reaches g.lines node found.0) found.2) [
            | inl here ↦ let same = eqb-true node found.0 here in absurd (omega (arith, same, seed_low, past))
            | inr there ↦
                let inside = ltb-true node (length g.labels)
                (up g.lines found.0 (λ n. nat_lt n (length g.labels)) (lt-ltb found.0 (length g.labels) seed_low)
                (λ child user _ line. lt-ltb user (length g.labels) (omega (arith, has_node_there g.lines user child line, bill.sizes)))
                (longest_node_chain g.lines) node there) in
                absurd (omega (arith, inside, past))
          ]
      | inr no_one ↦ no_one
    ]

-- as many labels pass a test as codes
length-filter : {X : Type 0} (p : X → Bool) (xs : List X) → length (filter p xs) ≡ sum_by (λ x. cond (p x) 1 0) xs
length-filter p [] = refl
length-filter p (x ∷ xs) =
    let rest = length-filter p xs in
    let first = sum_by-cons (λ y. cond (p y) 1 0) x xs in
    subst (λ n. length (filter p (x ∷ xs)) ≡ n) (sym first)
    (elim (p x) as (λ b. length (cond b (x ∷ filter p xs) (filter p xs)) ≡ cond b 1 0 + sum_by (λ y. cond (p y) 1 0) xs) [ true ↦ omega (arith, rest) | false ↦ omega (arith, rest) ])

kept_once : (t : Lists) → IsConsistent t → (code : List ℕ) → count_by (λ listed. same_code listed code) (nodes_of t) ≡ cond (is_kept t code) 1 0
kept_once t s code =
    times_append code (map (λ row. row.code) t.materials) (map (λ row. row.code) t.parts)
    ∙ ap (λ n. n + times code (map (λ row. row.code) t.parts)) (times_by_code (λ row. row.code) code t.materials s.ordered.materials)
    ∙ ap (λ n. cond (is_material t code) 1 0 + n) (times_by_code (λ row. row.code) code t.parts s.ordered.parts)
    ∙ one_of (is_material t code) (is_part t code) (not_part t s.codes_apart code)
  where
    one_of : (a b : Bool) → (a ≡ true → b ≡ false) → cond a 1 0 + cond b 1 0 ≡ cond (a || b) 1 0
    one_of true b f = rw (f refl) refl
    one_of false b f = omega arith

pub as_many : (t : Lists) → IsConsistent t → (g : Graph) → IsBridge t g → (p : List ℕ → Bool) → length (filter (λ node. p (label_of g.labels node)) (range_with_len 0 (length g.labels))) ≡ length (filter p (nodes_of t))
as_many t s g bridge p =
    length-filter (λ node. p (label_of g.labels node)) (range_with_len 0 (length g.labels))
    ∙ sum_by_place (λ code. cond (p code) 1 0) (λ node. cond (p (label_of g.labels node)) 1 0) [] g.labels 0 (λ i low. ap (λ node. cond (p (label_of g.labels node)) 1 0) (plain i))
    ∙ sum_by_counts (λ a b. same_code b a) same_code_itself (λ a b e. sym (same_code-true b a e)) (λ code. cond (p code) 1 0) g.labels (nodes_of t) (λ code. labels_of t g bridge code ∙ sym (kept_once t s code))
    ∙ sym (length-filter p (nodes_of t))
  where
    plain : (i : ℕ) → 0 + i ≡ i
    plain i = omega arith
